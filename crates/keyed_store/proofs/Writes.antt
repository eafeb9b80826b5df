-- A store after a value was written.
use Rattle.std.proofs.Common.{◌≡◌, ℕ, zero, suc, List, [], ◌∷◌, slice_set, true≢false, false, refl, ap, Option, None, Some}
use Rattle.std.specs.Prelude.{is_some}
use Rattle.keyed_store.specs.Stores.{set_value_at}
use Rattle.keyed_store.specs.Stores.{names_of, values_of}

module _ {S : Type 0} where
  -- the names stay
  pub names_of-set : (pairs : List (List ℕ × S)) (at : ℕ) (value : S) → names_of (set_value_at pairs at value) ≡ names_of pairs
  names_of-set [] at value = refl
  names_of-set (p ∷ ps) zero value = refl
  names_of-set (p ∷ ps) (suc at) value = ap (λ l. p.0 ∷ l) (names_of-set ps at value)

  -- the value stands at its place
  pub values_of-set : (pairs : List (List ℕ × S)) (at : ℕ) (value : S) → values_of (set_value_at pairs at value) ≡ slice_set (values_of pairs) at value
  values_of-set [] at value = refl
  values_of-set (p ∷ ps) zero value = refl
  values_of-set (p ∷ ps) (suc at) value = ap (λ l. p.1 ∷ l) (values_of-set ps at value)

-- none was found
pub none_of : {A : Type 0} (o : Option A) → ((x : A) → o ≡ Some x → ⊥) → o ≡ None
none_of None apart = refl
none_of (Some x) apart = absurd (apart x refl)

pub none_from : {A : Type 0} (o : Option A) → is_some o ≡ false → o ≡ None
none_from None is = refl
none_from (Some x) is = absurd (true≢false is)
