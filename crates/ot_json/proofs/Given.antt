-- Facts of what an option or a result may give.
use Rattle.std.proofs.Common.{◌≡◌, ℕ, suc, zero, ◌<◌, ◌≤◌, List, [], ◌∷◌, Bool, true, false, refl, ap, arith, All, length}
use Rattle.std.specs.Prelude.{Option, Some, None, option_map, Result, Ok, Err, IfOk, if◌then◌else◌, nat_le}
use Rattle.std.specs.Option.{option_and_then, option_or}
use Rattle.std.specs.List.{cons_option}
use Rattle.std.proofs.lemmas.Bool.{leb-true}
use Rattle.json_lines.specs.Reading.{number_at, whole_at, within}
use Rattle.serde_json.specs.Data.{Data}

-- a fact of an option's value, if there is one
abbrev pub IfGiven : {A : Type 0} → (A → Type 0) → Option A → Type 0
IfGiven P None = Unit {0}
IfGiven P (Some x) = P x

module _ {A B : Type 0} where
  pub given_then : (P : B → Type 0) (f : A → Option B) (o : Option A) → ((x : A) → IfGiven P (f x)) → IfGiven P (option_and_then f o)
  given_then P f None h = tt
  given_then P f (Some x) h = h x

  pub given_with : (Q : A → Type 0) (P : B → Type 0) (f : A → Option B) (o : Option A) → IfGiven Q o → ((x : A) → Q x → IfGiven P (f x)) → IfGiven P (option_and_then f o)
  given_with Q P f None q h = tt
  given_with Q P f (Some x) q h = h x q

  pub given_map : (P : B → Type 0) (f : A → B) (o : Option A) → ((x : A) → P (f x)) → IfGiven P (option_map f o)
  given_map P f None h = tt
  given_map P f (Some x) h = h x

  pub given_map_with : (Q : A → Type 0) (P : B → Type 0) (f : A → B) (o : Option A) → IfGiven Q o → ((x : A) → Q x → P (f x)) → IfGiven P (option_map f o)
  given_map_with Q P f None q h = tt
  given_map_with Q P f (Some x) q h = h x q

module _ {A : Type 0} where
  pub given_choice : (P : A → Type 0) (b : Bool) (o p : Option A) → IfGiven P o → IfGiven P p → IfGiven P (if b then o else p)
  given_choice P true o p h k = h
  given_choice P false o p h k = k

  pub given_or : (P : A → Type 0) (o p : Option A) → IfGiven P o → IfGiven P p → IfGiven P (option_or o p)
  given_or P None p h k = k
  given_or P (Some x) p h k = h

  -- where a test of it passed
  pub given_where : (P : A → Type 0) (b : Bool) (x : A) → (b ≡ true → P x) → IfGiven P (if b then Some x else None)
  given_where P true x h = h refl
  given_where P false x h = tt

  pub all_cons : (P : A → Type 0) (x : A) (xs : List A) → P x → All P xs → All P (x ∷ xs)
  all_cons P x xs p ps zero d h = p
  all_cons P x xs p ps (suc k) d h = ps k d (omega (arith, h))

  pub all_given : (P : A → Type 0) (o : Option A) (xs : List A) → IfGiven P o → All P xs → All P (cons_option o xs)
  all_given P None xs p ps = ps
  all_given P (Some x) xs p ps = all_cons P x xs p ps

pub whole_given : (max : ℕ) (k : List ℕ) (d : Data) → IfGiven (λ n. n ≤ max) (whole_at max k d)
whole_given max k d = given_then (λ n. n ≤ max) (within max) (number_at k d) (λ n. given_where (λ n. n ≤ max) (nat_le n max) n (λ is. leb-true n max is))

pub all_none : {A : Type 0} (P : A → Type 0) → All P []
all_none P k d h = absurd (omega (arith, h))
