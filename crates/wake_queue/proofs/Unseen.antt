-- In a past in which a queue was never empty each step may be taken.
use Rattle.std.proofs.Common.{◌≡◌, ◌≢◌, ◌⊎◌, ℕ, zero, suc, ◌<◌, List, [], ◌∷◌, ◌++◌, set, refl, sym, ap, ◌∙◌, subst, inl, inr, ⊎_elim, arith, length-append}
use Rattle.crossbeam_queue.proofs.Lists.{at_longer}
use mathlib.Core.Option.{some-injective, some-ne-none}
use Rattle.wake_queue.specs.declared.rule.Done.{Done}
use Rattle.wake_queue.specs.Wakes.{done, puts, takes, found, At, Was, Steps}
use Rattle.wake_queue.specs.Unseen.{amount, Held, NeverEmpty}

at_same : (l : List Done) (k : ℕ) (v w : Done) → At l k v → At (set l k w) k w
at_same [] k v w e = absurd (some-ne-none v (sym e))
at_same (x ∷ xs) zero v w e = refl
at_same (x ∷ xs) (suc k) v w e = at_same xs k v w e

module _ (number : ℕ) (v : Done) where
  abbrev Mine : List ℕ → Done → Type 0
  Mine items own = ((own ≡ v) × (items ≢ [])) ⊎ (amount v < amount own)

  same : (items : List ℕ) (views : List Done) (u : Done) → Held number v items views → At views number u → Mine items u
  same items views u h at = subst (λ (x : Done). Mine items x) (some-injective h.0 u (sym h.1 ∙ at)) h.2

  later : (items more : List ℕ) (u w : Done) → Mine items u → amount u < amount w → Mine more w
  later items more u w m lt = inr (⊎_elim (λ (t : (u ≡ v) × (items ≢ [])). let e = ap amount t.0 in omega (arith, e, lt)) (λ (t : amount v < amount u). omega (arith, t, lt)) m)

  steps : Steps (Held number v) number
  steps = record {
    push = λ items views u x p at. (puts u x, at_same views number u (puts u x) at, later items (items ++ x ∷ []) u (puts u x) (same items views u p at) (let l = length-append u.pushed (x ∷ []) in omega (arith, l)));
    pop = λ items views u x p at. (takes u x, at_same views number u (takes u x) at, later (x ∷ items) items u (takes u x) (same (x ∷ items) views u p at) (let l = length-append u.popped (x ∷ []) in omega (arith, l)));
    another = λ items views u p at. (u, at_longer (set views number u) (done [] [] 0 ∷ []) number u (at_same views number u u at), same items views u p at);
    find = λ items views u p at was. (found u, at_longer (set views number (found u)) (done [] [] 0 ∷ []) number (found u) (at_same views number u (found u) at), later items items u (found u) (same items views u p at) (omega arith));
  }

  -- whatever it held, but for nothing, may be known of it
  known : (items : List ℕ) (views : List Done) → items ≢ [] → At views number v → Held number v items views
  known items views some_left at = (v, at, inl (refl, some_left))

  never : Was (Held number v) number v [] → ⊥
  never was = ⊎_elim (λ (t : (v ≡ v) × ([] ≢ [])). t.1 refl) (λ (t : amount v < amount v). omega (arith, t)) (same [] was.0 v was.1.1 was.2)

  pub never_empty : NeverEmpty number v
  never_empty = record { steps = steps; known = known; never = never }
