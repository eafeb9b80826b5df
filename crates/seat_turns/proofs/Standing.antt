-- A lock that its seat didn't let go stands, or another acquired it since; and under its token nobody else makes an entry.
use Rattle.std.proofs.Common.{◌≡◌, ◌≢◌, ℕ, suc, zero, List, [], ◌∷◌, ◌++◌, All, Bool, true, false, true≢false, not, ◌||◌, refl, sym, ap, ap₂, ◌∙◌, subst, arith, eqb, append-nil, append_assoc}
use Rattle.std.specs.Prelude.{Option, Some, None, ◌==◌, if◌then◌else◌}
use Rattle.std.specs.List.{list_all}
use Rattle.std.proofs.lemmas.Bool.{eqb-true, eq-eqb, not-true, and_parts}
use Rattle.expiring_lock.specs.declared.refusal.Stale.{Stale}
use Rattle.expiring_lock.specs.declared.refusal.Stale.TheVariants.{Other, Ended}
use Rattle.journal_entries.specs.declared.act.Act.{Act}
use Rattle.journal_entries.specs.declared.act.Act.TheVariants.{Committed, Released}
use Rattle.journal_entries.specs.declared.act.Entry.{Entry}
use Rattle.journal_rules.specs.Documents.{is_in}
use Rattle.journal_rules.specs.Legal.{IsAllowed, IsLegal}
use Rattle.journal_rules.specs.Locks.{Acquiring, Holds, is_held_in, last_acquiring, released, released_by, token_in, used_by}
use Rattle.journal_rules.proofs.Legality.{allowed_next, legal_front}
use Rattle.journal_rules.proofs.Pushing.{released-push}
use Rattle.journal_laws.proofs.Joins.{is_in-append}
use Rattle.turn_rules.specs.Draining.{IsTakenOver}
use Rattle.turn_rules.specs.Locking.{staleness}
use Rattle.run_rules.specs.Threads.{is_by}
use Rattle.book.proofs.Acquirings.{IsKnown, known_more, known_on, known_same, last_known}

-- what a document's last acquiring was is known from then on
pub known_since : (doc : ℕ) (a : Acquiring) (early more j : List Entry) → j ≡ early ++ more → IsLegal j → last_acquiring doc early ≡ Some a → IsKnown a j
known_since doc a early more j is legal last =
    let low : IsLegal (early ++ more) = subst IsLegal is legal in
    subst (λ (k : List Entry). IsKnown a k) (sym is) (known_more a more early (last_known doc early (legal_front early more low) a last))

-- under a token the seat that acquired it alone commits, and lets go
module _ (seat token : ℕ) (a : Acquiring) (token_is : a.token ≡ token) (seat_is : a.seat ≡ seat) where
  not_under : (h : List Entry) (by doc t : ℕ) → IsLegal h → IsKnown a h → Holds by doc t h → (by == seat) ≡ false → is_in token (t ∷ []) ≡ false
  not_under h by doc t legal known holds other = go (eqb t token) refl
    where
      go : (b : Bool) → eqb t token ≡ b → (b || false) ≡ false
      go false same = refl
      go true same =
          let theirs = last_known doc h legal holds.acquiring holds.held.last in
          let one : a ≡ holds.acquiring = known_same a holds.acquiring h known theirs (token_is ∙ sym (eqb-true t token same) ∙ sym holds.token_is) in
          absurd (true≢false (sym (eq-eqb by seat (sym holds.seat_is ∙ ap (λ (x : Acquiring). x.seat) (sym one) ∙ seat_is)) ∙ other))

  not_released_by : (h : List Entry) (by : ℕ) (act : Act) → IsLegal h → IsKnown a h → IsAllowed h by act → (by == seat) ≡ false → is_in token (released_by act) ≡ false
  not_released_by h by (Released doc t) legal known may other = not_under h by doc t legal known may other
  not_released_by h by _ legal known may other = refl

  not_used_by : (h : List Entry) (by : ℕ) (act : Act) → IsLegal h → IsKnown a h → IsAllowed h by act → (by == seat) ≡ false → is_in token (used_by act) ≡ false
  not_used_by h by (Committed doc t ticket outcome) legal known may other = not_under h by doc t legal known may.holds other
  not_used_by h by _ legal known may other = refl

  pub unreleased_behind : (more h : List Entry) → IsLegal (h ++ more) → IsKnown a h → list_all (λ e. not (is_by seat e)) more ≡ true → is_in token (released h) ≡ false → is_in token (released (h ++ more)) ≡ false
  unreleased_behind [] h legal known others was = ap (λ k. is_in token (released k)) (append-nil h) ∙ was
  unreleased_behind (e ∷ es) h legal known others was =
      let again : (h ++ e ∷ []) ++ es ≡ h ++ e ∷ es = append_assoc h (e ∷ []) es in
      let other = and_parts (not (is_by seat e)) (list_all (λ e. not (is_by seat e)) es) others in
      let here : is_in token (released (h ++ e ∷ [])) ≡ false =
      ap (is_in token) (released-push h e) ∙ is_in-append token (released h) (released_by e.act)
      ∙ ap₂ (λ x y. x || y) was (not_released_by h e.seat e.act (legal_front h (e ∷ es) legal) known (allowed_next h e es legal) (not-true (e.seat == seat) other.0)) in
      ap (λ k. is_in token (released k)) (sym again) ∙ unreleased_behind es (h ++ e ∷ []) (subst IsLegal (sym again) legal) (known_on a h e known) other.1 here

  pub unused_by_others : (more h : List Entry) → IsLegal (h ++ more) → IsKnown a h → list_all (λ e. not (is_by seat e)) more ≡ true → All (λ (e : Entry). is_in token (used_by e.act) ≡ false) more
  unused_by_others [] h legal known others k d low = absurd (omega (arith, low))
  unused_by_others (e ∷ es) h legal known others zero d low =
      not_used_by h e.seat e.act (legal_front h (e ∷ es) legal) known (allowed_next h e es legal) (not-true (e.seat == seat) (and_parts (not (is_by seat e)) (list_all (λ e. not (is_by seat e)) es) others).0)
  unused_by_others (e ∷ es) h legal known others (suc k) d low =
      unused_by_others es (h ++ e ∷ []) (subst IsLegal (sym (append_assoc h (e ∷ []) es)) legal) (known_on a h e known) (and_parts (not (is_by seat e)) (list_all (λ e. not (is_by seat e)) es) others).1 k d (omega (arith, low))

-- where a token is stale that wasn't let go, another acquired the lock since
module _ (token : ℕ) (positive : (0 ≡ token) → ⊥) (tokens : List ℕ) (standing : is_in token tokens ≡ false) where
  over_by : (o : Option Acquiring) (s : Stale) → (if token_in o == token then (if is_held_in o tokens then None else Some Ended) else Some (Other (token_in o))) ≡ Some s → token_in o ≢ token
  over_by None s e same = positive same
  over_by (Some a) s e same = go (a.token == token) (is_in a.token tokens) (eq-eqb a.token token same) (ap (λ t. is_in t tokens) same ∙ standing) e
    where
      go : (b r : Bool) → b ≡ true → r ≡ false → (if b then (if not r then None else Some Ended) else Some (Other a.token)) ≡ Some s → ⊥
      go true false x y e = cc
      go true true x y e = true≢false y
      go false r x y e = true≢false (sym x)

pub overtaken : (doc token : ℕ) (a : Acquiring) (j : List Entry) (s : Stale) → IsKnown a j → a.token ≡ token → is_in token (released j) ≡ false → staleness doc token j ≡ Some s → IsTakenOver doc token j
overtaken doc token a j s known same unreleased stale =
    let first = known.token_is in
    over_by token (λ is. absurd (omega (arith, is, first, same))) (released j) unreleased (last_acquiring doc j) s stale
