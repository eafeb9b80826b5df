-- A closing that stands in a journal.
use Rattle.std.proofs.Common.{◌≡◌, ℕ, ◌+◌, zero, suc, List, [], ◌∷◌, ◌++◌, true, false, Bool, ◌||◌, refl, sym, ap, ◌∙◌, subst, arith, eq-eqb, eqb-true, ltb-true, ltb-false, true≢false}
use Rattle.std.specs.Prelude.{◌==◌, nat_lt, slice_get, Option, Some, None}
use Rattle.std.proofs.lemmas.List.Folds.{list_any-append}
use Rattle.journal_entries.specs.declared.act.Act.TheVariants.{Closed}
use Rattle.journal_entries.specs.declared.act.Act.{Act}
use Rattle.journal_entries.specs.declared.act.Entry.{Entry}
use Rattle.journal_rules.specs.Documents.{is_in}
use Rattle.journal_rules.specs.Legal.{closed, closed_by}
use Rattle.journal_rules.proofs.Pushing.{closed-push}
use Rattle.journal_rules.proofs.Lists.{some_same}
use Rattle.std.proofs.Common.{append_assoc}
use Rattle.seat_turns.specs.Closings.{IsEachClosed, is_closing, is_closing_in}
use Rattle.turn_rules.proofs.Owning.{closed_behind}

closes_here : (driver : ℕ) (h : List Entry) (e : Entry) → e.act ≡ Closed driver → is_in driver (closed (h ++ e ∷ [])) ≡ true
closes_here driver h e act_is =
    ap (is_in driver) (closed-push h e) ∙ list_any-append (λ y. y == driver) (closed h) (closed_by e.act)
    ∙ ap (λ (a : Act). is_in driver (closed h) || is_in driver (closed_by a)) act_is ∙ or_true (is_in driver (closed h)) (driver == driver) (eq-eqb driver driver refl)
  where
    or_true : (a b : Bool) → b ≡ true → (a || (b || false)) ≡ true
    or_true true b is = refl
    or_true false true is = refl
    or_true false false is = is

closes_behind : (driver : ℕ) (h es : List Entry) (i : ℕ) (e : Entry) → slice_get es i ≡ Some e → e.act ≡ Closed driver → is_in driver (closed (h ++ es)) ≡ true
closes_behind driver h [] i e at act_is = absurd (cc)
closes_behind driver h (x ∷ es) zero e at act_is =
    subst (λ (k : List Entry). is_in driver (closed k) ≡ true) (append_assoc h (x ∷ []) es)
    (closed_behind driver (h ++ x ∷ []) es (closes_here driver h x (ap (λ (y : Entry). y.act) (some_same x e at) ∙ act_is)))
closes_behind driver h (x ∷ es) (suc i) e at act_is =
    subst (λ (k : List Entry). is_in driver (closed k) ≡ true) (append_assoc h (x ∷ []) es) (closes_behind driver (h ++ x ∷ []) es i e at act_is)

closes_at : (driver : ℕ) (es : List Entry) (i : ℕ) (e : Entry) → slice_get es i ≡ Some e → e.act ≡ Closed driver → is_in driver (closed es) ≡ true
closes_at driver es i e at act_is = closes_behind driver [] es i e at act_is

closing_act : (driver : ℕ) (a : Act) → is_closing driver a ≡ true → a ≡ Closed driver
closing_act driver (Closed d) is = ap (λ (k : ℕ). Closed k) (eqb-true d driver is)
closing_act driver _ is = absurd (true≢false (sym is))

pub closed_where : (driver : ℕ) (es : List Entry) (i : ℕ) → true ≡ is_closing_in driver (slice_get es i) → is_in driver (closed es) ≡ true
closed_where driver es i is = go (slice_get es i) refl is
  where
    go : (o : Option Entry) → slice_get es i ≡ o → true ≡ is_closing_in driver o → is_in driver (closed es) ≡ true
    go (Some e) at is = closes_at driver es i e at (closing_act driver e.act (sym is))
    go None at is = absurd (true≢false is)

-- one driver more
pub one_closed : (known : ℕ) (j : List Entry) → IsEachClosed known j → is_in known (closed j) ≡ true → IsEachClosed (known + 1) j
one_closed known j each more d low = go (nat_lt d known) refl
  where
    go : (b : Bool) → nat_lt d known ≡ b → is_in d (closed j) ≡ true
    go true lt = each d (ltb-true d known lt)
    go false ge = let same : known ≡ d = omega (arith, ltb-false d known ge, low) in subst (λ (x : ℕ). is_in x (closed j) ≡ true) same more
