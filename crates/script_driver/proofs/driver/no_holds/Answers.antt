use Rattle.std.proofs.Common.{◌≡◌, ◌≤◌, ◌∷◌, List, [], length, sym, subst, arith, refl, None, length-append, All}
use Rattle.std.specs.Prelude.{Option}
use Rattle.std.proofs.lemmas.List.Elements.{All-append, All-cons, All-nil}
use Rattle.book.specs.declared.faults.Prepared.{Prepared}
use Rattle.script_driver.proofs.driver.no_holds.Goals as goal

pub returns-clause-many : goal.returns-clause-many
returns-clause-many c =
    let was = c.filling.invariant.0 in let full = c.filling-test.false in let len = c.len.ensures in omega (arith, was, full, len)

pub filling-init : goal.filling-init
filling-init c =
    subst (λ (l : List (Option Prepared)). (length l ≤ c.args.sessions) × All (λ k. k ≡ None) l) (sym c.new-holds.ensures.items) (omega arith, All-nil (λ (k : Option Prepared). k ≡ None))

pub filling-preserved : goal.filling-preserved
filling-preserved c =
    let P : Option Prepared → Type 0 = λ k. k ≡ None in
    let more = c.filling-test.true in let len = c.len.ensures in let sum = length-append c.filling.holds.items (None ∷ []) in
    subst (λ (l : List (Option Prepared)). (length l ≤ c.args.sessions) × All P l) (sym c.in_ok-push.ensures.items)
    (omega (arith, more, len, sum), All-append P c.filling.holds.items (None ∷ []) c.filling.invariant.1 (All-cons P None [] refl (All-nil P)))
