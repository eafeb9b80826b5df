use Rattle.std.proofs.Common.{◌≡◌, List, ap, sym, ◌∙◌, subst}
use Rattle.std.specs.Prelude.{Option, Some, None, IfSome}
use Rattle.ot_op.specs.declared.comp.Comp.{Comp}
use Rattle.ot_op.specs.Apply.{applied_all}
use Rattle.journal_rules.specs.Client as rules
use Rattle.ot_transform.specs.Crossing.{crossed}
use Rattle.journal_sizes.specs.Sizes.{IsFlown}
use Rattle.journal_sizes.proofs.Rooms.{fits_near}
use Rattle.journal_sizes.proofs.Crossing.{shift_fails}
use Rattle.plain_journal.proofs.crossing.shifted.Goals as goal
use Rattle.ot_op.proofs.Applying.{failing_none}

pub cross-requires : goal.cross-requires
cross-requires c =
    let flown = subst (λ (o : Option (Option (List Comp) × List Comp)). IfSome o IsFlown) c.in-Some.is c.in_ok-flight.ensures.flown in
    fits_near c.args.pending.now c.in-Some.past c.requires.own.waits flown.past

pub returns-in-Err-Mismatch-clause-value : goal.returns-in-Err-Mismatch-clause-value
returns-in-Err-Mismatch-clause-value c =
    let fails = rw c.in-Err-Mismatch.field-0-is at c.in-Err-Mismatch.ensures.fault in
    let none : applied_all c.args.text.now c.in-Some-2.past ≡ None = ap (λ t. applied_all t c.in-Some-2.past) (sym c.in_ok-text.ensures) ∙ failing_none c.in_ok-text.text c.apply.new.text c.in-Some-2.past c.in-Err-Mismatch.field-0-0 fails in
    let flown : rules.flight_crossed c.args.flight.now c.args.op.now ≡ Some (c.in-Some.flight, c.in-Some.past) = sym c.in_ok-flight.ensures.value ∙ c.in-Some.is in
    let waits : crossed c.args.pending.now c.in-Some.past ≡ Some (c.in-Some-2.pending, c.in-Some-2.past) = sym c.in_ok-pending.ensures.value ∙ c.in-Some-2.is in
    sym (shift_fails c.args.flight.now c.args.pending.now c.args.text.now c.args.op.now (c.in-Some.flight, c.in-Some.past) (c.in-Some-2.pending, c.in-Some-2.past) flown waits none)
