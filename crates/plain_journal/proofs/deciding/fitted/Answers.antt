use Rattle.std.proofs.Common.{ap, sym, ◌∙◌}
use Rattle.std.specs.Option.{option_and_then}
use Rattle.ot_op.specs.Apply.{applied_all}
use Rattle.journal_rules.specs.Deciding.{fitted}
use Rattle.plain_journal.proofs.deciding.fitted.Goals as goal
use Rattle.ot_op.proofs.Applying.{failing_none}

pub returns-in-Err-Mismatch : goal.returns-in-Err-Mismatch
returns-in-Err-Mismatch c =
    let fails = rw c.in-Err-Mismatch.field-0-is at c.in-Err-Mismatch.ensures.fault in
    sym (ap (λ o. fitted c.args.have c.args.op (option_and_then (λ text. applied_all text c.args.op) o)) c.in-Some.is ∙ ap (fitted c.args.have c.args.op) (failing_none c.in-Some.text c.apply.new.text c.args.op c.in-Err-Mismatch.field-0-0 fails))
