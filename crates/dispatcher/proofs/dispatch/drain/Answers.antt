use Rattle.std.proofs.Common.{◌∙◌, sym, ap}
use Rattle.book.specs.Calls.{told}
use Rattle.dispatcher.proofs.Taking.{not_unmade}
use Rattle.dispatcher.proofs.dispatch.drain.Goals as goal

pub unreachable-requires : goal.unreachable-requires
unreachable-requires g c =
    not_unmade c.args.doc c.draining.book.journal c.draining.invariant.made (sym (ap told c.in-Err-NoDoc.field-0-is) ∙ c.in-Err-NoDoc.ensures.refused)
