use Rattle.std.proofs.Common.{List, subst}
use Rattle.std.specs.Prelude.{Option, IfSome}
use Rattle.ot_op.specs.declared.comp.Comp.{Comp}
use Rattle.journal_sizes.specs.Sizes.{IsFlown}
use Rattle.journal_sizes.proofs.Rooms.{fits_near}
use Rattle.share_client.proofs.shift.shifted.Goals as goal

pub cross-requires : goal.cross-requires
cross-requires c =
    let flown = subst (λ (o : Option (Option (List Comp) × List Comp)). IfSome o IsFlown) c.in-Some.is c.in_ok-flight.ensures.flown in
    fits_near c.args.pending.now c.in-Some.past c.requires.own.waits flown.past
