use Rattle.std.proofs.Common.{List, subst}
use Rattle.std.specs.Prelude.{Option, IfSome}
use Rattle.ot_op.specs.declared.comp.Comp.{Comp}
use Rattle.ot_transform.specs.Size.{BothNoLarger}
use Rattle.journal_sizes.proofs.Rooms.{fits_sized}
use Rattle.journal_sizes.proofs.Crossing.{flown_past}
use Rattle.share_client.proofs.shift.flight_crossed.Goals as goal

pub cross-requires : goal.cross-requires
cross-requires c = fits_sized c.in-Some.flight c.args.op.now (c.requires.flies c.in-Some.flight c.in-Some.is) c.requires.op

pub returns-in-Some-2-clause-flown : goal.returns-in-Some-2-clause-flown
returns-in-Some-2-clause-flown c =
    let less = subst (λ (o : Option (List Comp × List Comp)). IfSome o (BothNoLarger c.in-Some.flight c.args.op.now)) c.in-Some-2.is c.in_ok-flight-in-Some.ensures.no_larger in
    flown_past c.in-Some.flight c.args.op.now c.in-Some-2.flight c.in-Some-2.past (c.requires.flies c.in-Some.flight c.in-Some.is) c.requires.op less
