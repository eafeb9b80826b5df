use Rattle.rooms.specs.Rooms.{IsPosted}
use Rattle.rooms.proofs.Members.{Upto}
use Rattle.rooms.proofs.rooms.post_all.Given as goal

abbrev pub invariant-loop-key : goal.invariant-loop-key
invariant-loop-key l = Upto (IsPosted l.doc l.at) l.initial.members l.members l.key
