use Rattle.std.proofs.Common.{◌≡◌, ℕ, ◌<◌, ◌≤◌, ◌≡◌, Some}
use Rattle.rooms.specs.declared.member.Member.{Member}
use Rattle.rooms.specs.Rooms.{AreSame}
use Rattle.slab.specs.Slab.{get}
use Rattle.rooms.proofs.Members.{Upto}
use Rattle.rooms.proofs.rooms.reserve_all.Given as goal

abbrev pub invariant-loop-key : goal.invariant-loop-key
invariant-loop-key l =
    Upto AreSame l.initial.members l.members l.key
    × ((k : ℕ) (m : Member) → k < l.key → get l.members k ≡ Some m → m.doc ≡ l.doc → l.n ≤ m.outbox.spare)
