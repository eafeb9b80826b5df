use Rattle.std.proofs.Common.{refl}
use Rattle.rooms.specs.Rooms.{IsPosted}
use Rattle.rooms.proofs.Members.{step_some, step_none, found, none_found}
use Rattle.rooms.proofs.rooms.post_all.Goals as goal
use Rattle.rooms.proofs.rooms.post_all.Goals.{in-Some, in_default}

pub loop-key-preserved : goal.loop-key-preserved
loop-key-preserved c =
    elim c.match-get_mut.branch [
      | in-Some w ↦ rw w.members-is (step_some (IsPosted c.args.doc c.args.at) _ c.args.members.now c.loop-key.members c.loop-key.invariant _ _ (found _ _ _ c.get_mut.ensures.value w.in-Some.is) (_, refl, w.post_in.ensures.client, w.post_in.ensures.posted))
      | in_default w ↦ rw w.members-is (step_none (IsPosted c.args.doc c.args.at) _ c.args.members.now c.loop-key.members c.loop-key.invariant (none_found _ _ c.get_mut.ensures.value w.in_default.not-Some) refl)
    ]
