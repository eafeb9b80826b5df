use Rattle.std.proofs.Common.{sym, ◌∙◌, refl}
use Rattle.rooms.specs.Rooms.{AreSame}
use Rattle.rooms.proofs.Members.{step_some, step_none, room_some, room_none, found, none_found}
use Rattle.rooms.proofs.rooms.reserve_all.Goals as goal
use Rattle.rooms.proofs.rooms.reserve_all.Goals.{in-Some+in_ok-reserve_in, in_default}

pub loop-key-preserved : goal.loop-key-preserved
loop-key-preserved c =
    elim c.match-get_mut.branch [
      | in-Some+in_ok-reserve_in w ↦ rw w.members-is (
        step_some AreSame _ c.args.members.now c.loop-key.members c.loop-key.invariant.0 _ _ (found _ _ _ c.get_mut.ensures.value w.in-Some.is) (_, refl, w.reserve_in.ensures.client, w.reserve_in.ensures.roomier),
        room_some c.args.doc c.args.n c.loop-key.key c.loop-key.members w.in-Some.member.now w.reserve_in.new.self c.loop-key.invariant.1 (found _ _ _ c.get_mut.ensures.value w.in-Some.is) (λ d. w.in_ok-reserve_in.ensures.room (sym w.reserve_in.ensures.roomier.doc_is ∙ d)),
      )
      | in_default w ↦ rw w.members-is (
        step_none AreSame _ c.args.members.now c.loop-key.members c.loop-key.invariant.0 (none_found _ _ c.get_mut.ensures.value w.in_default.not-Some) refl,
        room_none c.args.doc c.args.n c.loop-key.key c.loop-key.members c.loop-key.invariant.1 (none_found _ _ c.get_mut.ensures.value w.in_default.not-Some),
      )
    ]
