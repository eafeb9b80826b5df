use Rattle.std.proofs.Common.{arith, ap, refl, ◌∙◌}
use Rattle.rooms.proofs.Members.{on_err, stay_by, entered_keyed, entered_moves, joined_moves, as_empty}
use Rattle.rooms.proofs.rooms.Rooms.join_with_room.Goals as goal

pub returns-in_err-reserve_key-clause-kept : goal.returns-in_err-reserve_key-clause-kept
returns-in_err-reserve_key-clause-kept c = rw (← c.self.view_is) (on_err _ c.from_residual-in_err-reserve_key.result (stay_by c.self.inside.keys.items c.reserve_key.new.keys.items c.self.inside.members c.reserve.new.self c.reserve_key.ensures.same (ap (λ s. s.slots) c.reserve.ensures.rest_kept)))

pub invariant_of-self-2 : goal.invariant_of-self-2
invariant_of-self-2 c = entered_keyed c.vacate.new.keys.items c.vacate.new.members c.args.client c.insert_reserved-key.result c.insert_reserved-key.new.self _ c.vacate.ensures.keyed c.vacate.ensures.gone (omega (arith, c.vacate.ensures.len, c.in_ok-reserve_key.ensures.there)) c.insert_reserved-key.ensures.was_vacant c.insert_reserved-key.ensures.updates refl

pub returns-clause-joined : goal.returns-clause-joined
returns-clause-joined c = rw (← c.self.view_is) (
  c.reserve_many.new.self.spare,
  c.in_ok-reserve_many.ensures.room,
  as_empty c.args.client c.args.doc c.args.source c.reserve_many.new.self.spare c.reserve_many.new.self.items _ _ (c.reserve_many.ensures.items ∙ c.new-outbox.ensures) (joined_moves c.args.client _ _ _ _ _
      (stay_by c.self.inside.keys.items c.reserve_key.new.keys.items c.self.inside.members c.reserve.new.self c.reserve_key.ensures.same (ap (λ s. s.slots) c.reserve.ensures.rest_kept))
      c.vacate.ensures.moves
      (entered_moves c.vacate.new.keys.items c.vacate.new.members c.args.client c.insert_reserved-key.result c.insert_reserved-key.new.self _ c.vacate.ensures.keyed c.vacate.ensures.gone (omega (arith, c.vacate.ensures.len, c.in_ok-reserve_key.ensures.there)) c.insert_reserved-key.ensures.was_vacant c.insert_reserved-key.ensures.updates refl)),
)
