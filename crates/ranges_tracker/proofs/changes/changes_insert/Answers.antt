use Rattle.std.proofs.Common.{◌∙◌, length, arith}
use Rattle.ranges_tracker.specs.declared.change.ChangeKind.TheVariants.{Inserted, Deleted}
use Rattle.ranges_tracker.proofs.Rooms.{room_of}
use Rattle.ranges_tracker.proofs.changes.changes_insert.Goals as goal

pub insert_in-requires-clause-room : goal.insert_in-requires-clause-room
insert_in-requires-clause-room c k d lt =
    let r = room_of Inserted (length c.args.part.now) c.args.changes.now c.deref.result.now (c.deref.ensures.value ∙ c.in_ok-inserts.ensures) c.requires.room k d lt in
    omega (arith, r)

pub lift_all-requires : goal.lift_all-requires
lift_all-requires c k d lt =
    let r = room_of Deleted (length c.args.part.now) c.args.changes.now c.deref_mut.result.now (c.deref_mut.ensures.value ∙ c.in_ok-deletes.ensures) c.requires.room k d lt in
    omega (arith, r, c.len.ensures.value)
