use Rattle.std.proofs.Common.{◌∙◌, length, arith}
use Rattle.ranges_tracker.specs.declared.change.ChangeKind.TheVariants.{Inserted}
use Rattle.ranges_tracker.proofs.Rooms.{room_of}
use Rattle.ranges_tracker.proofs.changes.changes_delete.Goals as goal

pub cut_in-requires-clause-room : goal.cut_in-requires-clause-room
cut_in-requires-clause-room c k d lt =
    let r = room_of Inserted (length c.args.part.now) c.args.changes.now c.deref.result.now (c.deref.ensures.value ∙ c.in_ok-inserts.ensures) c.requires.room k d lt in
    omega (arith, r)
