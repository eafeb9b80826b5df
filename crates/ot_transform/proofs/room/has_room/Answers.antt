use Rattle.std.proofs.Common.{◌≡◌, ◌+◌, ◌^◌, min, sym, ◌∙◌}
use Rattle.std.specs.Prelude.{nat_lt}
use Rattle.std.specs.List.{list_all}
use Rattle.ot_op.specs.Operation.{place}
use Rattle.ot_transform.specs.Room.{new_units}
use Rattle.ot_transform.proofs.FitsTests.{Most, room_tested, tested_room}
use Rattle.ot_transform.proofs.room.has_room.Goals as goal

pub returns : goal.returns
returns c =
    let is : c.stay_below.result ≡ list_all (λ x. nat_lt (place x + min (new_units c.args.others.now) Most) (2 ^ 32)) c.args.comps.now = rw (← c.inserted.ensures) c.stay_below.ensures in
    ((λ e. room_tested c.args.comps.now (new_units c.args.others.now) (sym is ∙ e)), (λ r. is ∙ tested_room c.args.comps.now (new_units c.args.others.now) r))
