use Rattle.std.proofs.lemmas.Result.{on_ok_weaker}
use Rattle.rooms.proofs.Members.{have_room, all_roomier}
use Rattle.rooms.proofs.rooms.Rooms.reserve.Goals as goal

pub returns-clause-same : goal.returns-clause-same
returns-clause-same c = rw (← c.self.view_is) (all_roomier c.self.inside.keys.items c.self.inside.members c.reserve_all.new.members c.reserve_all.ensures.same)

pub returns-clause-room : goal.returns-clause-room
returns-clause-room c = on_ok_weaker c.reserve_all.result (have_room c.args.doc c.args.n c.self.inside.keys.items c.reserve_all.new.members) c.reserve_all.ensures.room
