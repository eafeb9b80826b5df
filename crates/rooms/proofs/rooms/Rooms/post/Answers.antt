use Rattle.std.proofs.Common.{sym, ap, ◌∙◌}
use Rattle.rooms.specs.Rooms.{seen, member}
use Rattle.rooms.proofs.Members.{member_at, all_posted}
use Rattle.rooms.proofs.rooms.Rooms.post.Goals as goal

pub post_all-requires : goal.post_all-requires
post_all-requires c k m e d = c.requires m.client (seen m) (ap (member m.client) (sym c.self.view_is) ∙ member_at c.self.inside.keys.items c.self.inside.members c.self.invariant k m e) d

pub returns : goal.returns
returns c = rw (← c.self.view_is) (all_posted c.args.doc c.args.at c.self.inside.keys.items c.self.inside.members c.post_all.new.members c.post_all.ensures)
