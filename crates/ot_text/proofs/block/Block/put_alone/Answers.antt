use Rattle.std.proofs.Common.{arith, ◌≡◌, ◌<◌, ◌≤◌, ◌+◌, ◌∙◌, length, ap}
use Rattle.ot_units.specs.Text.{put_at}
use Rattle.ot_text.specs.Chunks.{IsCounted}
use Rattle.ot_text.specs.Lists.{list_at}
use Rattle.ot_text.proofs.Blocking.{read_list}
use Rattle.ot_text.proofs.Edits.{put_length}
use Rattle.ot_text.proofs.Growing.{grown_counted}
use Rattle.ot_text.proofs.block.Block.put_alone.Goals as goal

pub invariant_of-self-2 : goal.invariant_of-self-2
invariant_of-self-2 c =
    let is : c.in-Some.chunks.now ≡ _ = c.in-Some.ensures.value in
    let inside : c.args.chunk < length c.in-Some.chunks.now.items = rw (is, c.self.view_is) c.requires.chunk in
    let here = read_list c.in-Some.chunks.now.items c.args.chunk c.index_mut.result.now inside c.index_mut.ensures.value in
    let unit : c.args.at ≤ length c.index_mut.result.now = rw (here, is, c.self.view_is) c.requires.unit in
    let made : c.put_alone.new.self ≡ put_at c.index_mut.result.now c.args.at c.args.other.now = rw c.if-not-branch.false at c.in_ok-put_alone.ensures.done in
    let long = ap length made ∙ put_length c.index_mut.result.now c.args.at c.args.other.now unit in
    let same = ap length here in
    let kept : IsCounted c.in-Some.chunks.now.items c.self.inside.count c.self.inside.len = rw is c.self.invariant in
    grown_counted c.in-Some.chunks.now.items c.args.chunk c.self.inside.count c.self.inside.len (length c.args.other.now) c.put_alone.new.self inside (omega (arith, long, same)) kept
