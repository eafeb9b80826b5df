use Rattle.std.proofs.Common.{◌≡◌, ℕ, ◌+◌, ◌<◌, ◌≤◌, length, take, arith}
use Rattle.ot_text.proofs.Joining.{joined_more, all_before}
use Rattle.ot_text.proofs.place.block_of.Goals as goal

pub loop-i-preserved : goal.loop-i-preserved
loop-i-preserved c =
    let more = joined_more c.args.blocks.now c.loop-i.i c.index-blocks-i.result c.loop-i-test.true c.index-blocks-i.is in
    let here = c.loop-i.invariant in
    let len = c.count-count.ensures in
    let le = c.if-rest-count.false in
    omega (arith, more, here, len, le)

pub returns : goal.returns
returns c = absurd (all_before c.args.blocks.now c.loop-i.i c.loop-i.rest c.args.number (omega (arith, c.loop-i-test.false)) c.loop-i.invariant c.requires)
