use Rattle.std.proofs.Common.{◌≡◌, ℕ, ◌+◌, ◌<◌, ◌≤◌, length, take, arith}
use Rattle.ot_text.proofs.Joining.{joined_more}
use Rattle.ot_text.proofs.Blocking.{units_more, units_before, count_within}
use Rattle.ot_text.proofs.place.find_block.Goals as goal

pub overflow_add-before : goal.overflow_add-before
overflow_add-before c =
    let within = count_within c.args.blocks.now c.loop-i.i c.index-blocks-i.result c.loop-i-test.true c.index-blocks-i.is in
    let few = c.requires.few in
    let here = c.loop-i.invariant.chunks in
    omega (arith, within, few, here, c.count-before.ensures)

pub loop-i-preserved : goal.loop-i-preserved
loop-i-preserved c =
    let more = units_more c.args.blocks.now c.loop-i.i c.index-blocks-i.result c.loop-i-test.true c.index-blocks-i.is in
    let next = joined_more c.args.blocks.now c.loop-i.i c.index-blocks-i.result c.loop-i-test.true c.index-blocks-i.is in
    let here = c.loop-i.invariant.units in
    let before = c.loop-i.invariant.chunks in
    let len = c.len-len.ensures in
    let le = c.if-rest-len.false in
    record { units = omega (arith, more, here, len, le); chunks = omega (arith, next, before, c.count-before.ensures) }

pub returns : goal.returns
returns c = absurd (units_before c.args.blocks.now c.loop-i.i c.loop-i.rest c.args.at (omega (arith, c.loop-i-test.false)) c.loop-i.invariant.units c.requires.inside)
