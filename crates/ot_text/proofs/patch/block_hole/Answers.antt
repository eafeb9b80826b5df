use Rattle.std.proofs.Common.{◌≡◌, ◌+◌, ◌≤◌, ◌-◌, arith, refl}
use Rattle.ot_text.proofs.Joining.{places_ordered}
use Rattle.ot_text.proofs.Edits.{edge_here, edge_behind}
use Rattle.ot_text.proofs.Blocking.{all_filled, hole_filled}
use Rattle.ot_text.proofs.patch.block_hole.Goals as goal

pub returns-then-from-to-clause-filled : goal.returns-then-from-to-clause-filled
returns-then-from-to-clause-filled c =
    let chunks = rw c.as_slice.ensures.value at c.in_ok-hole.ensures.chunks in
    let edge = c.edge_of-edge.ensures in
    rw (c.in_ok-hole.ensures.from, c.in_ok-hole.ensures.to) (hole_filled c.args.blocks.now c.args.from c.args.to _ _ _ _ c.args.new.items _ edge (rw c.if-from-to.true at edge) chunks)

pub returns-clause-inside : goal.returns-clause-inside
returns-clause-inside c =
    let le = places_ordered c.args.blocks.now c.args.from (c.args.to - 1) _ _ _ _ c.block_of-first.ensures c.block_of-block.ensures (omega (arith, c.requires.ordered, c.if-from-to.false)) in
    (omega (arith, le, c.in_ok-hole-2.ensures.from, c.in_ok-hole-2.ensures.to), omega (arith, c.in_ok-hole-2.ensures.to, c.block_of-block.ensures.0))

pub returns-clause-filled : goal.returns-clause-filled
returns-clause-filled c =
    let chunks = rw c.as_slice-2.ensures.value at c.in_ok-hole-2.ensures.chunks in
    let first = edge_here c.args.blocks.now c.args.from _ _ c.block_of-first.ensures in
    let last = edge_behind c.args.blocks.now (c.args.to - 1) c.args.to _ _ (omega (arith, c.requires.ordered, c.if-from-to.false)) c.block_of-block.ensures in
    rw (c.in_ok-hole-2.ensures.from, c.in_ok-hole-2.ensures.to) (hole_filled c.args.blocks.now c.args.from c.args.to _ _ _ _ c.args.new.items _ first last chunks)

pub returns-then-is_all-clause-filled : goal.returns-then-is_all-clause-filled
returns-then-is_all-clause-filled c =
    let all = c.if-is_all.ensures.0 refl in
    all_filled c.args.blocks.now c.args.from c.args.to c.args.new.items all.0 all.1
