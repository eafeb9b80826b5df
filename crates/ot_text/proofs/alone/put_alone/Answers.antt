use Rattle.std.proofs.Common.{arith, ◌≡◌, ◌<◌, ◌≤◌, ◌+◌, ◌∙◌, [], length, ap, sym}
use Rattle.ot_text.specs.Lists.{joined, list_at}
use Rattle.ot_text.proofs.Joining.{item_is}
use Rattle.ot_text.proofs.Growing.{grown_text, grown_blocks}
use Rattle.ot_text.proofs.alone.put_alone.Goals as goal

pub put_behind-requires-clause-unit : goal.put_behind-requires-clause-unit
put_behind-requires-clause-unit c =
    let p = rw c.as_slice.ensures.value at c.find-place.ensures.chunk in
    let q = rw c.as_slice.ensures.value at c.find-place.ensures.unit in
    let l = ap length (item_is c.args.blocks.now.items c.find-place.result.number c.find-place.result.block c.find-place.result.chunk [] p) in
    omega (arith, l, q.2)

pub returns-then-branch-clause-done : goal.returns-then-branch-clause-done
returns-then-branch-clause-done c =
    let bs = c.args.blocks.now.items in
    let chunk = list_at (list_at bs c.find-place.result.block) c.find-place.result.chunk in
    let p = rw c.as_slice.ensures.value at c.find-place.ensures.chunk in
    let q = rw c.as_slice.ensures.value at c.find-place.ensures.unit in
    let is : chunk ≡ list_at (joined bs) c.find-place.result.number = sym (item_is bs c.find-place.result.number c.find-place.result.block c.find-place.result.chunk [] p) in
    let same = ap length is in
    let read = rw c.as_slice-2.ensures.value at c.chunk_at-chunk.ensures in
    let count = ap length read in
    let done = rw c.if-branch.true at c.in_ok-put_behind.ensures.done in (
      grown_text bs _ c.args.at _ _ _ _ chunk c.args.other.now (omega (arith, c.if-at-eq0.false)) p q is done,
      grown_blocks bs _ _ _ _ _ chunk c.args.other.now c.requires.blocks p q.0 is (omega (arith, same, q.2)) (omega (arith, same, count, c.len.ensures, c.if-len-other.false, c.if-other-gt-ROOM.false)) done,
    )
