use Rattle.std.proofs.Common.{arith, ◌≤◌}
use Rattle.ot_text.proofs.Blocking.{patched_blocks}
use Rattle.ot_text.proofs.edit.patch_hole.Goals as goal

pub returns-clause-patch : goal.returns-clause-patch
returns-clause-patch c =
    let inside = rw c.as_slice-2.ensures.value at c.in_ok-patch.ensures.inside in
    let chunks = rw c.as_slice-2.ensures.value at c.in_ok-patch.ensures.chunks in
    let right = rw c.as_slice.ensures.value at c.in_ok-chunks.ensures.patch.chunks in
    record {
      ordered = inside.0;
      inside = inside.1;
      fits = omega (arith, c.in_ok-reserve.ensures.ok, c.in_ok-reserve.ensures.len, c.len.ensures, c.in_ok-patch.patch.new.ok);
      blocks = patched_blocks c.args.blocks.now.items c.in_ok-patch.patch.new.items c.in_ok-patch.patch.from c.in_ok-patch.patch.to _ c.requires.blocks c.in_ok-patch.ensures.each chunks right;
    }
