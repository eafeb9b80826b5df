use Rattle.std.proofs.Common.{arith, ◌<◌, ◌∙◌}
use Rattle.ot_text.specs.Lists.{joined}
use Rattle.ot_text.proofs.Edits.{put_filled}
use Rattle.ot_text.proofs.edit.put_hole.Goals as goal

pub returns-clause-filled : goal.returns-clause-filled
returns-clause-filled c =
    let chunk = c.as_slice-chunk.ensures ∙ c.chunk_at.ensures in
    put_filled (joined c.args.blocks.now) c.args.at _ _ c.args.other.now _ (omega (arith, c.if-at-eq0.false)) c.find-place.ensures.unit (rw (c.split_at.ensures.front, c.split_at.ensures.back, chunk) at c.in_ok-units-2.ensures)
