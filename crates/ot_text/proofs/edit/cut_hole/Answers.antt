use Rattle.std.proofs.Common.{arith, ◌≤◌, ◌∙◌, ◌≡◌}
use Rattle.std.proofs.lemmas.List.{take_rest}
use Rattle.ot_text.specs.Lists.{joined}
use Rattle.ot_text.proofs.Edits.{cut_filled}
use Rattle.ot_text.proofs.Joining.{places_ordered}
use Rattle.ot_text.proofs.edit.cut_hole.Goals as goal

pub returns-clause-inside : goal.returns-clause-inside
returns-clause-inside c =
    let le = places_ordered (joined c.args.blocks.now) _ _ _ _ _ _ c.find-first.ensures.unit c.find-last.ensures.unit (omega arith) in
    (omega (arith, le), omega (arith, c.find-last.ensures.unit.0))

pub returns-clause-filled : goal.returns-clause-filled
returns-clause-filled c =
    let front = c.as_slice-front.ensures ∙ c.chunk_at.ensures in
    let back = c.as_slice-back.ensures ∙ c.chunk_at-2.ensures in
    cut_filled (joined c.args.blocks.now) c.args.at c.args.len _ _ _ _ _ c.requires.some c.find-first.ensures.unit c.find-last.ensures.unit (rw (take_rest, front, back) at c.in_ok-units.ensures)
