use Rattle.std.proofs.Common.{◌≡◌, ◌∙◌, ◌≤◌, ap}
use Rattle.std.proofs.lemmas.List.{take_rest}
use Rattle.ot_text.specs.Lists.{joined}
use Rattle.ot_text.proofs.Blocking.{read_list}
use Rattle.ot_text.proofs.Slicing.{made_is, part_joined, part_sizes, part_count}
use Rattle.ot_text.proofs.parts.part_of.Goals as goal

pub returns-clause-part : goal.returns-clause-part
returns-clause-part c =
    let block = c.as_slice-2.ensures ∙ read_list c.args.blocks.now c.find-place.result.block c.index-blocks-place.result c.find-place.ensures.chunk.0 c.index-blocks-place.is in
    let made = made_is c.args.blocks.now _ _ _ _ _ _ _ _ c.find-place.ensures.chunk block (c.as_slice.ensures ∙ c.chunk_at-chunk.ensures) (rw (take_rest, take_rest, take_rest) at c.parts_of.ensures) in
    ap joined made ∙ part_joined (joined c.args.blocks.now) c.args.at c.args.len _ _ c.find-place.ensures.unit c.requires.inside

pub returns-clause-sizes : goal.returns-clause-sizes
returns-clause-sizes c =
    let block = c.as_slice-2.ensures ∙ read_list c.args.blocks.now c.find-place.result.block c.index-blocks-place.result c.find-place.ensures.chunk.0 c.index-blocks-place.is in
    let made = made_is c.args.blocks.now _ _ _ _ _ _ _ _ c.find-place.ensures.chunk block (c.as_slice.ensures ∙ c.chunk_at-chunk.ensures) (rw (take_rest, take_rest, take_rest) at c.parts_of.ensures) in
    rw made (part_sizes (joined c.args.blocks.now) c.args.at c.args.len _ _ c.requires.blocks.chunks c.find-place.ensures.unit)

pub returns-clause-few : goal.returns-clause-few
returns-clause-few c =
    let block = c.as_slice-2.ensures ∙ read_list c.args.blocks.now c.find-place.result.block c.index-blocks-place.result c.find-place.ensures.chunk.0 c.index-blocks-place.is in
    let made = made_is c.args.blocks.now _ _ _ _ _ _ _ _ c.find-place.ensures.chunk block (c.as_slice.ensures ∙ c.chunk_at-chunk.ensures) (rw (take_rest, take_rest, take_rest) at c.parts_of.ensures) in
    rw made (part_count (joined c.args.blocks.now) c.args.at c.args.len _ _ c.requires.blocks.chunks c.find-place.ensures.unit)
