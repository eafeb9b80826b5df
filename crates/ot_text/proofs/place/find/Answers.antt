use Rattle.std.proofs.Common.{◌≡◌, ◌+◌, ◌<◌, ◌∙◌, arith}
use Rattle.ot_text.specs.Lists.{list_at, IsItemPlace}
use Rattle.ot_text.proofs.Joining.{place_inside}
use Rattle.ot_text.proofs.Blocking.{chunk_found, unit_found, read_list}
use Rattle.ot_text.proofs.place.find.Goals as goal

pub overflow_add-result : goal.overflow_add-result
overflow_add-result c =
    let is = c.as_slice.ensures ∙ read_list c.args.blocks.now _ c.index-blocks-block.result c.find_block-block.ensures.0 c.index-blocks-block.is in
    let inside = place_inside _ _ _ _ (chunk_found _ _ _ _ _ _ _ _ c.find_block-block.ensures is c.find_chunk-chunk.ensures) in
    omega (arith, inside, c.requires.few)

pub returns-clause-unit : goal.returns-clause-unit
returns-clause-unit c =
    let is = c.as_slice.ensures ∙ read_list c.args.blocks.now _ c.index-blocks-block.result c.find_block-block.ensures.0 c.index-blocks-block.is in
    unit_found _ _ _ _ _ _ _ _ c.find_block-block.ensures is c.find_chunk-chunk.ensures
