use Rattle.std.proofs.Common.{◌≡◌, ◌∙◌}
use Rattle.std.specs.Char.Utf16.{utf16_lossy_chars}
use Rattle.ot_units.proofs.Texts.{lossy_is}
use Rattle.ot_json.proofs.write.write_text.Goals as goal

pub returns-clause-text : goal.returns-clause-text
returns-clause-text c =
    let same : utf16_lossy_chars c.as_slice.result.now ≡ c.args.units.now = lossy_is _ c.as_slice.ensures.text ∙ c.as_slice.ensures.value in
    rw (← same) c.from_utf16_lossy.ensures
