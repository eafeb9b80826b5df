use Rattle.std.proofs.Common.{◌≡◌, ap, ◌∙◌}
use Rattle.std.specs.Char.Utf16.{utf16_lossy_chars}
use Rattle.ot_units.proofs.Texts.{lossy_is}
use Rattle.ot_units.proofs.units.Units.to_text.Goals as goal

pub returns : goal.returns
returns c =
    let e : utf16_lossy_chars c.as_slice.result.now ≡ c.args.self.now = ap utf16_lossy_chars c.as_slice.ensures ∙ lossy_is _ c.self.invariant ∙ c.self.view_is in
    rw (← e) c.from_utf16_lossy.ensures
