use Rattle.std.proofs.Common.{sym, ◌∙◌}
use Rattle.ot_json.proofs.Solid.{kept_solid}
use Rattle.ot_json.proofs.read.read_elements.Goals as goal

pub push-requires : goal.push-requires
push-requires g c = kept_solid _ _ _ (sym c.in_ok-comp.ensures ∙ c.in-Kept.is)
