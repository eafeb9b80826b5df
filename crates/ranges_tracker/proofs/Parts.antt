-- Parts of a text are texts.
use Rattle.std.proofs.Common.{ℕ, ◌-◌, List, drop}
use Rattle.std.specs.Prelude.{IsTrue, slice_range}
use Rattle.std.proofs.lemmas.List.Elements.{All-take, All-drop}
use Rattle.ot_units.specs.Text.{IsText, is_unit}

pub part_keeps : (text : List ℕ) (from to : ℕ) → IsText text → IsText (slice_range text from to)
part_keeps text from to t = let P : ℕ → Type 0 = λ u. IsTrue (is_unit u) in All-take P (to - from) (drop from text) (All-drop P from text t)
