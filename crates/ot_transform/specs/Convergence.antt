-- What crossing is for: past each other, two operations on one text make one text.
use Rattle.std.specs.Prelude.{◌≡◌, ℕ, List, [], ◌∷◌, Option, Some, IsSomeAnd}
use Rattle.std.specs.Option.{option_and_then}
use Rattle.ot_op.specs.Apply.{applied_all, replayed}
use Rattle.ot_op.specs.declared.comp.Comp.{Comp}
use Rattle.ot_transform.specs.Crossing.{Crossed}

-- where both apply to one text, they are crossed, and each behind the other makes the same text
abbrev pub Converges : List Comp → List Comp → Crossed → Type 0
Converges ls rs crossed = (text left right : List ℕ) → applied_all text ls ≡ Some left → applied_all text rs ≡ Some right
    → IsSomeAnd crossed (λ both. (to : List ℕ) × (applied_all left both.1 ≡ Some to) × (applied_all right both.0 ≡ Some to))

-- where the operation applies to the text that the past ones began with, what it becomes is there,
-- and applies to the text that they make
abbrev pub Follows : List Comp → List (List Comp) → Option (List Comp) → Type 0
Follows op past made = (text edited now : List ℕ) → applied_all text op ≡ Some edited → replayed text past ≡ Some now
    → IsSomeAnd made (λ moved. (to : List ℕ) × (applied_all now moved ≡ Some to))
