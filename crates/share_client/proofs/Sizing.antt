-- Operations of few components and few units.
use Rattle.std.proofs.Common.{◌≡◌, ℕ, ◌-◌, ◌^◌, ◌≤◌, true, List, length, min, arith}
use Rattle.std.specs.Prelude.{sum_by}
use Rattle.ot_op.specs.declared.comp.Comp.{Comp}
use Rattle.ot_op.specs.Operation.{units_of}
use Rattle.journal_rules.specs.Client.{places_fit}
use Rattle.journal_rules.proofs.Sizes.{edits_least, comments_least}
use Rattle.journal_sizes.specs.Sizes.{IsSized}

-- an operation of few components and few units is sized
pub sized_few : (op : List Comp) (count : ℕ) → count ≡ min (sum_by units_of op) (2 ^ 64 - 1) → count ≤ 1000 → length op ≤ 1000 → places_fit op ≡ true → IsSized op
sized_few op count is few short low =
    let e = edits_least op in let c = comments_least op in
    record { light = record { units = omega (arith, is, few, e); comments = omega (arith, c, short) }; low = low }
