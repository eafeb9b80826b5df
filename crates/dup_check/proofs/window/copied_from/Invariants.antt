use Rattle.std.proofs.Common.{◌≡◌, ◌≤◌, ◌-◌, ◌++◌, length, drop}
use Rattle.dup_check.proofs.window.copied_from.Given as goal

-- what was copied and what is left are the whole from the first one on
abbrev pub invariant-loop-past : goal.invariant-loop-past
invariant-loop-past l = record {
  whole : l.made.items ++ drop l.at l.kept.items ≡ drop l.first l.kept.items;
  within : l.at ≤ length l.kept.items;
}

abbrev pub decreases-loop-past : goal.decreases-loop-past
decreases-loop-past l = length l.kept.items - l.at
