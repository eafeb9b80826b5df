use Rattle.std.proofs.Common.{◌≡◌, drop}
use Rattle.std.specs.List.{flat_map}
use Rattle.ranges_tracker.specs.Tracked.{pushed_all}
use Rattle.ranges_tracker.specs.Torn.{tail_by}
use Rattle.ranges_tracker.proofs.runs.push_tails.Given as goal

abbrev pub invariant-loop-c : goal.invariant-loop-c
invariant-loop-c l = pushed_all l.made.items (flat_map (λ c. tail_by l.torn l.from l.to c) (drop l.c-index l.inserts)) ≡ pushed_all l.initial.made.items (flat_map (λ c. tail_by l.torn l.from l.to c) l.inserts)
