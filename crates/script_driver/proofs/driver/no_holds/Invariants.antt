use Rattle.std.proofs.Common.{◌≡◌, ◌≤◌, ◌-◌, length, All, None}
use Rattle.script_driver.proofs.driver.no_holds.Given as goal

abbrev pub invariant-filling : goal.invariant-filling
invariant-filling l = (length l.holds.items ≤ l.initial.sessions) × All (λ kept. kept ≡ None) l.holds.items

abbrev pub decreases-filling : goal.decreases-filling
decreases-filling l = l.initial.sessions - length l.holds.items
