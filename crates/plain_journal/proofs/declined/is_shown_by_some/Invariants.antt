use Rattle.std.proofs.Common.{ℕ, ◌<◌}
use Rattle.plain_journal.specs.Whys.{IsShown}
use Rattle.plain_journal.proofs.declined.is_shown_by_some.Given as goal

-- none of those before it is so
abbrev pub invariant-loop-doc : goal.invariant-loop-doc
invariant-loop-doc l = (d : ℕ) → d < l.doc → IsShown l.before d l.why → ⊥
