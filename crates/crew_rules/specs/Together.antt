-- How a crew goes on together: all of a run with workers but the making of its documents and its end.
use Rattle.std.specs.Prelude.{◌≡◌, ℕ, ◌<◌, true, List, ◌++◌, length}
use Rattle.std.specs.List.{list_all}
use Rattle.journal_entries.specs.declared.act.Entry.{Entry}
use Rattle.journal_rules.specs.Documents.{makings}
use Rattle.session_lines.specs.declared.line.Line.{Line}
use Rattle.run_rules.specs.Threads.{Crew, is_of_crew, DriverFollows, WorkerFollows, FlusherFollows, IsSwept}

-- from the start on each of the crew goes its own course, nobody else writes, and each document is swept
pub record GoesTogether (crew : Crew) (lines : List Line) (start journal : List Entry) : Type 0 where
  pub between : List Entry
  pub journal_is : journal ≡ start ++ between
  pub crew_only : list_all (λ e. is_of_crew crew e.seat) between ≡ true
  pub driver : (d : ℕ) → d < crew.drivers → DriverFollows crew lines start journal d
  pub worker : (w : ℕ) → w < crew.workers → WorkerFollows crew start journal w
  pub flusher : FlusherFollows crew start journal
  pub swept : (doc : ℕ) → doc < length (makings start) → IsSwept crew journal doc
