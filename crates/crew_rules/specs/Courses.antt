-- What is known of each of a crew at its end: its course in what it saw last.
use Rattle.std.specs.Prelude.{◌≡◌, ℕ, ◌+◌, ◌<◌, List, All}
use Rattle.journal_entries.specs.declared.act.Entry.{Entry}
use Rattle.session_lines.specs.declared.line.Line.{Line}
use Rattle.board.specs.Views.{SawAll, made_by}
use Rattle.run_rules.specs.Threads.{Crew, driver_seat, worker_seat, flusher_seat, DriverFollows, WorkerFollows, FlusherFollows}
use Rattle.workers.specs.Sweeping.{AreSwept}

-- what a seat saw last went so; the journal begins with that, and has no further entry of the seat
abbrev pub SeenCourse : ℕ → (List Entry → Type 0) → List Entry → Type 0
SeenCourse seat Goes journal = (seen : List Entry) × Goes seen × SawAll journal (seat, seen)

-- each of a crew has gone its course, and no other seat has written since the start
pub record HasCourses (crew : Crew) (lines : List Line) (start journal : List Entry) : Type 0 where
  pub driven : 0 < crew.drivers
  pub worked : 0 < crew.workers
  pub driver : (d : ℕ) → d < crew.drivers → SeenCourse (driver_seat d) (λ seen. DriverFollows crew lines start seen d) journal
  pub worker : (w : ℕ) → w < crew.workers → SeenCourse (worker_seat crew w) (λ seen. WorkerFollows crew start seen w × AreSwept crew.drivers (worker_seat crew w) seen) journal
  pub flusher : SeenCourse (flusher_seat crew) (λ seen. FlusherFollows crew start seen) journal
  pub given : All (λ e. e.seat < flusher_seat crew + 1) journal
  pub first : made_by 0 journal ≡ made_by 0 start
