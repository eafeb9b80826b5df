-- How a run ends before anything is written, and what it then writes.
use Rattle.std.specs.Prelude.{◌≡◌, ◌⊎◌, ℕ, ◌^◌, ◌+◌, ◌<◌, ◌≤◌, Bool, true, false, IsTrue, List, [], ◌∷◌, ◌++◌, length, take, map, codes, position, not, Option, Some, None, option_map, Result, Ok, Err, String, string_bytes, ⊤}
use Rattle.std.specs.Fmt.{decimal}
use Rattle.std.specs.declared.alloc.Global.{Global}
use Rattle.std.specs.Io.KnownBytes.{Consumes, Appends, Keeps, IsAtEnd}
use Rattle.source_sink.specs.declared.read.TheConstants.{INPUT_LIMIT}
use Rattle.journal_entries.specs.declared.act.Entry.{Entry}
use Rattle.journal_rules.specs.Legal.{IsLegal}
use Rattle.session_lines.specs.declared.line.Line.{Line}
use Rattle.session_lines.specs.declared.script.Script.{Script}
use Rattle.session_lines.specs.declared.fault.ScriptFault.{ScriptFault}
use Rattle.session_lines.specs.declared.fault.ScriptFault.TheVariants as read
use Rattle.session_lines.specs.Script.{script_of}
use Rattle.ending_rules.specs.Ended.{HasEnded}
use Rattle.run_rules.specs.Completing.{AreKept, has_flush_failed_at_end}
use Rattle.run_rules.specs.Follows.{Follows}
use Rattle.session_runner.specs.declared.ending.Ending.{Ending}
use Rattle.session_runner.specs.declared.ending.Ending.TheVariants as ending
use Rattle.session_runner.specs.declared.ending.LineFault.{LineFault}
use Rattle.session_runner.specs.declared.ending.LineFault.TheVariants.{Json, Form, Unknown, Unbuilt}
use Rattle.script_driver.specs.Fitting.{is_built}
use Rattle.script_driver.specs.Holding.{empty_book}
use Rattle.ranges_tracker.specs.Kept.{Kept}
use Rattle.source_sink.specs.Causes.{Rose}
use Rattle.book.specs.Failing.{has_failure}
use Rattle.book.specs.Going.{GoesOn}
use Rattle.book.specs.Shown.{Shown}
use Rattle.book.specs.Stored.{AreStored, KeepsOthers}
use Rattle.session_runner.specs.Passing.{MayFail, Passed, PassedKeeper}
use Rattle.session_runner.specs.Report.{names_of, report_of}
use Rattle.script_driver.specs.Clients.{AreClientsOf}
use Rattle.script_driver.specs.Handing.{items_handed}
use Rattle.session_runner.specs.declared.ending.Run.{Run}

-- the words are the one word `run`
abbrev pub AreRun : List (String Global) → Type 0
AreRun words = map string_bytes words ≡ codes "run" ∷ []

-- the input was read to its end, and is within the limit
pub record WasWhole (input : Passed) (bytes : List ℕ) : Type 0 where
  pub consumed : Consumes input.before input.after bytes
  pub at_end : IsAtEnd input.after
  pub short : length bytes ≤ INPUT_LIMIT

-- more than the limit was taken
pub record WasLong (input : Passed) (bytes : List ℕ) : Type 0 where
  pub consumed : Consumes input.before input.after bytes
  pub long : INPUT_LIMIT < length bytes

-- reading failed behind these bytes, which are no more than the limit
pub record WasBroken (input : Passed) (bytes : List ℕ) : Type 0 where
  pub consumed : Consumes input.before input.after bytes
  pub short : length bytes ≤ INPUT_LIMIT
  pub failed : MayFail input

-- the first line of a command that isn't built, from 1
abbrev pub first_unbuilt : List Line → Option ℕ
first_unbuilt lines = option_map (λ k. k + 1) (position (λ l. not (is_built l)) lines)

-- what is wrong with an input that is read as this
abbrev pub fault_in : Result Script ScriptFault → Option LineFault
fault_in (Ok script) = option_map Unbuilt (first_unbuilt script.lines)
fault_in (Err (read.Json n)) = Some (Json n)
fault_in (Err (read.Form n)) = Some (Form n)
fault_in (Err (read.Unknown n)) = Some (Unknown n)
fault_in (Err read.Memory) = None

-- the line of an input that is named, and what is wrong with it
abbrev pub line_fault : List ℕ → Option LineFault
line_fault bytes = fault_in (script_of bytes)

-- an input is a script, and a legal journal follows it: each update was committed once, and each client that is joined rests
pub record IsRun (bytes : List ℕ) (journal : List Entry) : Type 0 where
  pub script : Script
  pub read : script_of bytes ≡ Ok script
  pub no_fault : line_fault bytes ≡ None
  pub legal : IsLegal journal
  pub follows : Follows script.lines script.sessions journal
  pub ended : HasEnded journal

-- where its type tells its documents, a keeper has each that was flushed as it was at the version of its last flush, and under all other names what it had; and where the journal tells that it failed, it did
pub record IsKeptIn (keeper : PassedKeeper) (journal : List Entry) : Type 0 where
  pub stored : IsTrue keeper.tells → AreStored keeper.after journal
  pub others : KeepsOthers keeper.tells journal keeper.before keeper.after
  pub causes : has_failure journal ≡ true → Rose keeper.faults keeper.faults_now

-- a fault that names a line, as it is written
abbrev pub line_text : ℕ → List ℕ → List ℕ
line_text n kind = codes "fault: line " ++ decimal n ++ codes " " ++ kind ++ codes "\n"

abbrev pub fault_text : LineFault → List ℕ
fault_text (Json n) = line_text n (codes "json")
fault_text (Form n) = line_text n (codes "form")
fault_text (Unknown n) = line_text n (codes "unknown")
fault_text (Unbuilt n) = line_text n (codes "unbuilt")

-- a run that is to be reported has the sessions' names, a client for each as the journal has it, and what was handed out
pub record IsReady {K : Type 0} (bytes : List ℕ) (run : Run K) : Type 0 where
  pub names_are : run.names ≡ names_of bytes
  pub clients : AreClientsOf run.clients.items run.book.journal
  pub many : length run.clients.items ≡ length run.names
  pub few : length run.names < 2 ^ 32
  pub handed : run.handed.items ≡ items_handed run.book.journal

-- what telling it asks
abbrev pub CanBeTold : {K : Type 0} → Ending K → Type 0
CanBeTold (ending.Done run) = AreClientsOf run.clients.items run.book.journal × (length run.clients.items ≡ length run.names) × (length run.names < 2 ^ 32) × (run.handed.items ≡ items_handed run.book.journal)
CanBeTold _ = ⊤

-- how a whole input ends
abbrev pub EndsAs : {K : Type 0} → List ℕ → Ending K → Type 0
EndsAs bytes (ending.Words keeper) = ⊥
EndsAs bytes (ending.Read keeper) = ⊥
EndsAs bytes (ending.Long keeper) = ⊥
EndsAs bytes (ending.Memory keeper) = ⊤
EndsAs bytes (ending.Script fault keeper) = line_fault bytes ≡ Some fault
EndsAs bytes (ending.Done run) = IsRun bytes run.book.journal × IsReady bytes run

-- the keeper that was handed in, as an ending has it: that same one where no line was done; and behind a run the book's, which went on from an empty one
abbrev pub HasKeeper : {K : Type 0} → Bool → (K → List (List ℕ × Kept)) → (K → ℕ) → K → Ending K → Type 0
HasKeeper tells documents count given (ending.Words keeper) = keeper ≡ given
HasKeeper tells documents count given (ending.Read keeper) = keeper ≡ given
HasKeeper tells documents count given (ending.Long keeper) = keeper ≡ given
HasKeeper tells documents count given (ending.Memory keeper) = ⊤
HasKeeper tells documents count given (ending.Script fault keeper) = keeper ≡ given
HasKeeper tells documents count given (ending.Done run) = GoesOn tells (empty_book (documents given) (count given)) run.book

-- the keeper that a book gives back
pub record IsOfBook {K : Type 0} (tells : Bool) (documents : K → List (List ℕ × Kept)) (count : K → ℕ) (book : Shown) (keeper : K) : Type 0 where
  pub documents_are : documents keeper ≡ book.documents
  pub later : book.start.faults ≤ count keeper
  pub stored : IsTrue tells → AreStored (documents keeper) book.journal
  pub causes : has_failure book.journal ≡ true → Rose book.start.faults (count keeper)

-- the keeper that an ending gives back
abbrev pub GivesBack : {K : Type 0} → Bool → (K → List (List ℕ × Kept)) → (K → ℕ) → Ending K → K → Type 0
GivesBack tells documents count (ending.Words keeper) back = back ≡ keeper
GivesBack tells documents count (ending.Read keeper) back = back ≡ keeper
GivesBack tells documents count (ending.Long keeper) back = back ≡ keeper
GivesBack tells documents count (ending.Memory keeper) back = back ≡ keeper
GivesBack tells documents count (ending.Script fault keeper) back = back ≡ keeper
GivesBack tells documents count (ending.Done run) back = IsOfBook tells documents count run.book back

-- why a run ends so. Where memory was wanting no more than the limit was taken
abbrev pub Explains : {K : Type 0} → List (String Global) → Passed → Ending K → Type 0
Explains words input (ending.Words keeper) = (¬ AreRun words) × Keeps input.before input.after
Explains words input (ending.Read keeper) = AreRun words × ((bytes : List ℕ) × WasBroken input bytes)
Explains words input (ending.Long keeper) = AreRun words × ((bytes : List ℕ) × WasLong input bytes)
Explains words input (ending.Memory keeper) = AreRun words × ((bytes : List ℕ) × Consumes input.before input.after bytes × (length bytes ≤ INPUT_LIMIT))
Explains words input (ending.Script fault keeper) = AreRun words × ((bytes : List ℕ) × WasWhole input bytes × (line_fault bytes ≡ Some fault))
Explains words input (ending.Done run) = AreRun words × ((bytes : List ℕ) × WasWhole input bytes × IsRun bytes run.book.journal × IsReady bytes run)

-- 7 where a flush at the end of the run failed
abbrev pub status_by : Bool → ℕ
status_by true = 7
status_by false = 0

abbrev pub status_of : {K : Type 0} → Ending K → ℕ
status_of (ending.Words keeper) = 2
status_of (ending.Read keeper) = 5
status_of (ending.Long keeper) = 8
status_of (ending.Memory keeper) = 4
status_of (ending.Script fault keeper) = 3
status_of (ending.Done run) = status_by (has_flush_failed_at_end run.book.journal)

abbrev pub text_of : {K : Type 0} → Ending K → List ℕ
text_of (ending.Words keeper) = codes "fault: words\n"
text_of (ending.Read keeper) = codes "fault: read\n"
text_of (ending.Long keeper) = codes "fault: input longer than 16777216\n"
text_of (ending.Memory keeper) = []
text_of (ending.Script fault keeper) = fault_text fault
text_of (ending.Done run) = report_of run.names run.book.journal

-- a part of a text, from its front on, was written
abbrev pub IsPart : Passed → List ℕ → Type 0
IsPart out text = (k : ℕ) × (k ≤ length text) × Appends out.before out.after (take k text)

-- what may be written where memory is wanting: a part of the report, and else nothing
abbrev pub IsPartOfReport : {K : Type 0} → Ending K → Passed → Type 0
IsPartOfReport (ending.Done run) out = IsPart out (report_of run.names run.book.journal)
IsPartOfReport _ out = Appends out.before out.after []

-- endings for which memory may be wanting as they are told
abbrev pub TakesMemory : {K : Type 0} → Ending K → Type 0
TakesMemory (ending.Words keeper) = ⊥
TakesMemory (ending.Read keeper) = ⊥
TakesMemory (ending.Long keeper) = ⊥
TakesMemory _ = ⊤

-- endings that have something to write
abbrev pub IsWriting : {K : Type 0} → Ending K → Type 0
IsWriting (ending.Memory keeper) = ⊥
IsWriting _ = ⊤

-- the text was written and the status is its own; or the sink failed and the status is 6; or memory was wanting and it is 4
abbrev pub IsTold : {K : Type 0} → Passed → Ending K → ℕ → Type 0
IsTold out end status =
    ((status ≡ status_of end) × Appends out.before out.after (text_of end))
    ⊎ ((status ≡ 6) × MayFail out × IsWriting end × IsPart out (text_of end))
    ⊎ ((status ≡ 4) × TakesMemory end × IsPartOfReport end out)

abbrev pub IsTextTold : Passed → ℕ → List ℕ → ℕ → Type 0
IsTextTold out own text status = ((status ≡ own) × Appends out.before out.after text) ⊎ ((status ≡ 6) × MayFail out × IsPart out text)
