-- What each status of a run says.
use Rattle.std.specs.Prelude.{◌≡◌, ◌⊎◌, ℕ, ◌<◌, ◌≤◌, List, [], Option, Some, None, length, codes, true, String}
use Rattle.std.specs.declared.alloc.Global.{Global}
use Rattle.std.specs.Io.KnownBytes.{Appends, Keeps}
use Rattle.source_sink.specs.declared.read.TheConstants.{INPUT_LIMIT}
use Rattle.journal_entries.specs.declared.act.Entry.{Entry}
use Rattle.session_runner.specs.declared.ending.LineFault.{LineFault}
use Rattle.run_rules.specs.Completing.{AreKept, has_flush_failed_at_end}
use Rattle.session_runner.specs.Ending.{AreRun, fault_text, IsKeptIn, IsPart, IsRun, line_fault, WasBroken, WasLong, WasWhole}
use Rattle.session_runner.specs.Passing.{MayFail, MayFailToKeep, Passed, PassedKeeper}
use Rattle.session_runner.specs.Report.{names_of, report_of}

abbrev pub IsStatus : ℕ → Type 0
IsStatus n = (n ≡ 0) ⊎ (n ≡ 2) ⊎ (n ≡ 3) ⊎ (n ≡ 4) ⊎ (n ≡ 5) ⊎ (n ≡ 6) ⊎ (n ≡ 7) ⊎ (n ≡ 8)

-- a text was written whole
abbrev pub Writes : Passed → List ℕ → Type 0
Writes out text = Appends out.before out.after text

-- status 0: the whole input was read and is a script; a legal journal follows it, in which each document's version is kept, and its report was written
abbrev pub IsDone : List (String Global) → Passed → Passed → PassedKeeper → Type 0
IsDone words input out keeper =
    AreRun words × ((bytes : List ℕ) × (journal : List Entry) × WasWhole input bytes × IsRun bytes journal × AreKept journal × IsKeptIn keeper journal × Writes out (report_of (names_of bytes) journal))

-- status 7: it is as at status 0, but that the keeper failed in a flush at the end of the run
abbrev pub IsUnflushed : List (String Global) → Passed → Passed → PassedKeeper → Type 0
IsUnflushed words input out keeper =
    AreRun words × MayFailToKeep keeper
    × ((bytes : List ℕ) × (journal : List Entry) × WasWhole input bytes × IsRun bytes journal × (has_flush_failed_at_end journal ≡ true) × IsKeptIn keeper journal × Writes out (report_of (names_of bytes) journal))

-- status 2: the words are outside the form, and nothing was read
abbrev pub IsOtherWords : List (String Global) → Passed → Passed → Type 0
IsOtherWords words input out = (¬ AreRun words) × Keeps input.before input.after × Writes out (codes "fault: words\n")

-- status 3: the whole input was read, and the first line that is no command, or of no command that is built, was named
abbrev pub IsNoScript : List (String Global) → Passed → Passed → Type 0
IsNoScript words input out = AreRun words × ((bytes : List ℕ) × (fault : LineFault) × WasWhole input bytes × (line_fault bytes ≡ Some fault) × Writes out (fault_text fault))

-- status 4: memory was wanting. Nothing was written, or a part of the report; and no more than the limit was taken
abbrev pub IsWanting : List (String Global) → Passed → Passed → PassedKeeper → Type 0
IsWanting words input out keeper =
    AreRun words × (Writes out [] ⊎ ((bytes : List ℕ) × (journal : List Entry) × WasWhole input bytes × IsRun bytes journal × IsKeptIn keeper journal × IsPart out (report_of (names_of bytes) journal)))

-- status 5: the source failed behind no more than the limit
abbrev pub IsUnread : List (String Global) → Passed → Passed → Type 0
IsUnread words input out = AreRun words × ((bytes : List ℕ) × WasBroken input bytes) × Writes out (codes "fault: read\n")

-- status 8: more bytes than the limit were taken
abbrev pub IsTooLong : List (String Global) → Passed → Passed → Type 0
IsTooLong words input out = AreRun words × ((bytes : List ℕ) × WasLong input bytes) × Writes out (codes "fault: input longer than 16777216\n")

-- what a run has to write, by its words and its input. Behind other words than `run` nothing was read
abbrev pub IsToWrite : List (String Global) → Passed → PassedKeeper → List ℕ → Type 0
IsToWrite words input keeper text =
    ((¬ AreRun words) × Keeps input.before input.after × (text ≡ codes "fault: words\n"))
    ⊎ (AreRun words × ((bytes : List ℕ) × WasBroken input bytes) × (text ≡ codes "fault: read\n"))
    ⊎ (AreRun words × ((bytes : List ℕ) × WasLong input bytes) × (text ≡ codes "fault: input longer than 16777216\n"))
    ⊎ (AreRun words × ((bytes : List ℕ) × (fault : LineFault) × WasWhole input bytes × (line_fault bytes ≡ Some fault) × (text ≡ fault_text fault)))
    ⊎ (AreRun words × ((bytes : List ℕ) × (journal : List Entry) × WasWhole input bytes × IsRun bytes journal × IsKeptIn keeper journal × (text ≡ report_of (names_of bytes) journal)))

-- status 6: the sink failed behind a part of what was to be written
abbrev pub IsCutShort : List (String Global) → Passed → Passed → PassedKeeper → Type 0
IsCutShort words input out keeper = MayFail out × ((text : List ℕ) × IsToWrite words input keeper text × IsPart out text)

-- the status is this one, or 4 for want of memory, or 6 where the sink may have failed
abbrev pub IsEither : Passed → ℕ → ℕ → Type 0
IsEither out own status = (status ≡ own) ⊎ (status ≡ 4) ⊎ ((status ≡ 6) × MayFail out)

-- and 5 where the source may have
abbrev pub IsEitherRead : Passed → Passed → ℕ → ℕ → Type 0
IsEitherRead input out own status = IsEither out own status ⊎ ((status ≡ 5) × MayFail input)

-- what a run comes to over a source that tells its bytes, by what was taken of them, whatever the counts of faults do. A script's run ends with 7 where the keeper may have failed
pub record Answers (words : List (String Global)) (input out : Passed) (keeper : PassedKeeper) (status : ℕ) : Type 0 where
  -- all was taken, and is a script
  pub script : (bytes : List ℕ) → AreRun words → input.before ≡ Some bytes → WasWhole input bytes → line_fault bytes ≡ None → IsEitherRead input out 0 status ⊎ ((status ≡ 7) × MayFailToKeep keeper)
  -- all was taken, and a line is none
  pub no_script : (bytes : List ℕ) (fault : LineFault) → AreRun words → input.before ≡ Some bytes → WasWhole input bytes → line_fault bytes ≡ Some fault → IsEitherRead input out 3 status
  -- more than the limit was taken
  pub too_long : (all bytes : List ℕ) → AreRun words → input.before ≡ Some all → WasLong input bytes → (status ≡ 8) ⊎ ((status ≡ 6) × MayFail out)

-- words in form, an input that the source tells, and a source and a sink that don't fail
pub record IsQuietRun (words : List (String Global)) (input out : Passed) (bytes : List ℕ) : Type 0 where
  pub run : AreRun words
  pub told : input.before ≡ Some bytes
  pub read : ¬ MayFail input
  pub written : ¬ MayFail out

-- what a run comes to where nothing fails but memory, by its input
pub record Completes (words : List (String Global)) (input out : Passed) (keeper : PassedKeeper) (status : ℕ) : Type 0 where
  pub script : (bytes : List ℕ) → IsQuietRun words input out bytes → ¬ MayFailToKeep keeper → length bytes ≤ INPUT_LIMIT → line_fault bytes ≡ None → (status ≡ 0) ⊎ (status ≡ 4)
  pub no_script : (bytes : List ℕ) → IsQuietRun words input out bytes → length bytes ≤ INPUT_LIMIT → (fault : LineFault) → line_fault bytes ≡ Some fault → (status ≡ 3) ⊎ (status ≡ 4)
  pub too_long : (bytes : List ℕ) → IsQuietRun words input out bytes → INPUT_LIMIT < length bytes → (status ≡ 8) ⊎ (status ≡ 4)
