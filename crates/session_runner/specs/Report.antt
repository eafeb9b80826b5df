-- What is written of a journal: a line for each entry, one that hands history out with the items of it, then a line for each document, then one for each client that ever joined, and then one for each project.
use Rattle.std.specs.Prelude.{ℕ, zero, suc, List, [], ◌++◌, length, Result, Ok, Err, unwrap_or}
use Rattle.json_lines.specs.Object.{line_of}
use Rattle.ranges_tracker.specs.Shown.{shown}
use Rattle.report_text.specs.declared.document_end.DocEnd.{DocEnd}
use Rattle.report_text.specs.Documents.{document_members}
use Rattle.journal_entries.specs.declared.act.Entry.{Entry}
use Rattle.journal_rules.specs.Documents.{makings, name, text, version}
use Rattle.journal_rules.specs.Keeping.{kept}
use Rattle.journal_rules.specs.Tracking.{cells}
use Rattle.run_rules.specs.Report.{client_lines, entry_lines, project_lines}
use Rattle.session_lines.specs.declared.script.Script.{Script}
use Rattle.session_lines.specs.declared.fault.ScriptFault.{ScriptFault}
use Rattle.session_lines.specs.Script.{script_of}

-- a document of board 0 at its version: its text, which a legal journal always gives, and what its cells show. It tells the version that is in the keeper
abbrev pub document_end : ℕ → List Entry → DocEnd
document_end doc journal =
    record { b = 0; doc = doc; kept = kept doc journal; name = name doc journal; ranges = shown (cells doc journal); text = unwrap_or (text doc journal) []; v = version doc journal }

abbrev pub document_line : ℕ → List Entry → List ℕ
document_line doc journal = line_of (document_members (document_end doc journal))

-- the documents' lines, so many
abbrev pub document_lines : ℕ → List Entry → List ℕ
document_lines zero journal = []
document_lines (suc doc) journal = document_lines doc journal ++ document_line doc journal

-- the report of a journal of sessions with these names
abbrev pub report_of : List (List ℕ) → List Entry → List ℕ
report_of names journal = entry_lines [] journal ++ (document_lines (length (makings journal)) journal ++ (client_lines 0 names journal ++ project_lines journal))

-- the names of the sessions of an input
abbrev pub names_in : Result Script ScriptFault → List (List ℕ)
names_in (Ok script) = script.names
names_in (Err fault) = []

abbrev pub names_of : List ℕ → List (List ℕ)
names_of bytes = names_in (script_of bytes)
