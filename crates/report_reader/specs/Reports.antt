-- The report that a text is, or the number of its first line that is outside the grammar.
use Rattle.std.specs.Prelude.{ℕ, zero, suc, ◌+◌, ◌-◌, ◌==◌, ◌&&◌, List, [], ◌∷◌, ◌++◌, length, map, slice_get, Bool, true, Option, Some, None, Result, Ok, Err, option_map, if◌then◌else◌}
use Rattle.json_lines.specs.Lines.{lines_of}
use Rattle.history_queue.specs.declared.item.Item.{Item}
use Rattle.journal_entries.specs.Journals.{entries}
use Rattle.journal_entries.specs.declared.act.Entry.{Entry}
use Rattle.report_text.specs.declared.client_end.ClientEnd.{ClientEnd}
use Rattle.report_text.specs.declared.document_end.DocEnd.{DocEnd}
use Rattle.report_text.specs.declared.project_end.ProjectEnd.{ProjectEnd}
use Rattle.report_reader.specs.declared.fault.ReportFault.{ReportFault}
use Rattle.report_reader.specs.declared.fault.ReportFault.TheVariants.{Line}
use Rattle.report_reader.specs.declared.piece.Piece.{Piece}
use Rattle.report_reader.specs.declared.piece.Piece.TheVariants as piece
use Rattle.report_reader.specs.declared.report.Report.{Report}
use Rattle.report_reader.specs.Fields.{and_then}
use Rattle.report_reader.specs.Pieces.{piece_of}

-- what a report tells: the entries of each board, what was handed out, and the last lines
pub record Told : Type 0 where
  pub journals : List (List Entry)
  pub items : List Item
  pub docs : List DocEnd
  pub clients : List ClientEnd
  pub projects : List ProjectEnd

abbrev pub nothing : Told
nothing = record { journals = []; items = []; docs = []; clients = []; projects = [] }

abbrev pub told_by : Report → Told
told_by r = record { journals = map entries r.journals; items = r.items; docs = r.docs; clients = r.clients; projects = r.projects }

-- the journals with an entry more, of number n on board b: behind the last one on the last board, or the first one on the next board
abbrev pub with_entry : ℕ → ℕ → Entry → List (List Entry) → Option (List (List Entry))
with_entry b n e [] = if b == 0 && n == 0 then Some ((e ∷ []) ∷ []) else None
with_entry zero n e (j ∷ []) = if n == length j then Some ((j ++ e ∷ []) ∷ []) else None
with_entry zero n e (j ∷ k ∷ js) = None
with_entry (suc b) n e (j ∷ js) = option_map (λ more. j ∷ more) (with_entry b n e js)

-- entries come first, then documents, then clients, then projects
abbrev pub may_follow : Told → Piece → Bool
may_follow t (piece.Entry e) = length t.docs == 0 && length t.clients == 0 && length t.projects == 0
may_follow t (piece.Document end) = length t.clients == 0 && length t.projects == 0
may_follow t (piece.Client end) = length t.projects == 0
may_follow t (piece.Project end) = true

-- with what a line more shows
abbrev pub joined : Told → Piece → Option Told
joined t (piece.Entry e) = option_map (λ journals. record { journals = journals; items = t.items ++ e.items; docs = t.docs; clients = t.clients; projects = t.projects }) (with_entry e.board e.n e.entry t.journals)
joined t (piece.Document end) = Some (record { journals = t.journals; items = t.items; docs = t.docs ++ end ∷ []; clients = t.clients; projects = t.projects })
joined t (piece.Client end) = Some (record { journals = t.journals; items = t.items; docs = t.docs; clients = t.clients ++ end ∷ []; projects = t.projects })
joined t (piece.Project end) = Some (record { journals = t.journals; items = t.items; docs = t.docs; clients = t.clients; projects = t.projects ++ end ∷ [] })

abbrev pub with_piece : Told → Piece → Option Told
with_piece t p = if may_follow t p then joined t p else None

abbrev pub or_line : ℕ → Option Told → Result Told ReportFault
or_line n None = Err (Line n)
or_line n (Some t) = Ok t

-- with line number n
abbrev pub with_line : ℕ → Told → List ℕ → Result Told ReportFault
with_line n t line = or_line n (and_then (piece_of line) (with_piece t))

abbrev pub then_lines : (Told → Result Told ReportFault) → Result Told ReportFault → Result Told ReportFault
then_lines more (Ok t) = more t
then_lines more (Err fault) = Err fault

-- with these lines, numbered from n on
abbrev pub with_lines : ℕ → List (List ℕ) → Told → Result Told ReportFault
with_lines n [] t = Ok t
with_lines n (line ∷ lines) t = then_lines (with_lines (n + 1) lines) (with_line n t line)

abbrev pub is_feed_or_none : Option ℕ → Bool
is_feed_or_none None = true
is_feed_or_none (Some x) = x == 10

-- whether a line feed stands behind the last line
abbrev pub is_whole : List ℕ → Bool
is_whole bytes = is_feed_or_none (slice_get bytes (length bytes - 1))

abbrev pub if_whole : List ℕ → Told → Result Told ReportFault
if_whole bytes t = if is_whole bytes then Ok t else Err (Line (length (lines_of bytes)))

abbrev pub report_of : List ℕ → Result Told ReportFault
report_of bytes = then_lines (if_whole bytes) (with_lines 1 (lines_of bytes) nothing)
