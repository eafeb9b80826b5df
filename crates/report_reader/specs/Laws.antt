-- What is written is read back.
use Rattle.std.specs.Prelude.{◌≡◌, ◌≢◌, ℕ, ◌+◌, List, [], ◌∷◌, ◌++◌, map, Option, Some, Ok}
use Rattle.std.specs.List.{All, flat_map}
use Rattle.serde_json.specs.Data.{object}
use Rattle.serde_json.specs.Written.{compact_text}
use Rattle.json_lines.specs.Object.{line_of}
use Rattle.history_queue.specs.declared.item.Item.{Item}
use Rattle.journal_entries.specs.declared.act.Entry.{Entry}
use Rattle.report_text.specs.declared.client_end.ClientEnd.{ClientEnd}
use Rattle.report_text.specs.declared.document_end.DocEnd.{DocEnd}
use Rattle.report_text.specs.declared.project_end.ProjectEnd.{ProjectEnd}
use Rattle.report_reader.specs.Fields.{and_then}
use Rattle.report_reader.specs.Pieces.{piece_members, piece_of}
use Rattle.report_reader.specs.Reports.{Told, nothing, report_of, with_piece}
use Rattle.report_reader.specs.Typed.{IsTyped}
use Rattle.report_reader.specs.declared.piece.Piece.{Piece}
use Rattle.report_reader.specs.declared.piece.Piece.TheVariants as piece

-- the line that is written of an entry, a document, a client or a project shows this one
abbrev pub LinesReadBack : Type 0
LinesReadBack = (p : Piece) → IsTyped p → piece_of (compact_text (object (piece_members p))) ≡ Some p

-- the line that is written of what it shows
abbrev pub piece_line : Piece → List ℕ
piece_line p = line_of (piece_members p)

-- with what lines show, one behind the other
abbrev pub with_pieces : List Piece → Told → Option Told
with_pieces [] t = Some t
with_pieces (p ∷ ps) t = and_then (with_piece t p) (with_pieces ps)

-- lines that are written one behind the other are the report of what they show
abbrev pub ReportsReadBack : Type 0
ReportsReadBack = (ps : List Piece) (t : Told) → All IsTyped ps → with_pieces ps nothing ≡ Some t → report_of (flat_map piece_line ps) ≡ Ok t

-- and a text that is a report was written so
abbrev pub ReportsAreWritten : Type 0
ReportsAreWritten = (bytes : List ℕ) (t : Told) → report_of bytes ≡ Ok t → (ps : List Piece) × (bytes ≡ flat_map piece_line ps) × (with_pieces ps nothing ≡ Some t)

-- ---- whole runs

-- the entries of a board, each with what it hands out
abbrev pub Shown : Type 0
Shown = List (Entry × List Item)

abbrev pub entries_shown : Shown → List Entry
entries_shown xs = map (λ x. x.0) xs

abbrev pub items_shown : Shown → List Item
items_shown xs = flat_map (λ x. x.1) xs

-- they are numbered from n on
abbrev pub board_pieces : ℕ → ℕ → Shown → List Piece
board_pieces b n [] = []
board_pieces b n (x ∷ xs) = piece.Entry (record { board = b; n = n; entry = x.0; items = x.1 }) ∷ board_pieces b (n + 1) xs

-- the boards are numbered from b on
abbrev pub boards_pieces : ℕ → List Shown → List Piece
boards_pieces b [] = []
boards_pieces b (j ∷ js) = board_pieces b 0 j ++ boards_pieces (b + 1) js

abbrev pub run_pieces : List Shown → List DocEnd → List ClientEnd → List ProjectEnd → List Piece
run_pieces js docs clients projects = boards_pieces 0 js ++ map piece.Document docs ++ map piece.Client clients ++ map piece.Project projects

abbrev pub run_told : List Shown → List DocEnd → List ClientEnd → List ProjectEnd → Told
run_told js docs clients projects = record { journals = map entries_shown js; items = flat_map items_shown js; docs = docs; clients = clients; projects = projects }

-- the lines of journals, none of them empty, and of what stands at the end are the report of just these
abbrev pub RunsReadBack : Type 0
RunsReadBack =
    (js : List Shown) (docs : List DocEnd) (clients : List ClientEnd) (projects : List ProjectEnd) → All (λ j. j ≢ []) js → All IsTyped (run_pieces js docs clients projects)
    → report_of (flat_map piece_line (run_pieces js docs clients projects)) ≡ Ok (run_told js docs clients projects)
