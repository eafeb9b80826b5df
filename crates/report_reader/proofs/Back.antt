-- The lines that are written are read back.
use Rattle.std.proofs.Common.{◌≡◌, ℕ, List, true, Some, refl, ap, ◌∙◌, arith}
use Rattle.std.specs.Prelude.{None, if◌then◌else◌}
use Rattle.std.specs.Str.{bytes_eq}
use Rattle.std.proofs.lemmas.Slice.Eq.{bytes_eq-Decides}
use Rattle.serde_json.specs.Data.{Members, object}
use Rattle.serde_json.specs.Written.{compact_text}
use Rattle.json_lines.specs.Lines.{value_of}
use Rattle.json_lines.proofs.Utf8Texts.{line_back}
use Rattle.report_reader.specs.declared.piece.Piece.{Piece}
use Rattle.report_reader.specs.declared.piece.Piece.TheVariants.{Entry, Document, Client, Project}
use Rattle.report_reader.specs.Fields.{and_then}
use Rattle.report_reader.specs.Pieces.{if_written, piece_members, piece_of, shown_by}
use Rattle.report_reader.specs.Typed.{IsTyped}
use Rattle.report_reader.proofs.Ends.{client_fine, client_shown, document_fine, document_shown, project_fine, project_shown}
use Rattle.report_reader.proofs.Fine.{AreFine}
use Rattle.report_reader.proofs.FineLines.{entry_fine}
use Rattle.report_reader.proofs.LineBack.{shown}

value_back : (ms : Members) → AreFine 4 ms → value_of (compact_text (object ms)) ≡ Some (object ms)
value_back ms fine = let s = fine.shallow in line_back (object ms) fine.formed fine.texts (omega (arith, s))

-- what a line shows, it would be written of
written_back : (p : Piece) → AreFine 4 (piece_members p) → shown_by (object (piece_members p)) ≡ Some p → piece_of (compact_text (object (piece_members p))) ≡ Some p
written_back p fine shows =
    let line = compact_text (object (piece_members p)) in
    ap (λ v. and_then (and_then v shown_by) (if_written line)) (value_back (piece_members p) fine)
    ∙ ap (λ s. and_then s (if_written line)) shows
    ∙ ap (λ b. if b then Some p else None) ((bytes_eq-Decides line line).1 refl)

pub piece_fine : (p : Piece) → IsTyped p → AreFine 4 (piece_members p)
piece_fine (Entry e) t = entry_fine e t
piece_fine (Document end) t = document_fine end t
piece_fine (Client end) t = client_fine end t
piece_fine (Project end) t = project_fine end t

piece_shown : (p : Piece) → IsTyped p → shown_by (object (piece_members p)) ≡ Some p
piece_shown (Entry e) t = shown e.board e.n e.entry.seat e.entry.line e.items t.board t.seat t.line t.items e.entry.act t.hands_out t.act
piece_shown (Document end) t = document_shown end t
piece_shown (Client end) t = client_shown end t
piece_shown (Project end) t = project_shown end t

pub lines_back : (p : Piece) → IsTyped p → piece_of (compact_text (object (piece_members p))) ≡ Some p
lines_back p t = written_back p (piece_fine p t) (piece_shown p t)
