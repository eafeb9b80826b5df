-- What a line of a report shows.
use Rattle.std.specs.Prelude.{ℕ, List, Option, Some, None, option_map, if◌then◌else◌}
use Rattle.std.specs.Str.{bytes_eq}
use Rattle.serde_json.specs.Data.{Data, Members, object}
use Rattle.serde_json.specs.Written.{compact_text}
use Rattle.json_lines.specs.Lines.{value_of}
use Rattle.report_text.specs.Clients.{client_members}
use Rattle.report_text.specs.Documents.{document_members}
use Rattle.report_text.specs.Entries.{entry_members}
use Rattle.report_text.specs.Projects.{project_members}
use Rattle.report_reader.specs.declared.kind.LineKind.{LineKind}
use Rattle.report_reader.specs.declared.kind.LineKind.TheVariants as kind
use Rattle.report_reader.specs.declared.piece.Piece.{Piece}
use Rattle.report_reader.specs.declared.piece.Piece.TheVariants.{Entry, Document, Client, Project}
use Rattle.report_reader.specs.Clients.{client_of}
use Rattle.report_reader.specs.Documents.{document_of}
use Rattle.report_reader.specs.Entries.{entry_of}
use Rattle.report_reader.specs.Fields.{and_then}
use Rattle.report_reader.specs.Kinds.{line_kind}
use Rattle.report_reader.specs.Projects.{project_of}

-- what a value of a kind shows
abbrev pub shown_as : Data → LineKind → Option Piece
shown_as d (kind.Entry act) = option_map Entry (entry_of act d)
shown_as d kind.Document = option_map Document (document_of d)
shown_as d kind.Client = option_map Client (client_of d)
shown_as d kind.Project = option_map Project (project_of d)

abbrev pub shown_by : Data → Option Piece
shown_by d = and_then (line_kind d) (shown_as d)

-- the members of the line that is written of it
abbrev pub piece_members : Piece → Members
piece_members (Entry e) = entry_members e.board e.n e.items e.entry
piece_members (Document end) = document_members end
piece_members (Client end) = client_members end
piece_members (Project end) = project_members end

-- a line shows what it would be written of, and nothing else
abbrev pub if_written : List ℕ → Piece → Option Piece
if_written line piece = if bytes_eq line (compact_text (object (piece_members piece))) then Some piece else None

abbrev pub piece_of : List ℕ → Option Piece
piece_of line = and_then (and_then (value_of line) shown_by) (if_written line)
