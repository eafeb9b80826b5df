-- The index that is kept of the lines so far.
use Rattle.std.specs.Prelude.{◌≡◌, ℕ, List, Bool, Option, Some, None}
use Rattle.std.specs.List.{list_all}
use Rattle.session_lines.specs.Names.{with_name}
use Rattle.session_lines.specs.Script.{makes_document, documents_of, home_document}
use Rattle.session_lines.specs.declared.line.Line.{Line}

-- documents, homes and the flag are those of the lines
pub record IsIndexed (lines : List Line) (documents : List (List ℕ)) (homes : ℕ → Option (List ℕ)) (only_documents : Bool) : Type 0 where
  pub documents_are : documents ≡ documents_of lines
  pub homes_are : (s : ℕ) → homes s ≡ home_document s lines
  pub only_documents_is : only_documents ≡ list_all makes_document lines

-- the names with one more, where there is one
abbrev pub with_optional_name : List (List ℕ) → Option (List ℕ) → List (List ℕ)
with_optional_name names None = names
with_optional_name names (Some name) = with_name names name
