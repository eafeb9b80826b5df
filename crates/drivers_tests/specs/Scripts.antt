-- Scripts of one document.
use Rattle.std.specs.Prelude.{◌≡◌, ◌&&◌, Bool, true, List, [], ◌∷◌, is_some, ⊤}
use Rattle.std.specs.List.{list_all}
use Rattle.session_lines.specs.Script.{session_of}
use Rattle.session_lines.specs.declared.line.Line.{Line}
use Rattle.script_driver.specs.Fitting.{is_built}

-- a session does the line, and it is built
abbrev pub is_of_a_session : Line → Bool
is_of_a_session line = is_some (session_of line) && is_built line

-- the first line is built, and each other is of a session, too
abbrev pub IsOfOneDocument : List Line → Type 0
IsOfOneDocument [] = ⊤
IsOfOneDocument (first ∷ rest) = (is_built first ≡ true) × (list_all is_of_a_session rest ≡ true)
