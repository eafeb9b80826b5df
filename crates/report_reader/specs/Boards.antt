-- The journals of the boards, while they are read.
use Rattle.std.specs.Prelude.{List, [], ◌∷◌, ◌++◌}
use Rattle.journal_entries.specs.declared.act.Entry.{Entry}

-- the boards that are done, and the last one, where it has an entry
abbrev pub boards_of : List (List Entry) → List Entry → List (List Entry)
boards_of done [] = done
boards_of done (e ∷ es) = done ++ (e ∷ es) ∷ []
