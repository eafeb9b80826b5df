-- Which tokens a document was unloaded under.
use Rattle.std.specs.Prelude.{ℕ, List, [], ◌∷◌}
use Rattle.journal_entries.specs.declared.act.Act.{Act}
use Rattle.journal_entries.specs.declared.act.Act.TheVariants.{Unloaded}

abbrev pub unloaded_by : Act → List ℕ
unloaded_by (Unloaded doc token) = token ∷ []
unloaded_by _ = []
