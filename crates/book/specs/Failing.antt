-- Whether a journal tells of a fault of the keeper.
use Rattle.std.specs.Prelude.{Bool, true, false, List}
use Rattle.std.specs.List.{list_any}
use Rattle.journal_entries.specs.declared.act.Act.{Act}
use Rattle.journal_entries.specs.declared.act.Act.TheVariants.{LoadFailed, FlushFailed}
use Rattle.journal_entries.specs.declared.act.Entry.{Entry}

-- an act that the keeper's failing made
abbrev pub is_failure : Act → Bool
is_failure (LoadFailed doc token from to) = true
is_failure (FlushFailed doc token from to) = true
is_failure _ = false

abbrev pub has_failure : List Entry → Bool
has_failure journal = list_any (λ e. is_failure e.act) journal
