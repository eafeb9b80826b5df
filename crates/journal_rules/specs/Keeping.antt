-- What of a document was put into the keeper, and whether it is cached.
use Rattle.std.specs.Prelude.{ℕ, ◌==◌, Bool, true, false, List, [], ◌∷◌, Option, Some, None, if◌then◌else◌}
use Rattle.journal_entries.specs.declared.act.Act.{Act}
use Rattle.journal_entries.specs.declared.act.Act.TheVariants.{Made, Loaded, Unloaded, Flushed, FlushFailed, LoadFailed, LoadDiffers}
use Rattle.journal_entries.specs.declared.act.Entry.{Entry}
use Rattle.journal_rules.specs.Folds.{gathered, folded}

-- the kept version: that of the last flush
abbrev pub kept_by : ℕ → Act → Option ℕ → Option ℕ
kept_by d (Flushed doc token v) now = if doc == d then Some v else now
kept_by d _ now = now

unfoldable pub kept : ℕ → List Entry → Option ℕ
kept d journal = folded (λ before e now. kept_by d e.act now) None journal

-- a document is cached from its making on, and each loading, until it is unloaded
abbrev pub cached_by : ℕ → Act → Bool → Bool
cached_by d (Made doc name project first base) now = if doc == d then true else now
cached_by d (Loaded doc token v) now = if doc == d then true else now
cached_by d (Unloaded doc token) now = if doc == d then false else now
cached_by d _ now = now

unfoldable pub cached : ℕ → List Entry → Bool
cached d journal = folded (λ before e now. cached_by d e.act now) false journal

-- how the last loading of a document went, and under which token it failed
pub data Loading : Type 0 where
  NeverTried : Loading
  Succeeded : Loading
  FailedUnder : Option ℕ → Loading

abbrev pub loading_by : ℕ → Act → Loading → Loading
loading_by d (Loaded doc token v) now = if doc == d then Succeeded else now
loading_by d (LoadFailed doc token from to) now = if doc == d then FailedUnder token else now
loading_by d (LoadDiffers doc token had got) now = if doc == d then FailedUnder token else now
loading_by d _ now = now

unfoldable pub loading : ℕ → List Entry → Loading
loading d journal = folded (λ before e now. loading_by d e.act now) NeverTried journal

-- the keeper's counts of faults as calls of it that failed had ended
abbrev pub fault_of : Act → List ℕ
fault_of (LoadFailed doc token from to) = to ∷ []
fault_of (FlushFailed doc token from to) = to ∷ []
fault_of _ = []

unfoldable pub faults : List Entry → List ℕ
faults journal = gathered (λ before e. fault_of e.act) journal
