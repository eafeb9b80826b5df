-- The fence, over every keeper: to the holder of a document's lock the document stays as it was.
use Rattle.std.specs.Prelude.{◌≡◌, ℕ, false, List, ◌++◌, Some, All}
use Rattle.journal_entries.specs.declared.act.Entry.{Entry}
use Rattle.journal_rules.specs.Documents.{is_in}
use Rattle.journal_rules.specs.Fence.{IsSameOf}
use Rattle.journal_rules.specs.Locks.{Acquiring, last_acquiring, used_by}
use Rattle.loading_rules.specs.LegalBut.{IsLegalBut}

abbrev pub IsFencedBut : List Entry → List Entry → ℕ → Acquiring → Type 0
IsFencedBut early more d a =
    IsLegalBut (early ++ more) → last_acquiring d early ≡ Some a → last_acquiring d (early ++ more) ≡ Some a
    → All (λ e. is_in a.token (used_by e.act) ≡ false) more
    → IsSameOf d early (early ++ more)
