-- When a journal is sure: its keeper tells its documents, or no document was loaded from it.
use Rattle.std.specs.Prelude.{◌≡◌, ◌⊎◌, Bool, true, false, IsTrue, List, [], ◌∷◌, ◌++◌}
use Rattle.std.specs.List.{list_any}
use Rattle.journal_entries.specs.declared.act.Act.{Act}
use Rattle.journal_entries.specs.declared.act.Act.TheVariants.{Loaded}
use Rattle.journal_entries.specs.declared.act.Entry.{Entry}
use Rattle.journal_rules.specs.Legal.{IsAllowed, IsLegal}
use Rattle.loading_rules.specs.LegalBut.{IsAllowedBut, IsLegalBut}

abbrev pub is_loaded : Act → Bool
is_loaded (Loaded doc token v) = true
is_loaded _ = false

abbrev pub has_loaded : List Entry → Bool
has_loaded journal = list_any (λ e. is_loaded e.act) journal

-- whether a type of keepers tells is given
abbrev pub IsSure : Bool → List Entry → Type 0
IsSure tells journal = IsTrue tells ⊎ (has_loaded journal ≡ false)

-- an entry is allowed over keepers of such a type: wholly where the journal is sure with it
pub record IsAllowedOver (tells : Bool) (before : List Entry) (e : Entry) : Type 0 where
  pub but : IsAllowedBut before e.seat e.act
  pub whole : IsSure tells (before ++ e ∷ []) → IsAllowed before e.seat e.act

-- and a journal is legal over them
pub record IsLegalOver (tells : Bool) (journal : List Entry) : Type 0 where
  pub but : IsLegalBut journal
  pub whole : IsSure tells journal → IsLegal journal
