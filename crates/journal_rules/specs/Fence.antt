-- The fence: to the holder of a document's lock the document stays as it was.
use Rattle.std.specs.Prelude.{◌≡◌, ℕ, ◌-◌, true, false, List, ◌∷◌, ◌++◌, length, drop, Some, All}
use Rattle.journal_entries.specs.declared.update.Update.{Update}
use Rattle.journal_entries.specs.declared.act.Entry.{Entry}
use Rattle.journal_rules.specs.Documents.{making, applied_list, operations, version, text_at, waiting, is_in}
use Rattle.journal_rules.specs.Tracking.{cells_at}
use Rattle.journal_rules.specs.Deciding.{decided, greatest_age}
use Rattle.journal_rules.specs.Locks.{Acquiring, last_acquiring, used_by}
use Rattle.journal_rules.specs.Keeping.{cached}
use Rattle.journal_rules.specs.Legal.{IsLegal}

-- the last so many of a list
abbrev pub last_of : {A : Type 0} → ℕ → List A → List A
last_of n list = drop (length list - n) list

-- two journals say the same of a document, but that more may wait for it in the later one; and it is cached there where it was cached and something waited
pub record IsSameOf (d : ℕ) (early late : List Entry) : Type 0 where
  pub making_is : making d late ≡ making d early
  pub applied_is : applied_list d late ≡ applied_list d early
  pub version_is : version d late ≡ version d early
  pub text_is : (n : ℕ) → text_at d n late ≡ text_at d n early
  pub cells_is : (n : ℕ) → cells_at d n late ≡ cells_at d n early
  pub recent_is : last_of greatest_age (operations d late) ≡ last_of greatest_age (operations d early)
  pub more : List ℕ
  pub waiting_is : waiting d late ≡ waiting d early ++ more
  pub first_is : (ticket : ℕ) (rest : List ℕ) → waiting d early ≡ ticket ∷ rest → waiting d late ≡ ticket ∷ (rest ++ more)
  pub cached_is : (ticket : ℕ) (rest : List ℕ) → waiting d early ≡ ticket ∷ rest → cached d early ≡ true → cached d late ≡ true
  pub decided_is : (u : Update) → decided late d u ≡ decided early d u

-- so it is where the last acquiring of the document is the same in both, and no update was committed under its token in between
abbrev pub IsFenced : List Entry → List Entry → ℕ → Acquiring → Type 0
IsFenced early more d a =
    IsLegal (early ++ more) → last_acquiring d early ≡ Some a → last_acquiring d (early ++ more) ≡ Some a
    → All (λ e. is_in a.token (used_by e.act) ≡ false) more
    → IsSameOf d early (early ++ more)
