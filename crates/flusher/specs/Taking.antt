-- A document that a seat took up, to put it into the keeper.
use Rattle.std.specs.Prelude.{◌≡◌, ◌≢◌, ◌⊎◌, ℕ, false, List, [], ◌∷◌, ◌++◌, Option, Some, None, Result, Ok, Err, All}
use Rattle.std.specs.declared.alloc.AllocError.{AllocError}
use Rattle.ranges_tracker.specs.Kept.{IsKept}
use Rattle.journal_entries.specs.declared.act.Act.{Act}
use Rattle.journal_entries.specs.declared.act.Entry.{Entry}
use Rattle.journal_entries.specs.declared.why.Why.{Why}
use Rattle.journal_rules.specs.Documents.{is_in, version}
use Rattle.journal_rules.specs.Keeping.{kept}
use Rattle.journal_rules.specs.Locks.{next_token, released, used_by}
use Rattle.turn_rules.specs.Locking.{acquired, unavailable}
use Rattle.book.specs.Flushing.{IsKeptLook}
use Rattle.book.specs.declared.faults.KeptLook.{KeptLook}

-- by a look of the journal as it then was, under whose token nothing was committed since, and which this seat didn't let go
pub record IsTakenUp (seat : ℕ) (look : KeptLook) (journal : List Entry) : Type 0 where
  pub early : List Entry
  pub more : List Entry
  pub journal_is : journal ≡ early ++ more
  pub looked : IsKeptLook early seat look
  pub ready : IsKept look.text look.version look.ranges
  pub unused : All (λ e. is_in look.token (used_by e.act) ≡ false) more
  pub unreleased : is_in look.token (released journal) ≡ false

-- a document needs no flush: its version is kept; or it can't have one, since another holds it or it isn't cached
abbrev pub IsLeftAlone : ℕ → List Entry → Type 0
IsLeftAlone doc look = (kept doc look ≡ Some (version doc look)) ⊎ ((why : Why) × (unavailable doc look ≡ Some why))

-- a document is acquired whose version isn't kept, and so it is taken up
pub record IsAcquired (by : Act → Entry) (seat doc : ℕ) (at : List Entry) (look : KeptLook) (last : List Entry) : Type 0 where
  pub unkept : kept doc at ≢ Some (version doc at)
  pub free : unavailable doc at ≡ None
  pub doc_is : look.doc ≡ doc
  pub token_is : look.token ≡ next_token at
  pub last_is : last ≡ at ++ by (acquired doc at) ∷ []
  pub taken : IsTakenUp seat look last

-- a turn in which a document is acquired, where it needs a flush and can have one. Where memory is wanting, nothing is done
module _ (by : Act → Entry) (Next : List Entry → List Entry → Type 0) where
  abbrev pub AcquiresIfNeeded : ℕ → ℕ → List Entry → List Entry → Result (Option KeptLook) AllocError → Type 0
  AcquiresIfNeeded seat doc left last (Ok (Some look)) = (at : List Entry) × Next left at × IsAcquired by seat doc at look last
  AcquiresIfNeeded seat doc left last (Ok None) = Next left last × IsLeftAlone doc last
  AcquiresIfNeeded seat doc left last (Err fault) = Next left last
