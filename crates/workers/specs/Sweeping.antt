-- What a worker leaves at its end.
use Rattle.std.specs.Prelude.{◌≡◌, ◌≢◌, ◌⊎◌, ℕ, ◌+◌, ◌<◌, true, false, not, List, [], ◌++◌, length}
use Rattle.std.specs.List.{list_all}
use Rattle.journal_entries.specs.declared.act.Entry.{Entry}
use Rattle.journal_rules.specs.Documents.{makings, waiting}
use Rattle.journal_rules.specs.Locks.{Acquiring, HeldBy, is_expired}
use Rattle.seat_turns.specs.Closings.{IsEachClosed}
use Rattle.seat_turns.specs.Seats.{acquires}
use Rattle.wake_queue.specs.declared.rule.Done.{Done}
use Rattle.wake_queue.specs.Wakes.{Pass, WasEmpty}

-- another seat holds the document, by a lock that hasn't expired
pub record IsHeldByOther (seat doc : ℕ) (look : List Entry) : Type 0 where
  pub acquiring : Acquiring
  pub held : HeldBy doc acquiring look
  pub unexpired : is_expired doc look ≡ false
  pub other : acquiring.seat ≢ seat

-- a seat has swept a document: at a look behind the last closing of a driver nothing waited on it, or another seat held it; and from then on this seat acquired it no more
pub record IsSweptBy (drivers seat doc : ℕ) (seen : List Entry) : Type 0 where
  pub look : List Entry
  pub rest : List Entry
  pub seen_is : seen ≡ look ++ rest
  pub closed : IsEachClosed drivers look
  pub no_more : list_all (λ e. not (acquires seat doc e)) rest ≡ true
  pub left : (waiting doc look ≡ []) ⊎ IsHeldByOther seat doc look

-- each document that was made
abbrev pub AreSwept : ℕ → ℕ → List Entry → Type 0
AreSwept drivers seat seen = (doc : ℕ) → doc < length (makings seen) → IsSweptBy drivers seat doc seen

-- the last pop of a pass found the queue empty
abbrev pub LastPopWasEmpty : (List ℕ → List Done → Type 0) → Pass → Type 0
LastPopWasEmpty past pass = (last : Pass) × WasEmpty past last × (pass.popped ≡ last.popped) × (pass.empties ≡ last.empties + 1)
