-- The end of a run: seat 0 goes on alone, for no line.
use Rattle.std.specs.Prelude.{◌≡◌, ◌⊎◌, ℕ, zero, suc, Bool, true, false, List, [], ◌∷◌, ◌++◌, length, map, Option, Some, None}
use Rattle.expiring_lock.specs.declared.lock.TheConstants.{LOCK_LIFE}
use Rattle.journal_entries.specs.declared.update.Update.{Update}
use Rattle.journal_entries.specs.declared.act.Act.{Act}
use Rattle.journal_entries.specs.declared.act.Act.TheVariants.{Ticked, Sent}
use Rattle.journal_entries.specs.declared.act.Entry.{Entry}
use Rattle.journal_rules.specs.Client.{client, sending}
use Rattle.journal_rules.specs.Documents.{makings, waiting}
use Rattle.journal_rules.specs.Locks.{clock}
use Rattle.ending_rules.specs.Rounds.{needs_round}
use Rattle.turn_rules.specs.Draining.{Done, Drains}
use Rattle.turn_rules.specs.Flushing.{FlushesFrom}
use Rattle.run_rules.specs.Lines.{Gets}
use Rattle.run_rules.specs.Plain.{needs_flush}
use Rattle.turn_rules.specs.Turns.{Alone, entry_by}
use Rattle.turn_rules.specs.Clients.{is_joined}

-- an entry of the end
abbrev pub at_end : Act → Entry
at_end = entry_by 0 None

-- the same step for each number below this one, in order
abbrev pub InOrder : (ℕ → List Entry → List Entry → Type 0) → ℕ → List Entry → List Entry → Type 0
InOrder Step zero left last = last ≡ left
InOrder Step (suc n) left last = (mid : List Entry) × InOrder Step n left mid × Step n mid last

-- a document is drained until nothing waits
abbrev pub DrainsDry : ℕ → List Entry → List Entry → Type 0
DrainsDry doc left last = (most : ℕ) × Drains at_end Alone doc most left last Done × (waiting doc last ≡ [])

-- a client that is joined gets all of its mail; then it sends again what is in flight, or sends what is pending
abbrev pub sent_acts : Option Update → List Act
sent_acts (Some u) = Sent u ∷ []
sent_acts None = []

abbrev pub sending_acts : ℕ → List Entry → List Act
sending_acts c journal = sent_acts (sending c (client c journal) (clock journal))

abbrev pub CatchesUpIf : Bool → ℕ → List Entry → List Entry → Type 0
CatchesUpIf false c left last = last ≡ left
CatchesUpIf true c left last = (mid : List Entry) × Gets at_end Alone c left mid × (last ≡ mid ++ map at_end (sending_acts c mid))

abbrev pub CatchesUp : ℕ → List Entry → List Entry → Type 0
CatchesUp c left last = CatchesUpIf (is_joined (client c left).state) c left last

-- a round: each document is drained, and each client catches up
abbrev pub IsRound : ℕ → List Entry → List Entry → Type 0
IsRound sessions left last =
    (mid : List Entry) × InOrder DrainsDry (length (makings left)) left mid × InOrder CatchesUp sessions mid last

-- rounds, at most so many, as long as one is needed
abbrev pub Rounds : ℕ → ℕ → List Entry → List Entry → Type 0
Rounds sessions zero left last = last ≡ left
Rounds sessions (suc most) left last =
    ((needs_round sessions left ≡ false) × (last ≡ left))
    ⊎ ((needs_round sessions left ≡ true) × ((mid : List Entry) × IsRound sessions left mid × Rounds sessions most mid last))

-- a document is flushed where it needs it
abbrev pub FlushesIf : Bool → ℕ → List Entry → List Entry → Type 0
FlushesIf false doc left last = last ≡ left
FlushesIf true doc left last = FlushesFrom at_end Alone (λ look. []) doc left last

abbrev pub FlushesAtEnd : ℕ → List Entry → List Entry → Type 0
FlushesAtEnd doc left last = FlushesIf (needs_flush doc left) doc left last

-- so a run ends: the clock goes on until every lock has expired, there are at most three rounds, and then each document is flushed that needs it
abbrev pub Ends : ℕ → List Entry → List Entry → Type 0
Ends sessions left last = (mid : List Entry) × Rounds sessions 3 (left ++ at_end (Ticked LOCK_LIFE) ∷ []) mid × InOrder FlushesAtEnd (length (makings mid)) mid last
