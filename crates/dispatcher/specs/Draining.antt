-- What draining a document does, and how it ends.
use Rattle.std.specs.Prelude.{◌≡◌, ◌⊎◌, ℕ, ◌<◌, zero, suc, List, [], None}
use Rattle.journal_entries.specs.declared.act.Act.{Act}
use Rattle.journal_entries.specs.declared.act.Entry.{Entry}
use Rattle.journal_rules.specs.Documents.{waiting}
use Rattle.turn_rules.specs.Draining.{DrainsOne, HeldUp, StopsAt}
use Rattle.turn_rules.specs.Turns.{Alone}
use Rattle.book.specs.Calls.{acquire_refused}
use Rattle.dispatcher.specs.declared.dispatch.DrainEnd.{DrainEnd}
use Rattle.dispatcher.specs.declared.dispatch.DrainEnd.TheVariants.{Done, Busy, Memory}

-- so many updates of a document are drained, one behind the other
abbrev pub DrainsMany : (Act → Entry) → ℕ → ℕ → List Entry → List Entry → Type 0
DrainsMany by doc zero left last = last ≡ left
DrainsMany by doc (suc n) left last = (mid : List Entry) × DrainsMany by doc n left mid × DrainsOne by Alone doc mid last

-- the count is of the updates that were drained. All that may be were, or nothing waits; or the document is held; or it could be acquired, and memory was wanting for that
abbrev pub Drained : (Act → Entry) → ℕ → ℕ → List Entry → List Entry → DrainEnd → Type 0
Drained by doc most left last (Done count) = DrainsMany by doc count left last × ((count ≡ most) ⊎ ((count < most) × (waiting doc last ≡ [])))
Drained by doc most left last (Busy count busy) = DrainsMany by doc count left last × (count < most) × StopsAt doc last (HeldUp busy)
Drained by doc most left last (Memory count) = DrainsMany by doc count left last × (count < most) × (acquire_refused doc last ≡ None)
