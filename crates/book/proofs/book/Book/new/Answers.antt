use Rattle.std.proofs.Common.{◌∙◌, [], ap}
use Rattle.journal_entries.specs.Journals.{entries}
use Rattle.book.proofs.Booking.{new_book}
use Rattle.book.proofs.Roomed.{roomed_none}
use Rattle.project_histories.proofs.Histories.{histories_none}
use Rattle.book.proofs.Stored.{keeps_none}
use Rattle.turn_rules.proofs.Owning.{owned_none, owned_same}
use Rattle.book.proofs.book.Book.new.Goals as goal

pub invariant_of-result : goal.invariant_of-result
invariant_of-result g c =
    let empty = c.reserve.ensures.entries ∙ c.new-journal.ensures in
    record {
      book = rw c.new.ensures (new_book c.reserve.new.self c.owed_at_first-owed.result c.args.drivers empty c.owed_at_first-owed.ensures c.in-Ok.ensures.room);
      roomed = roomed_none c.new-2.result (entries c.reserve.new.self) empty c.new-2.ensures;
      histories = histories_none c.new-3.result (entries c.reserve.new.self) empty c.new-3.ensures.projects c.new-3.ensures.places;
      owned = owned_same [] (entries c.reserve.new.self) empty (owned_none c.args.drivers);
      keeps = keeps_none (entries c.reserve.new.self) empty (ap (λ k. record { faults = g.K.Keeper.count k; documents = g.K.Keeper.documents k }) c.of-first.ensures);
    }
