use Rattle.std.proofs.Common.{List, sym, subst, ◌∙◌}
use Rattle.journal_entries.specs.declared.act.Entry.{Entry}
use Rattle.seat_turns.specs.Closings.{IsEachClosed}
use Rattle.seat_turns.proofs.Growing.{closed_among}
use Rattle.seat_turns.proofs.watch.look_closed.Goals as goal

pub read_on-requires : goal.read_on-requires
read_on-requires g c =
    subst (λ (j : List Entry). IsEachClosed c.args.watch.now j) (sym (c.as_slice.ensures ∙ c.journal.ensures.entries))
    (closed_among _ _ _ _ c.take-book.ensures.among c.requires.known)
