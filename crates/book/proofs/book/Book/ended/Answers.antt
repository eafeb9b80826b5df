use Rattle.std.proofs.Common.{◌≡◌, true, subst, sym}
use Rattle.journal_entries.specs.Journals.{entries}
use Rattle.source_sink.specs.Causes.{Rose}
use Rattle.book.specs.Failing.{has_failure}
use Rattle.book.specs.Shown.{Shown}
use Rattle.book.proofs.Failing.{failure_rose}
use Rattle.book.proofs.book.Book.ended.Goals as goal

pub returns-clause-causes : goal.returns-clause-causes
returns-clause-causes g c =
    subst (λ (v : Shown). has_failure v.journal ≡ true → Rose v.start.faults v.faults) c.self.view_is
    (failure_rose (record { faults = g.K.Keeper.count c.self.inside.first.value; documents = g.K.Keeper.documents c.self.inside.first.value }) _ (entries c.self.inside.journal) c.self.invariant.book.stands.legal c.self.invariant.keeps)
