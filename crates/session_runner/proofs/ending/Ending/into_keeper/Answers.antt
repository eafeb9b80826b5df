use Rattle.std.proofs.Common.{◌≤◌, sym, subst}
use Rattle.source_sink.specs.Causes.{Rose}
use Rattle.book.specs.Stored.{AreStored}
use Rattle.session_runner.specs.declared.ending.Ending.{Ending}
use Rattle.session_runner.specs.Ending.{GivesBack}
use Rattle.session_runner.proofs.ending.Ending.into_keeper.Goals as goal

pub returns-in-Done : goal.returns-in-Done
returns-in-Done g c =
    let k = c.ended.result.0 in let book = c.in-Done.run'.book in let by = c.ended.ensures in
    subst (λ e. GivesBack g.K.Keeper.tells g.K.Keeper.documents g.K.Keeper.count e k) (sym c.in-Done.is)
    (record {
      documents_are = by.keeper.0;
      later = subst (λ n. book.start.faults ≤ n) (sym by.keeper.1) by.later;
      stored = λ told. subst (AreStored (g.K.Keeper.documents k)) by.entries (by.stored told);
      causes = λ some. subst (λ n. Rose book.start.faults n) (sym by.keeper.1) (by.causes some);
    })
