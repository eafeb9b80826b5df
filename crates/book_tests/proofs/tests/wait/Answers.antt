use Rattle.std.proofs.Common.{refl, ap}
use Rattle.journal_entries.specs.declared.act.Act.TheVariants.{Ticked}
use Rattle.turn_rules.specs.Turns.{entry_by}
use Rattle.book.specs.Shown.{Shown}
use Rattle.book.proofs.Fenced.{stays_on}
use Rattle.book_tests.proofs.tests.wait.Goals as goal

pub returns : goal.returns
returns c =
    stays_on c.args.first.now.look c.args.book.now.journal c.tick.new.self.journal (entry_by c.by.result.seat c.by.result.line (Ticked c.args.ms)) (ap (λ (v : Shown). v.journal) c.in-Ok.ensures.ok.1) c.journal-journal.ensures.legal (λ own. refl) c.requires
