use Rattle.std.proofs.Common.{sym, ap, ◌∙◌}
use Rattle.turn_rules.specs.Turns.{entry_by}
use Rattle.turn_rules.specs.Locking.{acquired}
use Rattle.book.specs.Shown.{Shown}
use Rattle.book.proofs.Fenced.{begins, stays_on}
use Rattle.book_tests.proofs.tests.overtaken.Goals as goal

pub returns-clause-first : goal.returns-clause-first
returns-clause-first c =
    stays_on c.args.first.now.look c.args.book.now.journal c.acquire.new.self.journal (entry_by c.by.result.seat c.by.result.line (acquired 0 c.args.book.now.journal)) (ap (λ (v : Shown). v.journal) c.in-Ok.ensures.acquired) c.journal-journal.ensures.legal
    (λ own. absurd (c.requires.apart (sym own ∙ c.by.ensures))) c.requires.looked

pub returns-clause-looks : goal.returns-clause-looks
returns-clause-looks c = begins c.in-Ok.look c.acquire.new.self.journal c.in-Ok.ensures.looks.0
