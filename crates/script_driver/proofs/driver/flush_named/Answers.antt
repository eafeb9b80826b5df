use Rattle.std.proofs.Common.{◌≡◌, ◌∙◌, ◌∷◌, ◌++◌, [], Some, refl, sym, ap, subst}
use Rattle.std.specs.Prelude.{None}
use Rattle.std.proofs.lemmas.Result.{on_ok_weaker}
use Rattle.journal_entries.specs.declared.act.Act.TheVariants.{Declined}
use Rattle.journal_rules.specs.Locks.{next_token}
use Rattle.turn_rules.specs.Turns.{entry_by}
use Rattle.book.specs.Shown.{Shown}
use Rattle.script_driver.proofs.Apart.{wrote}
use Rattle.script_driver.proofs.Flushes.{done_puts, failed_puts, flush_apart, flush_done}
use Rattle.journal_entries.specs.declared.why.Why.TheVariants.{NoDoc}
use Rattle.book.proofs.Going.{goes_further}
use Rattle.script_driver.proofs.Resting.{goes_one}
use Rattle.script_driver.proofs.Failing.{failed_behind, failed_kept, flush_refused, flush_wanting}
use Rattle.script_driver.proofs.driver.flush_named.Goals as goal

pub returns-in-Done-clause-flushes : goal.returns-in-Done-clause-flushes
returns-in-Done-clause-flushes g c =
    let by = entry_by c.args.by.seat c.args.by.line in let old = c.args.book.now.journal in let new = c.flush_doc.new.book.journal in
    let put = done_puts by c.in-Some.doc old new c.in-Done.ensures.flushes in
    flush_done by c.args.session c.in-Some.doc c.args.name.now old new put.0 (sym c.find.ensures ∙ c.in-Some.is) put.1 put.2

pub returns-in-Done-clause-apart : goal.returns-in-Done-clause-apart
returns-in-Done-clause-apart g c =
    let by = entry_by c.args.by.seat c.args.by.line in let old = c.args.book.now.journal in let new = c.flush_doc.new.book.journal in
    let put = done_puts by c.in-Some.doc old new c.in-Done.ensures.flushes in
    flush_apart c.args.by.seat c.args.by.line (next_token old) c.in-Some.doc old new put.0 put.1

pub returns-in-Failed-clause-flushes : goal.returns-in-Failed-clause-flushes
returns-in-Failed-clause-flushes g c =
    let by = entry_by c.args.by.seat c.args.by.line in let old = c.args.book.now.journal in let new = c.flush_doc.new.book.journal in
    let put = failed_puts by c.in-Some.doc old new _ _ c.in-Failed.ensures.flushes in
    flush_done by c.args.session c.in-Some.doc c.args.name.now old new put.0 (sym c.find.ensures ∙ c.in-Some.is) put.1 put.2

pub returns-in-Failed-clause-apart : goal.returns-in-Failed-clause-apart
returns-in-Failed-clause-apart g c =
    let by = entry_by c.args.by.seat c.args.by.line in let old = c.args.book.now.journal in let new = c.flush_doc.new.book.journal in
    let put = failed_puts by c.in-Some.doc old new _ _ c.in-Failed.ensures.flushes in
    flush_apart c.args.by.seat c.args.by.line (next_token old) c.in-Some.doc old new put.0 put.1

pub returns-in_default-clause-goes_on : goal.returns-in_default-clause-goes_on
returns-in_default-clause-goes_on g c = on_ok_weaker c.decline.result (λ is. goes_one c.args.book.now c.decline.new.self c.args.by.seat c.args.by.line (Declined c.args.session NoDoc) is) c.decline.ensures.ok

pub returns-in-Done-clause-goes_on : goal.returns-in-Done-clause-goes_on
returns-in-Done-clause-goes_on g c = c.flush_doc.ensures.goes

pub returns-in-Failed-clause-goes_on : goal.returns-in-Failed-clause-goes_on
returns-in-Failed-clause-goes_on g c = c.flush_doc.ensures.goes

pub returns-in-Refused-clause-goes_on : goal.returns-in-Refused-clause-goes_on
returns-in-Refused-clause-goes_on g c =
    let mid = c.flush_doc.new.book in let new = c.decline-in-Refused.new.self in
    on_ok_weaker c.decline-in-Refused.result (λ is. goes_further c.args.book.now mid new c.flush_doc.ensures.goes (goes_one mid new c.args.by.seat c.args.by.line (Declined c.args.session c.in-Refused.why) is)) c.decline-in-Refused.ensures.ok

pub returns-in_default-clause-failed : goal.returns-in_default-clause-failed
returns-in_default-clause-failed g c = failed_kept c.args.by.seat c.decline.result c.args.book.now c.decline.new.self c.decline.ensures.kept

pub returns-in-Refused-clause-failed : goal.returns-in-Refused-clause-failed
returns-in-Refused-clause-failed g c =
    failed_behind c.args.by.seat c.decline-in-Refused.result c.args.book.now c.flush_doc.new.book c.decline-in-Refused.new.self
    (flush_refused c.args.by.seat c.args.book.now c.flush_doc.new.book c.flush_doc.ensures.goes c.in-Refused.ensures.flushes.1) c.decline-in-Refused.ensures.kept

pub returns-in-Memory-clause-failed : goal.returns-in-Memory-clause-failed
returns-in-Memory-clause-failed g c = flush_wanting c.args.by.seat c.args.by.line c.in-Some.doc c.args.book.now c.flush_doc.new.book c.flush_doc.ensures.goes c.in-Memory.ensures.flushes
