use Rattle.std.proofs.Common.{◌≡◌, ◌∙◌, ◌<◌, ℕ, length, [], Some, refl, sym, ap, subst, arith, append-nil}
use Rattle.std.proofs.lemmas.Result.{on_ok_weaker}
use Rattle.journal_entries.specs.declared.act.Act.TheVariants.{Declined}
use Rattle.journal_entries.specs.declared.why.Why.TheVariants.{Busy}
use Rattle.journal_rules.specs.Documents.{waiting}
use Rattle.journal_rules.specs.Locks.{next_token}
use Rattle.turn_rules.specs.Draining.{Done, Drains, HeldUp}
use Rattle.turn_rules.specs.Turns.{Alone, entry_by}
use Rattle.book.specs.Shown.{Shown}
use Rattle.script_driver.proofs.Apart.{apart_on, many_drained, wrote}
use Rattle.dispatcher.proofs.Draining.{drains_done, drains_held_up}
use Rattle.script_driver.proofs.Lines.{drains_named}
use Rattle.script_driver.proofs.Failing.{drained_own, failed_behind, failed_kept}
use Rattle.script_driver.proofs.driver.drain_named.Goals as goal

pub returns-in-Done-clause-drains : goal.returns-in-Done-clause-drains
returns-in-Done-clause-drains g c =
    let by = entry_by c.args.by.seat c.args.by.line in let old = c.args.book.now.journal in let new = c.drain.new.book.journal in let doc = c.in-Some.doc in
    let wait = c.waiting-most.ensures in let some = c.if-most-eq0.false in
    drains_named by c.args.session doc c.args.name.now old new new Done (sym c.find.ensures ∙ c.in-Some.is) (omega (arith, wait, some))
    (subst (λ (n : ℕ). Drains by Alone doc n old new Done) wait (drains_done by doc c.waiting-most.result c.in-Done.count old new c.in-Done.ensures.drained)) (sym (append-nil new))

pub returns-in-Done-clause-apart : goal.returns-in-Done-clause-apart
returns-in-Done-clause-apart g c = many_drained c.args.by.seat c.args.by.line c.in-Some.doc c.in-Done.count c.args.book.now.journal c.drain.new.book.journal c.in-Done.ensures.drained.0

pub returns-in-Busy-clause-drains : goal.returns-in-Busy-clause-drains
returns-in-Busy-clause-drains g c =
    let by = entry_by c.args.by.seat c.args.by.line in let old = c.args.book.now.journal in let mid = c.drain.new.book.journal in let doc = c.in-Some.doc in
    let wait = c.waiting-most.ensures in let some = c.if-most-eq0.false in
    on_ok_weaker c.decline-in-Busy.result
    (λ is. drains_named by c.args.session doc c.args.name.now old mid c.decline-in-Busy.new.self.journal (HeldUp c.in-Busy.busy) (sym c.find.ensures ∙ c.in-Some.is) (omega (arith, wait, some))
    (subst (λ (n : ℕ). Drains by Alone doc n old mid (HeldUp c.in-Busy.busy)) wait (drains_held_up by doc c.waiting-most.result c.in-Busy.count c.in-Busy.busy old mid c.in-Busy.ensures.drained)) (ap (λ (b : Shown). b.journal) is))
    c.decline-in-Busy.ensures.ok

pub returns-in-Busy-clause-apart : goal.returns-in-Busy-clause-apart
returns-in-Busy-clause-apart g c =
    let line = c.args.by.line in let old = c.args.book.now.journal in let mid = c.drain.new.book.journal in let new = c.decline-in-Busy.new.self.journal in
    on_ok_weaker c.decline-in-Busy.result
    (λ is. apart_on (next_token old) old mid new (many_drained c.args.by.seat line c.in-Some.doc c.in-Busy.count old mid c.in-Busy.ensures.drained.0)
    (wrote c.args.by.seat line (next_token old) (Declined c.args.session (Busy c.in-Busy.busy)) mid new refl (ap (λ (b : Shown). b.journal) is)))
    c.decline-in-Busy.ensures.ok

pub returns-in_default-clause-failed : goal.returns-in_default-clause-failed
returns-in_default-clause-failed g c = failed_kept c.args.by.seat c.decline.result c.args.book.now c.decline.new.self c.decline.ensures.kept

pub returns-then-most-eq0-clause-failed : goal.returns-then-most-eq0-clause-failed
returns-then-most-eq0-clause-failed g c = failed_kept c.args.by.seat c.decline-then-most-eq0.result c.args.book.now c.decline-then-most-eq0.new.self c.decline-then-most-eq0.ensures.kept

pub returns-in-Busy-clause-failed : goal.returns-in-Busy-clause-failed
returns-in-Busy-clause-failed g c =
    failed_behind c.args.by.seat c.decline-in-Busy.result c.args.book.now c.drain.new.book c.decline-in-Busy.new.self
    (drained_own c.args.by.seat c.args.by.line c.in-Some.doc c.in-Busy.count c.args.book.now c.drain.new.book c.drain.ensures.rest c.in-Busy.ensures.drained.0) c.decline-in-Busy.ensures.kept

pub returns-in-Memory-clause-failed : goal.returns-in-Memory-clause-failed
returns-in-Memory-clause-failed g c = drained_own c.args.by.seat c.args.by.line c.in-Some.doc c.in-Memory.count c.args.book.now c.drain.new.book c.drain.ensures.rest c.in-Memory.ensures.drained.0
