use Rattle.std.proofs.Common.{◌≡◌, ◌⊎◌, inl, inr, ◌<◌, ◌≤◌, ℕ, List, [], length, refl, sym, ap, subst, arith}
use Rattle.std.proofs.lemmas.Bool.{cases_lt}
use Rattle.journal_rules.specs.Documents.{IsMade, makings, waiting}
use Rattle.journal_laws.proofs.Unmade.{unmade_waits}
use Rattle.turn_rules.specs.Draining.{Done, Drains, HeldUp}
use Rattle.turn_rules.specs.Turns.{Alone, entry_by}
use Rattle.dispatcher.specs.Draining.{Drained}
use Rattle.dispatcher.specs.declared.dispatch.DrainEnd.TheVariants as end
use Rattle.dispatcher.proofs.Draining.{drains_done, drains_held_up}
use Rattle.script_driver.proofs.Apart.{many_drained, none_apart}
use Rattle.script_driver.proofs.Failing.{drained_own, same_own}
use Rattle.script_driver.proofs.syncing.drain_waiting.Goals as goal

pub returns-then-most-eq0-clause-drains : goal.returns-then-most-eq0-clause-drains
returns-then-most-eq0-clause-drains g c =
    let j = c.args.book.now.journal in
    let none : 0 ≡ length (waiting c.args.doc j) = let w = c.waiting-most.ensures in let z = c.if-most-eq0.true in omega (arith, w, z) in
    (Done, subst (λ n. Drains (entry_by c.args.by.seat c.args.by.line) Alone c.args.doc n j j Done) none (refl, refl))

pub returns-then-most-eq0-clause-apart : goal.returns-then-most-eq0-clause-apart
returns-then-most-eq0-clause-apart g c = none_apart _ c.args.book.now.journal c.args.book.now.journal refl

pub drain-requires : goal.drain-requires
drain-requires g c = record { made = by (cases_lt c.args.doc (length (makings c.args.book.now.journal))) }
  where
    by : (c.args.doc < length (makings c.args.book.now.journal)) ⊎ (length (makings c.args.book.now.journal) ≤ c.args.doc) → IsMade c.args.doc c.args.book.now.journal
    by (inl made) = made
    by (inr high) =
        let w = c.waiting-most.ensures in
        let none = ap length (unmade_waits c.args.doc c.args.book.now.journal c.legal.ensures high) in
        absurd (c.if-most-eq0.false (omega (arith, w, none)))

pub returns-in-Done : goal.returns-in-Done
returns-in-Done g c =
    let old = c.args.book.now.journal in
    let new = c.drain.new.book.journal in
    let d = c.in-Done.ensures.drained in
    record {
      drains = (Done, subst (λ n. Drains (entry_by c.args.by.seat c.args.by.line) Alone c.args.doc n old new Done) c.waiting-most.ensures (drains_done (entry_by c.args.by.seat c.args.by.line) c.args.doc c.waiting-most.result c.in-Done.count old new d));
      apart = many_drained c.args.by.seat c.args.by.line c.args.doc c.in-Done.count old new d.0;
      rest = c.drain.ensures.rest;
      own = drained_own c.args.by.seat c.args.by.line c.args.doc c.in-Done.count c.args.book.now c.drain.new.book c.drain.ensures.rest d.0;
    }

pub returns-in-Busy : goal.returns-in-Busy
returns-in-Busy g c =
    let old = c.args.book.now.journal in
    let new = c.drain.new.book.journal in
    let d = c.in-Busy.ensures.drained in
    record {
      drains = (HeldUp c.in-Busy.busy, subst (λ n. Drains (entry_by c.args.by.seat c.args.by.line) Alone c.args.doc n old new (HeldUp c.in-Busy.busy)) c.waiting-most.ensures (drains_held_up (entry_by c.args.by.seat c.args.by.line) c.args.doc c.waiting-most.result c.in-Busy.count c.in-Busy.busy old new d));
      apart = many_drained c.args.by.seat c.args.by.line c.args.doc c.in-Busy.count old new d.0;
      rest = c.drain.ensures.rest;
      own = drained_own c.args.by.seat c.args.by.line c.args.doc c.in-Busy.count c.args.book.now c.drain.new.book c.drain.ensures.rest d.0;
    }

pub returns-in-Memory-clause-own : goal.returns-in-Memory-clause-own
returns-in-Memory-clause-own g c = drained_own c.args.by.seat c.args.by.line c.args.doc c.in-Memory.count c.args.book.now c.drain.new.book c.drain.ensures.rest c.in-Memory.ensures.drained.0

pub returns-then-most-eq0-clause-own : goal.returns-then-most-eq0-clause-own
returns-then-most-eq0-clause-own g c = same_own c.args.by.seat c.args.book.now c.args.book.now refl
