use Rattle.std.proofs.Common.{List, ap, subst, sym, ◌∙◌}
use Rattle.journal_entries.specs.declared.act.Entry.{Entry}
use Rattle.journal_rules.specs.Locks.{Holds}
use Rattle.turn_rules.specs.Locking.{staleness}
use Rattle.flusher.proofs.Ends.{holds_behind, put_released, released_alone}
use Rattle.flusher.proofs.Taking.{holds_up, taken_over}
use Rattle.flusher.proofs.putting.put_and_release.Goals as goal

pub release-requires : goal.release-requires
release-requires g c =
    let look = c.args.look in
    let e = c.in-Done.ensures.ends in
    record { may = λ stands. holds_behind c.args.by.seat c.args.by.line look.doc look.token e.1.0 c.args.book.now.journal c.put.new.book.journal e.1.2 e.1.1 (holds_up c.args.by.seat look c.args.book.now.journal c.legal.ensures c.requires.taken e.0) }

pub release-requires-in-Memory : goal.release-requires-in-Memory
release-requires-in-Memory g c =
    let look = c.args.look in
    let same = sym c.in-Memory.ensures.ends in
    record { may = λ stands. subst (λ (j : List Entry). Holds c.args.by.seat look.doc look.token j) same (holds_up c.args.by.seat look c.args.book.now.journal c.legal.ensures c.requires.taken (ap (staleness look.doc look.token) same ∙ stands)) }

pub returns-in-Done-clause-puts : goal.returns-in-Done-clause-puts
returns-in-Done-clause-puts g c =
    let r = c.release.ensures in
    put_released c.args.by.seat c.args.by.line c.args.look c.args.book.now c.put.new.book c.release.new.self c.release.result _ r.ok r.stale r.kept c.in-Done.ensures.ends

pub returns-in-Memory-clause-puts : goal.returns-in-Memory-clause-puts
returns-in-Memory-clause-puts g c =
    let r = c.release-in-Memory.ensures in
    released_alone c.args.by.seat c.args.by.line c.args.look c.args.book.now c.put.new.book c.release-in-Memory.new.self c.release-in-Memory.result _ r.ok r.stale r.kept c.in-Memory.ensures.ends
    (λ s stale. taken_over c.args.by.seat c.args.look c.args.book.now.journal s c.legal.ensures c.requires.taken stale)
