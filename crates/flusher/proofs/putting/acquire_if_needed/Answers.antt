use Rattle.std.proofs.Common.{List, ◌∙◌, ap, inl, refl, subst, sym, true≢false}
use Rattle.journal_entries.specs.declared.act.Entry.{Entry}
use Rattle.book.specs.Shown.{Shown}
use Rattle.flusher.specs.Taking.{IsLeftAlone}
use Rattle.flusher.proofs.Taking.{acquired_at, available, left_alone}
use Rattle.flusher.proofs.putting.acquire_if_needed.Goals as goal

pub returns-then-not-needs_flush-clause-takes : goal.returns-then-not-needs_flush-clause-takes
returns-then-not-needs_flush-clause-takes g c = (refl, inl (c.needs_flush.ensures.0 c.if-not-needs_flush.true))

pub returns-in-Ok-clause-takes : goal.returns-in-Ok-clause-takes
returns-in-Ok-clause-takes g c =
    let took = c.in-Ok.ensures in
    let old = c.args.book.now in (
      old.journal,
      refl,
      acquired_at c.args.by.seat c.args.by.line c.args.doc old c.acquire_any.new.self c.in-Ok.look took.acquired took.looks.0 took.looks.1 c.legal.ensures
          (λ is. true≢false (sym c.if-not-needs_flush.false ∙ c.needs_flush.ensures.1 is)) (available c.args.doc old.journal c.requires took.free) took.ready,
    )

pub returns-in_default-clause-takes : goal.returns-in_default-clause-takes
returns-in_default-clause-takes g c =
    let old = c.args.book.now in
    let same = ap (λ (b : Shown). b.journal) c.in-Err.ensures.kept in
    (same, subst (λ (j : List Entry). IsLeftAlone c.args.doc j) (sym same) (left_alone c.args.doc old.journal c.requires c.in-Err.fault c.in-Err.ensures.refused c.in_default.not-Memory))
