use Rattle.std.proofs.Common.{◌≡◌, ◌∙◌, true, false, true≢false, inl, inr, refl, sym}
use Rattle.book.proofs.Going.{goes_same}
use Rattle.flush_manager.proofs.all.flush_if_needed.Goals as goal

pub returns-then-not-needs_flush : goal.returns-then-not-needs_flush
returns-then-not-needs_flush g c = record {
  flushes = inl (c.needs_flush.ensures.0 c.if-not-needs_flush.true, refl, refl);
  goes = goes_same c.args.book.now c.args.book.now refl;
}

pub returns-clause-flushes : goal.returns-clause-flushes
returns-clause-flushes g c = inr (λ is. true≢false (sym c.if-not-needs_flush.false ∙ c.needs_flush.ensures.1 is), c.flush_doc.ensures.flushes)
