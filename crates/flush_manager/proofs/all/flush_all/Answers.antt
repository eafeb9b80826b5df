use Rattle.std.proofs.Common.{◌≡◌, ◌∙◌, ◌+◌, ℕ, length, refl, sym, ap, subst, arith}
use Rattle.journal_rules.specs.Documents.{makings}
use Rattle.turn_rules.specs.Turns.{entry_by}
use Rattle.book.proofs.Going.{goes_further, goes_same}
use Rattle.flush_manager.specs.FlushesAll.{FlushesBelow, first_of}
use Rattle.flush_manager.proofs.FlushingAll.{all_kept, all_of, makes_none, one_more}
use Rattle.flush_manager.proofs.all.flush_all.Goals as goal

pub flush_if_needed-requires : goal.flush_if_needed-requires
flush_if_needed-requires g c =
    let lt = c.loop-doc-test.true in let docs = c.docs-docs.ensures in let same = ap length c.loop-doc.invariant.makings in omega (arith, lt, docs, same)

pub loop-doc-init : goal.loop-doc-init
loop-doc-init g c = record { below = (refl, refl); makings = refl; goes = goes_same c.args.book.now c.args.book.now refl }

pub loop-doc-preserved : goal.loop-doc-preserved
loop-doc-preserved g c =
    let seat = c.args.by.seat in let line = c.args.by.line in let was = c.loop-doc.invariant in let next = c.flush_if_needed.result in
    record {
      below = subst (λ e. FlushesBelow (entry_by seat line) (c.loop-doc.doc + 1) c.args.book.now.journal c.flush_if_needed.new.book.journal e) (sym c.first_of-end.ensures)
          (one_more seat line c.loop-doc.doc c.args.book.now.journal c.loop-doc.book.journal c.flush_if_needed.new.book.journal c.loop-doc.end next was.below c.flush_if_needed.ensures.flushes c.in_default.not-Memory);
      makings = makes_none seat line c.loop-doc.doc c.loop-doc.book.journal c.flush_if_needed.new.book.journal next c.flush_if_needed.ensures.flushes c.in_default.not-Memory ∙ was.makings;
      goes = goes_further c.args.book.now c.loop-doc.book c.flush_if_needed.new.book was.goes c.flush_if_needed.ensures.goes;
    }

pub returns-clause-flushes : goal.returns-clause-flushes
returns-clause-flushes g c =
    let old = c.args.book.now.journal in
    let high = c.loop-doc-test.false in let low = c.loop-doc.auto.doc-end in let docs = c.docs-docs.ensures in
    let same : c.loop-doc.doc ≡ length (makings old) = omega (arith, high, low, docs) in
    all_of c.args.by.seat c.args.by.line old c.loop-doc.book.journal c.loop-doc.end
    (subst (λ (n : ℕ). FlushesBelow (entry_by c.args.by.seat c.args.by.line) n old c.loop-doc.book.journal c.loop-doc.end) same c.loop-doc.invariant.below)

pub returns-clause-done : goal.returns-clause-done
returns-clause-done g c =
    let old = c.args.book.now.journal in
    let high = c.loop-doc-test.false in let low = c.loop-doc.auto.doc-end in let docs = c.docs-docs.ensures in
    let same : c.loop-doc.doc ≡ length (makings old) = omega (arith, high, low, docs) in
    λ done d made. all_kept c.args.by.seat c.args.by.line old c.loop-doc.book.journal c.loop-doc.end done c.legal.ensures c.loop-doc.invariant.makings
    (subst (λ (n : ℕ). FlushesBelow (entry_by c.args.by.seat c.args.by.line) n old c.loop-doc.book.journal c.loop-doc.end) same c.loop-doc.invariant.below) d made

pub returns-in-Memory-clause-goes : goal.returns-in-Memory-clause-goes
returns-in-Memory-clause-goes g c = goes_further c.args.book.now c.loop-doc.book c.flush_if_needed.new.book c.loop-doc.invariant.goes c.flush_if_needed.ensures.goes
