use Rattle.std.proofs.Common.{◌≡◌, ◌∙◌, ℕ, length, ap, subst, arith}
use Rattle.journal_rules.specs.Documents.{makings}
use Rattle.run_rules.specs.Ending.{DrainsDry, InOrder}
use Rattle.book.specs.Going.{with_journal}
use Rattle.run_end.proofs.Rounding.{in_order_on}
use Rattle.run_end.proofs.closing.drain_all.Goals as goal

pub drain_dry-requires-clause-made : goal.drain_dry-requires-clause-made
drain_dry-requires-clause-made g c =
    let lt = c.loop-doc-test.true in let docs = c.docs-docs.ensures in let same = ap length c.loop-doc.invariant.makings in omega (arith, lt, docs, same)

pub loop-doc-preserved : goal.loop-doc-preserved
loop-doc-preserved g c =
    let done = c.in_ok-drain_dry.ensures in let was = c.loop-doc.invariant in
    record {
      drains = in_order_on DrainsDry c.loop-doc.doc c.args.book.now.journal c.loop-doc.book.journal c.drain_dry.new.book.journal was.drains done.dry;
      rest = done.rest ∙ ap (λ b. with_journal b c.drain_dry.new.book.journal) was.rest;
      free = done.free;
      stay = λ n. done.stay n ∙ was.stay n;
      makings = done.makings ∙ was.makings;
    }

pub returns-clause-drains : goal.returns-clause-drains
returns-clause-drains g c =
    let old = c.args.book.now.journal in
    let high = c.loop-doc-test.false in let low = c.loop-doc.auto.doc-end in let docs = c.docs-docs.ensures in
    let same : c.loop-doc.doc ≡ length (makings old) = omega (arith, high, low, docs) in
    subst (λ (n : ℕ). InOrder DrainsDry n old c.loop-doc.book.journal) same c.loop-doc.invariant.drains
