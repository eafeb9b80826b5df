use Rattle.std.proofs.Common.{◌≡◌, ℕ, false, length, sym, subst, arith}
use Rattle.journal_rules.specs.Documents.{makings, waiting}
use Rattle.ending_rules.specs.Rounds.{any_below, has_any}
use Rattle.run_end.proofs.Rounding.{has_none, has_some, none_more, some_at}
use Rattle.run_end.proofs.closing.any_waits.Goals as goal

pub returns-then-waiting-gt0 : goal.returns-then-waiting-gt0
returns-then-waiting-gt0 g c =
    let j = c.args.book.now.journal in
    let lt = c.loop-doc-test.true in let docs = c.docs-docs.ensures in let some = c.if-waiting-gt0.true in let count = c.waiting.ensures in
    sym (some_at (λ d. has_any (waiting d j)) c.loop-doc.doc (length (makings j)) (omega (arith, lt, docs)) (has_some (waiting c.loop-doc.doc j) (omega (arith, some, count))))

pub returns : goal.returns
returns g c =
    let j = c.args.book.now.journal in
    let high = c.loop-doc-test.false in let low = c.loop-doc.auto.doc-end in let docs = c.docs-docs.ensures in
    let same : c.loop-doc.doc ≡ length (makings j) = omega (arith, high, low, docs) in
    sym (subst (λ (n : ℕ). any_below (λ d. has_any (waiting d j)) n ≡ false) same c.loop-doc.invariant)

pub loop-doc-preserved : goal.loop-doc-preserved
loop-doc-preserved g c =
    let j = c.args.book.now.journal in let none = c.if-waiting-gt0.false in let count = c.waiting.ensures in
    none_more (λ d. has_any (waiting d j)) c.loop-doc.doc c.loop-doc.invariant (has_none (waiting c.loop-doc.doc j) (omega (arith, none, count)))
