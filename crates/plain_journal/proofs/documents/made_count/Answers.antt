use Rattle.std.proofs.Common.{◌≡◌, ◌+◌, ◌∙◌, ap, refl, sym, take, length, length-append, arith}
use Rattle.std.proofs.lemmas.List.{take_all}
use Rattle.std.proofs.lemmas.Option.{slice_get_read}
use Rattle.journal_rules.specs.Documents.{making_of, makings}
use Rattle.journal_rules.proofs.Pushing.{makings-none, makings-push}
use Rattle.plain_journal.proofs.Prefixes.{take_next, numbered_on}
use Rattle.plain_journal.proofs.documents.made_count.Goals as goal

pub loop-entry-init : goal.loop-entry-init
loop-entry-init c = record { counted = sym (ap length makings-none); few = omega arith; numbered = λ legal. omega arith }

pub loop-entry-preserved : goal.loop-entry-preserved
loop-entry-preserved c =
    let j = c.args.journal.now in
    let i = c.loop-entry.entry-index in
    let e = c.entry-item.result in
    let next : length (makings (take (i + 1) j)) ≡ length (makings (take i j)) + length (making_of e.act) =
    ap (λ l. length (makings l)) (take_next j i e c.loop-entry-test.true c.entry-item.is) ∙ ap length (makings-push (take i j) e) ∙ length-append (makings (take i j)) (making_of e.act) in
    let one = c.makings_in-count.ensures.count in
    let few = c.makings_in-count.ensures.few in
    let was = c.loop-entry.invariant.counted in
    record {
      counted = omega (arith, next, one, was);
      few = omega (arith, few);
      numbered = λ legal. numbered_on c.loop-entry.count c.makings_in-count.result (length (makings (take i j))) was few (c.loop-entry.invariant.numbered legal)
          (c.makings_in-count.ensures.numbered (take i j) e.seat (legal i e (slice_get_read j (length j) i e refl c.loop-entry-test.true c.entry-item.is)));
    }

pub returns-clause-count : goal.returns-clause-count
returns-clause-count c =
    let whole = ap (λ l. length (makings l)) (take_all c.loop-entry.entry-index c.args.journal.now c.loop-entry-test.false) in
    let was = c.loop-entry.invariant.counted in
    omega (arith, whole, was)
