use Rattle.std.proofs.Common.{sym, subst, take}
use Rattle.journal_rules.specs.Legal.{IsLegal}
use Rattle.journal_rules.proofs.Legality.{legal_push}
use Rattle.plain_journal.proofs.Prefixes.{take_next}
use Rattle.plain_journal.proofs.legal.is_legal.Goals as goal

pub loop-n-preserved : goal.loop-n-preserved
loop-n-preserved c =
    let j = c.args.journal.now in
    let i = c.loop-n.n in
    let e = c.index-journal-n.result in
    subst IsLegal (sym (take_next j i e c.loop-n-test.true c.index-journal-n.is)) (legal_push (take i j) e c.loop-n.invariant (c.in_ok-is_allowed.ensures.0 c.if-not-branch.false))
