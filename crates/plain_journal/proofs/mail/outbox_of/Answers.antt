use Rattle.std.proofs.Common.{◌+◌, ◌≤◌, ap, sym, ◌∙◌, ℕ, take, subst}
use Rattle.std.specs.Prelude.{IfSome}
use Rattle.std.proofs.lemmas.List.{take_all}
use Rattle.journal_rules.specs.Mail.{outbox, outbox_by}
use Rattle.journal_rules.proofs.Pushing.{outbox-none, outbox-push}
use Rattle.plain_journal.proofs.Prefixes.{take_next, length_first}
use Rattle.plain_journal.proofs.mail.outbox_of.Goals as goal

pub outbox_by-requires : goal.outbox_by-requires
outbox_by-requires c = subst (λ (n : ℕ). IfSome c.loop-n.found (λ outbox. outbox.got ≤ n)) (sym (length_first c.args.journal.now c.loop-n.n c.loop-n-test.true)) c.loop-n.invariant.few

pub loop-n-init : goal.loop-n-init
loop-n-init c = record { found_is = sym (outbox-none c.args.client); few = tt }

pub loop-n-preserved : goal.loop-n-preserved
loop-n-preserved c =
    let j = c.args.journal.now in
    let i = c.loop-n.n in
    let e = c.index-journal-n.result in
    record {
      found_is = c.in_ok-found.ensures.value ∙ ap (outbox_by c.args.client (take i j) e.act) c.loop-n.invariant.found_is
          ∙ sym (outbox-push c.args.client (take i j) e) ∙ ap (outbox c.args.client) (sym (take_next j i e c.loop-n-test.true c.index-journal-n.is));
      few = subst (λ (n : ℕ). IfSome c.in_ok-found.found (λ outbox. outbox.got ≤ n + 1)) (length_first j i c.loop-n-test.true) c.in_ok-found.ensures.few;
    }

pub returns : goal.returns
returns c = c.loop-n.invariant.found_is ∙ ap (outbox c.args.client) (take_all c.loop-n.n c.args.journal.now c.loop-n-test.false)
