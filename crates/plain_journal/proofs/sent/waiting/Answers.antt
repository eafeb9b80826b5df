use Rattle.std.proofs.Common.{◌∙◌, ◌++◌, ap, ap₂, sym, take, filter, ℕ, List, [], ◌∷◌}
use Rattle.std.specs.Prelude.{not, if◌then◌else◌}
use Rattle.std.proofs.lemmas.List.{take_all}
use Rattle.std.proofs.lemmas.List.Elements.{filter-append}
use Rattle.journal_rules.specs.Documents.{sends, sent, committed, is_in}
use Rattle.journal_rules.proofs.Pushing.{sent-none, sent-push}
use Rattle.plain_journal.proofs.Prefixes.{take_next, length_first}
use Rattle.plain_journal.proofs.sent.waiting.Goals as goal

pub loop-n-init : goal.loop-n-init
loop-n-init c = c.new-tickets.ensures.items ∙ sym (ap (filter (λ t. not (is_in t (committed c.args.journal.now)))) (sent-none c.args.doc))

pub loop-n-preserved : goal.loop-n-preserved
loop-n-preserved c =
    let j = c.args.journal.now in
    let i = c.loop-n.n in
    let e = c.index-journal-n.result in
    let free = λ (t : ℕ). not (is_in t (committed j)) in
    let given : List ℕ = if sends c.args.doc e.act then i ∷ [] else [] in
    c.in_ok-push_found.ensures ∙ ap₂ (λ x y. x ++ y) c.loop-n.invariant c.waits.ensures
    ∙ sym (filter-append free (sent c.args.doc (take i j)) given)
    ∙ ap (filter free) (sym (sent-push c.args.doc (take i j) e ∙ ap (λ n. sent c.args.doc (take i j) ++ (if sends c.args.doc e.act then n ∷ [] else [])) (length_first j i c.loop-n-test.true)))
    ∙ ap (λ l. filter free (sent c.args.doc l)) (sym (take_next j i e c.loop-n-test.true c.index-journal-n.is))

pub returns : goal.returns
returns c = c.loop-n.invariant ∙ ap (λ l. filter (λ t. not (is_in t (committed c.args.journal.now))) (sent c.args.doc l)) (take_all c.loop-n.n c.args.journal.now c.loop-n-test.false)
