use Rattle.std.proofs.Common.{◌≡◌, true, false, sym, ◌∙◌, arith, below_more}
use Rattle.plain_journal.proofs.declined.is_shown_by_some.Goals as goal

pub loop-doc-preserved : goal.loop-doc-preserved
loop-doc-preserved c = below_more _ _ c.loop-doc.invariant (λ shown. let no : true ≡ false = sym (c.in_ok-is_shown.ensures.1 shown) ∙ c.if-branch.false in absurd (cc))

pub returns : goal.returns
returns c = ((λ no. absurd (cc)), λ some. let count = c.made_count-doc-end.ensures.count in let made = some.1 in absurd (c.loop-doc.invariant some.0 (omega (arith, made, count)) some.2))
