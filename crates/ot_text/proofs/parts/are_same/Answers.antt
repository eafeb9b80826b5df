use Rattle.std.proofs.Common.{◌≡◌, ◌∙◌, ap, IsTrue, false, IsTrue}
use Rattle.ot_text.proofs.Slicing.{same_long, same_iff, same_first}
use Rattle.ot_text.proofs.parts.are_same.Goals as goal

not_true : IsTrue false → ⊥
not_true f = cc

both : {A B C : Type 0} → (A → B) × (B → A) → (B → C) × (C → B) → (A → C) × (C → A)
both f g = ((λ a. g.0 (f.0 a)), (λ c. f.1 (g.1 c)))

pub returns-then-not-same : goal.returns-then-not-same
returns-then-not-same c =
    let differ = rw c.if-not-same.true at c.same.ensures in
    ((λ f. absurd (not_true f)), (λ e. absurd (differ (same_first _ _ _ _ _ c.in-Some.ensures.steps c.split_at.ensures.front (c.loop-part.invariant.rest.0 e)))))

pub loop-part-preserved : goal.loop-part-preserved
loop-part-preserved c =
    let equal = rw c.if-not-same.false at c.same.ensures in
    record {
      long = same_long _ _ _ _ _ c.in-Some.ensures.steps c.split_at.ensures.back c.loop-part.invariant.long;
      rest = both c.loop-part.invariant.rest (same_iff _ _ _ _ _ _ c.in-Some.ensures.steps c.split_at.ensures.front c.split_at.ensures.back equal);
    }
