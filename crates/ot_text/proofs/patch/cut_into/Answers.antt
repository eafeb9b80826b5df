use Rattle.std.proofs.Common.{List, ℕ, ◌≡◌, ◌∙◌, ◌≤◌, ◌++◌, ap, length, take, arith, false, ◌==◌}
use Rattle.std.proofs.lemmas.Bool.Decides.{nat_tests}
use Rattle.std.proofs.lemmas.List.{length-take}
use Rattle.ot_text.proofs.Joining.{cut_step}
use Rattle.ot_text.proofs.Blocking.{one_block}
use Rattle.ot_text.proofs.patch.cut_into.Goals as goal

not_empty : (n : ℕ) → false ≡ (n == 0) → 1 ≤ n
not_empty n e = grind (arith, nat_tests)

pub loop-rest-preserved : goal.loop-rest-preserved
loop-rest-preserved c =
    let front = c.in_ok-new.ensures ∙ c.in_ok-push_shared.ensures ∙ ap (λ (x : List (List ℕ)). x ++ c.split_at.result.0.now) c.in_ok-part.ensures.items in
    let is = front ∙ c.split_at.ensures.front in
    let n = ap length front in
    let some = not_empty _ (rw c.loop-rest-test.true at c.is_empty.ensures) in
    record {
      cut = rw c.split_at.ensures.back (cut_step _ _ _ _ _ _ c.in_ok-push.ensures.items is c.loop-rest.invariant.cut);
      each = one_block _ _ _ c.in_ok-push.ensures.items (omega (arith, n, c.split_at.ensures.front_len, c.min.ensures, some)) c.loop-rest.invariant.each;
    }
