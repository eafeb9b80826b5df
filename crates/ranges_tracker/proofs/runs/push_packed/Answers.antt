use Rattle.std.proofs.Common.{◌≡◌, suc, ◌-◌, ◌++◌, List, ℕ, true, false, length, arith, sym, ◌∙◌, ap}
use Rattle.ranges_tracker.specs.declared.change.Change.{Change}
use Rattle.ranges_tracker.specs.Shown.{meets, fused}
use Rattle.ranges_tracker.proofs.Pushing.{pushed_met, pushed_apart, put_end, same_last}
use Rattle.ranges_tracker.specs.Tracked.{piece}
use Rattle.ot_units.specs.Text.{put_at}
use Rattle.ranges_tracker.proofs.runs.push_packed.Goals as goal

pub returns-then-not-met : goal.returns-then-not-met
returns-then-not-met c =
    let n : length c.args.made.now.items ≡ suc (c.len-count.result - 1) = omega (arith, c.args.made.now.ok.0) in
    let t : meets c.index.result.now c.args.next ≡ false = grind arith in
    c.in_ok-push-2.ensures.items ∙ sym (pushed_apart _ _ c.index.result.now c.args.next n c.index.ensures t)

pub returns : goal.returns
returns c =
    let n : length c.args.made.now.items ≡ suc (c.len-count.result - 1) = omega (arith, c.args.made.now.ok.0) in
    let t : meets c.index.result.now c.args.next ≡ true = grind arith in
    let same : c.index_mut-last.result.now ≡ c.index.result.now = same_last _ _ c.index.result.now c.index_mut-last.result.now n c.index.ensures c.index_mut-last.ensures.value in
    let text : c.put_in.new.self ≡ c.index_mut-last.result.now.text ++ c.args.next.text = c.in_ok-put_in.ensures.ok ∙ ap (λ (x : List ℕ). put_at c.index_mut-last.result.now.text c.len-end.result x) c.as_slice.ensures.value ∙ put_end c.index_mut-last.result.now.text c.args.next.text c.len-end.result c.len-end.ensures.value in
    let made : piece c.index_mut-last.result.now c.index_mut-last.result.now.at c.put_in.new.self ≡ fused c.index.result.now c.args.next = ap (λ (x : List ℕ). piece c.index_mut-last.result.now c.index_mut-last.result.now.at x) text ∙ ap (λ (x : Change). fused x c.args.next) same in
    sym (pushed_met _ _ c.index.result.now c.args.next _ n c.index.ensures t made)
