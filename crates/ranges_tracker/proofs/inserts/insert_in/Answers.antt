use Rattle.std.proofs.Common.{◌≡◌, ◌+◌, List, [], length, ◌∙◌, ap, Option}
use Rattle.std.specs.List.{flat_map}
use Rattle.ranges_tracker.specs.declared.change.Change.{Change}
use Rattle.ranges_tracker.specs.declared.mark.Torn.{Torn}
use Rattle.ranges_tracker.specs.Tracked.{heads, new_insert, pushed_all}
use Rattle.ranges_tracker.specs.Torn.{tail_by}
use Rattle.ranges_tracker.proofs.Making.{insert_made}
use Rattle.ranges_tracker.proofs.inserts.insert_in.Goals as goal

pub returns-clause-changes : goal.returns-clause-changes
returns-clause-changes c =
    let is = c.args.inserts.now in
    let at = c.args.at in
    let part = c.args.part.now in
    let one : c.push_heads.new.made.items ≡ pushed_all [] (heads at is) = c.in_ok-push_heads.ensures ∙ ap (λ (x : List Change). pushed_all x (heads at is)) c.new-made.ensures.items in
    let two : c.push_new.new.made.items ≡ pushed_all (pushed_all [] (heads at is)) (new_insert at part c.in_ok-by.by.mark) = c.in_ok-push_new.ensures ∙ ap (λ (x : List Change). pushed_all x (new_insert at part c.in_ok-by.by.mark)) one in
    c.in_ok-push_tails.ensures
    ∙ ap (λ (x : List Change). pushed_all x (flat_map (λ c1. tail_by c.in_ok-torn.torn at (at + c.len.result) c1) is)) two
    ∙ ap (λ n. pushed_all (pushed_all (pushed_all [] (heads at is)) (new_insert at part c.in_ok-by.by.mark)) (flat_map (λ c1. tail_by c.in_ok-torn.torn at (at + n) c1) is)) c.len.ensures.value
    ∙ ap (λ (x : Option Torn). pushed_all (pushed_all (pushed_all [] (heads at is)) (new_insert at part c.in_ok-by.by.mark)) (flat_map (λ c1. tail_by x at (at + length part) c1) is)) c.in_ok-torn.ensures
    ∙ insert_made is at part c.args.stamp.now c.args.marks c.in_ok-before.before c.in_ok-after.after c.in_ok-by.by c.in_ok-before.ensures c.in_ok-after.ensures c.in_ok-by.ensures.value
