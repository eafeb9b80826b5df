use Rattle.std.proofs.Common.{◌≡◌, ◌+◌, List, [], None, ◌∙◌, ap}
use Rattle.std.specs.List.{flat_map}
use Rattle.ranges_tracker.specs.declared.change.Change.{Change}
use Rattle.ranges_tracker.specs.Tracked.{heads, pushed_all}
use Rattle.ranges_tracker.specs.Torn.{tail_by}
use Rattle.ranges_tracker.proofs.Making.{cut_made}
use Rattle.ranges_tracker.proofs.inserts.cut_in.Goals as goal

pub returns : goal.returns
returns c =
    let is = c.args.inserts.now in
    let at = c.args.at in
    let one : c.push_heads.new.made.items ≡ pushed_all [] (heads at is) = c.in_ok-push_heads.ensures ∙ ap (λ (x : List Change). pushed_all x (heads at is)) c.new-made.ensures.items in
    c.in_ok-push_tails.ensures
    ∙ ap (λ (x : List Change). pushed_all x (flat_map (λ c1. tail_by None (at + c.args.len) at c1) is)) one
    ∙ cut_made is at c.args.len
