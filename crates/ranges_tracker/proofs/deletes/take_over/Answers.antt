use Rattle.std.proofs.Common.{◌≡◌, ◌+◌, ◌-◌, ◌++◌, List, ℕ, ◌∙◌, ap, ap₂, append_assoc, length, map}
use Rattle.std.specs.Prelude.{nat_lt}
use Rattle.ranges_tracker.specs.Cells.{fresh_mark}
use Rattle.ranges_tracker.specs.declared.change.Change.{Change}
use Rattle.ranges_tracker.specs.Tracked.{kept, placed, new_delete, mixed_in}
use Rattle.ranges_tracker.proofs.deletes.take_over.Goals as goal

pub returns : goal.returns
returns c =
    let ds = c.args.deletes.now in
    let at = c.args.at in
    let low = kept (λ x. nat_lt x at) ds in
    let mark = fresh_mark c.args.stamp.now c.args.k in
    let one : c.push_below.new.made.items ≡ low = c.in_ok-push_below.ensures ∙ ap (λ (x : List Change). x ++ low) c.new-made.ensures.items in
    c.in_ok-push_above.ensures
    ∙ ap (λ (n : ℕ). c.push_delete.new.made.items ++ map (placed (λ x. x - n)) (kept (λ x. nat_lt (at + n) x) ds)) c.len-len.ensures.value
    ∙ ap (λ (x : List Change). x ++ map (placed (λ x. x - length c.args.part.now)) (kept (λ x. nat_lt (at + length c.args.part.now) x) ds)) (c.in_ok-push_delete.ensures ∙ ap₂ (λ (x : List Change) (t : List ℕ). x ++ new_delete at t mark) one (c.in_ok-text.ensures ∙ ap (λ (x : List ℕ). mixed_in at x c.args.inserts.now ds) c.as_slice.ensures.value))
    ∙ append_assoc low (new_delete at _ mark) _
