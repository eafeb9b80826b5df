use Rattle.std.proofs.Common.{◌≡◌, ◌∙◌, ◌<◌, List, ℕ, ap, sym, subst, length, get_or}
use Rattle.ranges_tracker.proofs.Joining.{first_joined}
use Rattle.ranges_tracker.proofs.lines.Lines.joined.Goals as goal

pub loop-line-init : goal.loop-line-init
loop-line-init c =
    let lines = c.as_slice-lines.result.now in
    let is : c.in_ok-text.text ≡ get_or lines 0 c.in_ok-text.text = c.in_ok-text.ensures ∙ c.index-lines-0.is ∙ ap (get_or lines 0) (sym c.in_ok-text.ensures) in
    first_joined c.args.self.now c.in_ok-text.text (subst (λ (x : List (List ℕ)). 0 < length x) c.as_slice-lines.ensures.value c.as_slice-lines.ensures.lines.some) (is ∙ ap (λ (x : List (List ℕ)). get_or x 0 c.in_ok-text.text) c.as_slice-lines.ensures.value)
