use Rattle.std.proofs.Common.{◌∙◌, ◌++◌, ◌∷◌, [], List, ℕ, ap, append_assoc, sym, subst}
use Rattle.std.specs.Prelude.{IsTrue}
use Rattle.std.specs.List.{All}
use Rattle.std.proofs.lemmas.List.Elements.{All-head, All-tail}
use Rattle.ot_units.specs.Text.{is_unit, IsText}
use Rattle.ranges_tracker.proofs.Joining.{lines_keep}
use Rattle.ranges_tracker.proofs.lines.Lines.of.Goals as goal

pub loop-line-init : goal.loop-line-init
loop-line-init c =
    let lines = c.into_iter-line-iterator.ensures.into_iter_gives ∙ c.line_parts-line-items.ensures.lines in
    record {
      made = ap (λ (x : List (List ℕ)). x ++ c.into_iter-line-iterator.result) c.new-lines.ensures.items ∙ lines;
      texts = subst (λ (x : List (List ℕ)). All IsText x) (sym lines) (lines_keep (λ u. IsTrue (is_unit u)) c.args.text.now c.requires);
    }

pub from_slice-requires : goal.from_slice-requires
from_slice-requires c = All-head IsText c.in-Some.line.now c.next.new.self (subst (λ (x : List (List ℕ)). All IsText x) c.in-Some.ensures.steps c.loop-line.invariant.texts)

pub loop-line-preserved : goal.loop-line-preserved
loop-line-preserved c = record {
  made = ap (λ (x : List (List ℕ)). x ++ c.next.new.self) c.in_ok-push.ensures.items
      ∙ append_assoc c.loop-line.lines.items (c.in_ok-from_slice.field-0 ∷ []) c.next.new.self
      ∙ ap (λ (x : List ℕ). c.loop-line.lines.items ++ (x ∷ c.next.new.self)) c.in_ok-from_slice.ensures
      ∙ ap (λ (x : List (List ℕ)). c.loop-line.lines.items ++ x) (sym c.in-Some.ensures.steps)
      ∙ c.loop-line.invariant.made;
  texts = All-tail IsText c.in-Some.line.now c.next.new.self (subst (λ (x : List (List ℕ)). All IsText x) c.in-Some.ensures.steps c.loop-line.invariant.texts);
}
