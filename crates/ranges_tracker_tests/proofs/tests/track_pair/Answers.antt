use Rattle.std.proofs.Common.{◌∙◌, ◌∷◌, [], List, ℕ, ap₂}
use Rattle.ot_op.specs.declared.comp.Comp.TheVariants.{Ins, Del}
use Rattle.ranges_tracker_tests.proofs.Small.{first_fit}
use Rattle.ranges_tracker_tests.proofs.tests.track_pair.Goals as goal

pub track_op-requires : goal.track_op-requires
track_op-requires c =
    first_fit _ _ _ c.none-none.ensures
    (c.in_ok-op.ensures ∙ ap₂ (λ (x y : List ℕ). Ins 0 x ∷ Del 0 y ∷ []) c.in_ok-from_slice.ensures c.in_ok-from_slice-2.ensures)
