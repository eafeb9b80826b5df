use Rattle.std.proofs.Common.{◌≡◌, ◌∙◌, ◌++◌, ◌∷◌, [], List, ℕ, ap}
use Rattle.ot_parts.specs.Lines.{joined_lines}
use Rattle.ranges_tracker.specs.Kept.{lengthened}
use Rattle.ranges_tracker_tests.proofs.Small.{two_lines_kept}
use Rattle.ranges_tracker_tests.proofs.tests.makes_lines_piece_by_piece.Goals as goal

pub of_lines-requires : goal.of_lines-requires
of_lines-requires g c =
    let first = c.in_ok-extend.ensures.ok ∙ ap (λ (x : List (List ℕ)). lengthened x (97 ∷ [])) c.in_ok-lines.ensures in
    let both = c.in_ok-next_line.ensures.ok ∙ ap (λ (x : List (List ℕ)). x ++ [] ∷ []) first in
    two_lines_kept _ _ c.none.ensures (ap joined_lines both)
