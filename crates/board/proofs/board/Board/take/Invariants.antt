use Rattle.std.proofs.Common.{◌≡◌, ℕ, List}
use Rattle.board.specs.Views.{with_found}
use Rattle.board.proofs.board.Board.take.Given as goal

abbrev pub invariant-loop : goal.invariant-loop
invariant-loop g l = (l.seat.board ≡ l.initial.seat.board) × ((words : List ℕ) × (l.seat.view ≡ with_found l.initial.seat.view words))
