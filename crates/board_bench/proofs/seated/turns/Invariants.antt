use Rattle.std.proofs.Common.{◌≡◌, false}
use Rattle.board_bench.proofs.seated.turns.Given as goal

abbrev pub invariant-loop : goal.invariant-loop
invariant-loop g l = (l.seat.board ≡ l.initial.seat.board) × (l.seat.view.holds ≡ false) × (l.seat.view.number ≡ l.initial.seat.view.number)
