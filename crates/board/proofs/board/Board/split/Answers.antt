use Rattle.std.proofs.Common.{arith, sym, ap, ◌∙◌}
use Rattle.board.proofs.Seating.{splits}
use Rattle.board.proofs.board.Board.split.Goals as goal

pub split_seat-inner-requires : goal.split_seat-inner-requires
split_seat-inner-requires g c = (
  ap (λ x. x.board) c.seat.view_is ∙ c.requires.board ∙ sym c.self.view_is,
  omega (arith, c.self.invariant.0),
  splits _ _ _ _ _ (ap (λ x. x.view.number) c.seat.view_is ∙ c.requires.first) c.seat.invariant.live_is,
)
