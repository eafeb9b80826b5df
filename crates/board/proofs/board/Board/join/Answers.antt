use Rattle.std.proofs.Common.{arith, sym, ap, ◌∙◌}
use Rattle.board.proofs.Seating.{joins}
use Rattle.board.proofs.board.Board.join.Goals as goal

pub join_seat-requires : goal.join_seat-requires
join_seat-requires g c =
    let idle = ap (λ x. x.view.holds) c.other.view_is ∙ c.requires.other.1 in (
      ap (λ x. x.board) c.seat.view_is ∙ c.requires.boards.0 ∙ sym c.self.view_is,
      ap (λ x. x.board) c.other.view_is ∙ c.requires.boards.1 ∙ sym c.self.view_is,
      c.other.invariant.between idle,
      omega (arith, c.self.invariant.0),
      joins _ _ _ _ _ _ _ (ap (λ x. x.view.number) c.seat.view_is ∙ c.requires.first) c.seat.invariant.live_is (λ z. c.requires.other.0 (sym (ap (λ x. x.view.number) c.other.view_is) ∙ z)) c.other.invariant.live_is idle,
    )
