use Rattle.std.proofs.Common.{arith, ◌≡◌, false, Some, ◌∷◌, sym, ap, ◌∙◌}
use Rattle.atomic_table.specs.Table.{rest}
use Rattle.board.proofs.Views.{not_true}
use Rattle.board.proofs.Looking.{looks}
use Rattle.board.proofs.Taking.{tries_as, won}
use Rattle.board.proofs.board.Board.try_take.Goals as goal

pub load-loaded-requires : goal.load-loaded-requires
load-loaded-requires g c = (ap (λ x. x.board) c.seat.view_is ∙ c.requires.board ∙ sym c.self.view_is, omega (arith, c.self.invariant.0), looks _ _ _ _ _ _)

pub compare_exchange-found-requires : goal.compare_exchange-found-requires
compare_exchange-found-requires g c =
    let m = c.seat.inside.inner.me in
    let n = c.load-loaded.result in
    let told = c.load-loaded.ensures.2 in
    let holds : m.0.holds ≡ false = not_true m.0.holds (λ h. c.if-loaded-eq1.false (told.1 h)) in (
      c.load-loaded.ensures.0 ∙ (ap (λ x. x.board) c.seat.view_is ∙ c.requires.board ∙ sym c.self.view_is),
      omega (arith, c.self.invariant.0),
      tries_as _ _ _ _ _ _ _ (ap (λ x. x.0.live) told.0 ∙ c.seat.invariant.live_is) (ap (λ x. x.1) told.0 ∙ c.seat.invariant.between holds) (omega arith),
    )

pub exchange-value-requires : goal.exchange-value-requires
exchange-value-requires g c =
    let t = won _ _ _ _ _ _ _ c.if-found-loaded.false c.compare_exchange-found.ensures.2 in (
      c.compare_exchange-found.ensures.0 ∙ c.load-loaded.ensures.0 ∙ (ap (λ x. x.board) c.seat.view_is ∙ c.requires.board ∙ sym c.self.view_is),
      (Some t.0, t.2 ∙ ap (λ l. (0, Some t.0) ∷ rest l) (sym t.2)),
    )
