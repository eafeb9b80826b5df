use Rattle.std.proofs.Common.{arith, ◌≡◌, ◌*◌, Some, ◌∷◌, sym, ap, subst, ◌∙◌}
use Rattle.atomic_table.specs.Table.{rest}
use Rattle.board.specs.declared.view.View.{View}
use Rattle.board.specs.Views.{made_by}
use Rattle.board.specs.Turns.{Extends}
use Rattle.board.proofs.Entries.{made_by-more}
use Rattle.board.proofs.Giving.{gives_back}
use Rattle.board.proofs.board.Board.give.Goals as goal

pub swap-requires : goal.swap-requires
swap-requires g c =
    let m = c.exchange.new.seat.me in
    let wrote = c.exchange.ensures.3 in
    let old : c.seat.inside.inner.me.0 ≡ c.args.seat.now.view = ap (λ x. x.view) c.seat.view_is in
    let is : m.0 ≡ c.args.seat.now.view = ap (λ x. x.0) wrote ∙ old in
    let holds = ap (λ (v : View). v.holds) old ∙ c.requires.turn in (
      c.exchange.ensures.0 ∙ (ap (λ x. x.board) c.seat.view_is ∙ c.requires.board ∙ sym c.self.view_is),
      omega (arith, c.self.invariant.0),
      gives_back _ _ _ _ _ _ m c.args.value
          (ap (λ x. x.1) wrote ∙ ap (λ l. (0, Some c.args.value) ∷ rest l) (c.seat.invariant.in_turn holds))
          (ap (λ x. x.0.live) wrote ∙ c.seat.invariant.live_is)
          (ap (λ (v : View). v.holds) is ∙ c.requires.turn)
          (ap (λ n. 2 * n) c.length-word.ensures.is)
          (subst (λ (v : View). Extends g.B.Journaled.journal v c.args.value) (sym is) c.requires.journal)
          (c.requires.same.0 ∙ ap (λ (v : View). v.drivers) (sym is))
          (c.requires.same.1 ∙ ap (λ (v : View). v.start) (sym is)),
    )

pub returns-clause-made : goal.returns-clause-made
returns-clause-made g c own more all =
    let m = c.exchange.new.seat.me in
    let wrote = c.exchange.ensures.3 in
    let old : c.seat.inside.inner.me.0 ≡ c.args.seat.now.view = ap (λ x. x.view) c.seat.view_is in
    let is : m.0 ≡ c.args.seat.now.view = ap (λ x. x.0) wrote ∙ old in
    let holds = ap (λ (v : View). v.holds) old ∙ c.requires.turn in
    let carried = ap (λ x. x.1) wrote ∙ ap (λ l. (0, Some c.args.value) ∷ rest l) (c.seat.invariant.in_turn holds) in
    let own_is = subst (λ (v : View). made_by v.number v.seen ≡ v.made) old (c.seat.invariant.own_is holds) in
    ap (λ x. x.0.made) (c.swap.ensures.2 c.args.value carried)
    ∙ ap (λ (v : View). made_by v.number (g.B.Journaled.journal c.args.value)) is
    ∙ made_by-more c.args.seat.now.view.number c.args.seat.now.view.seen own c.args.seat.now.view.made (g.B.Journaled.journal c.args.value) own_is more all
