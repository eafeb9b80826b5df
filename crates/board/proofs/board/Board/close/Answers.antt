use Rattle.std.proofs.Common.{refl, ◌≡◌, ◌+◌, length, Option, Some, sym, ap, subst, ◌∙◌}
use Rattle.std.specs.Prelude.{IsSome}
use mathlib.Core.Option.{some-injective}
use Rattle.std.specs.Option.{unwrap_or}
use Rattle.board.specs.declared.view.View.{View}
use Rattle.board.specs.Turns.{Ends}
use Rattle.board.proofs.Closing.{closes}
use Rattle.board.proofs.board.Board.close.Goals as goal

pub unwrap-requires : goal.unwrap-requires
unwrap-requires g c =
    let old = ap (λ x. x.view) c.seat.view_is in
    let t = closes _ _ _ _ _ _ _ c.seat.invariant.live_is (ap (λ (v : View). v.number) old ∙ c.requires.first.0) (ap (λ (v : View). v.holds) old ∙ c.requires.first.1) (subst (λ (v : View). length v.joined + 1 ≡ v.count) (sym old) c.requires.all) c.close_with-closed.ensures.values.2 in
    subst (λ (o : Option g.row.B.Denot). IsSome o) (some-injective _ _ (sym t.1 ∙ c.take-value.ensures.value)) refl

pub returns : goal.returns
returns g c =
    let old : c.seat.inside.inner.me.0 ≡ c.args.seat.view = ap (λ x. x.view) c.seat.view_is in
    let t = closes _ _ _ _ _ _ _ c.seat.invariant.live_is (ap (λ (v : View). v.number) old ∙ c.requires.first.0) (ap (λ (v : View). v.holds) old ∙ c.requires.first.1) (subst (λ (v : View). length v.joined + 1 ≡ v.count) (sym old) c.requires.all) c.close_with-closed.ensures.values.2 in
    let same : Some t.0 ≡ Some c.unwrap.result = some-injective _ _ (sym t.1 ∙ c.take-value.ensures.value) ∙ c.unwrap.ensures in
    subst (λ (p : View × g.row.B.Denot). Ends g.B.Journaled.journal g.B.Journaled.drivers g.B.Journaled.start p.0 p.1) (λ i. (old i, unwrap_or (same i) c.unwrap.result)) t.2
