use Rattle.std.proofs.Common.{◌++◌, ◌∙◌, sym, ap}
use Rattle.board_bench.proofs.seated.turn.Goals as goal

pub give-requires-clause-journal : goal.give-requires-clause-journal
give-requires-clause-journal g c =
    let took = c.take-diary.ensures.taken.1.view_is in
    let own = c.tick.ensures.0 in (
      own,
      c.tick.ensures.1 ∙ ap (λ seen. seen ++ own) (sym (ap (λ v. v.seen) took)),
      λ k d within. c.tick.ensures.2 k d within ∙ c.number-number.ensures ∙ sym (ap (λ v. v.number) took),
    )
