use Rattle.std.proofs.Common.{ℕ, ◌∙◌, subst}
use Rattle.turn_rules.specs.Owning.{IsOwned}
use Rattle.turn_rules.specs.Turns.{Among, is_by}
use Rattle.drivers.proofs.stepping.look.Goals as goal

pub returns-clause-looks : goal.returns-clause-looks
returns-clause-looks g c =
    let t = c.take-book.ensures in
    let j = c.take-book.result.journal in
    record {
      among = subst (λ (n : ℕ). Among (is_by n) c.args.seat.now.view.seen j) c.requires.first.0 t.among;
      legal = c.legal.ensures;
      owned = subst (λ (d : ℕ). IsOwned d j) (t.turn.3 ∙ t.same.1 ∙ c.requires.first.1) c.owned.ensures;
    }
