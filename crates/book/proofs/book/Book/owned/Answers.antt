use Rattle.std.proofs.Common.{subst}
use Rattle.turn_rules.specs.Owning.{IsOwned}
use Rattle.book.specs.Shown.{Shown}
use Rattle.book.proofs.book.Book.owned.Goals as goal

pub returns : goal.returns
returns g c = subst (λ (v : Shown). IsOwned v.drivers v.journal) c.self.view_is c.self.invariant.owned
