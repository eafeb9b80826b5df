-- What a store ends as, once a value that was lent has ended.
use Rattle.std.specs.Prelude.{ℕ, List, Option}
use Rattle.std.specs.Borrow.{LendsIf, Fml, RattleType, MutBor}
use Rattle.keyed_store.specs.Stores.{set_value_at}
use Rattle.keyed_store.specs.contracts.store.Store as store

-- the store has the last value written through r at the number, and at `None` it stays as it is
abbrev pub LendsValue : (S : RattleType) → MutBor (List (List ℕ × S.Denot)) → ℕ → Option (MutBor S.Denot) → Fml
LendsValue S s at r = LendsIf (store.the_row S) S s r (set_value_at s.now at) s.now
