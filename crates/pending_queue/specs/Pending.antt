-- What contracts see of a queue.
use Rattle.std.specs.Prelude.{ℕ, List, refl}
use Rattle.std.specs.Coded.{Coded, code_by, coded×, coded_list, coded_ℕ}

-- the items that wait, the first to come in front, and how many more there is room for
pub record Pending (X : Type 0) : Type 0 where
  pub items : List X
  pub spare : ℕ

-- it's stored as the pair of its fields
abbrev pub pending_code : {X : Type 0} → Coded X → Coded (Pending X)
pending_code code =
    code_by (List _ × ℕ) (coded× (coded_list code) coded_ℕ) (λ q. (q.items, q.spare)) (λ p. record { items = p.0; spare = p.1 }) (λ _. refl)
