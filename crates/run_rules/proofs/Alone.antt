-- One who writes alone: each turn begins where the last one ended.
use Rattle.std.proofs.Common.{◌≡◌, ℕ, ◌≤◌, List, ◌++◌, length, sym, ap, ◌∙◌, subst, inl, inr, arith}
use Rattle.journal_entries.specs.declared.act.Act.{Act}
use Rattle.journal_entries.specs.declared.act.Entry.{Entry}
use Rattle.turn_rules.specs.Draining.{Under}
use Rattle.turn_rules.specs.Turns.{Alone, Turn}

-- a turn of one who is alone makes its entries right behind the journal as it was left
pub alone_turn : (Makes : List Entry → List Entry → Type 0) (left last : List Entry) → Turn Alone Makes left last → (made : List Entry) × Makes left made × (last ≡ left ++ made)
alone_turn Makes left last t =
    (t.1, subst (λ (look : List Entry). Makes look t.1) t.2 t.3, t.4 ∙ ap (λ (look : List Entry). look ++ t.1) t.2)

-- a turn under a token makes at most one entry
pub one_under : (by : Act → Entry) (doc token : ℕ) (Is : Act → Type 0) (look made : List Entry) → Under by doc token Is look made → length made ≤ 1
one_under by doc token Is look made (inl x) = subst (λ (m : List Entry). length m ≤ 1) (sym x.2) (omega arith)
one_under by doc token Is look made (inr x) = subst (λ (m : List Entry). length m ≤ 1) (sym x.1) (omega arith)
