-- Drained updates, one behind the other: each takes one of those that wait.
use Rattle.std.proofs.Common.{◌≡◌, ℕ, zero, suc, ◌+◌, List, [], ◌∷◌, ◌++◌, length, sym, ap, ◌∙◌, subst, arith}
use Rattle.std.specs.Prelude.{Option, Some, None}
use Rattle.expiring_lock.specs.declared.refusal.Busy.{Busy}
use Rattle.journal_entries.specs.declared.act.Entry.{Entry}
use Rattle.journal_rules.specs.Documents.{waiting}
use Rattle.journal_rules.specs.Legal.{IsLegal}
use Rattle.journal_rules.proofs.Legality.{legal_front}
use Rattle.turn_rules.specs.Draining.{HeldUp, StopsAt, stop_by}
use Rattle.turn_rules.specs.Locking.{busy}
use Rattle.turn_rules.specs.Turns.{entry_by}
use Rattle.run_rules.proofs.Free.{takes_first}
use Rattle.dispatcher.specs.Draining.{DrainsMany}
use Rattle.script_driver.proofs.Apart.{one_drained}

-- ---- alone, each takes the first that waits, and locks that kept nobody out keep nobody out
legal_before : (left last : List Entry) (more : List Entry) → last ≡ left ++ more → IsLegal last → IsLegal left
legal_before left last more is legal = legal_front left more (subst IsLegal is legal)

module _ (line : Option ℕ) (doc : ℕ) where
  pub fewer : (n : ℕ) (left last : List Entry) → IsLegal last → DrainsMany (entry_by 0 line) doc n left last → n + length (waiting doc last) ≡ length (waiting doc left)
  fewer zero left last legal d = let same : length (waiting doc last) ≡ length (waiting doc left) = ap (λ (j : List Entry). length (waiting doc j)) d in omega (arith, same)
  fewer (suc n) left last legal d =
      let one = one_drained 0 line doc d.0 last d.2 in
      let taken = (takes_first 0 line doc d.0 last legal d.2).0 in
      let before = fewer n left d.0 (legal_before d.0 last one.more one.last_is legal) d.1 in
      let w = ap length taken.waited in let r = ap length taken.waits in
      omega (arith, before, w, r)

  pub still_free : (n : ℕ) (left last : List Entry) → IsLegal last → DrainsMany (entry_by 0 line) doc n left last → (d : ℕ) → busy d left ≡ None → busy d last ≡ None
  still_free zero left last legal many d free = ap (busy d) many ∙ free
  still_free (suc n) left last legal many d free =
      let one = one_drained 0 line doc many.0 last many.2 in
      (takes_first 0 line doc many.0 last legal many.2).1 d (still_free n left many.0 (legal_before many.0 last one.more one.last_is legal) many.1 d free)

-- a document that nobody keeps doesn't hold a drain up
stop_free : (w : List ℕ) (b : Busy) → stop_by w None ≡ Some (HeldUp b) → ⊥
stop_free [] b e = cc
stop_free (t ∷ ts) b e = cc

pub never_held : (doc : ℕ) (b : Busy) (j : List Entry) → busy doc j ≡ None → StopsAt doc j (HeldUp b) → ⊥
never_held doc b j free at = stop_free (waiting doc j) b (ap (stop_by (waiting doc j)) (sym free) ∙ at)
