-- The turns of a drained update: made alone at their looks, they are turns among others, and what they make is one's own.
use Rattle.std.proofs.Common.{◌≡◌, ℕ, List, true, sym, subst, Bool}
use Rattle.std.specs.Prelude.{Option, None}
use Rattle.journal_entries.specs.declared.act.Act.{Act}
use Rattle.journal_entries.specs.declared.act.Entry.{Entry}
use Rattle.turn_rules.specs.Draining.{DrainsOne, IsCommit, IsRelease, Settles, TakesUp, Under}
use Rattle.turn_rules.specs.Turns.{Alone, Among, Turn, entry_by}
use Rattle.run_rules.specs.Threads.{is_by}
use Rattle.run_rules.proofs.Growing.{among_same}
use Rattle.seat_turns.specs.Seats.{IsLongerBy}
use Rattle.seat_turns.proofs.Turning.{longer_by_turn, longer_on, turn_after}

pub settles_after : (own : Entry → Bool) (by : Act → Entry) (doc token : ℕ) (left look last : List Entry) → Among own left look → Settles by Alone true doc token look last → Settles by (Among own) true doc token left last
settles_after own by doc token left look last among s = (
  s.0,
  turn_after own (Under by doc token (IsCommit doc token)) left look s.0 among s.1,
  turn_after own (Under by doc token (IsRelease doc token)) s.0 s.0 last (among_same own s.0) s.2,
)

pub longer_by_settling : (seat : ℕ) (line : Option ℕ) (doc token : ℕ) (look last : List Entry) → Settles (entry_by seat line) Alone true doc token look last → IsLongerBy seat look last
longer_by_settling seat line doc token look last s =
    longer_on seat look s.0 last
    (longer_by_turn seat line doc token (IsCommit doc token) look s.0 s.1)
    (longer_by_turn seat line doc token (IsRelease doc token) s.0 last s.2)

pub settles_at : (m n doc token : ℕ) (left look mid last : List Entry) → m ≡ n → Among (is_by n) left look → Settles (entry_by m None) Alone true doc token look mid → last ≡ mid → Settles (entry_by n None) (Among (is_by n)) true doc token left last
settles_at m n doc token left look mid last number among s seen =
    subst (λ (j : List Entry). Settles (entry_by n None) (Among (is_by n)) true doc token left j) (sym seen)
    (settles_after (is_by n) (entry_by n None) doc token left look mid among (subst (λ (k : ℕ). Settles (entry_by k None) Alone true doc token look mid) number s))

pub drains_at : (n m doc d token : ℕ) (left mid last : List Entry) → m ≡ n → d ≡ doc → Turn (Among (is_by n)) (TakesUp (entry_by n None) doc token true) left mid → Settles (entry_by m None) (Among (is_by m)) true d token mid last → DrainsOne (entry_by n None) (Among (is_by n)) doc left last
drains_at n m doc d token left mid last number doc_is t s =
    (token, true, mid, t, subst (λ (p : ℕ × ℕ). Settles (entry_by p.0 None) (Among (is_by p.0)) true p.1 token mid last) (λ i. (number i, doc_is i)) s)
