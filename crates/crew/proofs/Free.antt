-- Where seat 0 alone has written, no other seat holds a lock.
use Rattle.std.proofs.Common.{◌≡◌, ◌≢◌, ℕ, suc, List, [], ◌∷◌, All, Bool, true, ◌&&◌, refl, sym, ap₂, ◌∙◌, subst, arith, eqb-true, eq-eqb}
use Rattle.std.specs.Prelude.{◌==◌, Option}
use Rattle.std.specs.List.{list_all}
use Rattle.journal_entries.specs.declared.act.Entry.{Entry}
use Rattle.seat_turns.specs.Seats.{HoldsNoLock}
use Rattle.crew_rules.proofs.Lasts.{Is, is_last, last_has, last_seat}

all_first : (es : List Entry) → All (λ (e : Entry). e.seat ≡ 0) es → list_all (λ e. e.seat == 0) es ≡ true
all_first [] all = refl
all_first (e ∷ es) all = ap₂ (λ (p q : Bool). p && q) (eq-eqb e.seat 0 (all 0 e (omega arith))) (all_first es (λ k d h. all (suc k) d (omega (arith, h))))

pub none_held : (seat : ℕ) (journal : List Entry) → All (λ (e : Entry). e.seat ≡ 0) journal → seat ≢ 0 → HoldsNoLock seat journal
none_held seat journal all other doc a held same =
    let e = last_seat doc journal a held.last in
    let first = subst (λ (o : Option Entry). Is (λ e. e.seat == 0) o) e.1 (last_has (is_last doc) (λ e. e.seat == 0) journal (all_first journal all)) in
    other (sym same ∙ sym e.3 ∙ eqb-true e.0.seat 0 first)
