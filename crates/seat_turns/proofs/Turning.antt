-- A turn of one alone, from a look that others have led to; and what is made in it is one's own.
use Rattle.std.proofs.Common.{◌≡◌, ℕ, List, [], ◌∷◌, ◌++◌, map, All, Bool, refl, sym, ap, ◌∙◌, subst, inl, inr, append-nil, append_assoc, zero, suc, arith}
use Rattle.std.specs.Prelude.{Option, Some, None, Result, Ok, Err, IfOk, IfErr, OnErr}
use Rattle.std.proofs.lemmas.List.Elements.{All-append}
use Rattle.expiring_lock.specs.declared.refusal.Stale.{Stale}
use Rattle.journal_entries.specs.declared.act.Act.{Act}
use Rattle.journal_entries.specs.declared.act.Act.TheVariants.{Released}
use Rattle.journal_entries.specs.declared.act.Entry.{Entry}
use Rattle.turn_rules.specs.Draining.{IsTakenOver, Releases, Under}
use Rattle.turn_rules.specs.Locking.{staleness}
use Rattle.turn_rules.specs.Turns.{Alone, Among, Turn, entry_by}
use Rattle.book.specs.Shown.{Shown, adds}
use Rattle.seat_turns.specs.Seats.{IsLongerBy}

-- the turn of one alone is a turn among others
pub turn_after : (own : Entry → Bool) (Makes : List Entry → List Entry → Type 0) (left look last : List Entry) → Among own left look → Turn Alone Makes look last → Turn (Among own) Makes left last
turn_after own Makes left look last among t = (t.0, t.1, subst (λ (j : List Entry). Among own left j) (sym t.2) among, t.3, t.4)

-- acts of a seat are its own
pub all_by : (seat : ℕ) (line : Option ℕ) (acts : List Act) → All (λ (e : Entry). e.seat ≡ seat) (map (entry_by seat line) acts)
all_by seat line [] k d h = absurd (omega arith)
all_by seat line (act ∷ acts) zero d h = refl
all_by seat line (act ∷ acts) (suc k) d h = all_by seat line acts k d (omega arith)

own_acts : (seat : ℕ) (line : Option ℕ) (acts : List Act) (made : List Entry) → made ≡ map (entry_by seat line) acts → All (λ (e : Entry). e.seat ≡ seat) made
own_acts seat line acts made is = subst (λ (m : List Entry). All (λ (e : Entry). e.seat ≡ seat) m) (sym is) (all_by seat line acts)

pub longer_by_acts : (seat : ℕ) (line : Option ℕ) (acts : List Act) (look last : List Entry) → last ≡ look ++ map (entry_by seat line) acts → IsLongerBy seat look last
longer_by_acts seat line acts look last is = (map (entry_by seat line) acts, is, all_by seat line acts)

pub longer_by_none : (seat : ℕ) (look last : List Entry) → last ≡ look → IsLongerBy seat look last
longer_by_none seat look last is = ([], is ∙ sym (append-nil look), λ k d h. absurd (omega arith))

own_under : (seat : ℕ) (line : Option ℕ) (doc token : ℕ) (Is : Act → Type 0) (look made : List Entry) → Under (entry_by seat line) doc token Is look made → All (λ (e : Entry). e.seat ≡ seat) made
own_under seat line doc token Is look made (inl x) = own_acts seat line (x.0 ∷ []) made x.2
own_under seat line doc token Is look made (inr x) = own_acts seat line [] made x.1

pub longer_by_turn : (seat : ℕ) (line : Option ℕ) (doc token : ℕ) (Is : Act → Type 0) (look last : List Entry) → Turn Alone (Under (entry_by seat line) doc token Is) look last → IsLongerBy seat look last
longer_by_turn seat line doc token Is look last t = (t.1, t.4 ∙ ap (λ (j : List Entry). j ++ t.1) t.2, own_under seat line doc token Is t.0 t.1 t.3)

pub longer_on : (seat : ℕ) (a b c : List Entry) → IsLongerBy seat a b → IsLongerBy seat b c → IsLongerBy seat a c
longer_on seat a b c x y = (
  x.0 ++ y.0,
  y.1 ∙ ap (λ (j : List Entry). j ++ y.0) x.1 ∙ append_assoc a x.0 y.0,
  All-append (λ (e : Entry). e.seat ≡ seat) x.0 y.0 x.2 y.2,
)

-- the same, of a seat whose number and whose journal are known by equations
pub longer_at : (m n : ℕ) (a b c : List Entry) → m ≡ n → a ≡ b → IsLongerBy m a c → IsLongerBy n b c
longer_at m n a b c number seen x = subst (λ (p : ℕ × List Entry). IsLongerBy p.0 p.1 c) (λ i. (number i, seen i)) x

-- a lock is let go, or another acquired it since
pub releases_alone : (seat : ℕ) (line : Option ℕ) (doc token : ℕ) (old new : Shown) (r : Result Bool Stale) (More : Bool → Type 0) → ((s : Stale) → staleness doc token old.journal ≡ Some s → IsTakenOver doc token old.journal)
    → IfOk r (λ more. (staleness doc token old.journal ≡ None) × More more × (new ≡ adds old seat line (Released doc token ∷ []))) → IfErr r (λ s. staleness doc token old.journal ≡ Some s) → OnErr r (new ≡ old)
    → Releases (entry_by seat line) Alone doc token old.journal new.journal
releases_alone seat line doc token old new (Ok more) More over ok stale kept =
    (old.journal, entry_by seat line (Released doc token) ∷ [], refl, inl (Released doc token, refl, refl), ap (λ (b : Shown). b.journal) ok.2)
releases_alone seat line doc token old new (Err s) More over ok stale kept = (old.journal, [], refl, inr (over s stale, refl), ap (λ (b : Shown). b.journal) kept ∙ sym (append-nil old.journal))
