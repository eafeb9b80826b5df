-- What stays as a journal grows, and what is left where draining ended.
use Rattle.std.proofs.Common.{◌≡◌, ◌≢◌, ℕ, ◌+◌, ◌<◌, ◌==◌, zero, suc, List, [], ◌∷◌, ◌++◌, length, Bool, true, false, not, ◌&&◌, ◌||◌, refl, sym, ap, ◌∙◌, subst, inl, inr, arith, append_assoc, append-nil, length-append, ltb-true, ltb-false, true≢false}
use Rattle.std.specs.Prelude.{Option, Some, None, if◌then◌else◌, option_map, nat_lt}
use Rattle.std.proofs.lemmas.Bool.{lt-ltb, not-true}
use Rattle.std.proofs.lemmas.List.Folds.{list_any-append}
use Rattle.expiring_lock.specs.declared.refusal.Busy.{Busy}
use Rattle.journal_entries.specs.declared.act.Entry.{Entry}
use Rattle.journal_rules.specs.Documents.{is_in, makings, making_of, waiting}
use Rattle.journal_rules.specs.Legal.{closed, closed_by}
use Rattle.journal_rules.specs.Locks.{Acquiring, HeldBy, last_acquiring, released, is_held, is_held_in, is_expired}
use Rattle.journal_rules.proofs.Pushing.{closed-push, makings-push}
use Rattle.turn_rules.specs.Draining.{DrainsOne}
use Rattle.turn_rules.specs.Locking.{busy, busy_by}
use Rattle.turn_rules.specs.Turns.{Among, entry_by}
use Rattle.run_rules.specs.Threads.{is_by}
use Rattle.run_rules.proofs.Growing.{Extends}
use Rattle.book.specs.Calls.{refused_where, told}
use Rattle.book.specs.declared.faults.AcquireFault.{AcquireFault}
use Rattle.book.specs.declared.faults.AcquireFault.TheVariants as fault
use Rattle.workers.specs.Draining.{DrainsOf, IsWhyNoMore}
use Rattle.seat_turns.specs.Seats.{HoldsNoLock}
use Rattle.seat_turns.specs.Closings.{IsEachClosed}
use Rattle.workers.specs.Sweeping.{IsHeldByOther, IsSweptBy}
use Rattle.workers.proofs.Holding.{quiet_of, swept_quiet}

abbrev is_found : {X : Type 0} → Option X → Bool
is_found (Some x) = true
is_found None = false

pub grown_of : (seat doc n : ℕ) (left last : List Entry) → DrainsOf seat doc n left last → Extends left last
grown_of seat doc n left last x = let q = quiet_of seat (suc doc) doc n left last (λ is. absurd (omega (arith, is))) x in (q.0, q.1)

-- where a document is busy, and this seat holds no lock, another seat holds it
held_by_other : (seat doc : ℕ) (j : List Entry) (b : Busy) → HoldsNoLock seat j → (l : Option Acquiring) (h x : Bool) → last_acquiring doc j ≡ l → is_held doc j ≡ h → is_expired doc j ≡ x
    → (if h && not x then option_map busy_by l else None) ≡ Some b → IsHeldByOther seat doc j
held_by_other seat doc j b none (Some a) true false last held expired is =
    let stands : not (is_in a.token (released j)) ≡ true = ap (λ (o : Option Acquiring). is_held_in o (released j)) (sym last) ∙ held in
    let h : HeldBy doc a j = record { last = last; standing = not-true (is_in a.token (released j)) stands } in record {
      acquiring = a;
      held = h;
      unexpired = expired;
      other = none doc a h;
    }
held_by_other seat doc j b none None true false last held expired is = absurd (true≢false (sym (ap is_found is)))
held_by_other seat doc j b none l true true last held expired is = absurd (true≢false (sym (ap is_found is)))
held_by_other seat doc j b none l false x last held expired is = absurd (true≢false (sym (ap is_found is)))

-- why no further update was taken up of a document that was made
abbrev Ends : List ℕ → Option Busy → AcquireFault → Type 0
Ends waits b fault.Memory = Unit {0}
Ends waits b fault.Empty = waits ≡ []
Ends waits b (fault.Busy x) = b ≡ Some x
Ends waits b fault.NoDoc = ⊥
Ends waits b fault.Uncached = ⊥

ends_by : (m : Bool) (waits : List ℕ) (b : Option Busy) (f : AcquireFault) → m ≡ true → told f ≡ (if m then refused_where waits b else Some fault.NoDoc) → Ends waits b f
ends_by false waits b f made why = absurd (true≢false (sym made))
ends_by true waits b fault.Memory made why = tt
ends_by true [] b fault.Empty made why = refl
ends_by true (t ∷ ts) None fault.Empty made why = absurd (cc)
ends_by true (t ∷ ts) (Some x) fault.Empty made why = absurd (cc)
ends_by true [] b (fault.Busy x) made why = absurd (cc)
ends_by true (t ∷ ts) None (fault.Busy x) made why = absurd (cc)
ends_by true (t ∷ ts) (Some y) (fault.Busy x) made why = cc
ends_by true [] b fault.NoDoc made why = absurd (cc)
ends_by true (t ∷ ts) None fault.NoDoc made why = absurd (cc)
ends_by true (t ∷ ts) (Some x) fault.NoDoc made why = absurd (cc)
ends_by true [] b fault.Uncached made why = absurd (cc)
ends_by true (t ∷ ts) None fault.Uncached made why = absurd (cc)
ends_by true (t ∷ ts) (Some x) fault.Uncached made why = absurd (cc)

-- so it is swept there
swept_here : (drivers seat doc : ℕ) (j : List Entry) → HoldsNoLock seat j → IsEachClosed drivers j → (f : AcquireFault) → Ends (waiting doc j) (busy doc j) f → f ≢ fault.Memory → IsSweptBy drivers seat doc j
swept_here drivers seat doc j none closed fault.Memory e so = absurd (so refl)
swept_here drivers seat doc j none closed fault.Empty e so = record { look = j; rest = []; seen_is = sym (append-nil j); closed = closed; no_more = refl; left = inl e }
swept_here drivers seat doc j none closed (fault.Busy b) e so =
    record { look = j; rest = []; seen_is = sym (append-nil j); closed = closed; no_more = refl; left = inr (held_by_other seat doc j b none (last_acquiring doc j) (is_held doc j) (is_expired doc j) refl refl refl e) }
swept_here drivers seat doc j none closed fault.NoDoc e so = absurd e
swept_here drivers seat doc j none closed fault.Uncached e so = absurd e

-- one document more is swept
pub swept_more : (n drivers doc k : ℕ) (a b : List Entry) → IsEachClosed drivers b → HoldsNoLock n b → DrainsOf n doc k a b → (f : AcquireFault) → IsWhyNoMore doc b f → f ≢ fault.Memory → doc < length (makings b)
    → ((d : ℕ) → d < doc → IsSweptBy drivers n d a) → (d : ℕ) → d < doc + 1 → IsSweptBy drivers n d b
swept_more n drivers doc k a b closed none drains f why so made swept d low = go (nat_lt d doc) refl
  where
    go : (t : Bool) → nat_lt d doc ≡ t → IsSweptBy drivers n d b
    go true lt =
        let below : d < doc = ltb-true d doc lt in
        swept_quiet n d drivers a b (swept d below) (quiet_of n d doc k a b (λ same. absurd (omega (arith, same, below))) drains)
    go false ge =
        let same : doc ≡ d = omega (arith, ltb-false d doc ge, low) in
        subst (λ (x : ℕ). IsSweptBy drivers n x b) same
        (swept_here drivers n doc b none closed f (ends_by (nat_lt doc (length (makings b))) (waiting doc b) (busy doc b) f (lt-ltb doc (length (makings b)) made) why) so)
