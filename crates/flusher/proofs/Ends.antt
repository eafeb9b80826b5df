-- What was taken up is put, and its lock let go: alone at a look, and so among others.
use Rattle.std.proofs.Common.{◌≡◌, ℕ, Bool, List, [], ◌∷◌, ◌++◌, refl, sym, ap, ◌∙◌, subst, inl, inr, append-nil, ◌⊎◌}
use Rattle.std.specs.Prelude.{Option, Some, None, Result, Ok, Err, IfOk, IfErr, OnErr}
use Rattle.std.specs.declared.alloc.AllocError.{AllocError}
use Rattle.expiring_lock.specs.declared.refusal.Stale.{Stale}
use Rattle.journal_entries.specs.declared.act.Act.{Act}
use Rattle.journal_entries.specs.declared.act.Act.TheVariants.{Released}
use Rattle.journal_entries.specs.declared.act.Entry.{Entry}
use Rattle.journal_rules.specs.Locks.{Acquiring, Holds, acquired_by, released_by}
use Rattle.turn_rules.specs.Draining.{IsRelease, IsTakenOver, Releases, Under}
use Rattle.turn_rules.specs.Flushing.{IsPut, Puts}
use Rattle.turn_rules.specs.Locking.{staleness}
use Rattle.turn_rules.specs.Turns.{Alone, Among, entry_by}
use Rattle.run_rules.specs.Threads.{is_by}
use Rattle.run_rules.proofs.Growing.{among_same}
use Rattle.book.specs.Flushing.{MayNotFlush}
use Rattle.book.specs.Shown.{Shown, adds}
use Rattle.book.specs.declared.faults.FlushFault.{FlushFault}
use Rattle.book.specs.declared.faults.FlushFault.TheVariants as fault
use Rattle.book.specs.declared.faults.KeptLook.{KeptLook}
use Rattle.book.specs.declared.faults.PreparedKept.{PreparedKept}
use Rattle.book.proofs.Taken.{still_holds, still_stale}
use Rattle.seat_turns.specs.Seats.{IsLongerBy}
use Rattle.seat_turns.proofs.Turning.{longer_by_acts, longer_by_none, longer_by_turn, longer_on, releases_alone, turn_after}
use Rattle.flusher.specs.Putting.{EndsFlush, EndsPut}
use Rattle.flusher.specs.declared.putting.PutEnd.TheVariants.{Done}

-- what was put says nothing of locks
module _ (seat : ℕ) (line : Option ℕ) (doc token : ℕ) (act : Act) (old new : List Entry) (is : new ≡ old ++ entry_by seat line act ∷ []) where
  says_nothing : IsPut doc token act → ((o : Option Acquiring) → acquired_by doc seat act o ≡ o) × (released_by act ≡ [])
  says_nothing (inl x) = subst (λ (a : Act). ((o : Option Acquiring) → acquired_by doc seat a o ≡ o) × (released_by a ≡ [])) (sym x.1) ((λ o. refl), refl)
  says_nothing (inr x) = subst (λ (a : Act). ((o : Option Acquiring) → acquired_by doc seat a o ≡ o) × (released_by a ≡ [])) (sym x.2) ((λ o. refl), refl)

  pub holds_behind : IsPut doc token act → Holds seat doc token old → Holds seat doc token new
  holds_behind put h = let n = says_nothing put in still_holds seat line act doc token old new is n.0 n.1 seat h

  pub stale_behind : IsPut doc token act → staleness doc token new ≡ staleness doc token old
  stale_behind put = let n = says_nothing put in still_stale seat line act doc token old new is n.0 n.1

-- it was put, and the lock is let go
pub puts_alone : (by : Act → Entry) (doc token : ℕ) (act : Act) (old mid new : List Entry) → IsPut doc token act → mid ≡ old ++ by act ∷ [] → Releases by Alone doc token mid new → Puts by Alone (λ late. []) doc token old new
puts_alone by doc token act old mid new put is r = (old, refl, inl (act, put, subst (λ (j : List Entry). Releases by Alone doc token j new) is r))

-- nothing was put, since another acquired the lock
pub overtaken_alone : (by : Act → Entry) (doc token : ℕ) (old new : List Entry) → IsTakenOver doc token old → new ≡ old → Puts by Alone (λ late. []) doc token old new
overtaken_alone by doc token old new over is = (old, refl, inr (over, is ∙ sym (append-nil old)))

-- what the keeper did, and then the release
module _ (seat : ℕ) (line : Option ℕ) (look : KeptLook) (old mid new : Shown) (r : Result Bool Stale) (More : Bool → Type 0)
    (ok : IfOk r (λ more. (staleness look.doc look.token mid.journal ≡ None) × More more × (new ≡ adds mid seat line (Released look.doc look.token ∷ [])))) (stale : IfErr r (λ s. staleness look.doc look.token mid.journal ≡ Some s)) (kept : OnErr r (new ≡ mid)) where
  pub put_released : EndsPut (entry_by seat line) look.doc look.token old.journal mid.journal Done → Puts (entry_by seat line) Alone (λ late. []) look.doc look.token old.journal new.journal
  put_released e =
      let stands = stale_behind seat line look.doc look.token e.1.0 old.journal mid.journal e.1.2 e.1.1 ∙ e.0 in
      puts_alone (entry_by seat line) look.doc look.token e.1.0 old.journal mid.journal new.journal e.1.1 e.1.2
      (releases_alone seat line look.doc look.token mid new r More (λ s is. let f : None ≡ Some s = sym stands ∙ is in absurd (cc)) ok stale kept)

  pub released_alone : mid.journal ≡ old.journal → ((s : Stale) → staleness look.doc look.token old.journal ≡ Some s → IsTakenOver look.doc look.token old.journal) → Releases (entry_by seat line) Alone look.doc look.token old.journal new.journal
  released_alone same over =
      subst (λ (j : List Entry). Releases (entry_by seat line) Alone look.doc look.token j new.journal) same
      (releases_alone seat line look.doc look.token mid new r More
      (λ s is. subst (λ (j : List Entry). IsTakenOver look.doc look.token j) (sym same) (over s (ap (staleness look.doc look.token) (sym same) ∙ is))) ok stale kept)

-- why a put did nothing
pub stale_of : (old new : Shown) (seat : ℕ) (line : Option ℕ) (prepared : PreparedKept) (f : FlushFault) (s : Stale) → f ≡ fault.Stale s → MayNotFlush old new seat line prepared f → (staleness prepared.doc prepared.token old.journal ≡ Some s) × (new ≡ old)
stale_of old new seat line prepared f s is may = subst (λ (x : FlushFault). MayNotFlush old new seat line prepared x) is may

-- ---- among others
-- at a look it is put and its lock let go, or nothing is done since another acquired the lock
abbrev pub PutsAt : (List Entry → List Entry → Type 0) → ℕ → ℕ → ℕ → List Entry → List Entry → Type 0
PutsAt Next seat doc token at last =
    ((act : Act) × IsPut doc token act × Releases (entry_by seat None) Next doc token (at ++ entry_by seat None act ∷ []) last) ⊎ (IsTakenOver doc token at × (last ≡ at ++ []))

module _ (seat doc token : ℕ) where
  releases_after : (left look last : List Entry) → Among (is_by seat) left look → Releases (entry_by seat None) Alone doc token look last → Releases (entry_by seat None) (Among (is_by seat)) doc token left last
  releases_after left look last among r = turn_after (is_by seat) (Under (entry_by seat None) doc token (IsRelease doc token)) left look last among r

  puts_after : (at last : List Entry) → PutsAt Alone seat doc token at last → PutsAt (Among (is_by seat)) seat doc token at last
  puts_after at last (inl p) = let put = at ++ entry_by seat None p.0 ∷ [] in inl (p.0, p.1, releases_after put put last (among_same (is_by seat) put) p.2)
  puts_after at last (inr p) = inr p

  ends_after : (left look last : List Entry) (r : Result (Unit {0}) AllocError) → Among (is_by seat) left look → EndsFlush (entry_by seat None) Alone doc token look last r → EndsFlush (entry_by seat None) (Among (is_by seat)) doc token left last r
  ends_after left look last (Ok done) among p = (p.0, subst (λ (j : List Entry). Among (is_by seat) left j) (sym p.1) among, puts_after p.0 last p.2)
  ends_after left look last (Err e) among r = releases_after left look last among r

  longer_by_release : (look last : List Entry) → Releases (entry_by seat None) Alone doc token look last → IsLongerBy seat look last
  longer_by_release look last r = longer_by_turn seat None doc token (IsRelease doc token) look last r

  longer_by_put : (at last : List Entry) → PutsAt Alone seat doc token at last → IsLongerBy seat at last
  longer_by_put at last (inl p) = let put = at ++ entry_by seat None p.0 ∷ [] in longer_on seat at put last (longer_by_acts seat None (p.0 ∷ []) at put refl) (longer_by_release put last p.2)
  longer_by_put at last (inr p) = longer_by_none seat at last (p.1 ∙ append-nil at)

  pub longer_by_end : (look last : List Entry) (r : Result (Unit {0}) AllocError) → EndsFlush (entry_by seat None) Alone doc token look last r → IsLongerBy seat look last
  longer_by_end look last (Ok done) p = subst (λ (j : List Entry). IsLongerBy seat j last) p.1 (longer_by_put p.0 last p.2)
  longer_by_end look last (Err e) r = longer_by_release look last r

-- the same, of a seat whose number is known by an equation
module _ (m n doc token : ℕ) (number : m ≡ n) (look last : List Entry) (r : Result (Unit {0}) AllocError) (ends : EndsFlush (entry_by m None) Alone doc token look last r) where
  pub ends_at : (left seen : List Entry) → Among (is_by n) left look → seen ≡ last → EndsFlush (entry_by n None) (Among (is_by n)) doc token left seen r
  ends_at left seen among is =
      subst (λ (j : List Entry). EndsFlush (entry_by n None) (Among (is_by n)) doc token left j r) (sym is)
      (ends_after n doc token left look last r among (subst (λ (k : ℕ). EndsFlush (entry_by k None) Alone doc token look last r) number ends))

pub ends_same : (m n doc token : ℕ) (left last : List Entry) (r : Result (Unit {0}) AllocError) → m ≡ n → EndsFlush (entry_by m None) (Among (is_by m)) doc token left last r → EndsFlush (entry_by n None) (Among (is_by n)) doc token left last r
ends_same m n doc token left last r is e = subst (λ (k : ℕ). EndsFlush (entry_by k None) (Among (is_by k)) doc token left last r) is e
