-- What was taken up to be put into the keeper stays so while others write, or another acquired its lock since.
use Rattle.std.proofs.Common.{◌≡◌, ◌≢◌, ℕ, List, [], ◌∷◌, ◌++◌, length, All, false, refl, inr, sym, ap, ◌∙◌, subst, append-nil, append_assoc}
use Rattle.std.specs.Prelude.{Option, Some, None, Result, Ok, Err, nat_lt, if◌then◌else◌}
use Rattle.std.specs.declared.alloc.AllocError.{AllocError}
use Rattle.std.proofs.lemmas.Bool.{lt-ltb}
use Rattle.std.proofs.lemmas.List.Elements.{All-append}
use Rattle.ranges_tracker.specs.Kept.{IsKept}
use Rattle.expiring_lock.specs.declared.refusal.Stale.{Stale}
use Rattle.journal_entries.specs.declared.act.Entry.{Entry}
use Rattle.journal_entries.specs.declared.why.Why.{Why}
use Rattle.journal_entries.specs.declared.why.Why.TheVariants as why
use Rattle.journal_rules.specs.Documents.{IsMade, is_in, makings, version}
use Rattle.journal_rules.specs.Keeping.{kept}
use Rattle.journal_rules.specs.Legal.{IsLegal}
use Rattle.journal_rules.specs.Locks.{Acquiring, Holds, next_token, released, used_by}
use Rattle.journal_rules.proofs.Legality.{legal_front}
use Rattle.journal_rules.proofs.Waits.{all_none}
use Rattle.turn_rules.specs.Draining.{IsTakenOver}
use Rattle.turn_rules.specs.Locking.{acquired, staleness, unavailable}
use Rattle.turn_rules.specs.Turns.{Alone, Among, entry_by}
use Rattle.run_rules.specs.Threads.{is_by}
use Rattle.book.specs.Calls.{acquire_any_refused, told}
use Rattle.book.specs.Flushing.{IsKeptLook, IsMadeOf, IsPreparedFor, IsTaken}
use Rattle.book.specs.Shown.{Shown, adds}
use Rattle.book.specs.declared.faults.AcquireFault.{AcquireFault}
use Rattle.book.specs.declared.faults.AcquireFault.TheVariants as fault
use Rattle.book.specs.declared.faults.KeptLook.{KeptLook}
use Rattle.book.specs.declared.faults.PreparedKept.{PreparedKept}
use Rattle.book.proofs.Acquirings.{IsKnown}
use Rattle.book.proofs.Fenced.{last_stays, under}
use Rattle.book.proofs.Putting.{prepared_at_once}
use Rattle.book.proofs.Taken.{unreleased}
use Rattle.flush_manager.specs.Flushes.{not_flushable}
use Rattle.flush_manager.proofs.Flushing.{not_empty, token_taken, told_why, whys}
use Rattle.seat_turns.specs.Seats.{IsLongerBy}
use Rattle.seat_turns.proofs.Standing.{known_since, overtaken, unreleased_behind, unused_by_others}
use Rattle.seat_turns.proofs.Turning.{longer_by_acts, longer_by_none}
use Rattle.flusher.specs.Taking.{AcquiresIfNeeded, IsAcquired, IsLeftAlone, IsTakenUp}

-- ---- what was taken up
module _ (seat : ℕ) (look : KeptLook) where
  known_up : (j : List Entry) (up : IsTakenUp seat look j) → IsLegal j → IsKnown up.looked.taken.acquiring j
  known_up j up legal = known_since look.doc up.looked.taken.acquiring up.early up.more j up.journal_is legal up.looked.taken.last

  pub taken_among : (seen journal : List Entry) → IsLegal journal → Among (is_by seat) seen journal → IsTakenUp seat look seen → IsTakenUp seat look journal
  taken_among seen journal legal among up =
      let on : IsLegal (seen ++ among.0) = subst IsLegal among.1 legal in
      let known = known_up seen up (legal_front seen among.0 on) in
      let t = up.looked.taken in
      record {
        early = up.early;
        more = up.more ++ among.0;
        journal_is = among.1 ∙ ap (λ (j : List Entry). j ++ among.0) up.journal_is ∙ append_assoc up.early up.more among.0;
        looked = up.looked;
        ready = up.ready;
        unused = All-append (λ (e : Entry). is_in look.token (used_by e.act) ≡ false) up.more among.0 up.unused
            (unused_by_others seat look.token t.acquiring t.token_is t.seat_is among.0 seen on known among.2);
        unreleased = ap (λ (j : List Entry). is_in look.token (released j)) among.1
            ∙ unreleased_behind seat look.token t.acquiring t.token_is t.seat_is among.0 seen on known among.2 up.unreleased;
      }

  pub taken_over : (j : List Entry) (s : Stale) → IsLegal j → IsTakenUp seat look j → staleness look.doc look.token j ≡ Some s → IsTakenOver look.doc look.token j
  taken_over j s legal up stale = overtaken look.doc look.token up.looked.taken.acquiring j s (known_up j up legal) up.looked.taken.token_is up.unreleased stale

  pub holds_up : (j : List Entry) → IsLegal j → IsTakenUp seat look j → staleness look.doc look.token j ≡ None → Holds seat look.doc look.token j
  holds_up j legal up stands =
      let now = under look.doc look.token j stands in
      let t = up.looked.taken in
      let same : t.acquiring ≡ now.acquiring = last_stays look.doc look.token up.early up.more j t.acquiring up.journal_is legal t.last t.token_is now in
      record { acquiring = now.acquiring; held = now.held; token_is = now.token_is; seat_is = ap (λ (a : Acquiring). a.seat) (sym same) ∙ t.seat_is }

  -- what is made of it may be put
  pub prepared_up : (prepared : PreparedKept) (j : List Entry) → IsTakenUp seat look j → IsMadeOf look prepared → IsPreparedFor j seat prepared
  prepared_up prepared j up made =
      let p = prepared_at_once look prepared seat up.early up.looked made in
      record {
        early = p.early;
        more = p.more ++ up.more;
        journal_is = up.journal_is ∙ ap (λ (j : List Entry). j ++ up.more) p.journal_is ∙ append_assoc p.early p.more up.more;
        taken = p.taken;
        kept_is = p.kept_is;
        unused = All-append (λ (e : Entry). is_in prepared.token (used_by e.act) ≡ false) p.more up.more p.unused
            (subst (λ (t : ℕ). All (λ (e : Entry). is_in t (used_by e.act) ≡ false) up.more) (sym made.token_is) up.unused);
      }

-- ---- the turn that takes it up
module _ (doc : ℕ) (j : List Entry) (made : IsMade doc j) where
  flushable_is : not_flushable doc j ≡ unavailable doc j
  flushable_is = ap (λ b. if b then unavailable doc j else Some why.NoDoc) (lt-ltb doc (length (makings j)) made)

  pub available : acquire_any_refused doc j ≡ None → unavailable doc j ≡ None
  available none = sym flushable_is ∙ sym (told_why doc j) ∙ ap whys none

  -- it was refused for another cause than want of memory
  pub left_alone : (f : AcquireFault) → told f ≡ acquire_any_refused doc j → f ≢ fault.Memory → IsLeftAlone doc j
  left_alone fault.Memory is other = absurd (other refl)
  left_alone fault.Empty is other = absurd (not_empty doc j is)
  left_alone fault.NoDoc is other = inr (why.NoDoc, sym (ap whys is ∙ told_why doc j ∙ flushable_is))
  left_alone (fault.Busy b) is other = inr (why.Busy b, sym (ap whys is ∙ told_why doc j ∙ flushable_is))
  left_alone fault.Uncached is other = inr (why.Uncached, sym (ap whys is ∙ told_why doc j ∙ flushable_is))

module _ (seat : ℕ) (line : Option ℕ) (doc : ℕ) (old new : Shown) (look : KeptLook) (is : new ≡ adds old seat line (acquired doc old.journal ∷ [])) (looks : IsKeptLook new.journal seat look) (doc_is : look.doc ≡ doc) (legal : IsLegal old.journal) where
  last_is : new.journal ≡ old.journal ++ entry_by seat line (acquired doc old.journal) ∷ []
  last_is = ap (λ (b : Shown). b.journal) is

  pub acquired_at : kept doc old.journal ≢ Some (version doc old.journal) → unavailable doc old.journal ≡ None → IsKept look.text look.version look.ranges → IsAcquired (entry_by seat line) seat doc old.journal look new.journal
  acquired_at unkept free ready =
      let token = token_taken seat line doc old.journal new.journal look last_is looks doc_is legal in
      record {
        unkept = unkept;
        free = free;
        doc_is = doc_is;
        token_is = token;
        last_is = last_is;
        taken = record {
          early = new.journal;
          more = [];
          journal_is = sym (append-nil new.journal);
          looked = looks;
          ready = ready;
          unused = all_none (λ (e : Entry). is_in look.token (used_by e.act) ≡ false);
          unreleased = ap (λ (t : ℕ). is_in t (released new.journal)) token ∙ unreleased seat line doc old.journal new.journal last_is legal;
        };
      }

-- ---- the turn among others
module _ (seat doc : ℕ) where
  pub longer_by_acquiring : (old new : List Entry) (r : Result (Option KeptLook) AllocError) → AcquiresIfNeeded (entry_by seat None) Alone seat doc old new r → IsLongerBy seat old new
  longer_by_acquiring old new (Ok (Some look)) a = longer_by_acts seat None (acquired doc a.0 ∷ []) old new (a.2.last_is ∙ ap (λ (j : List Entry). j ++ entry_by seat None (acquired doc a.0) ∷ []) a.1)
  longer_by_acquiring old new (Ok None) a = longer_by_none seat old new a.0
  longer_by_acquiring old new (Err e) a = longer_by_none seat old new a

  acquires_after : (left look last : List Entry) (r : Result (Option KeptLook) AllocError) → Among (is_by seat) left look → AcquiresIfNeeded (entry_by seat None) Alone seat doc look last r → AcquiresIfNeeded (entry_by seat None) (Among (is_by seat)) seat doc left last r
  acquires_after left look last (Ok (Some x)) among a = (a.0, subst (λ (j : List Entry). Among (is_by seat) left j) (sym a.1) among, a.2)
  acquires_after left look last (Ok None) among a = (subst (λ (j : List Entry). Among (is_by seat) left j) (sym a.0) among, a.1)
  acquires_after left look last (Err e) among a = subst (λ (j : List Entry). Among (is_by seat) left j) (sym a) among

-- the same, of a seat whose number is known by an equation
module _ (m n doc : ℕ) (number : m ≡ n) (left old new : List Entry) (r : Result (Option KeptLook) AllocError) (a : AcquiresIfNeeded (entry_by m None) Alone m doc old new r) where
  pub acquires_at : (last : List Entry) → Among (is_by n) left old → last ≡ new → AcquiresIfNeeded (entry_by n None) (Among (is_by n)) n doc left last r
  acquires_at last among seen =
      subst (λ (j : List Entry). AcquiresIfNeeded (entry_by n None) (Among (is_by n)) n doc left j r) (sym seen)
      (acquires_after n doc left old new r among (subst (λ (k : ℕ). AcquiresIfNeeded (entry_by k None) Alone k doc old new r) number a))
