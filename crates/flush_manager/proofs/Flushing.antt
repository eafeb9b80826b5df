-- A document is taken up, put into the keeper, and let go.
use Rattle.std.proofs.Common.{◌≡◌, ℕ, List, [], ◌∷◌, ◌++◌, length, Bool, true, false, inr, refl, sym, ap, ap₂, ◌∙◌, subst, append_assoc}
use Rattle.std.specs.Prelude.{Option, Some, None, nat_lt, if◌then◌else◌}
use Rattle.expiring_lock.specs.declared.refusal.Busy.{Busy}
use Rattle.journal_entries.specs.declared.act.Act.{Act}
use Rattle.journal_entries.specs.declared.act.Act.TheVariants.{Flushed, FlushFailed, Released}
use Rattle.journal_entries.specs.declared.act.Entry.{Entry}
use Rattle.journal_entries.specs.declared.why.Why.{Why}
use Rattle.journal_entries.specs.declared.why.Why.TheVariants as why
use Rattle.journal_rules.specs.Documents.{makings}
use Rattle.journal_rules.specs.Keeping.{cached}
use Rattle.journal_rules.specs.Legal.{IsLegal}
use Rattle.journal_rules.specs.Locks.{Acquiring, Holds, acquired_by, last_acquiring, next_token, released_by}
use Rattle.turn_rules.specs.Locking.{acquired, busy, staleness, unavailable_by}
use Rattle.turn_rules.specs.Turns.{entry_by}
use Rattle.book.specs.Calls.{acquire_any_refused, unavailable_by as unavailable_fault}
use Rattle.book.specs.Flushing.{IsKeptLook}
use Rattle.book.specs.declared.faults.AcquireFault.{AcquireFault}
use Rattle.book.specs.declared.faults.AcquireFault.TheVariants as acquire
use Rattle.book.specs.declared.faults.KeptLook.{KeptLook}
use Rattle.book.proofs.Taken as taken
use Rattle.flush_manager.specs.Flushes.{Flushes, Puts, not_flushable}
use Rattle.flush_manager.specs.declared.flush.FlushEnd.{FlushEnd}
use Rattle.flush_manager.specs.declared.flush.FlushEnd.TheVariants.{Done, Failed, Memory, Refused}

-- ---- why it can't be taken up
-- the cause that is told of a refused acquiring
abbrev pub why_of : AcquireFault → Option Why
why_of acquire.NoDoc = Some why.NoDoc
why_of (acquire.Busy b) = Some (why.Busy b)
why_of acquire.Uncached = Some why.Uncached
why_of _ = None

abbrev pub whys : Option AcquireFault → Option Why
whys None = None
whys (Some f) = why_of f

whys_by : (o : Option Busy) (c : Bool) → whys (unavailable_fault o c) ≡ unavailable_by o c
whys_by (Some b) c = refl
whys_by None true = refl
whys_by None false = refl

pub told_why : (doc : ℕ) (j : List Entry) → whys (acquire_any_refused doc j) ≡ not_flushable doc j
told_why doc j = by (nat_lt doc (length (makings j)))
  where
    by : (made : Bool) → whys (if made then unavailable_fault (busy doc j) (cached doc j) else Some acquire.NoDoc) ≡ (if made then unavailable_by (busy doc j) (cached doc j) else Some why.NoDoc)
    by true = whys_by (busy doc j) (cached doc j)
    by false = refl

-- no document is refused since nothing waits for it
not_empty_by : (made : Bool) (o : Option Busy) (c : Bool) → Some acquire.Empty ≡ (if made then unavailable_fault o c else Some acquire.NoDoc) → ⊥
not_empty_by false o c e = cc
not_empty_by true (Some b) c e = cc
not_empty_by true None true e = cc
not_empty_by true None false e = cc

pub not_empty : (doc : ℕ) (j : List Entry) → Some acquire.Empty ≡ acquire_any_refused doc j → ⊥
not_empty doc j e = not_empty_by (nat_lt doc (length (makings j))) (busy doc j) (cached doc j) e

-- ---- what is held
module _ (seat : ℕ) (line : Option ℕ) (doc : ℕ) (old new : List Entry) (look : KeptLook) (is : new ≡ old ++ entry_by seat line (acquired doc old) ∷ []) (looks : IsKeptLook new seat look) (doc_is : look.doc ≡ doc) (legal : IsLegal old) where
  pub token_taken : look.token ≡ next_token old
  token_taken = sym looks.taken.token_is ∙ sym (taken.token_taken seat line doc old new is looks.taken.acquiring (subst (λ d. last_acquiring d new ≡ Some looks.taken.acquiring) doc_is looks.taken.last))

  pub fresh : staleness look.doc look.token new ≡ None
  fresh = ap₂ (λ d t. staleness d t new) doc_is token_taken ∙ taken.not_stale seat line doc old new is legal

  pub held : Holds seat doc look.token new
  held = subst (λ t. Holds seat doc t new) (sym token_taken) (taken.holds_taken seat line doc old new is legal)

-- who holds a document still does behind what was put
module _ (seat : ℕ) (line : Option ℕ) (doc token : ℕ) (mid new : List Entry) where
  still_under : (act : Act) → new ≡ mid ++ entry_by seat line act ∷ [] → ((o : Option Acquiring) → acquired_by doc seat act o ≡ o) → released_by act ≡ [] → (Holds seat doc token mid → Holds seat doc token new) × (staleness doc token new ≡ staleness doc token mid)
  still_under act is takes frees = (λ h. taken.still_holds seat line act doc token mid new is takes frees seat h, taken.still_stale seat line act doc token mid new is takes frees)

  pub still : (end : FlushEnd) → Puts (entry_by seat line) doc token mid new end → (Holds seat doc token mid → Holds seat doc token new) × (staleness doc token new ≡ staleness doc token mid)
  still Done p = still_under (Flushed doc token p.0) p.1 (λ o. refl) refl
  still (Failed before after) p = still_under (FlushFailed doc token before after) p (λ o. refl) refl
  still (Refused w) p = absurd p
  still Memory p = (λ h. subst (Holds seat doc token) (sym p) h, ap (staleness doc token) p)

-- ---- the whole
module _ (by : Act → Entry) (doc token : ℕ) (old mid put new : List Entry) (free : not_flushable doc old ≡ None) (token_is : token ≡ next_token old) (mid_is : mid ≡ old ++ by (acquired doc old) ∷ []) (new_is : new ≡ put ++ by (Released doc token) ∷ []) where
  with_put : (act : Act) → put ≡ mid ++ by act ∷ [] → new ≡ old ++ by (acquired doc old) ∷ by act ∷ by (Released doc (next_token old)) ∷ []
  with_put act put_is =
      new_is ∙ ap₂ (λ (l : List Entry) (t : ℕ). l ++ by (Released doc t) ∷ []) (put_is ∙ ap (λ l. l ++ by act ∷ []) mid_is) token_is
      ∙ append_assoc (old ++ by (acquired doc old) ∷ []) (by act ∷ []) (by (Released doc (next_token old)) ∷ [])
      ∙ append_assoc old (by (acquired doc old) ∷ []) (by act ∷ by (Released doc (next_token old)) ∷ [])

  pub whole : (end : FlushEnd) → Puts by doc token mid put end → Flushes by doc old new end
  whole Done p = (p.0, (free, with_put (Flushed doc (next_token old) p.0) (p.1 ∙ ap (λ t. mid ++ by (Flushed doc t p.0) ∷ []) token_is)))
  whole (Failed before after) p = (free, with_put (FlushFailed doc (next_token old) before after) (p ∙ ap (λ t. mid ++ by (FlushFailed doc t before after) ∷ []) token_is))
  whole (Refused w) p = absurd p
  whole Memory p = inr (free, new_is ∙ ap₂ (λ (l : List Entry) (t : ℕ). l ++ by (Released doc t) ∷ []) (p ∙ mid_is) token_is ∙ append_assoc old (by (acquired doc old) ∷ []) (by (Released doc (next_token old)) ∷ []))
