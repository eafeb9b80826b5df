-- What taking up an update finds and leaves.
use Rattle.std.proofs.Common.{◌≡◌, ℕ, ◌+◌, List, [], ◌∷◌, ◌++◌, length, Bool, true, false, true≢false, not, refl, sym, ap, ap₂, ◌∙◌, subst, inl, eq-eqb, append-nil}
use Rattle.std.specs.Prelude.{Option, Some, None, ◌==◌, nat_lt, if◌then◌else◌}
use Rattle.std.proofs.lemmas.Bool.{lt-ltb}
use Rattle.expiring_lock.specs.declared.lock.TheConstants.{LOCK_LIFE}
use Rattle.expiring_lock.specs.declared.refusal.Busy.{Busy}
use Rattle.expiring_lock.specs.declared.refusal.Stale.TheVariants.{Other, Ended}
use Rattle.dup_check.specs.declared.snapshot.Snapshot.{Snapshot}
use Rattle.journal_entries.specs.declared.update.Cause.TheVariants.{Memory as NoMemory}
use Rattle.journal_entries.specs.declared.act.Entry.{Entry}
use Rattle.journal_rules.specs.Documents.{IsMade, is_in, makings, waiting}
use Rattle.journal_rules.specs.Keeping.{cached}
use Rattle.journal_rules.specs.Legal.{IsLegal}
use Rattle.journal_rules.specs.Locks.{Acquiring, clock, is_held_in, last_acquiring, next_token, released, token_in, used}
use Rattle.journal_rules.proofs.Pushing.{last_acquiring-push, released-push, used-push}
use Rattle.journal_rules.proofs.Lists.{some_same}
use Rattle.turn_rules.specs.Draining.{Caches, TakesUp}
use Rattle.turn_rules.specs.Locking.{acquired, busy, staleness}
use Rattle.turn_rules.specs.Turns.{entry_by}
use Rattle.book.specs.Calls.{MayRefuse, acquire_refused, refused_where}
use Rattle.book.specs.Looking.{IsLookAt}
use Rattle.book.specs.declared.faults.AcquireFault.TheVariants as acquire
use Rattle.book.proofs.Acquirings.{next_unused}
use Rattle.book.proofs.Taken as taken

-- ---- why it is refused
pub free_and_waits : (b : Bool) (w : List ℕ) (o : Option Busy) → (if b then refused_where w o else Some acquire.NoDoc) ≡ None → (o ≡ None) × ((ticket : ℕ) × (rest : List ℕ) × (w ≡ ticket ∷ rest))
free_and_waits false w o e = absurd (cc)
free_and_waits true [] o e = absurd (cc)
free_and_waits true (t ∷ ts) (Some b) e = absurd (cc)
free_and_waits true (t ∷ ts) None e = (refl, (t, ts, refl))

module _ (doc : ℕ) (j : List Entry) where
  unmade_by : (b : Bool) (w : List ℕ) (o : Option Busy) → b ≡ true → Some acquire.NoDoc ≡ (if b then refused_where w o else Some acquire.NoDoc) → ⊥
  unmade_by false w o made e = absurd (true≢false (sym made))
  unmade_by true [] o made e = cc
  unmade_by true (t ∷ ts) None made e = cc
  unmade_by true (t ∷ ts) (Some b) made e = cc

  pub not_unmade : IsMade doc j → Some acquire.NoDoc ≡ acquire_refused doc j → ⊥
  not_unmade made e = unmade_by (nat_lt doc (length (makings j))) (waiting doc j) (busy doc j) (lt-ltb doc (length (makings j)) made) e

-- ---- what it leaves
module _ (seat : ℕ) (line : Option ℕ) (doc : ℕ) (old new : List Entry) (look : Snapshot) (is : new ≡ old ++ entry_by seat line (acquired doc old) ∷ []) (looks : IsLookAt new look) (doc_is : look.doc ≡ doc) where
  abbrev pub taking : Acquiring
  taking = taken.taking seat line doc old new is

  pub last_taken : last_acquiring look.doc new ≡ Some taking
  last_taken = ap (λ d. last_acquiring d new) doc_is ∙ taken.last_taken seat line doc old new is

  pub token_taken : next_token old ≡ look.token
  token_taken = taken.token_taken seat line doc old new is looks.acquiring (ap (λ d. last_acquiring d new) (sym doc_is) ∙ looks.last) ∙ looks.token_is

  pub takes : acquire_refused doc old ≡ None → cached doc old ≡ true → TakesUp (entry_by seat line) doc look.token true old (entry_by seat line (acquired doc old) ∷ [])
  takes e here =
      let f = free_and_waits (nat_lt doc (length (makings old))) (waiting doc old) (busy doc old) e in
      record {
        free = f.0;
        ticket = f.1.0;
        rest = f.1.1;
        first = f.1.2;
        token_is = sym token_taken;
        loading = [];
        caches = subst (λ b. Caches b doc (Some look.token) true []) (sym here) (refl, refl);
        made_is = refl;
      }

  module _ (legal : IsLegal old) where
    unused : is_in look.token (used new) ≡ false
    unused = ap (is_in look.token) (ap used is ∙ used-push old (entry_by seat line (acquired doc old)) ∙ append-nil (used old)) ∙ ap (λ t. is_in t (used old)) (sym token_taken) ∙ next_unused old legal

    pub may_refuse : MayRefuse new seat look.doc look.token look.ticket NoMemory
    may_refuse = record {
      holds = record { acquiring = taking; held = record { last = last_taken; standing = taken.unreleased seat line doc old new is legal }; token_is = token_taken; seat_is = refl };
      unused = unused;
      rest = looks.rest;
      first = looks.first;
      cause_is = inl refl;
    }

    pub not_stale : staleness look.doc look.token new ≡ None
    not_stale = ap₂ (λ d t. staleness d t new) doc_is (sym token_taken) ∙ taken.not_stale seat line doc old new is legal
