-- Who holds a document, behind its acquiring and behind an entry that says nothing of locks.
use Rattle.std.proofs.Common.{◌≡◌, ℕ, ◌+◌, List, [], ◌∷◌, ◌++◌, false, not, refl, sym, ap, ap₂, ◌∙◌, append-nil, eq-eqb}
use Rattle.std.specs.Prelude.{Option, Some, None, ◌==◌, if◌then◌else◌}
use Rattle.expiring_lock.specs.declared.lock.TheConstants.{LOCK_LIFE}
use Rattle.expiring_lock.specs.declared.refusal.Stale.TheVariants.{Other, Ended}
use Rattle.journal_entries.specs.declared.act.Act.{Act}
use Rattle.journal_entries.specs.declared.act.Entry.{Entry}
use Rattle.journal_rules.specs.Documents.{is_in}
use Rattle.journal_rules.specs.Legal.{IsLegal}
use Rattle.journal_rules.specs.Locks.{Acquiring, Holds, acquired_by, clock, is_held_in, last_acquiring, next_token, released, released_by, token_in}
use Rattle.journal_rules.proofs.Lists.{some_same}
use Rattle.journal_rules.proofs.Pushing.{last_acquiring-push, released-push}
use Rattle.turn_rules.specs.Locking.{acquired, staleness}
use Rattle.turn_rules.specs.Turns.{entry_by}
use Rattle.loading_rules.proofs.Tokens.{next_unreleased}
use Rattle.loading_rules.proofs.Weakening.{legal_but}

-- ---- it was acquired
module _ (seat : ℕ) (line : Option ℕ) (doc : ℕ) (old new : List Entry) (is : new ≡ old ++ entry_by seat line (acquired doc old) ∷ []) where
  abbrev pub taking : Acquiring
  taking = record { seat = seat; doc = doc; token = next_token old; until = clock old + LOCK_LIFE }

  pub last_taken : last_acquiring doc new ≡ Some taking
  last_taken =
      ap (last_acquiring doc) is ∙ last_acquiring-push doc old (entry_by seat line (acquired doc old))
      ∙ ap (λ b. if b then Some taking else last_acquiring doc old) (eq-eqb doc doc refl)

  pub token_taken : (a : Acquiring) → last_acquiring doc new ≡ Some a → next_token old ≡ a.token
  token_taken a last = ap (λ (x : Acquiring). x.token) (some_same taking a (sym last_taken ∙ last))

  module _ (legal : IsLegal old) where
    pub unreleased : is_in (next_token old) (released new) ≡ false
    unreleased = ap (is_in (next_token old)) (ap released is ∙ released-push old (entry_by seat line (acquired doc old)) ∙ append-nil (released old)) ∙ next_unreleased old (legal_but old legal)

    pub holds_taken : Holds seat doc (next_token old) new
    holds_taken = record { acquiring = taking; held = record { last = last_taken; standing = unreleased }; token_is = refl; seat_is = refl }

    pub not_stale : staleness doc (next_token old) new ≡ None
    not_stale =
        ap (λ o. if token_in o == next_token old then (if is_held_in o (released new) then None else Some Ended) else Some (Other (token_in o))) last_taken
        ∙ ap (λ b. if b then (if not (is_in (next_token old) (released new)) then None else Some Ended) else Some (Other (next_token old))) (eq-eqb (next_token old) (next_token old) refl)
        ∙ ap (λ b. if not b then None else Some Ended) unreleased

-- ---- an entry says nothing of locks
module _ (seat : ℕ) (line : Option ℕ) (act : Act) (doc token : ℕ) (old new : List Entry) (is : new ≡ old ++ entry_by seat line act ∷ []) (no_acquiring : (o : Option Acquiring) → acquired_by doc seat act o ≡ o) (no_release : released_by act ≡ []) where
  same_last : last_acquiring doc new ≡ last_acquiring doc old
  same_last = ap (last_acquiring doc) is ∙ last_acquiring-push doc old (entry_by seat line act) ∙ no_acquiring (last_acquiring doc old)

  same_released : released new ≡ released old
  same_released = ap released is ∙ released-push old (entry_by seat line act) ∙ ap (λ l. released old ++ l) no_release ∙ append-nil (released old)

  pub still_stale : staleness doc token new ≡ staleness doc token old
  still_stale = ap₂ (λ (o : Option Acquiring) (ts : List ℕ). if token_in o == token then (if is_held_in o ts then None else Some Ended) else Some (Other (token_in o))) same_last same_released

  pub still_holds : (by : ℕ) → Holds by doc token old → Holds by doc token new
  still_holds by h = record {
    acquiring = h.acquiring;
    held = record { last = same_last ∙ h.held.last; standing = ap (is_in h.acquiring.token) same_released ∙ h.held.standing };
    token_is = h.token_is;
    seat_is = h.seat_is;
  }
