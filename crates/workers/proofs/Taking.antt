-- The turn that takes up an update, or can't.
use Rattle.std.proofs.Common.{◌≡◌, ℕ, List, [], ◌∷◌, true, refl, sym, ap, ◌∙◌, subst}
use Rattle.std.specs.Prelude.{None, Result, Ok, Err, IfOk, IfErr, OnErr}
use Rattle.dup_check.specs.declared.snapshot.Snapshot.{Snapshot}
use Rattle.journal_entries.specs.declared.act.Entry.{Entry}
use Rattle.journal_rules.specs.Documents.{is_in}
use Rattle.journal_rules.specs.Keeping.{cached}
use Rattle.journal_rules.specs.Legal.{IsLegal}
use Rattle.journal_rules.specs.Locks.{next_token, released}
use Rattle.turn_rules.specs.Draining.{TakesUp}
use Rattle.turn_rules.specs.Locking.{acquired}
use Rattle.turn_rules.specs.Turns.{Among, Turn, entry_by}
use Rattle.run_rules.specs.Threads.{is_by}
use Rattle.book.specs.Calls.{acquire_refused}
use Rattle.book.specs.Looking.{IsLookAt}
use Rattle.book.specs.Shown.{Shown, adds}
use Rattle.book.specs.declared.faults.AcquireFault.{AcquireFault}
use Rattle.book.proofs.Fenced.{begins}
use Rattle.book.proofs.Taken.{unreleased}
use Rattle.dispatcher.proofs.Taking.{takes, token_taken}
use Rattle.workers.specs.Draining.{IsWhyNoMore}
use Rattle.seat_turns.specs.Seats.{IsLongerBy}
use Rattle.workers.specs.Taking.{IsTakenUp}
use Rattle.seat_turns.proofs.Turning.{longer_by_acts, longer_by_none, turn_after}

-- what the call on the book tells, by its answer
pub record IsTaking (seat doc : ℕ) (old new : Shown) (r : Result Snapshot AcquireFault) : Type 0 where
  pub acquired_is : IfOk r (λ look. new ≡ adds old seat None (acquired doc old.journal ∷ []))
  pub looks : IfOk r (λ look. IsLookAt new.journal look × (look.seat ≡ seat) × (look.doc ≡ doc))
  pub free : IfOk r (λ look. acquire_refused doc old.journal ≡ None)
  pub cached_is : IfOk r (λ look. cached doc old.journal ≡ true)
  pub refused : IfErr r (λ f. IsWhyNoMore doc old.journal f)
  pub kept : OnErr r (new ≡ old)

module _ (seat doc : ℕ) (old new : Shown) where
  pub longer_by_taking : (r : Result Snapshot AcquireFault) → IsTaking seat doc old new r → IsLongerBy seat old.journal new.journal
  longer_by_taking (Ok look) t = longer_by_acts seat None (acquired doc old.journal ∷ []) old.journal new.journal (ap (λ (b : Shown). b.journal) t.acquired_is)
  longer_by_taking (Err fault) t = longer_by_none seat old.journal new.journal (ap (λ (b : Shown). b.journal) t.kept)

  module _ (left last : List Entry) (among : Among (is_by seat) left old.journal) (seen : last ≡ new.journal) where
    pub takes_after : (r : Result Snapshot AcquireFault) → IsTaking seat doc old new r → IfOk r (λ look. Turn (Among (is_by seat)) (TakesUp (entry_by seat None) doc look.token true) left last)
    takes_after (Ok look) t =
        let is = ap (λ (b : Shown). b.journal) t.acquired_is in
        turn_after (is_by seat) (TakesUp (entry_by seat None) doc look.token true) left old.journal last among
        (old.journal, entry_by seat None (acquired doc old.journal) ∷ [], refl, takes seat None doc old.journal new.journal look is t.looks.0 t.looks.2 t.free t.cached_is, seen ∙ is)
    takes_after (Err fault) t = tt

    pub refused_after : (r : Result Snapshot AcquireFault) → IsTaking seat doc old new r → IfErr r (λ f. Among (is_by seat) left last × IsWhyNoMore doc last f)
    refused_after (Ok look) t = tt
    refused_after (Err fault) t =
        let same : old.journal ≡ last = sym (seen ∙ ap (λ (b : Shown). b.journal) t.kept) in
        (subst (λ (j : List Entry). Among (is_by seat) left j) same among, subst (λ (j : List Entry). IsWhyNoMore doc j fault) same t.refused)

    pub taken_after : (r : Result Snapshot AcquireFault) → IsLegal old.journal → IsTaking seat doc old new r → IfOk r (λ look. IsTakenUp seat look last × (look.doc ≡ doc))
    taken_after (Ok look) legal t =
        let is = ap (λ (b : Shown). b.journal) t.acquired_is in
        let token : next_token old.journal ≡ look.token = token_taken seat None doc old.journal new.journal look is t.looks.0 t.looks.2 in (
          subst (λ (j : List Entry). IsTakenUp seat look j) (sym seen) (record {
            of = begins look new.journal t.looks.0;
            seat_is = t.looks.1;
            unreleased = ap (λ (k : ℕ). is_in k (released new.journal)) (sym token) ∙ unreleased seat None doc old.journal new.journal is legal;
          }),
          t.looks.2,
        )
    taken_after (Err fault) legal t = tt

-- the same, of a seat whose number is known by an equation
module _ (m n doc : ℕ) (old new : Shown) (left last : List Entry) (number : m ≡ n) (among : Among (is_by n) left old.journal) (seen : last ≡ new.journal) (r : Result Snapshot AcquireFault) (t : IsTaking m doc old new r) where
  here : IsTaking n doc old new r
  here = subst (λ (k : ℕ). IsTaking k doc old new r) number t

  pub takes_at : IfOk r (λ look. Turn (Among (is_by n)) (TakesUp (entry_by n None) doc look.token true) left last)
  takes_at = takes_after n doc old new left last among seen r here

  pub taken_at : IsLegal old.journal → IfOk r (λ look. IsTakenUp n look last × (look.doc ≡ doc))
  taken_at legal = taken_after n doc old new left last among seen r legal here

  pub refused_at : IfErr r (λ f. Among (is_by n) left last × IsWhyNoMore doc last f)
  refused_at = refused_after n doc old new left last among seen r here
