-- How a book goes on, step by step.
use Rattle.std.proofs.Common.{◌≡◌, ◌≢◌, ℕ, ◌||◌, List, [], ◌∷◌, ◌++◌, map, Bool, true, false, true≢false, refl, sym, ap, ◌∙◌, subst, append-nil, append_assoc}
use Rattle.std.specs.Prelude.{Option, IsTrue}
use Rattle.std.specs.List.{list_any}
use Rattle.std.specs.Str.{bytes_eq}
use Rattle.std.proofs.lemmas.Bool.{or_parts}
use Rattle.std.proofs.lemmas.List.Folds.{list_any-append}
use Rattle.std.proofs.lemmas.Slice.Eq.{bytes_eq-Decides}
use Rattle.ranges_tracker.specs.Kept.{Kept}
use Rattle.keeper.specs.Documents.{Sets, document_of}
use Rattle.journal_entries.specs.declared.act.Act.{Act}
use Rattle.journal_entries.specs.declared.act.Act.TheVariants.{Flushed, FlushFailed}
use Rattle.journal_entries.specs.declared.act.Entry.{Entry}
use Rattle.journal_rules.specs.Documents.{name}
use Rattle.journal_rules.proofs.Pushing.{gathered-push}
use Rattle.turn_rules.specs.Turns.{entry_by}
use Rattle.book.specs.Flushing.{HasAsked, MayNotFlush}
use Rattle.book.specs.declared.faults.FlushFault.{FlushFault}
use Rattle.book.specs.declared.faults.FlushFault.TheVariants.{Stale, Memory, StoreFault}
use Rattle.book.specs.declared.faults.PreparedKept.{PreparedKept}
use Rattle.book.specs.Going.{GoesOn, with_journal}
use Rattle.book.specs.Stored.{was_flushed}
use Rattle.book.specs.Shown.{Shown, adds}
use Rattle.book.proofs.Stored.{never_before, other_name}

-- ---- steps
module _ {tells : Bool} where
  pub goes_same : (old new : Shown) → new ≡ old → GoesOn tells old new
  goes_same old new same = record {
    more = [];
    journal_is = ap (λ (b : Shown). b.journal) same ∙ sym (append-nil old.journal);
    drivers_are = ap (λ (b : Shown). b.drivers) same;
    start_is = ap (λ (b : Shown). b.start) same;
    others = λ told called none. ap (λ (b : Shown). document_of called b.documents) same;
  }

  pub goes_rest : (old new : Shown) (more : List Entry) → new ≡ with_journal old new.journal → new.journal ≡ old.journal ++ more → GoesOn tells old new
  goes_rest old new more rest is = record {
    more = more;
    journal_is = is;
    drivers_are = ap (λ (b : Shown). b.drivers) rest;
    start_is = ap (λ (b : Shown). b.start) rest;
    others = λ told called none. ap (λ (b : Shown). document_of called b.documents) rest;
  }

  pub goes_adding : (old new : Shown) (seat : ℕ) (line : Option ℕ) (acts : List Act) → new ≡ adds old seat line acts → GoesOn tells old new
  goes_adding old new seat line acts is = record {
    more = map (entry_by seat line) acts;
    journal_is = ap (λ (b : Shown). b.journal) is;
    drivers_are = ap (λ (b : Shown). b.drivers) is;
    start_is = ap (λ (b : Shown). b.start) is;
    others = λ told called none. ap (λ (b : Shown). document_of called b.documents) is;
  }

  -- the keeper was asked, and its documents stayed
  pub goes_asking : (old new : Shown) (more : List Entry) → HasAsked old new more → (IsTrue tells → new.documents ≡ old.documents) → GoesOn tells old new
  goes_asking old new more asked same = record {
    more = more;
    journal_is = asked.journal_is;
    drivers_are = asked.drivers_are;
    start_is = asked.start_is;
    others = λ told called none. ap (document_of called) (same told);
  }

  -- a document was put there
  pub goes_putting : (old new : Shown) (seat : ℕ) (line : Option ℕ) (doc token v : ℕ) (put : Kept) → HasAsked old new (entry_by seat line (Flushed doc token v) ∷ []) → (IsTrue tells → Sets (name doc old.journal) put old.documents new.documents) → GoesOn tells old new
  goes_putting old new seat line doc token v put asked set = record {
    more = entry_by seat line (Flushed doc token v) ∷ [];
    journal_is = asked.journal_is;
    drivers_are = asked.drivers_are;
    start_is = asked.start_is;
    others = λ told called none. (set told).others called
        (other_name called old.journal (entry_by seat line (Flushed doc token v)) doc token v refl (ap (was_flushed called) (sym asked.journal_is) ∙ none));
  }

  -- a flush was refused
  pub goes_refused : (old new : Shown) (seat : ℕ) (line : Option ℕ) (prepared : PreparedKept) (fault : FlushFault) → MayNotFlush old new seat line prepared fault → (IsTrue tells → new.documents ≡ old.documents) → GoesOn tells old new
  goes_refused old new seat line prepared (Stale s) refused same = goes_same old new refused.1
  goes_refused old new seat line prepared Memory refused same = goes_asking old new [] refused.1 same
  goes_refused old new seat line prepared (StoreFault before after) refused same = goes_asking old new (entry_by seat line (FlushFailed prepared.doc prepared.token before after) ∷ []) refused.4 same

  pub goes_further : (old mid new : Shown) → GoesOn tells old mid → GoesOn tells mid new → GoesOn tells old new
  goes_further old mid new a b = record {
    more = a.more ++ b.more;
    journal_is = b.journal_is ∙ ap (λ (j : List Entry). j ++ b.more) a.journal_is ∙ append_assoc old.journal a.more b.more;
    drivers_are = b.drivers_are ∙ a.drivers_are;
    start_is = b.start_is ∙ a.start_is;
    others = λ told called none. b.others told called none ∙ a.others told called (never_before called b.more mid.journal (ap (was_flushed called) (sym b.journal_is) ∙ none));
  }
