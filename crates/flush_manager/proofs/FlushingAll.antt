-- Documents are flushed one behind the other, each where it needs it: what that leaves of the others.
use Rattle.std.proofs.Common.{◌≡◌, ◌≢◌, ◌⊎◌, inl, inr, ℕ, zero, suc, ◌+◌, ◌<◌, List, [], ◌∷◌, ◌++◌, length, refl, sym, ap, ◌∙◌, subst, arith}
use Rattle.std.specs.Prelude.{Option, Some, map}
use native.Mathlib.Decide.{ℕ_discrete}
use Rattle.journal_entries.specs.declared.act.Act.{Act}
use Rattle.journal_entries.specs.declared.act.Act.TheVariants.{Flushed, FlushFailed, Released}
use Rattle.journal_entries.specs.declared.act.Entry.{Entry}
use Rattle.journal_rules.specs.Documents.{IsMade, Making, makings, version}
use Rattle.journal_rules.specs.Keeping.{kept}
use Rattle.journal_rules.specs.Legal.{IsLegal}
use Rattle.journal_rules.specs.Locks.{next_token}
use Rattle.journal_rules.proofs.Legality.{legal_front}
use Rattle.turn_rules.specs.Flushing.{IsPut}
use Rattle.turn_rules.specs.Locking.{acquired}
use Rattle.turn_rules.specs.Turns.{entry_by}
use Rattle.turn_rules.proofs.Flushing.{flush_keeps, flush_makings, flush_other, flush_version, putting}
use Rattle.flush_manager.specs.Flushes.{Flushes}
use Rattle.flush_manager.specs.FlushesAll.{FlushesAll, FlushesBelow, FlushesIfNeeded, first_of}
use Rattle.flush_manager.specs.declared.flush.FlushEnd.{FlushEnd}
use Rattle.flush_manager.specs.declared.flush.FlushEnd.TheVariants.{Done, Failed, Memory, Refused}

-- ---- ends
first_done : (before next : FlushEnd) → Done ≡ first_of before next → (before ≡ Done) × (next ≡ Done)
first_done Done next e = (refl, sym e)
first_done (Refused why) next e = absurd (cc)
first_done (Failed from to) next e = absurd (cc)
first_done Memory next e = absurd (cc)

wants_none : (before next : FlushEnd) → before ≢ Memory → next ≢ Memory → first_of before next ≢ Memory
wants_none Done next was now = now
wants_none (Refused why) next was now = was
wants_none (Failed from to) next was now = was
wants_none Memory next was now = was

module _ (seat : ℕ) (line : Option ℕ) where
  abbrev by : Act → Entry
  by = entry_by seat line

  pub not_memory : (n : ℕ) (old new : List Entry) (end : FlushEnd) → FlushesBelow by n old new end → end ≢ Memory
  not_memory zero old new end f = λ is. (let e : Done ≡ Memory = sym f.1 ∙ is in cc)
  not_memory (suc n) old new end f =
      λ is. wants_none f.1 f.2 (not_memory n old f.0 f.1 f.3) f.5 (sym f.6 ∙ is)

  pub all_of : (old new : List Entry) (end : FlushEnd) → FlushesBelow by (length (makings old)) old new end → FlushesAll by old new end
  all_of old new Done f = f
  all_of old new (Refused why) f = f
  all_of old new (Failed from to) f = f
  all_of old new Memory f = absurd (not_memory (length (makings old)) old new Memory f refl)

  pub one_more : (n : ℕ) (old mid new : List Entry) (before next : FlushEnd) → FlushesBelow by n old mid before → FlushesIfNeeded by n mid new next → next ≢ Memory → FlushesBelow by (n + 1) old new (first_of before next)
  one_more n old mid new before next was now some = let same : suc n ≡ n + 1 = omega arith in subst (λ (k : ℕ). FlushesBelow by k old new (first_of before next)) same (mid, before, next, was, now, some, refl)

  -- ---- one flush, whether it was done or failed
  record IsFlush (doc : ℕ) (old new : List Entry) (put : Act) : Type 0 where
    is_put : IsPut doc (next_token old) put
    last_is : new ≡ old ++ map by (acquired doc old ∷ put ∷ Released doc (next_token old) ∷ [])

  done_flush : (doc : ℕ) (old new : List Entry) (f : Flushes by doc old new Done) → IsFlush doc old new (Flushed doc (next_token old) f.0)
  done_flush doc old new f = record { is_put = inl (f.0, refl); last_is = f.1.1 }

  makings_by : (doc : ℕ) (old new : List Entry) (put : Act) → IsFlush doc old new put → makings new ≡ makings old
  makings_by doc old new put f = flush_makings seat line doc old new (next_token old) put f.last_is (putting doc (next_token old) put f.is_put)

  flush_makes_none : (doc : ℕ) (old new : List Entry) (end : FlushEnd) → Flushes by doc old new end → end ≢ Memory → makings new ≡ makings old
  flush_makes_none doc old new Done f some = makings_by doc old new (Flushed doc (next_token old) f.0) (done_flush doc old new f)
  flush_makes_none doc old new (Refused why) f some = ap makings f.1
  flush_makes_none doc old new (Failed from to) f some = makings_by doc old new (FlushFailed doc (next_token old) from to) (record { is_put = inr (from, to, refl); last_is = f.1 })
  flush_makes_none doc old new Memory f some = absurd (some refl)

  pub makes_none : (doc : ℕ) (old new : List Entry) (end : FlushEnd) → FlushesIfNeeded by doc old new end → end ≢ Memory → makings new ≡ makings old
  makes_none doc old new end (inl x) some = ap makings x.1
  makes_none doc old new end (inr x) some = flush_makes_none doc old new end x.1 some

  -- ---- where all were done
  record Leaves (n : ℕ) (old new : List Entry) : Type 0 where
    more : List Entry
    new_is : new ≡ old ++ more
    versions : (d : ℕ) → version d new ≡ version d old
    others : (d : ℕ) → n ≢ d → kept d new ≡ kept d old
    own : kept n new ≡ Some (version n new)

  leaves_done : (n : ℕ) (old new : List Entry) → IsLegal new → FlushesIfNeeded by n old new Done → Leaves n old new
  leaves_done n old new legal (inl x) = record {
    more = [];
    new_is = x.1 ∙ nothing_more old;
    versions = λ d. ap (version d) x.1;
    others = λ d apart. ap (kept d) x.1;
    own = ap (λ j. kept n j) x.1 ∙ x.0 ∙ ap (λ j. Some (version n j)) (sym x.1);
  }
    where
      nothing_more : (j : List Entry) → j ≡ j ++ []
      nothing_more [] = refl
      nothing_more (e ∷ j) = ap (λ l. e ∷ l) (nothing_more j)
  leaves_done n old new legal (inr x) =
      let token = next_token old in let put = Flushed n token x.1.0 in let f = done_flush n old new x.1 in let puts = putting n token put f.is_put in
      record {
        more = map by (acquired n old ∷ put ∷ Released n token ∷ []);
        new_is = f.last_is;
        versions = flush_version seat line n old new token put f.last_is puts;
        others = λ d apart. flush_other seat line n old new token put f.last_is puts d apart f.is_put;
        own = flush_keeps seat line n old new token put f.last_is puts legal x.1.0 refl;
      }

  kept_below : (n : ℕ) (old new : List Entry) → IsLegal new → FlushesBelow by n old new Done → (d : ℕ) → d < n → kept d new ≡ Some (version d new)
  kept_below zero old new legal f d lt = absurd (omega (arith, lt))
  kept_below (suc n) old new legal f d lt =
      let ends = first_done f.1 f.2 f.6 in
      let now = leaves_done n f.0 new legal (subst (FlushesIfNeeded by n f.0 new) ends.1 f.4) in
      let was = kept_below n old f.0 (legal_front f.0 now.more (subst IsLegal now.new_is legal)) (subst (FlushesBelow by n old f.0) ends.0 f.3) in
      at now was (ℕ_discrete n d)
    where
      at : Leaves n f.0 new → ((k : ℕ) → k < n → kept k f.0 ≡ Some (version k f.0)) → Dec (n ≡ d) → kept d new ≡ Some (version d new)
      at now was (yes same) = subst (λ (k : ℕ). kept k new ≡ Some (version k new)) same now.own
      at now was (no other) = now.others d other ∙ was d (omega (arith, lt, other)) ∙ ap (λ (k : ℕ). Some k) (sym (now.versions d))

  pub all_kept : (old new : List Entry) (end : FlushEnd) → end ≡ Done → IsLegal new → makings new ≡ makings old → FlushesBelow by (length (makings old)) old new end → (d : ℕ) → IsMade d new → kept d new ≡ Some (version d new)
  all_kept old new end done legal same f d made = kept_below (length (makings old)) old new legal (subst (FlushesBelow by (length (makings old)) old new) done f) d (subst (λ (ms : List Making). d < length ms) same made)
