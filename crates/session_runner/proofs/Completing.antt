-- What a run comes to, by what was taken of its input.
use Rattle.std.proofs.Common.{◌≡◌, ◌≢◌, ◌⊎◌, inl, inr, ℕ, ◌<◌, ◌≤◌, ◌&&◌, ◌||◌, Bool, true, false, true≢false, List, [], ◌∷◌, ◌++◌, length, take, String, refl, sym, ap, ◌∙◌, subst, arith, eqb, append-nil, length-append}
use Rattle.std.specs.Prelude.{Option, Some, None, is_none, ⊤}
use Rattle.std.proofs.lemmas.Bool.{and_parts, or_right}
use Rattle.std.specs.declared.alloc.Global.{Global}
use Rattle.std.specs.Io.KnownBytes.{Consumes, Appends, IsAtEnd, Keeps}
use Rattle.source_sink.specs.Causes.{Rose}
use Rattle.source_sink.specs.declared.read.TheConstants.{INPUT_LIMIT}
use Rattle.ranges_tracker.specs.Kept.{Kept}
use Rattle.keeper.specs.Documents.{document_of}
use Rattle.journal_entries.specs.declared.act.Act.{Act}
use Rattle.journal_entries.specs.declared.act.Act.TheVariants.{FlushFailed}
use Rattle.journal_entries.specs.declared.act.Entry.{Entry}
use Rattle.journal_rules.proofs.Lists.{some_same}
use Rattle.run_rules.specs.Completing.{has_flush_failed_at_end, is_flush_failed, is_flush_failed_at_end}
use Rattle.run_rules.proofs.Completing.{follows_kept}
use Rattle.book.specs.Failing.{has_failure, is_failure}
use Rattle.session_runner.specs.declared.ending.Ending.{Ending}
use Rattle.session_runner.specs.declared.ending.Ending.TheVariants as ending
use Rattle.session_runner.specs.declared.ending.LineFault.{LineFault}
use Rattle.session_runner.specs.Report.{names_of, report_of}
use Rattle.session_runner.specs.Ending.{AreRun, CanBeTold, Explains, GivesBack, HasKeeper, IsKeptIn, IsPart, IsRun, IsTold, IsTextTold, IsWriting, WasLong, WasWhole, line_fault, status_by, status_of, text_of}
use Rattle.session_runner.specs.Passing.{MayFail, MayFailToKeep, Passed, PassedKeeper, passed_keeper}
use Rattle.session_runner.specs.Run.{Answers, Completes, IsCutShort, IsDone, IsEither, IsEitherRead, IsQuietRun, IsToWrite, IsUnflushed, IsWanting}

-- a text that was told as an ending's own
pub told_text : {K : Type 0} → (out : Passed) (own : ℕ) (text : List ℕ) (end : Ending K) (status : ℕ) → IsWriting end → status_of end ≡ own → text_of end ≡ text → IsTextTold out own text status → IsTold out end status
told_text out own text end status writes own_is text_is (inl t) = inl (t.0 ∙ sym own_is, subst (λ l. Appends out.before out.after l) (sym text_is) t.1)
told_text out own text end status writes own_is text_is (inr t) = inr (inl (t.0, t.1, writes, subst (λ l. IsPart out l) (sym text_is) t.2))

consumed_short : (left rest : Option (List ℕ)) (all bytes : List ℕ) → left ≡ Some all → Consumes left rest bytes → length bytes ≤ length all
consumed_short None rest all bytes is c = absurd (cc)
consumed_short (Some xs) None all bytes is c = absurd c
consumed_short (Some xs) (Some ys) all bytes is c =
    let same = ap length (some_same xs all is) in
    let long = ap length c ∙ length-append bytes ys in
    omega (arith, same, long)

consumed_whole : (left rest : Option (List ℕ)) (all bytes : List ℕ) → left ≡ Some all → Consumes left rest bytes → IsAtEnd rest → bytes ≡ all
consumed_whole None rest all bytes is c end = absurd (cc)
consumed_whole (Some xs) None all bytes is c end = absurd c
consumed_whole (Some xs) (Some ys) all bytes is c end = sym (c ∙ ap (λ l. bytes ++ l) end ∙ append-nil bytes) ∙ some_same xs all is

-- what was taken is the same, however it is cut
taken_once : (left rest : Option (List ℕ)) (all one other : List ℕ) → left ≡ Some all → Consumes left rest one → Consumes left rest other → length one ≡ length other
taken_once None rest all one other is c d = absurd (cc)
taken_once (Some xs) None all one other is c d = absurd c
taken_once (Some xs) (Some ys) all one other is c d =
    let a = ap length c ∙ length-append one ys in let b = ap length d ∙ length-append other ys in omega (arith, a, b)

-- ---- the status of a run that was done
run_status : (b : Bool) (n : ℕ) → n ≡ status_by b → ((n ≡ 0) × (b ≡ false)) ⊎ ((n ≡ 7) × (b ≡ true))
run_status true n is = inr (is, refl)
run_status false n is = inl (is, refl)

run_is : (b : Bool) (n own : ℕ) → n ≡ status_by b → n ≡ own → (own ≡ 0) ⊎ (own ≡ 7)
run_is true n own is same = inr (sym same ∙ is)
run_is false n own is same = inl (sym same ∙ is)

neither : (own : ℕ) → own ≢ 0 → own ≢ 7 → (own ≡ 0) ⊎ (own ≡ 7) → ⊥
neither own zero_not seven_not (inl is) = zero_not is
neither own zero_not seven_not (inr is) = seven_not is

-- a flush that failed is a failure of the keeper
flush_fails : (act : Act) → is_flush_failed act ≡ true → is_failure act ≡ true
flush_fails (FlushFailed doc token from to) e = refl
flush_fails _ e = absurd (true≢false (sym e))

failed_at_end : (j : List Entry) → has_flush_failed_at_end j ≡ true → has_failure j ≡ true
failed_at_end [] e = absurd (true≢false (sym e))
failed_at_end (x ∷ xs) e = by (λ rest. failed_at_end xs rest) (is_flush_failed_at_end x) refl e
  where
    by : (has_flush_failed_at_end xs ≡ true → has_failure xs ≡ true) → (b : Bool) → is_flush_failed_at_end x ≡ b → (b || has_flush_failed_at_end xs) ≡ true → (is_failure x.act || has_failure xs) ≡ true
    by later true is e = ap (λ b. b || has_failure xs) (flush_fails x.act (and_parts (eqb x.seat 0) (is_flush_failed x.act) (and_parts (is_none x.line) (eqb x.seat 0 && is_flush_failed x.act) is).1).1)
    by later false is e = or_right (is_failure x.act) (has_failure xs) (later e)

-- ---- what becomes of the keeper
abbrev pub Over : {K : Type 0} → PassedKeeper → Ending K → Type 0
Over keeper (ending.Done run) = IsKeptIn keeper run.book.journal
Over keeper _ = ⊤

module _ {K : Type 0} (tells : Bool) (documents : K → List (List ℕ × Kept)) (count : K → ℕ) (given back : K) where
  pub over : (end : Ending K) → HasKeeper tells documents count given end → GivesBack tells documents count end back → Over (passed_keeper tells documents count given back) end
  over (ending.Words keeper) has gives = tt
  over (ending.Read keeper) has gives = tt
  over (ending.Long keeper) has gives = tt
  over (ending.Memory keeper) has gives = tt
  over (ending.Script fault keeper) has gives = tt
  over (ending.Done run) has gives = record {
    stored = gives.stored;
    others = λ told called none. ap (document_of called) gives.documents_are ∙ has.others told called none;
    causes = λ some. subst (λ n. Rose n (count back)) (ap (λ s. s.faults) has.start_is) (gives.causes some);
  }

  abbrev Falls : ℕ → Type 0
  Falls status = (status ≡ 4) ⊎ (count given ≤ count back)

  no_fall : back ≡ given → count given ≤ count back
  no_fall same = let n = ap count same in omega (arith, n)

  pub falls_not : (out : Passed) (end : Ending K) (status : ℕ) → IsTold out end status → HasKeeper tells documents count given end → GivesBack tells documents count end back → Falls status
  falls_not out (ending.Words keeper) status told_so has gives = inr (no_fall (gives ∙ has))
  falls_not out (ending.Read keeper) status told_so has gives = inr (no_fall (gives ∙ has))
  falls_not out (ending.Long keeper) status told_so has gives = inr (no_fall (gives ∙ has))
  falls_not out (ending.Memory keeper) status (inl t) has gives = inl t.0
  falls_not out (ending.Memory keeper) status (inr (inl t)) has gives = absurd t.2
  falls_not out (ending.Memory keeper) status (inr (inr t)) has gives = inl t.0
  falls_not out (ending.Script fault keeper) status told_so has gives = inr (no_fall (gives ∙ has))
  falls_not out (ending.Done run) status told_so has gives = let start = ap (λ s. s.faults) has.start_is in let later = gives.later in inr (omega (arith, start, later))

  abbrev Asks : ℕ → Type 0
  Asks status = (status ≡ 2) ⊎ (status ≡ 3) ⊎ (status ≡ 5) ⊎ (status ≡ 8)

  asks_not : (status own : ℕ) → Asks status → status ≡ own → (own ≡ 0) ⊎ (own ≡ 4) ⊎ (own ≡ 6) ⊎ (own ≡ 7) → ⊥
  asks_not status own asked is other = grind (arith, asked, is, other)

  told_of : (out : Passed) (end : Ending K) (status own : ℕ) → status_of end ≡ own → (own ≡ 0) ⊎ (own ≡ 4) ⊎ (own ≡ 6) ⊎ (own ≡ 7) → IsTold out end status → Asks status → ⊥
  told_of out end status own own_is other (inl t) asked = asks_not status own asked (t.0 ∙ own_is) other
  told_of out end status own own_is other (inr (inl t)) asked = asks_not status 6 asked t.0 (inr (inr (inl refl)))
  told_of out end status own own_is other (inr (inr t)) asked = asks_not status 4 asked t.0 (inr (inl refl))

  of_run : (b : Bool) → (status_by b ≡ 0) ⊎ (status_by b ≡ 4) ⊎ (status_by b ≡ 6) ⊎ (status_by b ≡ 7)
  of_run true = inr (inr (inr refl))
  of_run false = inl refl

  pub unasked : (out : Passed) (end : Ending K) (status : ℕ) → IsTold out end status → HasKeeper tells documents count given end → GivesBack tells documents count end back → Asks status → back ≡ given
  unasked out (ending.Words keeper) status told_so has gives asked = gives ∙ has
  unasked out (ending.Read keeper) status told_so has gives asked = gives ∙ has
  unasked out (ending.Long keeper) status told_so has gives asked = gives ∙ has
  unasked out (ending.Script fault keeper) status told_so has gives asked = gives ∙ has
  unasked out (ending.Memory keeper) status told_so has gives asked = absurd (told_of out (ending.Memory keeper) status 4 refl (inr (inl refl)) told_so asked)
  unasked out (ending.Done run) status told_so has gives asked =
      let b = has_flush_failed_at_end run.book.journal in absurd (told_of out (ending.Done run) status (status_by b) refl (of_run b) told_so asked)

module _ (words : List (String Global)) (input out : Passed) (keeper : PassedKeeper) (status : ℕ) where
  -- ---- by what was taken
  module _ (all : List ℕ) (run : AreRun words) (told : input.before ≡ Some all) where
    whole_is : (bytes : List ℕ) → WasWhole input bytes → bytes ≡ all
    whole_is bytes whole = consumed_whole input.before input.after all bytes told whole.consumed whole.at_end

    abbrev Reads : ℕ → Type 0
    Reads own = (status ≡ own) ⊎ (status ≡ 4) ⊎ ((status ≡ 5) × MayFail input)

    abbrev Runs : Type 0
    Runs = Reads 0 ⊎ ((status ≡ 7) × MayFailToKeep keeper)

    not_long : (bytes : List ℕ) → length bytes ≤ INPUT_LIMIT → Consumes input.before input.after bytes → ((long : List ℕ) × WasLong input long) → ⊥
    not_long bytes short consumed x = let same = taken_once input.before input.after all bytes x.0 told consumed x.1.consumed in let l = x.1.long in omega (arith, same, l, short)

    script_by : {K : Type 0} → (end : Ending K) → Explains words input end → Over keeper end → status ≡ status_of end → WasWhole input all → line_fault all ≡ None → Runs
    script_by (ending.Words back) why kept is whole none = absurd (why.0 run)
    script_by (ending.Read back) why kept is whole none = inl (inr (inr (is, why.1.1.failed)))
    script_by (ending.Long back) why kept is whole none = absurd (not_long all whole.short whole.consumed why.1)
    script_by (ending.Memory back) why kept is whole none = inl (inr (inl is))
    script_by (ending.Script fault back) why kept is whole none = let clash : Some fault ≡ None = sym why.1.2 ∙ ap line_fault (whole_is why.1.0 why.1.1) ∙ none in absurd (cc)
    script_by (ending.Done book) why kept is whole none = by (run_status (has_flush_failed_at_end book.book.journal) status is)
      where
        by : ((status ≡ 0) × (has_flush_failed_at_end book.book.journal ≡ false)) ⊎ ((status ≡ 7) × (has_flush_failed_at_end book.book.journal ≡ true)) → Runs
        by (inl x) = inl (inl x.0)
        by (inr x) = inr (x.0, kept.causes (failed_at_end book.book.journal x.1))

    fault_by : {K : Type 0} → (end : Ending K) → Explains words input end → status ≡ status_of end → WasWhole input all → (fault : LineFault) → line_fault all ≡ Some fault → Reads 3
    fault_by (ending.Words keeper) why is whole fault named = absurd (why.0 run)
    fault_by (ending.Read keeper) why is whole fault named = inr (inr (is, why.1.1.failed))
    fault_by (ending.Long keeper) why is whole fault named = absurd (not_long all whole.short whole.consumed why.1)
    fault_by (ending.Memory keeper) why is whole fault named = inr (inl is)
    fault_by (ending.Script found keeper) why is whole fault named = inl is
    fault_by (ending.Done book) why is whole fault named = let clash : Some fault ≡ None = sym named ∙ ap line_fault (sym (whole_is why.1.0 why.1.1)) ∙ why.1.2.no_fault in absurd (cc)

    long_by : {K : Type 0} → (end : Ending K) → Explains words input end → IsTold out end status → (bytes : List ℕ) → WasLong input bytes → (status ≡ 8) ⊎ ((status ≡ 6) × MayFail out)
    long_by (ending.Words keeper) why told_so bytes long = absurd (why.0 run)
    long_by (ending.Read keeper) why told_so bytes long = absurd (not_long why.1.0 why.1.1.short why.1.1.consumed (bytes, long))
    long_by (ending.Long keeper) why (inl t) bytes long = inl t.0
    long_by (ending.Long keeper) why (inr (inl t)) bytes long = inr (t.0, t.1)
    long_by (ending.Long keeper) why (inr (inr t)) bytes long = absurd t.1
    long_by (ending.Memory keeper) why told_so bytes long = absurd (not_long why.1.0 why.1.2 why.1.1 (bytes, long))
    long_by (ending.Script fault keeper) why told_so bytes long = absurd (not_long why.1.0 why.1.1.short why.1.1.consumed (bytes, long))
    long_by (ending.Done book) why told_so bytes long = absurd (not_long why.1.0 why.1.1.short why.1.1.consumed (bytes, long))

    either_by : {K : Type 0} → (end : Ending K) (own : ℕ) → IsTold out end status → (status ≡ status_of end → Reads own) → IsEitherRead input out own status
    either_by end own (inl t) reads = by (reads t.0)
      where
        by : Reads own → IsEitherRead input out own status
        by (inl is) = inl (inl is)
        by (inr (inl is)) = inl (inr (inl is))
        by (inr (inr is)) = inr is
    either_by end own (inr (inl t)) reads = inl (inr (inr (t.0, t.1)))
    either_by end own (inr (inr t)) reads = inl (inr (inl t.0))

    either_run : {K : Type 0} → (end : Ending K) → IsTold out end status → (status ≡ status_of end → Runs) → IsEitherRead input out 0 status ⊎ ((status ≡ 7) × MayFailToKeep keeper)
    either_run end (inl t) runs = by (runs t.0)
      where
        by : Runs → IsEitherRead input out 0 status ⊎ ((status ≡ 7) × MayFailToKeep keeper)
        by (inl reads) = inl (either_by end 0 (inl t) (λ is. reads))
        by (inr x) = inr x
    either_run end (inr (inl t)) runs = inl (inl (inr (inr (t.0, t.1))))
    either_run end (inr (inr t)) runs = inl (inl (inr (inl t.0)))

  pub answers : {K : Type 0} → (end : Ending K) → Explains words input end → Over keeper end → IsTold out end status → Answers words input out keeper status
  answers end why kept told_so = record {
    script = λ bytes run told whole none. either_run bytes run told end told_so (λ is. script_by bytes run told end why kept is whole none);
    no_script = λ bytes fault run told whole named. either_by bytes run told end 3 told_so (λ is. fault_by bytes run told end why is whole fault named);
    too_long = λ all bytes run told long. long_by all run told end why told_so bytes long;
  }

  -- ---- where nothing fails but memory
  module _ (bytes : List ℕ) (quiet : IsQuietRun words input out bytes) where
    -- then all was taken, or memory was wanting, or more than the limit was taken
    quiet_by : {K : Type 0} → (end : Ending K) → Explains words input end → IsTold out end status → length bytes ≤ INPUT_LIMIT → (own : ℕ) → ((e : Ending K) → Explains words input e → status ≡ status_of e → WasWhole input bytes → (status ≡ own) ⊎ (status ≡ 4)) → (status ≡ own) ⊎ (status ≡ 4)
    quiet_by end why (inr (inl t)) short own by = absurd (quiet.written t.1)
    quiet_by end why (inr (inr t)) short own by = inr t.0
    quiet_by (ending.Words keeper) why (inl t) short own by = absurd (why.0 quiet.run)
    quiet_by (ending.Read keeper) why (inl t) short own by = absurd (quiet.read why.1.1.failed)
    quiet_by (ending.Long keeper) why (inl t) short own by = let l = consumed_short input.before input.after bytes why.1.0 quiet.told why.1.1.consumed in let h = why.1.1.long in absurd (omega (arith, l, h, short))
    quiet_by (ending.Memory keeper) why (inl t) short own by = inr t.0
    quiet_by (ending.Script fault keeper) why (inl t) short own by = by (ending.Script fault keeper) why t.0 (subst (λ (b : List ℕ). WasWhole input b) (whole_is bytes quiet.run quiet.told why.1.0 why.1.1) why.1.1)
    quiet_by (ending.Done book) why (inl t) short own by = by (ending.Done book) why t.0 (subst (λ (b : List ℕ). WasWhole input b) (whole_is bytes quiet.run quiet.told why.1.0 why.1.1) why.1.1)

    unread : (own : ℕ) → (status ≡ own) ⊎ (status ≡ 4) ⊎ ((status ≡ 5) × MayFail input) → (status ≡ own) ⊎ (status ≡ 4)
    unread own (inl is) = inl is
    unread own (inr (inl is)) = inr is
    unread own (inr (inr is)) = absurd (quiet.read is.1)

    quiet_run : ¬ MayFailToKeep keeper → {K : Type 0} → (end : Ending K) → Explains words input end → Over keeper end → IsTold out end status → length bytes ≤ INPUT_LIMIT → line_fault bytes ≡ None → (status ≡ 0) ⊎ (status ≡ 4)
    quiet_run still end why kept (inr (inl t)) short none = absurd (quiet.written t.1)
    quiet_run still end why kept (inr (inr t)) short none = inr t.0
    quiet_run still (ending.Words back) why kept (inl t) short none = absurd (why.0 quiet.run)
    quiet_run still (ending.Read back) why kept (inl t) short none = absurd (quiet.read why.1.1.failed)
    quiet_run still (ending.Long back) why kept (inl t) short none = let l = consumed_short input.before input.after bytes why.1.0 quiet.told why.1.1.consumed in let h = why.1.1.long in absurd (omega (arith, l, h, short))
    quiet_run still (ending.Memory back) why kept (inl t) short none = inr t.0
    quiet_run still (ending.Script fault back) why kept (inl t) short none =
        let clash : Some fault ≡ None = sym why.1.2 ∙ ap line_fault (whole_is bytes quiet.run quiet.told why.1.0 why.1.1) ∙ none in absurd (cc)
    quiet_run still (ending.Done run) why kept (inl t) short none = by (run_status (has_flush_failed_at_end run.book.journal) status t.0)
      where
        by : ((status ≡ 0) × (has_flush_failed_at_end run.book.journal ≡ false)) ⊎ ((status ≡ 7) × (has_flush_failed_at_end run.book.journal ≡ true)) → (status ≡ 0) ⊎ (status ≡ 4)
        by (inl x) = inl x.0
        by (inr x) = absurd (still (kept.causes (failed_at_end run.book.journal x.1)))

    quiet_long : {K : Type 0} → (end : Ending K) → Explains words input end → IsTold out end status → INPUT_LIMIT < length bytes → (status ≡ 8) ⊎ (status ≡ 4)
    quiet_long end why (inr (inl t)) long = absurd (quiet.written t.1)
    quiet_long end why (inr (inr t)) long = inr t.0
    quiet_long (ending.Words keeper) why (inl t) long = absurd (why.0 quiet.run)
    quiet_long (ending.Read keeper) why (inl t) long = absurd (quiet.read why.1.1.failed)
    quiet_long (ending.Long keeper) why (inl t) long = inl t.0
    quiet_long (ending.Memory keeper) why (inl t) long = inr t.0
    quiet_long (ending.Script fault keeper) why (inl t) long = let l = ap length (whole_is bytes quiet.run quiet.told why.1.0 why.1.1) in let s = why.1.1.short in absurd (omega (arith, l, s, long))
    quiet_long (ending.Done book) why (inl t) long = let l = ap length (whole_is bytes quiet.run quiet.told why.1.0 why.1.1) in let s = why.1.1.short in absurd (omega (arith, l, s, long))

  pub completes : {K : Type 0} → (end : Ending K) → Explains words input end → Over keeper end → IsTold out end status → Completes words input out keeper status
  completes end why kept told_so = record {
    script = λ bytes quiet still short none. quiet_run bytes quiet still end why kept told_so short none;
    no_script = λ bytes quiet short fault named. quiet_by bytes quiet end why told_so short 3 (λ e e_why is whole. unread bytes quiet 3 (fault_by bytes quiet.run quiet.told e e_why is whole fault named));
    too_long = λ bytes quiet long. quiet_long bytes quiet end why told_so long;
  }

  -- ---- a text that was cut short
  to_write : {K : Type 0} → (end : Ending K) → IsWriting end → Explains words input end → Over keeper end → IsToWrite words input keeper (text_of end)
  to_write (ending.Words back) writes why kept = inl (why.0, why.1, refl)
  to_write (ending.Read back) writes why kept = inr (inl (why.0, why.1, refl))
  to_write (ending.Long back) writes why kept = inr (inr (inl (why.0, why.1, refl)))
  to_write (ending.Memory back) writes why kept = absurd writes
  to_write (ending.Script fault back) writes why kept = inr (inr (inr (inl (why.0, (why.1.0, fault, why.1.1, why.1.2, refl)))))
  to_write (ending.Done run) writes why kept = inr (inr (inr (inr (why.0, (why.1.0, run.book.journal, why.1.1, why.1.2, kept, ap (λ n. report_of n run.book.journal) why.1.3.names_are)))))

  no_six : {K : Type 0} → (end : Ending K) → status_of end ≡ 6 → ⊥
  no_six (ending.Words keeper) e = omega (arith, e)
  no_six (ending.Read keeper) e = omega (arith, e)
  no_six (ending.Long keeper) e = omega (arith, e)
  no_six (ending.Memory keeper) e = omega (arith, e)
  no_six (ending.Script fault keeper) e = omega (arith, e)
  no_six (ending.Done run) e = neither 6 (λ six. omega (arith, six)) (λ six. omega (arith, six)) (run_is (has_flush_failed_at_end run.book.journal) (status_by (has_flush_failed_at_end run.book.journal)) 6 refl e)

  pub cut_short : {K : Type 0} → (end : Ending K) → Explains words input end → Over keeper end → IsTold out end status → status ≡ 6 → IsCutShort words input out keeper
  cut_short end why kept (inl t) six = absurd (no_six end (sym t.0 ∙ six))
  cut_short end why kept (inr (inl t)) six = (t.1, (text_of end, to_write end t.2 why kept, t.3))
  cut_short end why kept (inr (inr t)) six = let four = t.0 in absurd (omega (arith, four, six))

  pub memory_wanting : {K : Type 0} → (end : Ending K) → Explains words input end → Over keeper end → IsTold out end status → status ≡ 4 → IsWanting words input out keeper
  memory_wanting end why kept (inr (inl t)) four = let six = t.0 in absurd (omega (arith, six, four))
  memory_wanting (ending.Words back) why kept (inr (inr t)) four = absurd t.1
  memory_wanting (ending.Read back) why kept (inr (inr t)) four = absurd t.1
  memory_wanting (ending.Long back) why kept (inr (inr t)) four = absurd t.1
  memory_wanting (ending.Memory back) why kept (inr (inr t)) four = (why.0, inl t.2)
  memory_wanting (ending.Script fault back) why kept (inr (inr t)) four = (why.0, inl t.2)
  memory_wanting (ending.Done run) why kept (inr (inr t)) four = (why.0, inr (why.1.0, run.book.journal, why.1.1, why.1.2, kept, subst (λ n. IsPart out (report_of n run.book.journal)) why.1.3.names_are t.2))
  memory_wanting (ending.Memory back) why kept (inl t) four = (why.0, inl t.1)
  memory_wanting (ending.Words back) why kept (inl t) four = let own = t.0 in absurd (omega (arith, own, four))
  memory_wanting (ending.Read back) why kept (inl t) four = let own = t.0 in absurd (omega (arith, own, four))
  memory_wanting (ending.Long back) why kept (inl t) four = let own = t.0 in absurd (omega (arith, own, four))
  memory_wanting (ending.Script fault back) why kept (inl t) four = let own = t.0 in absurd (omega (arith, own, four))
  memory_wanting (ending.Done run) why kept (inl t) four = absurd (neither 4 (λ zero_is. omega (arith, zero_is)) (λ seven. omega (arith, seven)) (run_is (has_flush_failed_at_end run.book.journal) status 4 t.0 four))

  pub other_words : {K : Type 0} → (end : Ending K) → Explains words input end → IsTold out end status → ¬ AreRun words → ((status ≡ 2) ⊎ ((status ≡ 6) × MayFail out)) × Keeps input.before input.after
  other_words (ending.Words keeper) why (inl t) other = (inl t.0, why.1)
  other_words (ending.Words keeper) why (inr (inl t)) other = (inr (t.0, t.1), why.1)
  other_words (ending.Words keeper) why (inr (inr t)) other = absurd t.1
  other_words (ending.Read keeper) why t other = absurd (other why.0)
  other_words (ending.Long keeper) why t other = absurd (other why.0)
  other_words (ending.Memory keeper) why t other = absurd (other why.0)
  other_words (ending.Script fault keeper) why t other = absurd (other why.0)
  other_words (ending.Done book) why t other = absurd (other why.0)

  -- ---- statuses 0 and 7
  -- a run was done, its report was written, and the status is that of its journal
  record WasDone : Type 0 where
    words_are : AreRun words
    bytes : List ℕ
    journal : List Entry
    whole : WasWhole input bytes
    run : IsRun bytes journal
    kept : IsKeptIn keeper journal
    wrote : Appends out.before out.after (report_of (names_of bytes) journal)
    status_is : status ≡ status_by (has_flush_failed_at_end journal)

  module _ (own : ℕ) (is : status ≡ own) (either : (own ≡ 0) ⊎ (own ≡ 7)) where
    clash : (n : ℕ) → n ≢ 0 → n ≢ 7 → status ≡ n → ⊥
    clash n zero_not seven_not told_so = by either
      where
        by : (own ≡ 0) ⊎ (own ≡ 7) → ⊥
        by (inl zero_is) = zero_not (sym told_so ∙ is ∙ zero_is)
        by (inr seven) = seven_not (sym told_so ∙ is ∙ seven)

    was_done : {K : Type 0} → (end : Ending K) → Explains words input end → Over keeper end → IsTold out end status → WasDone
    was_done end why kept (inr (inl t)) = absurd (clash 6 (λ e. omega (arith, e)) (λ e. omega (arith, e)) t.0)
    was_done end why kept (inr (inr t)) = absurd (clash 4 (λ e. omega (arith, e)) (λ e. omega (arith, e)) t.0)
    was_done (ending.Words back) why kept (inl t) = absurd (clash 2 (λ e. omega (arith, e)) (λ e. omega (arith, e)) t.0)
    was_done (ending.Read back) why kept (inl t) = absurd (clash 5 (λ e. omega (arith, e)) (λ e. omega (arith, e)) t.0)
    was_done (ending.Long back) why kept (inl t) = absurd (clash 8 (λ e. omega (arith, e)) (λ e. omega (arith, e)) t.0)
    was_done (ending.Memory back) why kept (inl t) = absurd (clash 4 (λ e. omega (arith, e)) (λ e. omega (arith, e)) t.0)
    was_done (ending.Script fault back) why kept (inl t) = absurd (clash 3 (λ e. omega (arith, e)) (λ e. omega (arith, e)) t.0)
    was_done (ending.Done run) why kept (inl t) = record {
      words_are = why.0;
      bytes = why.1.0;
      journal = run.book.journal;
      whole = why.1.1;
      run = why.1.2;
      kept = kept;
      wrote = subst (λ n. Appends out.before out.after (report_of n run.book.journal)) why.1.3.names_are t.1;
      status_is = t.0;
    }

  pub done : {K : Type 0} → (end : Ending K) → Explains words input end → Over keeper end → IsTold out end status → status ≡ 0 → IsDone words input out keeper
  done end why kept told_so zero_is = by (was_done 0 zero_is (inl refl) end why kept told_so)
    where
      by : WasDone → IsDone words input out keeper
      by d = cases (run_status (has_flush_failed_at_end d.journal) status d.status_is)
        where
          cases : ((status ≡ 0) × (has_flush_failed_at_end d.journal ≡ false)) ⊎ ((status ≡ 7) × (has_flush_failed_at_end d.journal ≡ true)) → IsDone words input out keeper
          cases (inl x) = (d.words_are, (d.bytes, d.journal, d.whole, d.run, (follows_kept d.run.script.lines d.run.script.sessions d.journal d.run.legal d.run.follows).0 x.1, d.kept, d.wrote))
          cases (inr x) = let seven = x.0 in absurd (omega (arith, seven, zero_is))

  pub unflushed : {K : Type 0} → (end : Ending K) → Explains words input end → Over keeper end → IsTold out end status → status ≡ 7 → IsUnflushed words input out keeper
  unflushed end why kept told_so seven = by (was_done 7 seven (inr refl) end why kept told_so)
    where
      by : WasDone → IsUnflushed words input out keeper
      by d = cases (run_status (has_flush_failed_at_end d.journal) status d.status_is)
        where
          cases : ((status ≡ 0) × (has_flush_failed_at_end d.journal ≡ false)) ⊎ ((status ≡ 7) × (has_flush_failed_at_end d.journal ≡ true)) → IsUnflushed words input out keeper
          cases (inl x) = let zero_is = x.0 in absurd (omega (arith, zero_is, seven))
          cases (inr x) = (d.words_are, d.kept.causes (failed_at_end d.journal x.1), (d.bytes, d.journal, d.whole, d.run, x.1, d.kept, d.wrote))

-- ---- what telling asks
pub can_be_told : {K : Type 0} → (words : List (String Global)) (input : Passed) (end : Ending K) → Explains words input end → CanBeTold end
can_be_told words input (ending.Words keeper) why = tt
can_be_told words input (ending.Read keeper) why = tt
can_be_told words input (ending.Long keeper) why = tt
can_be_told words input (ending.Memory keeper) why = tt
can_be_told words input (ending.Script fault keeper) why = tt
can_be_told words input (ending.Done run) why = let ready = why.1.3 in (ready.clients, ready.many, ready.few, ready.handed)
