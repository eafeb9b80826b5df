-- A document is flushed, by a line and at the end of a run.
use Rattle.std.proofs.Common.{◌≡◌, ◌≢◌, inl, inr, ℕ, zero, suc, ◌<◌, ◌≤◌, List, [], ◌∷◌, ◌++◌, length, map, Bool, true, false, refl, sym, ap, ◌∙◌, subst, arith, append_assoc}
use Rattle.std.specs.Prelude.{Option, Some, None, nat_lt, position, if◌then◌else◌}
use Rattle.std.specs.List.{position_or_len}
use Rattle.std.proofs.lemmas.Bool.{lt-ltb, ltb-true}
use Rattle.std.proofs.lemmas.Bool.Decides.{nat_tests}
use Rattle.std.proofs.lemmas.List.Elements.{All-nil, All-cons}
use Rattle.expiring_lock.specs.declared.refusal.Busy.{Busy}
use Rattle.journal_entries.specs.declared.act.Act.{Act}
use Rattle.journal_entries.specs.declared.act.Act.TheVariants.{Released, Flushed, FlushFailed, Declined}
use Rattle.journal_entries.specs.declared.act.Entry.{Entry}
use Rattle.journal_entries.specs.declared.why.Why.{Why}
use Rattle.journal_entries.specs.declared.why.Why.TheVariants as why
use Rattle.journal_rules.specs.Documents.{IsMade, is_named, makings, number_of, version}
use Rattle.journal_rules.specs.Keeping.{cached, kept}
use Rattle.journal_rules.specs.Legal.{IsLegal}
use Rattle.journal_rules.specs.Locks.{next_token}
use Rattle.journal_rules.specs.Whys.{IsWhy}
use Rattle.journal_rules.proofs.Legality.{legal_front}
use Rattle.journal_rules.proofs.Lists.{some_same}
use Rattle.turn_rules.specs.Flushing.{FlushesFrom, IsPut}
use Rattle.turn_rules.specs.Locking.{acquired, busy, unavailable, unavailable_by}
use Rattle.turn_rules.specs.Turns.{Alone, entry_by}
use Rattle.turn_rules.proofs.Kept.{kept_or_cached, kept_within}
use Rattle.run_rules.specs.Ending.{FlushesAtEnd, FlushesIf, InOrder, at_end}
use Rattle.run_rules.specs.Lines.{FlushesNamed, FlushesUnless, late_acts}
use Rattle.run_rules.specs.Plain.{is_behind, needs_flush}
use Rattle.run_rules.proofs.Free.{flush_frees}
use Rattle.flush_manager.specs.Flushes.{Flushes, not_flushable}
use Rattle.flush_manager.specs.FlushesAll.{FlushesBelow, FlushesIfNeeded}
use Rattle.flush_manager.specs.declared.flush.FlushEnd.{FlushEnd}
use Rattle.flush_manager.specs.declared.flush.FlushEnd.TheVariants.{Done, Failed, Memory, Refused}
use Rattle.flush_manager.proofs.FlushingAll.{makes_none}
use Rattle.script_driver.specs.Apart.{GoesApart, IsApart, is_apart}
use Rattle.script_driver.proofs.Apart.{apart_from, apart_on, more_tokens, none_apart}
use Rattle.script_driver.proofs.Taking.{busy_with}

-- ---- a whole flush
module _ (by : Act → Entry) (doc : ℕ) (old new : List Entry) where
  abbrev pub IsFlush : Act → Type 0
  IsFlush put = IsPut doc (next_token old) put × (new ≡ old ++ map by (acquired doc old ∷ put ∷ Released doc (next_token old) ∷ []))

  pub flushes_from : (late : List Entry → List Act) (put : Act) → IsFlush put → FlushesFrom by Alone late doc old new
  flushes_from late put f = (
    old ++ by (acquired doc old) ∷ [],
    refl,
    inl (
      put,
      f.0,
      (
        (old ++ by (acquired doc old) ∷ []) ++ by put ∷ [],
        by (Released doc (next_token old)) ∷ [],
        refl,
        inl (Released doc (next_token old), refl, refl),
        f.1 ∙ sym (append_assoc (old ++ by (acquired doc old) ∷ []) (by put ∷ []) (by (Released doc (next_token old)) ∷ []) ∙ append_assoc old (by (acquired doc old) ∷ []) (by put ∷ by (Released doc (next_token old)) ∷ [])),
      ),
    ),
  )

-- a flush that was done, or failed, is whole
abbrev pub Puts : (by : Act → Entry) → ℕ → List Entry → List Entry → FlushEnd → Type 0
Puts by doc old new end = (put : Act) × IsFlush by doc old new put × (not_flushable doc old ≡ None)

pub done_puts : (by : Act → Entry) (doc : ℕ) (old new : List Entry) → Flushes by doc old new Done → Puts by doc old new Done
done_puts by doc old new f = (Flushed doc (next_token old) f.0, (inl (f.0, refl), f.1.1), f.1.0)

pub failed_puts : (by : Act → Entry) (doc : ℕ) (old new : List Entry) (before after : ℕ) → Flushes by doc old new (Failed before after) → Puts by doc old new (Failed before after)
failed_puts by doc old new before after f = (FlushFailed doc (next_token old) before after, (inr (before, after, refl), f.1), f.0)

-- ---- its entries are apart, and leave all locks free
put_apart : (from doc token : ℕ) (put : Act) → IsPut doc token put → is_apart from put ≡ true
put_apart from doc token put (inl x) = ap (is_apart from) x.1
put_apart from doc token put (inr x) = ap (is_apart from) x.2

pub flush_apart : (seat : ℕ) (line : Option ℕ) (from doc : ℕ) (old new : List Entry) (put : Act) → IsFlush (entry_by seat line) doc old new put → GoesApart from old new
flush_apart seat line from doc old new put f = record {
  more = map (entry_by seat line) (acquired doc old ∷ put ∷ Released doc (next_token old) ∷ []);
  last_is = f.1;
  all = All-cons (IsApart from) (entry_by seat line (acquired doc old)) (entry_by seat line put ∷ entry_by seat line (Released doc (next_token old)) ∷ []) (record { apart = refl })
      (All-cons (IsApart from) (entry_by seat line put) (entry_by seat line (Released doc (next_token old)) ∷ []) (record { apart = put_apart from doc (next_token old) put f.0 })
      (All-cons (IsApart from) (entry_by seat line (Released doc (next_token old))) [] (record { apart = refl }) (All-nil (IsApart from))));
}

-- ---- why a document of a name isn't flushed
pub flushable : (doc : ℕ) (j : List Entry) → not_flushable doc j ≡ None → unavailable doc j ≡ None
flushable doc j e = by (nat_lt doc (length (makings j))) e
  where
    by : (made : Bool) → (if made then unavailable doc j else Some why.NoDoc) ≡ None → unavailable doc j ≡ None
    by true e = e
    by false e = absurd (cc)

pub unavailable_as : (doc : ℕ) (j : List Entry) (w : Why) → IsMade doc j → not_flushable doc j ≡ Some w → unavailable doc j ≡ Some w
unavailable_as doc j w made e = sym (ap (λ b. if b then unavailable doc j else Some why.NoDoc) (lt-ltb doc (length (makings j)) made)) ∙ e

pub unavailable_why : (doc seat session : ℕ) (j : List Entry) (w : Why) → IsMade doc j → unavailable doc j ≡ Some w → IsWhy j seat session w
unavailable_why doc seat session j w made e = by (busy doc j) refl (cached doc j) refl e
  where
    by : (o : Option Busy) → busy doc j ≡ o → (c : Bool) → cached doc j ≡ c → unavailable_by o c ≡ Some w → IsWhy j seat session w
    by (Some b) is c c_is e = subst (IsWhy j seat session) (some_same (why.Busy b) w e) (busy_with doc j b is)
    by None is false c_is e = subst (IsWhy j seat session) (some_same why.Uncached w e) (doc, made, c_is)
    by None is true c_is e = absurd (cc)

-- ---- `flush`, by a document's name
position_within : {A : Type 0} (p : A → Bool) (xs : List A) (i : ℕ) → position p xs ≡ Some i → i < length xs
position_within p xs i at = by (nat_lt (position_or_len p xs) (length xs)) refl at
  where
    by : (b : Bool) → nat_lt (position_or_len p xs) (length xs) ≡ b → (if b then Some (position_or_len p xs) else None) ≡ Some i → i < length xs
    by true is at = let lt = ltb-true (position_or_len p xs) (length xs) is in let same = some_same (position_or_len p xs) i at in omega (arith, lt, same)
    by false is at = absurd (cc)

pub named_made : (called : List ℕ) (doc : ℕ) (j : List Entry) → number_of called j ≡ Some doc → IsMade doc j
named_made called doc j at = position_within (λ m. is_named called m) (makings j) doc at

module _ (by : Act → Entry) (session doc : ℕ) (called : List ℕ) (old new : List Entry) where
  pub flush_done : (put : Act) → number_of called old ≡ Some doc → IsFlush by doc old new put → not_flushable doc old ≡ None → FlushesNamed by Alone session (number_of called old) old new
  flush_done put named f free =
      subst (λ o. FlushesNamed by Alone session o old new) (sym named)
      (subst (λ o. FlushesUnless by Alone session doc o old new) (sym (flushable doc old free)) (flushes_from by doc old new (late_acts session doc) put f))

  pub flush_declined : (w : Why) → number_of called old ≡ Some doc → unavailable doc old ≡ Some w → new ≡ old ++ by (Declined session w) ∷ [] → FlushesNamed by Alone session (number_of called old) old new
  flush_declined w named why_is is =
      subst (λ o. FlushesNamed by Alone session o old new) (sym named) (subst (λ o. FlushesUnless by Alone session doc o old new) (sym why_is) is)

-- ---- at the end of a run
needed : (doc : ℕ) (j : List Entry) → IsLegal j → kept doc j ≢ Some (version doc j) → needs_flush doc j ≡ true
needed doc j legal apart = by (kept doc j) refl
  where
    by : (o : Option ℕ) → kept doc j ≡ o → is_behind (kept doc j) (version doc j) ≡ true
    by None is = ap (λ k. is_behind k (version doc j)) is
    by (Some v) is =
        let within : v ≤ version doc j = kept_within doc j legal v is in
        let behind : v ≢ version doc j = (λ same. apart (is ∙ ap (λ (n : ℕ). Some n) same)) in
        ap (λ k. is_behind k (version doc j)) is ∙ lt-ltb v (version doc j) (omega (arith, within, behind))

not_needed : (doc : ℕ) (j : List Entry) → kept doc j ≡ Some (version doc j) → needs_flush doc j ≡ false
not_needed doc j is = ap (λ k. is_behind k (version doc j)) is ∙ same (version doc j)
  where
    same : (n : ℕ) → nat_lt n n ≡ false
    same n = grind (arith, nat_tests)

-- a document that nobody keeps and that is to be flushed can be
never_refused : (doc : ℕ) (j : List Entry) (w : Why) → IsLegal j → IsMade doc j → busy doc j ≡ None → kept doc j ≢ Some (version doc j) → not_flushable doc j ≡ Some w → ⊥
never_refused doc j w legal made free apart refused = by (cached doc j) refl (sym (ap (λ o. unavailable_by o (cached doc j)) free) ∙ unavailable_as doc j w made refused)
  where
    by : (c : Bool) → cached doc j ≡ c → unavailable_by None (cached doc j) ≡ Some w → ⊥
    by true is e = let f : None ≡ Some w = sym (ap (unavailable_by None) is) ∙ e in cc
    by false is e = apart (kept_or_cached j legal doc made is)

record FlushesFreely (doc : ℕ) (left last : List Entry) : Type 0 where
  flushes : FlushesAtEnd doc left last
  free : (d : ℕ) → busy d left ≡ None → busy d last ≡ None
  apart : GoesApart (next_token left) left last

whole_freely : (doc : ℕ) (left last : List Entry) (put : Act) → needs_flush doc left ≡ true → IsFlush at_end doc left last put → FlushesFreely doc left last
whole_freely doc left last put need f = record {
  flushes = subst (λ b. FlushesIf b doc left last) (sym need) (flushes_from at_end doc left last (λ look. []) put f);
  free = flush_frees 0 None doc left last put f.0 f.1;
  apart = flush_apart 0 None (next_token left) doc left last put f;
}

one_freely : (doc : ℕ) (left last : List Entry) (end : FlushEnd) → IsLegal left → IsMade doc left → busy doc left ≡ None → end ≢ Memory → FlushesIfNeeded at_end doc left last end → FlushesFreely doc left last
one_freely doc left last end legal made free some (inl x) = record {
  flushes = subst (λ b. FlushesIf b doc left last) (sym (not_needed doc left x.0)) x.1;
  free = λ d none. ap (busy d) x.1 ∙ none;
  apart = none_apart (next_token left) left last x.1;
}
one_freely doc left last Done legal made free some (inr x) =
    let p = done_puts at_end doc left last x.1 in whole_freely doc left last p.0 (needed doc left legal x.0) p.1
one_freely doc left last (Failed from to) legal made free some (inr x) =
    let p = failed_puts at_end doc left last from to x.1 in whole_freely doc left last p.0 (needed doc left legal x.0) p.1
one_freely doc left last (Refused w) legal made free some (inr x) = absurd (never_refused doc left w legal made free x.0 x.1.0)
one_freely doc left last Memory legal made free some (inr x) = absurd (some refl)

if_needed_apart : (doc : ℕ) (left last : List Entry) (end : FlushEnd) → end ≢ Memory → FlushesIfNeeded at_end doc left last end → GoesApart (next_token left) left last
if_needed_apart doc left last end some (inl x) = none_apart (next_token left) left last x.1
if_needed_apart doc left last Done some (inr x) = let p = done_puts at_end doc left last x.1 in flush_apart 0 None (next_token left) doc left last p.0 p.1
if_needed_apart doc left last (Failed from to) some (inr x) = let p = failed_puts at_end doc left last from to x.1 in flush_apart 0 None (next_token left) doc left last p.0 p.1
if_needed_apart doc left last (Refused w) some (inr x) = none_apart (next_token left) left last x.1.1
if_needed_apart doc left last Memory some (inr x) = absurd (some refl)

pub record FlushesInOrder (n : ℕ) (left last : List Entry) : Type 0 where
  pub flushes : InOrder FlushesAtEnd n left last
  pub free : (d : ℕ) → busy d last ≡ None
  pub apart : GoesApart (next_token left) left last
  pub same : makings last ≡ makings left

pub flushes_in_order : (n : ℕ) (left last : List Entry) (end : FlushEnd) → IsLegal last → ((d : ℕ) → busy d left ≡ None) → n ≤ length (makings left) → FlushesBelow at_end n left last end → FlushesInOrder n left last
flushes_in_order zero left last end legal free low f = record {
  flushes = f.0;
  free = λ d. ap (busy d) f.0 ∙ free d;
  apart = none_apart (next_token left) left last f.0;
  same = ap makings f.0;
}
flushes_in_order (suc n) left last end legal free low f =
    let mid = f.0 in
    let step = if_needed_apart n mid last f.2 f.5 f.4 in
    let legal_mid = legal_front mid step.more (subst IsLegal step.last_is legal) in
    let was = flushes_in_order n left mid f.1 legal_mid free (omega (arith, low)) f.3 in
    let now = one_freely n mid last f.2 legal_mid (made was.same) (was.free n) f.5 f.4 in
    let tokens = more_tokens (next_token left) left mid was.apart in
    record {
      flushes = (mid, was.flushes, now.flushes);
      free = λ d. now.free d (was.free d);
      apart = apart_on (next_token left) left mid last was.apart (apart_from (next_token mid) (next_token left) mid last (omega (arith, tokens)) now.apart);
      same = makes_none 0 None n mid last f.2 f.4 f.5 ∙ was.same;
    }
  where
    made : makings f.0 ≡ makings left → IsMade n f.0
    made same = let l = ap length same in omega (arith, l, low)
