-- The flushes of the end: nothing is missing of them, and behind them each document's version is kept, unless one failed.
use Rattle.std.proofs.Common.{◌≡◌, ◌≢◌, ◌⊎◌, ℕ, ◌+◌, ◌<◌, ◌≤◌, suc, zero, ◌||◌, List, [], ◌∷◌, ◌++◌, length, Bool, true, false, true≢false, refl, sym, ap, ap₂, ◌∙◌, subst, inl, inr, arith, eqb, eq-eqb, ne_eqb, append-nil, append_assoc, All}
use Rattle.std.specs.Prelude.{Option, Some, None, map, nat_lt, slice_get, if◌then◌else◌}
use Rattle.std.proofs.lemmas.Bool.{eqb-true}
use Rattle.std.proofs.lemmas.Bool.Decides.{nat_tests}
use Rattle.std.proofs.lemmas.List.{length-append}
use Rattle.std.proofs.lemmas.List.Folds.{list_any-append}
use Rattle.std.proofs.lemmas.List.Elements.{All-append, All-nil, All-cons}
use native.Mathlib.Decide.{ℕ_discrete}
use Rattle.journal_entries.specs.declared.act.Act.{Act}
use Rattle.journal_entries.specs.declared.act.Act.TheVariants.{Flushed, FlushFailed, Released}
use Rattle.journal_entries.specs.declared.act.Entry.{Entry}
use Rattle.journal_rules.specs.Documents.{Making, making_of, makings, base, base_in, Item, items_by, applied_list, version}
use Rattle.journal_rules.specs.Keeping.{kept, kept_by}
use Rattle.journal_rules.specs.Legal.{IsAllowed, IsLegal}
use Rattle.journal_rules.specs.Locks.{last_token, next_token}
use Rattle.journal_rules.proofs.Legality.{allowed_next, by_last, front, legal_front}
use Rattle.journal_rules.proofs.Lists.{some_same}
use Rattle.journal_rules.proofs.Pushing.{makings-push, applied_list-push, kept-push, kept-none}
use Rattle.ending_rules.specs.Upkeep.{is_upkeep}
use Rattle.run_rules.specs.Completing.{AreKept, has_flush_failed_at_end, is_flush_failed_at_end}
use Rattle.turn_rules.specs.Draining.{IsRelease, IsTakenOver, Releases}
use Rattle.run_rules.specs.Ending.{at_end, InOrder, FlushesIf, FlushesAtEnd}
use Rattle.turn_rules.specs.Flushing.{IsPut, FlushesFrom, IsWholeFlush}
use Rattle.turn_rules.specs.Locking.{acquired}
use Rattle.run_rules.specs.Plain.{needs_flush, is_behind}
use Rattle.turn_rules.specs.Turns.{Alone, entry_by}
use Rattle.turn_rules.proofs.Flushing.{IsPutting, flush_keeps, flush_makings, flush_other, flush_version, kept_then, putting}
use Rattle.turn_rules.proofs.Kept.{kept_within}
use Rattle.run_rules.proofs.Whole.{IsStill, made_under, stands, still_one}

-- ---- nothing is missing
module _ (seat : ℕ) (line : Option ℕ) (doc : ℕ) where
  abbrev by : Act → Entry
  by = entry_by seat line

  put_still : (token : ℕ) (act : Act) → IsPut doc token act → IsStill seat line doc act
  put_still token act (inl x) = subst (IsStill seat line doc) (sym x.1) (λ now. refl)
  put_still token act (inr x) = subst (IsStill seat line doc) (sym x.2) (λ now. refl)

  pub whole_flush : (late : List Entry → List Act) (left last : List Entry) → FlushesFrom (entry_by seat line) Alone late doc left last → IsWholeFlush (entry_by seat line) doc left last
  whole_flush late left last p = of_two p.2
    where
      token_stands : last_token doc p.0 ≡ next_token left
      token_stands = ap (last_token doc) p.1 ∙ stands seat line doc [] left tt

      of_two : ((act : Act) × IsPut doc (next_token left) act × Releases by Alone doc (next_token left) (p.0 ++ by act ∷ []) last) ⊎ (IsTakenOver doc (next_token left) p.0 × (last ≡ p.0 ++ map by (late p.0))) → IsWholeFlush by doc left last
      of_two (inl x) =
          let r = made_under seat line doc (next_token left) (IsRelease doc (next_token left)) (p.0 ++ by x.0 ∷ []) last (still_one seat line doc p.0 x.0 (put_still (next_token left) x.0 x.1) ∙ token_stands) x.2 in
          record {
            put = x.0;
            is_put = x.1;
            last_is = r.2 ∙ ap (λ (a : Act). (p.0 ++ by x.0 ∷ []) ++ by a ∷ []) r.1
                ∙ ap (λ (j : List Entry). (j ++ by x.0 ∷ []) ++ by (Released doc (next_token left)) ∷ []) p.1
                ∙ ap (λ (j : List Entry). j ++ by (Released doc (next_token left)) ∷ []) (append_assoc left (by (acquired doc left) ∷ []) (by x.0 ∷ []))
                ∙ append_assoc left (by (acquired doc left) ∷ by x.0 ∷ []) (by (Released doc (next_token left)) ∷ []);
          }
      of_two (inr x) = absurd (x.0 token_stands)

-- ---- they leave what holds behind the rounds
abbrev IsUpkeep : Entry → Type 0
IsUpkeep e = is_upkeep e.act ≡ true

put_upkeep : (doc token : ℕ) (act : Act) → IsPut doc token act → is_upkeep act ≡ true
put_upkeep doc token act (inl x) = ap is_upkeep x.1
put_upkeep doc token act (inr x) = ap is_upkeep x.2

abbrev pub AddsUpkeep : List Entry → List Entry → Type 0
AddsUpkeep left last = (es : List Entry) × (last ≡ left ++ es) × All IsUpkeep es

upkeep_if : (needed : Bool) (doc : ℕ) (left last : List Entry) → FlushesIf needed doc left last → AddsUpkeep left last
upkeep_if false doc left last e = ([], e ∙ sym (append-nil left), All-nil IsUpkeep)
upkeep_if true doc left last f =
    let w = whole_flush 0 None doc (λ look. []) left last f in
    let r = at_end (Released doc (next_token left)) in (
      map at_end (acquired doc left ∷ w.put ∷ Released doc (next_token left) ∷ []),
      w.last_is,
      All-cons IsUpkeep (at_end (acquired doc left)) (at_end w.put ∷ r ∷ []) refl (All-cons IsUpkeep (at_end w.put) (r ∷ []) (put_upkeep doc (next_token left) w.put w.is_put) (All-cons IsUpkeep r [] refl (All-nil IsUpkeep))),
    )

pub upkeep_only : (n : ℕ) (left last : List Entry) → InOrder FlushesAtEnd n left last → AddsUpkeep left last
upkeep_only zero left last e = ([], e ∙ sym (append-nil left), All-nil IsUpkeep)
upkeep_only (suc n) left last x =
    let a = upkeep_only n left x.0 x.1 in
    let b = upkeep_if (needs_flush n x.0) n x.0 last x.2 in
    (a.0 ++ b.0, b.1 ∙ ap (λ (j : List Entry). j ++ b.0) a.1 ∙ append_assoc left a.0 b.0, All-append IsUpkeep a.0 b.0 a.2 b.2)

-- ---- all of them
any_front : (front back : List Entry) → has_flush_failed_at_end (front ++ back) ≡ false → has_flush_failed_at_end front ≡ false
any_front front back e = go (has_flush_failed_at_end front) (sym (list_any-append is_flush_failed_at_end front back) ∙ e)
  where
    go : (b : Bool) → (b || has_flush_failed_at_end back) ≡ false → b ≡ false
    go true e = e
    go false e = refl

any_back : (front back : List Entry) → has_flush_failed_at_end (front ++ back) ≡ false → has_flush_failed_at_end back ≡ false
any_back front back e = go (has_flush_failed_at_end front) (sym (list_any-append is_flush_failed_at_end front back) ∙ e)
  where
    go : (b : Bool) → (b || has_flush_failed_at_end back) ≡ false → has_flush_failed_at_end back ≡ false
    go true e = absurd (true≢false e)
    go false e = e

record Flushes (n : ℕ) (left last : List Entry) : Type 0 where
  same_makings : makings last ≡ makings left
  same_versions : (d : ℕ) → version d last ≡ version d left
  others : (d : ℕ) → n ≢ d → kept d last ≡ kept d left
  its_own : kept n last ≡ Some (version n last)

settled : (have : ℕ) (k : Option ℕ) → ((v : ℕ) → k ≡ Some v → v ≤ have) → is_behind k have ≡ false → k ≡ Some have
settled have None within e = absurd (true≢false e)
settled have (Some v) within e = let w = within v refl in ap (λ (n : ℕ). Some n) (least v w e)
  where
    least : (v : ℕ) → v ≤ have → nat_lt v have ≡ false → v ≡ have
    least v w e = grind (arith, nat_tests)

one_flush : (needed : Bool) (n : ℕ) (left last : List Entry) → needs_flush n left ≡ needed → IsLegal last → has_flush_failed_at_end last ≡ false → FlushesIf needed n left last → Flushes n left last
one_flush false n left last is legal none e = record {
  same_makings = ap makings e;
  same_versions = λ d. ap (version d) e;
  others = λ d other. ap (kept d) e;
  its_own = ap (kept n) e ∙ settled (version n left) (kept n left) (kept_within n left (subst IsLegal e legal)) is ∙ ap (λ (j : List Entry). Some (version n j)) (sym e);
}
one_flush true n left last is legal none x =
    let w = whole_flush 0 None n (λ look. []) left last x in
    let puts = putting n (next_token left) w.put w.is_put in
    record {
      same_makings = flush_makings 0 None n left last (next_token left) w.put w.last_is puts;
      same_versions = flush_version 0 None n left last (next_token left) w.put w.last_is puts;
      others = λ d other. flush_other 0 None n left last (next_token left) w.put w.last_is puts d other w.is_put;
      its_own = by w puts w.is_put;
    }
  where
    by : (w : IsWholeFlush at_end n left last) → IsPutting w.put → IsPut n (next_token left) w.put → kept n last ≡ Some (version n last)
    by w puts (inl p) = flush_keeps 0 None n left last (next_token left) w.put w.last_is puts legal p.0 p.1
    by w puts (inr p) =
        let at : last ≡ left ++ map at_end (acquired n left ∷ FlushFailed n (next_token left) p.0 p.1 ∷ Released n (next_token left) ∷ []) =
        w.last_is ∙ ap (λ (act : Act). left ++ map at_end (acquired n left ∷ act ∷ Released n (next_token left) ∷ [])) p.2 in
        absurd (true≢false (any_back left (map at_end (acquired n left ∷ FlushFailed n (next_token left) p.0 p.1 ∷ Released n (next_token left) ∷ [])) (ap has_flush_failed_at_end (sym at) ∙ none)))

kept_below : (n : ℕ) (left last : List Entry) → IsLegal last → has_flush_failed_at_end last ≡ false → InOrder FlushesAtEnd n left last → (makings last ≡ makings left) × ((d : ℕ) → d < n → kept d last ≡ Some (version d last))
kept_below zero left last legal none e = (ap makings e, λ d lt. absurd (omega (arith, lt)))
kept_below (suc n) left last legal none x =
    let b = upkeep_if (needs_flush n x.0) n x.0 last x.2 in
    let was = kept_below n left x.0 (legal_front x.0 b.0 (subst IsLegal b.1 legal)) (any_front x.0 b.0 (ap has_flush_failed_at_end (sym b.1) ∙ none)) x.1 in
    let now = one_flush (needs_flush n x.0) n x.0 last refl legal none x.2 in
    (now.same_makings ∙ was.0, λ d lt. by was.1 now d lt (ℕ_discrete n d))
  where
    by : ((d : ℕ) → d < n → kept d x.0 ≡ Some (version d x.0)) → Flushes n x.0 last → (d : ℕ) → d < suc n → Dec (n ≡ d) → kept d last ≡ Some (version d last)
    by was now d lt (yes same) = subst (λ (k : ℕ). kept k last ≡ Some (version k last)) same now.its_own
    by was now d lt (no other) = now.others d other ∙ was d (omega (arith, lt, other)) ∙ ap (λ (k : ℕ). Some k) (sym (now.same_versions d))

pub flushed : (left last : List Entry) → IsLegal last → has_flush_failed_at_end last ≡ false → InOrder FlushesAtEnd (length (makings left)) left last → AreKept last
flushed left last legal none x =
    let k = kept_below (length (makings left)) left last legal none x in
    λ doc made. k.1 doc (subst (λ (ms : List Making). doc < length ms) k.0 made)

-- ---- where one failed its document's version isn't kept
abbrev pub IsQuiet : Entry → Type 0
IsQuiet e = is_flush_failed_at_end e ≡ false

record Quietly (n : ℕ) (left last : List Entry) : Type 0 where
  same_versions : (d : ℕ) → version d last ≡ version d left
  others : (d : ℕ) → n ≢ d → kept d last ≡ kept d left
  added : List Entry
  last_is : last ≡ left ++ added
  quiet : All IsQuiet added

never_behind : (have : ℕ) (k : Option ℕ) → k ≡ Some have → is_behind k have ≡ true → ⊥
never_behind have k is behind = impossible (sym (ap (λ (o : Option ℕ). is_behind o have) is) ∙ behind)
  where
    impossible : nat_lt have have ≡ true → ⊥
    impossible e = grind (arith, nat_tests)

quiet_flush : (needed : Bool) (n : ℕ) (left last : List Entry) → needs_flush n left ≡ needed → kept n last ≡ Some (version n last) → FlushesIf needed n left last → Quietly n left last
quiet_flush false n left last is own e = record {
  same_versions = λ d. ap (version d) e;
  others = λ d other. ap (kept d) e;
  added = [];
  last_is = e ∙ sym (append-nil left);
  quiet = All-nil IsQuiet;
}
quiet_flush true n left last is own x =
    let w = whole_flush 0 None n (λ look. []) left last x in
    let puts = putting n (next_token left) w.put w.is_put in
    let r = at_end (Released n (next_token left)) in
    record {
      same_versions = flush_version 0 None n left last (next_token left) w.put w.last_is puts;
      others = λ d other. flush_other 0 None n left last (next_token left) w.put w.last_is puts d other w.is_put;
      added = map at_end (acquired n left ∷ w.put ∷ Released n (next_token left) ∷ []);
      last_is = w.last_is;
      quiet = All-cons IsQuiet (at_end (acquired n left)) (at_end w.put ∷ r ∷ []) refl (All-cons IsQuiet (at_end w.put) (r ∷ []) (by w puts w.is_put) (All-cons IsQuiet r [] refl (All-nil IsQuiet)));
    }
  where
    by : (w : IsWholeFlush at_end n left last) → IsPutting w.put → IsPut n (next_token left) w.put → IsQuiet (at_end w.put)
    by w puts (inl p) = ap (λ (act : Act). is_flush_failed_at_end (at_end act)) p.1
    by w puts (inr p) =
        let same : kept n last ≡ kept n left = kept_then 0 None n left last (next_token left) w.put w.last_is puts n ∙ ap (λ (act : Act). kept_by n act (kept n left)) p.2 in
        let there : kept n left ≡ Some (version n left) = sym same ∙ own ∙ ap (λ (k : ℕ). Some k) (flush_version 0 None n left last (next_token left) w.put w.last_is puts n) in
        absurd (never_behind (version n left) (kept n left) there is)

abbrev pub AddsQuiet : List Entry → List Entry → Type 0
AddsQuiet left last = (added : List Entry) × (last ≡ left ++ added) × All IsQuiet added

pub quiet_below : (n : ℕ) (left last : List Entry) → ((d : ℕ) → d < n → kept d last ≡ Some (version d last)) → InOrder FlushesAtEnd n left last → AddsQuiet left last
quiet_below zero left last all e = ([], e ∙ sym (append-nil left), All-nil IsQuiet)
quiet_below (suc n) left last all x =
    let now = quiet_flush (needs_flush n x.0) n x.0 last refl (all n (omega arith)) x.2 in
    let was = quiet_below n left x.0 (λ d lt. sym (now.others d (λ same. omega (arith, lt, same))) ∙ all d (omega (arith, lt)) ∙ ap (λ (k : ℕ). Some k) (now.same_versions d)) x.1 in
    (was.0 ++ now.added, now.last_is ∙ ap (λ (j : List Entry). j ++ now.added) was.1 ∙ append_assoc left was.0 now.added, All-append IsQuiet was.0 now.added was.2 now.quiet)

pub flush_makes_none : (n : ℕ) (left last : List Entry) → InOrder FlushesAtEnd n left last → makings last ≡ makings left
flush_makes_none zero left last e = ap makings e
flush_makes_none (suc n) left last x = one (needs_flush n x.0) x.2 ∙ flush_makes_none n left x.0 x.1
  where
    one : (needed : Bool) → FlushesIf needed n x.0 last → makings last ≡ makings x.0
    one false e = ap makings e
    one true f =
        let w = whole_flush 0 None n (λ look. []) x.0 last f in
        flush_makings 0 None n x.0 last (next_token x.0) w.put w.last_is (putting n (next_token x.0) w.put w.is_put)
