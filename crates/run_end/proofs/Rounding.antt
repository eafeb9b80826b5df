-- The rounds at the end of a run.
use Rattle.std.proofs.Common.{◌≡◌, ◌≢◌, ◌⊎◌, ℕ, zero, suc, ◌+◌, ◌-◌, ◌<◌, ◌≤◌, List, [], ◌∷◌, length, Bool, true, false, true≢false, ◌||◌, refl, sym, ap, ap₂, ◌∙◌, subst, inl, inr, arith}
use Rattle.std.specs.Prelude.{None}
use Rattle.std.proofs.lemmas.Bool.{or_right}
use Rattle.journal_entries.specs.declared.act.Act.{Act}
use Rattle.journal_entries.specs.declared.act.Act.TheVariants.{Acquired}
use Rattle.journal_entries.specs.declared.act.Entry.{Entry}
use Rattle.journal_rules.specs.Documents.{waiting}
use Rattle.journal_rules.specs.Legal.{IsLegal}
use Rattle.ending_rules.specs.Rounds.{any_below, has_any, needs_round}
use Rattle.turn_rules.specs.Turns.{entry_by}
use Rattle.run_rules.specs.Ending.{DrainsDry, InOrder, IsRound, Rounds}
use Rattle.dispatcher.specs.Draining.{Drained}
use Rattle.dispatcher.specs.declared.dispatch.DrainEnd.TheVariants.{Done}
use Rattle.dispatcher.proofs.Draining.{drains_done}
use Rattle.run_rules.specs.Counting.{is_taking}
use Rattle.run_rules.proofs.Free.{still_not_busy}
use Rattle.turn_rules.specs.Locking.{busy}
use Rattle.script_driver.specs.Clients.{GoesQuietly, is_quiet}
use Rattle.run_end.proofs.Draining.{fewer}
use Rattle.script_driver.proofs.Quiet.{stays}

-- ---- rounds
pub ends_rounds : (sessions most : ℕ) (j : List Entry) → needs_round sessions j ≡ false → Rounds sessions most j j
ends_rounds sessions zero j none = refl
ends_rounds sessions (suc most) j none = inl (none, refl)

pub one_round : (sessions n : ℕ) (j mid last : List Entry) → 0 < n → needs_round sessions j ≡ true → IsRound sessions j mid → Rounds sessions (n - 1) mid last → Rounds sessions n j last
one_round sessions zero j mid last some need round rest = absurd (omega (arith, some))
one_round sessions (suc n) j mid last some need round rest =
    let same : suc n - 1 ≡ n = omega arith in inr (need, (mid, round, subst (λ (k : ℕ). Rounds sessions k mid last) same rest))

pub no_rounds : (sessions n : ℕ) (j : List Entry) → n ≤ 0 → Rounds sessions n j j
no_rounds sessions zero j le = refl
no_rounds sessions (suc n) j le = absurd (omega (arith, le))

-- ---- what waits, document by document
pub none_more : (p : ℕ → Bool) (n : ℕ) → any_below p n ≡ false → p n ≡ false → any_below p (n + 1) ≡ false
none_more p n below at = let same : suc n ≡ n + 1 = omega arith in subst (λ (k : ℕ). any_below p k ≡ false) same (ap₂ (λ (a b : Bool). a || b) below at)

pub some_at : (p : ℕ → Bool) (k n : ℕ) → k < n → p k ≡ true → any_below p n ≡ true
some_at p k zero lt is = absurd (omega (arith, lt))
some_at p k (suc n) lt is = by (λ low. some_at p k n low is) (cases k n lt)
  where
    cases : (k n : ℕ) → k < suc n → (k ≡ n) ⊎ (k < n)
    cases k n lt = grind arith

    by : (k < n → any_below p n ≡ true) → (k ≡ n) ⊎ (k < n) → (any_below p n || p n) ≡ true
    by below (inl same) = ap (λ b. any_below p n || b) (ap p (sym same) ∙ is) ∙ or_right (any_below p n) true refl
    by below (inr low) = ap (λ b. b || p n) (below low)

pub has_some : {A : Type 0} (xs : List A) → 0 < length xs → has_any xs ≡ true
has_some [] some = absurd (omega (arith, some))
has_some (x ∷ xs) some = refl

pub has_none : {A : Type 0} (xs : List A) → length xs ≤ 0 → has_any xs ≡ false
has_none [] none = refl
has_none (x ∷ xs) none = absurd (omega (arith, none))

-- ---- one more in order
pub in_order_on : (Step : ℕ → List Entry → List Entry → Type 0) (n : ℕ) (left mid last : List Entry) → InOrder Step n left mid → Step n mid last → InOrder Step (n + 1) left last
in_order_on Step n left mid last before step = let same : suc n ≡ n + 1 = omega arith in subst (λ (k : ℕ). InOrder Step k left last) same (mid, before, step)

-- ---- a document that was drained as often as updates waited
is_empty : {A : Type 0} (xs : List A) → length xs ≡ 0 → xs ≡ []
is_empty [] e = refl
is_empty (x ∷ xs) e = absurd (omega (arith, e))

pub dry : (doc most count : ℕ) (left last : List Entry) → IsLegal last → most ≡ length (waiting doc left) → Drained (entry_by 0 None) doc most left last (Done count) → DrainsDry doc left last
dry doc most count left last legal most_is d = (most, drains_done (entry_by 0 None) doc most count left last d, none d)
  where
    none : Drained (entry_by 0 None) doc most left last (Done count) → waiting doc last ≡ []
    none (many, inl all) = let f = fewer None doc count left last legal many in is_empty (waiting doc last) (omega (arith, f, all, most_is))
    none (many, inr x) = x.1

-- ---- entries of a client take no lock
takes_none : (a : Act) → is_quiet a ≡ true → is_taking a ≡ false
takes_none (Acquired doc token until) is = absurd (true≢false (sym is))
takes_none _ is = refl

pub quiet_free : (session : ℕ) (left last : List Entry) → GoesQuietly session left last → (d : ℕ) → busy d left ≡ None → busy d last ≡ None
quiet_free session left last g d free = stays session (λ j. busy d j ≡ None) (λ j e is was. still_not_busy d j e (takes_none e.act is.quiet) was) left last g free
