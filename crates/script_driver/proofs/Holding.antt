-- What sessions keep stands behind entries of other lines, and each is finished under its own token.
use Rattle.std.proofs.Common.{◌≡◌, ◌≢◌, ◌⊎◌, ℕ, zero, suc, ◌<◌, List, [], ◌∷◌, ◌++◌, length, Bool, true, false, true≢false, not, refl, sym, ap, ◌∙◌, subst, inl, inr, arith, eq-eqb, eqb-true, append_assoc, length-append}
use Rattle.std.specs.Prelude.{Option, Some, None, ◌==◌, slice_get, slice_set, option_and_then, if◌then◌else◌}
use Rattle.std.proofs.lemmas.List.Elements.{All-append, All-nil, All-cons}
use Rattle.expiring_lock.specs.declared.refusal.Stale.TheVariants.{Other, Ended}
use Rattle.journal_entries.specs.declared.act.Act.{Act}
use Rattle.journal_entries.specs.declared.act.Act.TheVariants.{Acquired}
use Rattle.journal_entries.specs.declared.act.Entry.{Entry}
use Rattle.journal_rules.specs.Documents.{is_in}
use Rattle.journal_rules.specs.Keeping.{cached_by}
use Rattle.journal_rules.specs.Locks.{Acquiring, Holds, acquired_by, acquirings, acquiring_of, is_held, is_held_in, last_acquiring, last_token, next_token, released, token_in, used_by}
use Rattle.journal_rules.proofs.Pushing.{acquirings-push, cached-push, last_acquiring-push}
use Rattle.journal_rules.proofs.Fencing.{made_stays}
use Rattle.journal_rules.proofs.Waits.{update_stays}
use Rattle.turn_rules.specs.Locking.{staleness}
use Rattle.run_rules.specs.Keeping.{keeping}
use Rattle.book.specs.declared.faults.Prepared.{Prepared}
use Rattle.script_driver.specs.Holding.{AreHeld, Stands, kept, kept_in}
use Rattle.script_driver.specs.Apart.{GoesApart}
use Rattle.script_driver.proofs.Apart.{keeps_cached, stays, unused}

-- ---- one entry more
still_acquired : (d : ℕ) (e : Entry) (o : Option Acquiring) (a : Acquiring) → o ≡ Some a → (b : Acquiring) × (acquired_by d e.seat e.act o ≡ Some b)
still_acquired d e o a is = by e.act
  where
    taken : (t : Bool) (doc token until : ℕ) → (b : Acquiring) × ((if t then Some (record { seat = e.seat; doc = doc; token = token; until = until }) else o) ≡ Some b)
    taken true doc token until = (record { seat = e.seat; doc = doc; token = token; until = until }, refl)
    taken false doc token until = (a, is)

    by : (act : Act) → (b : Acquiring) × (acquired_by d e.seat act o ≡ Some b)
    by (Acquired doc token until) = taken (doc == d) doc token until
    by _ = (a, is)

pub one_more : {seat : ℕ} (j : List Entry) (e : Entry) (p : Prepared) → is_in p.look.token (used_by e.act) ≡ false → Stands seat j p → Stands seat (j ++ e ∷ []) p
one_more j e p fresh was =
    let last = still_acquired p.look.doc e (last_acquiring p.look.doc j) was.last was.last_is in
    let of = was.looked in
    let tokens = ap length (acquirings-push j e) in
    let sum = length-append (acquirings j) (acquiring_of e.seat e.act) in
    let low = was.given in
    record {
      seat_is = was.seat_is;
      made = made_stays p.look.doc j e was.made;
      given = omega (arith, tokens, sum, low);
      last = last.0;
      last_is = last_acquiring-push p.look.doc j e ∙ last.1;
      named = update_stays j (e ∷ []) p.look.ticket p.look.update was.named;
      looked = record {
        early = of.early;
        more = of.more ++ e ∷ [];
        journal_is = ap (λ (l : List Entry). l ++ e ∷ []) of.journal_is ∙ append_assoc of.early of.more (e ∷ []);
        looks = of.looks;
        unused = All-append (λ (x : Entry). is_in p.look.token (used_by x.act) ≡ false) of.more (e ∷ []) of.unused (All-cons (λ (x : Entry). is_in p.look.token (used_by x.act) ≡ false) e [] fresh (All-nil (λ (x : Entry). is_in p.look.token (used_by x.act) ≡ false)));
      };
      decided = was.decided;
    }

-- ---- entries that are apart
pub behind_apart : {seat : ℕ} (holds : List (Option Prepared)) (left last : List Entry) → GoesApart (next_token left) left last → AreHeld seat holds left → AreHeld seat holds last
behind_apart {seat} holds left last g held = record { stands = each; apart = held.apart }
  where
    each : (session : ℕ) (p : Prepared) → slice_get holds session ≡ Some (Some p) → Stands seat last p
    each session p at =
        let was = held.stands session p at in
        let low = was.given in
        stays (next_token left) (λ j. Stands seat j p)
        (λ j e apart. one_more j e p (unused (next_token left) p.look.token e (omega (arith, low)) apart)) left last g was

pub behind_one : {seat : ℕ} (holds : List (Option Prepared)) (j last : List Entry) (e : Entry) → last ≡ j ++ e ∷ [] → ((t : ℕ) → is_in t (used_by e.act) ≡ false) → AreHeld seat holds j → AreHeld seat holds last
behind_one {seat} holds j last e is unused held = record {
  stands = λ session p at. subst (λ (l : List Entry). Stands seat l p) (sym is) (one_more j e p (unused p.look.token) (held.stands session p at));
  apart = held.apart;
}

-- ---- lists of what is kept
module _ {A : Type 0} where
  set_here : (xs : List A) (i : ℕ) (x : A) → i < length xs → slice_get (slice_set xs i x) i ≡ Some x
  set_here [] i x lt = absurd (omega (arith, lt))
  set_here (y ∷ ys) zero x lt = refl
  set_here (y ∷ ys) (suc i) x lt = set_here ys i x (omega (arith, lt))

  set_there : (xs : List A) (i k : ℕ) (x : A) → i ≢ k → slice_get (slice_set xs i x) k ≡ slice_get xs k
  set_there [] i k x apart = refl
  set_there (y ∷ ys) zero zero x apart = absurd (apart refl)
  set_there (y ∷ ys) zero (suc k) x apart = refl
  set_there (y ∷ ys) (suc i) zero x apart = refl
  set_there (y ∷ ys) (suc i) (suc k) x apart = set_there ys i k x (λ same. apart (ap suc same))

pub kept_set : (holds : List (Option Prepared)) (session : ℕ) (o : Option Prepared) → session < length holds → kept_in (slice_set holds session o) ≡ keeping session (kept o) (kept_in holds)
kept_set holds session o lt = λ i s. each s i
  where
    at : (s : ℕ) (b : Bool) → (session == s) ≡ b → kept_in (slice_set holds session o) s ≡ (if b then kept o else kept_in holds s)
    at s true e = ap (λ (k : ℕ). option_and_then kept (slice_get (slice_set holds session o) k)) (sym (eqb-true session s e)) ∙ ap (option_and_then kept) (set_here holds session o lt)
    at s false e = ap (option_and_then kept) (set_there holds session s o (λ same. true≢false (sym (eq-eqb session s same) ∙ e)))

    each : (s : ℕ) → kept_in (slice_set holds session o) s ≡ keeping session (kept o) (kept_in holds) s
    each s = at s (session == s) refl

-- what is left where a session gives up what it kept is another's
pub of_another : (holds : List (Option Prepared)) (session s : ℕ) (p : Prepared) → session < length holds → slice_get (slice_set holds session None) s ≡ Some (Some p) → (session ≢ s) × (slice_get holds s ≡ Some (Some p))
of_another holds session s p lt at = by (session == s) refl
  where
    by : (b : Bool) → (session == s) ≡ b → (session ≢ s) × (slice_get holds s ≡ Some (Some p))
    by true e =
        let none : Some None ≡ Some (Some p) = sym (set_here holds session None lt) ∙ ap (slice_get (slice_set holds session None)) (eqb-true session s e) ∙ at in absurd (cc)
    by false e =
        let apart : session ≢ s = λ same. true≢false (sym (eq-eqb session s same) ∙ e) in (apart, sym (set_there holds session s None apart) ∙ at)

-- what a session gives up
pub given_up : {seat : ℕ} (holds : List (Option Prepared)) (j : List Entry) (session : ℕ) → session < length holds → AreHeld seat holds j → AreHeld seat (slice_set holds session None) j
given_up holds j session lt held = record {
  stands = λ s p at. held.stands s p (of_another holds session s p lt at).1;
  apart = λ one other p q differ at other_at. held.apart one other p q differ (of_another holds session one p lt at).1 (of_another holds session other q lt other_at).1;
}

-- what a session keeps more, under a token that is above those before
pub taken_up : {seat : ℕ} (holds : List (Option Prepared)) (left j : List Entry) (session : ℕ) (p : Prepared) → session < length holds → slice_get holds session ≡ Some None → next_token left ≡ p.look.token → AreHeld seat holds left → GoesApart (next_token left) left j → Stands seat j p
    → AreHeld seat (slice_set holds session (Some p)) j
taken_up {seat} holds left j session p lt none token held g stands_now = record { stands = stands_all; apart = apart_all }
  where
    after : AreHeld seat holds j
    after = behind_apart holds left j g held

    of : (s : ℕ) (q : Prepared) → slice_get (slice_set holds session (Some p)) s ≡ Some (Some q) → ((session ≡ s) × (q ≡ p)) ⊎ (slice_get holds s ≡ Some (Some q))
    of s q at = by (session == s) refl
      where
        by : (b : Bool) → (session == s) ≡ b → ((session ≡ s) × (q ≡ p)) ⊎ (slice_get holds s ≡ Some (Some q))
        by true e =
            let same : Some (Some p) ≡ Some (Some q) = sym (set_here holds session (Some p) lt) ∙ ap (slice_get (slice_set holds session (Some p))) (eqb-true session s e) ∙ at in
            inl (eqb-true session s e, cc)
        by false e = inr (sym (set_there holds session s (Some p) (λ same. true≢false (sym (eq-eqb session s same) ∙ e))) ∙ at)

    stands_all : (s : ℕ) (q : Prepared) → slice_get (slice_set holds session (Some p)) s ≡ Some (Some q) → Stands seat j q
    stands_all s q at = by (of s q at)
      where
        by : ((session ≡ s) × (q ≡ p)) ⊎ (slice_get holds s ≡ Some (Some q)) → Stands seat j q
        by (inl x) = subst (λ (r : Prepared). Stands seat j r) (sym x.1) stands_now
        by (inr was) = after.stands s q was

    low : (s : ℕ) (q : Prepared) → slice_get holds s ≡ Some (Some q) → q.look.token < p.look.token
    low s q at = let given = (held.stands s q at).given in omega (arith, given, token)

    apart_all : (one other : ℕ) (q r : Prepared) → one ≢ other → slice_get (slice_set holds session (Some p)) one ≡ Some (Some q) → slice_get (slice_set holds session (Some p)) other ≡ Some (Some r) → q.look.token ≢ r.look.token
    apart_all one other q r differ at other_at = by (of one q at) (of other r other_at)
      where
        by : ((session ≡ one) × (q ≡ p)) ⊎ (slice_get holds one ≡ Some (Some q)) → ((session ≡ other) × (r ≡ p)) ⊎ (slice_get holds other ≡ Some (Some r)) → q.look.token ≢ r.look.token
        by (inl x) (inl y) = absurd (differ (sym x.0 ∙ y.0))
        by (inl x) (inr y) = λ same. let l = low other r y in let t = ap (λ (s : Prepared). s.look.token) x.1 in omega (arith, l, t, same)
        by (inr x) (inl y) = λ same. let l = low one q x in let t = ap (λ (s : Prepared). s.look.token) y.1 in omega (arith, l, t, same)
        by (inr x) (inr y) = held.apart one other q r differ x y
