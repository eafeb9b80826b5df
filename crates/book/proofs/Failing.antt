-- Where a journal tells of a failure, the keeper's count rose.
use Rattle.std.proofs.Common.{◌≡◌, ◌⊎◌, inl, inr, ℕ, suc, ◌+◌, ◌-◌, ◌^◌, ◌≤◌, ◌<◌, ◌||◌, List, [], ◌∷◌, ◌++◌, Bool, true, false, true≢false, refl, sym, ap, ◌∙◌, subst, arith, All}
use Rattle.std.specs.Prelude.{Option, min}
use Rattle.std.proofs.lemmas.List.Folds.{list_any-append}
use Rattle.board.specs.declared.view.Start.{Start}
use Rattle.board.proofs.Entries.{All-front}
use Rattle.ranges_tracker.specs.Kept.{Kept}
use Rattle.source_sink.specs.Causes.{Rose}
use Rattle.journal_entries.specs.declared.act.Act.{Act}
use Rattle.journal_entries.specs.declared.act.Act.TheVariants.{LoadFailed, FlushFailed}
use Rattle.journal_entries.specs.declared.act.Entry.{Entry}
use Rattle.journal_rules.specs.Keeping.{fault_of, faults}
use Rattle.journal_rules.specs.Legal.{FaultsRose, IsAllowed, IsLegal}
use Rattle.journal_rules.proofs.Legality.{Keeps, by_last}
use Rattle.journal_rules.proofs.Pushing.{faults-push}
use Rattle.book.specs.Failing.{has_failure, is_failure}
use Rattle.book.specs.Stored.{BeganBy, IsKeeping}

all_last : {X : Type 0} (P : X → Type 0) (h : List X) (e : X) → All P (h ++ e ∷ []) → P e
all_last P [] e all = all 0 e (omega arith)
all_last P (x ∷ h) e all = all_last P h e (λ k d lt. all (suc k) d (omega arith))

rises : (start count from to : ℕ) → (from < to) ⊎ ((from ≡ 2 ^ 64 - 1) × (to ≡ 2 ^ 64 - 1)) → start ≤ from → to ≤ count → Rose start count
rises start count from to (inl up) low high = let enough : start + 1 ≤ count = omega (arith, up, low, high) in least (start + 1) (2 ^ 64 - 1) count enough
  where
    least : (a b c : ℕ) → a ≤ c → min a b ≤ c
    least a b c le = grind arith
rises start count from to (inr end) low high = let top = end.1 in let enough : 2 ^ 64 - 1 ≤ count = omega (arith, top, high) in least (start + 1) (2 ^ 64 - 1) count enough
  where
    least : (a b c : ℕ) → b ≤ c → min a b ≤ c
    least a b c le = grind arith

module _ (start count : ℕ) where
  abbrev Causes : List Entry → Type 0
  Causes j = All (λ (e : Entry). BeganBy start e.act) j → All (λ end. end ≤ count) (faults j) → has_failure j ≡ true → Rose start count

  causes : (j : List Entry) → IsLegal j → Causes j
  causes = by_last Causes none more
    where
      none : Causes []
      none began ended some = absurd (true≢false (sym some))

      more : Keeps Causes
      more h e legal may was began ended some =
          by (is_failure e.act) refl (sym (list_any-append (λ (x : Entry). is_failure x.act) h (e ∷ [])) ∙ some)
        where
          ended_both : All (λ end. end ≤ count) (faults h ++ fault_of e.act)
          ended_both = subst (λ l. All (λ end. end ≤ count) l) (faults-push h e) ended

          one : (act : Act) → e.act ≡ act → is_failure act ≡ true → Rose start count
          one (LoadFailed doc token from to) is failed =
              let row = subst (IsAllowed h e.seat) is may in
              rises start count from to row.fails.rose (subst (BeganBy start) is (all_last (λ (x : Entry). BeganBy start x.act) h e began)) (all_last (λ end. end ≤ count) (faults h) to (subst (λ a. All (λ end. end ≤ count) (faults h ++ fault_of a)) is ended_both))
          one (FlushFailed doc token from to) is failed =
              let row = subst (IsAllowed h e.seat) is may in
              rises start count from to row.fails.rose (subst (BeganBy start) is (all_last (λ (x : Entry). BeganBy start x.act) h e began)) (all_last (λ end. end ≤ count) (faults h) to (subst (λ a. All (λ end. end ≤ count) (faults h ++ fault_of a)) is ended_both))
          one _ is failed = absurd (true≢false (sym failed))

          by : (b : Bool) → is_failure e.act ≡ b → (has_failure h || (is_failure e.act || false)) ≡ true → Rose start count
          by true is some = one e.act refl is
          by false is some = was (All-front (λ (x : Entry). BeganBy start x.act) h (e ∷ []) began) (All-front (λ end. end ≤ count) (faults h) (fault_of e.act) ended_both) (before (has_failure h) (ap (λ b. has_failure h || (b || false)) (sym is) ∙ some))
            where
              before : (b : Bool) → (b || (false || false)) ≡ true → b ≡ true
              before true e = refl
              before false e = absurd (true≢false (sym e))

pub failure_rose : {tells : Bool} {docs : List (List ℕ × Kept)} (start : Start) (count : ℕ) (j : List Entry) → IsLegal j → IsKeeping tells docs count start j → has_failure j ≡ true → Rose start.faults count
failure_rose start count j legal keeps some = causes start.faults count j legal keeps.began keeps.ended some
