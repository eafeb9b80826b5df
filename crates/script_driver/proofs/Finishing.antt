-- A preparation is finished: committed and let go, or given up.
use Rattle.std.proofs.Common.{◌≡◌, ◌≢◌, ℕ, ◌<◌, List, [], ◌∷◌, ◌++◌, length, Bool, true, false, true≢false, refl, sym, ap, ◌∙◌, subst, eq-eqb, eqb-true, append_assoc}
use Rattle.std.specs.Prelude.{Option, Some, None, ◌==◌, slice_get, slice_set, option_and_then}
use Rattle.expiring_lock.specs.declared.refusal.Stale.{Stale}
use Rattle.journal_entries.specs.declared.update.Outcome.{Outcome}
use Rattle.journal_entries.specs.declared.act.Act.{Act}
use Rattle.journal_entries.specs.declared.act.Act.TheVariants.{Committed, Released, Declined}
use Rattle.journal_entries.specs.declared.act.Entry.{Entry}
use Rattle.journal_entries.specs.declared.why.Why.TheVariants.{Nothing, Stale as IsStale}
use Rattle.journal_rules.specs.Deciding.{decided}
use Rattle.journal_rules.specs.Keeping.{cached}
use Rattle.journal_rules.specs.Legal.{IsLegal}
use Rattle.journal_rules.specs.Locks.{Holds}
use Rattle.turn_rules.specs.Locking.{staleness}
use Rattle.turn_rules.specs.Turns.{Alone, Turn, entry_by}
use Rattle.run_rules.specs.Keeping.{Preparation}
use Rattle.run_rules.specs.Lines.{Finishes, FinishesUnless}
use Rattle.book.specs.Shown.{Shown, adds}
use Rattle.book.specs.declared.faults.Prepared.{Prepared}
use Rattle.script_driver.specs.declared.driver.Driver.{Driver}
use Rattle.script_driver.specs.Holding.{AreHeld, IsDriver, Stands, kept, kept_in, preparation_of}
use Rattle.script_driver.proofs.Apart.{not_this}
use Rattle.book.proofs.Taken.{still_holds, still_stale}
use Rattle.book.proofs.Fenced.{since_of, token_holds}
use Rattle.script_driver.proofs.Holding.{given_up, of_another, one_more}
use Rattle.script_driver.proofs.Lines.{declined}

module _ (line : Option ℕ) (session : ℕ) {K : Type 0} (driver : Driver K) (p : Prepared) (is : IsDriver driver) (lt : session < length driver.holds.items) (at : slice_get driver.holds.items session ≡ Some (Some p)) where
  abbrev j : List Entry
  j = driver.book.journal

  abbrev by : Act → Entry
  by = entry_by driver.seat line

  pub stands : Stands driver.seat j p
  stands = is.held.stands session p at

  pub keeps : kept_in driver.holds.items session ≡ Some (preparation_of p)
  keeps = ap (option_and_then kept) at

  -- ---- committed
  module _ (mid : Shown) (none : staleness p.look.doc p.look.token j ≡ None) (commits : mid ≡ adds driver.book driver.seat line (Committed p.look.doc p.look.token p.look.ticket (decided j p.look.doc p.look.update) ∷ [])) where
    abbrev outcome : Outcome
    outcome = decided j p.look.doc p.look.update

    abbrev committed : Act
    committed = Committed p.look.doc p.look.token p.look.ticket outcome

    mid_is : mid.journal ≡ j ++ by committed ∷ []
    mid_is = ap (λ (b : Shown). b.journal) commits

    pub may_release : IsLegal j → Holds driver.seat p.look.doc p.look.token mid.journal
    may_release legal = still_holds driver.seat line (Committed p.look.doc p.look.token p.look.ticket outcome) p.look.doc p.look.token j mid.journal mid_is (λ o. refl) refl driver.seat (subst (λ s. Holds s p.look.doc p.look.token j) stands.seat_is (token_holds p.look j legal (since_of p.look j stands.looked) none))

    pub not_stale : (s : Stale) → staleness p.look.doc p.look.token mid.journal ≡ Some s → ⊥
    not_stale s e =
        let clash : None ≡ Some s = sym none ∙ sym (still_stale driver.seat line (Committed p.look.doc p.look.token p.look.ticket outcome) p.look.doc p.look.token j mid.journal mid_is (λ o. refl) refl) ∙ e in cc

    module _ (new : Shown) (releases : new ≡ adds mid driver.seat line (Released p.look.doc p.look.token ∷ [])) where
      abbrev released : Act
      released = Released p.look.doc p.look.token

      new_is : new.journal ≡ (j ++ by committed ∷ []) ++ by released ∷ []
      new_is = ap (λ (b : Shown). b.journal) releases ∙ ap (λ (l : List Entry). l ++ by released ∷ []) mid_is

      pub finishes : cached p.look.doc j ≡ true → Turn Alone (Finishes by session (kept_in driver.holds.items session)) j new.journal
      finishes here = (
        j,
        by committed ∷ by released ∷ [],
        refl,
        subst (λ (o : Option Preparation). Finishes by session o j (by committed ∷ by released ∷ [])) (sym keeps)
            (subst (λ (s : Option Stale). FinishesUnless by session (preparation_of p) s j (by committed ∷ by released ∷ [])) (sym none)
            (p.look.ticket, outcome, record { update = p.look.update; named = stands.named; cached_is = here; outcome_is = refl }, refl)),
        new_is ∙ append_assoc j (by committed ∷ []) (by released ∷ []),
      )

      pub finished : (holds : List (Option Prepared)) → holds ≡ slice_set driver.holds.items session None → AreHeld driver.seat holds new.journal
      finished holds given = subst (λ (hs : List (Option Prepared)). AreHeld driver.seat hs new.journal) (sym given) (record { stands = each; apart = (given_up driver.holds.items j session lt is.held).apart })
        where
          each : (s : ℕ) (q : Prepared) → slice_get (slice_set driver.holds.items session None) s ≡ Some (Some q) → Stands driver.seat new.journal q
          each s q there =
              let o = of_another driver.holds.items session s q lt there in
              let apart = is.held.apart session s p q o.0 at o.1 in
              subst (λ (l : List Entry). Stands driver.seat l q) (sym new_is)
              (one_more (j ++ by committed ∷ []) (by released) q refl (one_more j (by committed) q (not_this p.look.token q.look.token apart) (is.held.stands s q o.1)))

  -- ---- or the lock is another's
  pub stale_finish : (stale : Stale) (last : List Entry) → staleness p.look.doc p.look.token j ≡ Some stale → last ≡ j ++ by (Declined session (IsStale stale)) ∷ [] → Turn Alone (Finishes by session (kept_in driver.holds.items session)) j last
  stale_finish stale last e last_is = (
    j,
    by (Declined session (IsStale stale)) ∷ [],
    refl,
    subst (λ (o : Option Preparation). Finishes by session o j (by (Declined session (IsStale stale)) ∷ [])) (sym keeps)
        (subst (λ (s : Option Stale). FinishesUnless by session (preparation_of p) s j (by (Declined session (IsStale stale)) ∷ [])) (sym e) refl),
    last_is,
  )
