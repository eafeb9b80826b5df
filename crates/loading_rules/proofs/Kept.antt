-- A document that isn't cached was flushed at its version.
use Rattle.std.proofs.Common.{◌≡◌, ◌≢◌, ◌⊎◌, ℕ, ◌+◌, ◌<◌, ◌≤◌, List, [], ◌∷◌, ◌++◌, length, Bool, true, false, true≢false, refl, sym, ap, ◌∙◌, subst, inl, inr, arith, eqb, length-append}
use Rattle.std.specs.Prelude.{Option, Some, None, if◌then◌else◌}
use Rattle.std.proofs.lemmas.Bool.{cases_lt, eqb-true}
use Rattle.std.proofs.lemmas.Bool.Decides.{eqb_tells}
use Rattle.journal_entries.specs.declared.update.Update.{Update}
use Rattle.journal_entries.specs.declared.update.Outcome.{Outcome}
use Rattle.journal_entries.specs.declared.update.Outcome.TheVariants.{Applied, Dup, Refused}
use Rattle.journal_entries.specs.declared.update.Cause.{Cause}
use Rattle.journal_entries.specs.declared.act.Act.{Act}
use Rattle.journal_entries.specs.declared.act.Act.TheVariants.{Made, Loaded, Unloaded, Committed, Flushed}
use Rattle.journal_entries.specs.declared.act.Entry.{Entry}
use Rattle.journal_rules.specs.Documents.{IsMade, makings, making_of, item_of, items_by, version, update_at}
use Rattle.journal_rules.specs.Keeping.{kept_by, kept, cached_by, cached}
use Rattle.journal_rules.proofs.Pushing.{makings-push, makings-none, kept-push, kept-none, cached-push}
use Rattle.journal_rules.proofs.Growing.{version-push}
use Rattle.loading_rules.specs.LegalBut.{IsLegalBut, IsAllowedBut, IsOutcomeBut}
use Rattle.journal_rules.proofs.Lists.{some_same}
use Rattle.loading_rules.proofs.Legality.{Keeps, by_last}
use Rattle.loading_rules.proofs.Posted.{version_grows}

-- what is committed for a document that isn't cached is refused
refused_items : (ticket : ℕ) (outcome : Outcome) (o : Option Update) (cause : Cause) → outcome ≡ Refused cause → item_of ticket o outcome ≡ []
refused_items ticket (Refused c) (Some u) cause is = refl
refused_items ticket (Refused c) None cause is = refl
refused_items ticket (Applied v op) o cause is = absurd (cc)
refused_items ticket (Dup v) o cause is = absurd (cc)

uncached_items : (d token ticket : ℕ) (h : List Entry) (outcome : Outcome) (o : Option Update) → cached d h ≡ false → IsOutcomeBut h d token ticket outcome → item_of ticket o outcome ≡ []
uncached_items d token ticket h outcome o gone (inl is) = absurd (true≢false (sym is.cached_is ∙ gone))
uncached_items d token ticket h outcome o gone (inr (inl is)) = refused_items ticket outcome o _ is
uncached_items d token ticket h outcome o gone (inr (inr is)) = refused_items ticket outcome o _ is.outcome_is

-- a document stands so before an entry: it was made, its kept version is its version, and the entry applies nothing to it
record IsUpToDate (d : ℕ) (h : List Entry) (a : Act) : Type 0 where
  made : IsMade d h
  kept_is : kept_by d a (kept d h) ≡ Some (version d h)
  none : items_by d h a ≡ []

module _ (d : ℕ) (h : List Entry) (was : IsMade d h → cached d h ≡ false → kept d h ≡ Some (version d h)) where
  made_already : d < length (makings h ++ []) → IsMade d h
  made_already lt = let l = length-append (makings h) [] in omega (arith, lt, l)

  by_act : (seat : ℕ) (a : Act) → IsAllowedBut h seat a → d < length (makings h ++ making_of a) → cached_by d a (cached d h) ≡ false → IsUpToDate d h a
  by_act seat (Made doc name project first base) may lt gone = go (eqb_tells doc d)
    where
      go : ((eqb doc d ≡ true) × (doc ≡ d)) ⊎ ((eqb doc d ≡ false) × (doc ≢ d)) → IsUpToDate d h (Made doc name project first base)
      go (inl t) = absurd (true≢false (sym (ap (λ b. if b then true else cached d h) t.0) ∙ gone))
      go (inr t) =
          let next = may.next in
          let l = length-append (makings h) (making_of (Made doc name project first base)) in
          let apart = t.1 in
          let made : IsMade d h = below d (length (makings h)) (omega (arith, lt, l)) (λ is. apart (next ∙ sym is)) in
          record { made = made; kept_is = was made (sym (ap (λ b. if b then true else cached d h) t.0) ∙ gone); none = refl }
        where
          below : (m n : ℕ) → m < n + 1 → (m ≡ n → ⊥) → m < n
          below m n lt apart = by (cases_lt m n)
            where
              by : (m < n) ⊎ (n ≤ m) → m < n
              by (inl l) = l
              by (inr g) = absurd (apart (omega (arith, g, lt)))
  by_act seat (Loaded doc token v) may lt gone = go (eqb doc d) refl gone
    where
      go : (b : Bool) → eqb doc d ≡ b → (if b then true else cached d h) ≡ false → IsUpToDate d h (Loaded doc token v)
      go true same gone = absurd (true≢false gone)
      go false apart gone = record { made = made_already lt; kept_is = was (made_already lt) gone; none = refl }
  by_act seat (Unloaded doc token) may lt gone = go (eqb doc d) refl gone
    where
      go : (b : Bool) → eqb doc d ≡ b → (if b then false else cached d h) ≡ false → IsUpToDate d h (Unloaded doc token)
      go true same gone = record { made = made_already lt; kept_is = subst (λ n. kept n h ≡ Some (version n h)) (eqb-true doc d same) may.kept_is; none = refl }
      go false apart gone = record { made = made_already lt; kept_is = was (made_already lt) gone; none = refl }
  by_act seat (Flushed doc token v) may lt gone = record { made = made_already lt; kept_is = go (eqb doc d) refl; none = refl }
    where
      go : (b : Bool) → eqb doc d ≡ b → (if b then Some v else kept d h) ≡ Some (version d h)
      go true same = absurd (true≢false (sym may.cached_is ∙ ap (λ n. cached n h) (eqb-true doc d same) ∙ gone))
      go false apart = was (made_already lt) gone
  by_act seat (Committed doc token ticket outcome) may lt gone = record { made = made_already lt; kept_is = was (made_already lt) gone; none = go (eqb doc d) refl }
    where
      go : (b : Bool) → eqb doc d ≡ b → (if b then item_of ticket (update_at h ticket) outcome else []) ≡ []
      go true same = uncached_items doc token ticket h outcome (update_at h ticket) (ap (λ n. cached n h) (eqb-true doc d same) ∙ gone) may.ends
      go false apart = refl
  by_act seat _ may lt gone = record { made = made_already lt; kept_is = was (made_already lt) gone; none = refl }

-- while a document isn't cached nothing is applied to it, so it stays up to date
pub uncached_kept : (d : ℕ) (j : List Entry) → IsLegalBut j → IsMade d j → cached d j ≡ false → kept d j ≡ Some (version d j)
uncached_kept d = by_last (λ j. IsMade d j → cached d j ≡ false → kept d j ≡ Some (version d j)) none more
  where
    none : IsMade d [] → cached d [] ≡ false → kept d [] ≡ Some (version d [])
    none made gone = let l = ap length makings-none in absurd (omega (arith, made, l))

    more : Keeps (λ j. IsMade d j → cached d j ≡ false → kept d j ≡ Some (version d j))
    more h e legal may was made gone =
        let up = by_act d h was e.seat e.act may (subst (λ l. d < length l) (makings-push h e) made) (sym (cached-push d h e) ∙ gone) in
        let n = version-push d h e up.made in
        let l = ap length up.none in
        let same : version d (h ++ e ∷ []) ≡ version d h = omega (arith, n, l) in
        kept-push d h e ∙ up.kept_is ∙ ap (λ v. Some v) (sym same)

-- what was flushed last is no higher than the version
pub kept_low : (d : ℕ) (j : List Entry) → IsLegalBut j → (v : ℕ) → kept d j ≡ Some v → v ≤ version d j
kept_low d = by_last (λ j. (v : ℕ) → kept d j ≡ Some v → v ≤ version d j) none more
  where
    none : (v : ℕ) → kept d [] ≡ Some v → v ≤ version d []
    none v is = let f : None ≡ Some v = sym (kept-none d) ∙ is in absurd (cc)

    one : (h : List Entry) (seat : ℕ) (a : Act) → IsAllowedBut h seat a → ((v : ℕ) → kept d h ≡ Some v → v ≤ version d h) → (v : ℕ) → kept_by d a (kept d h) ≡ Some v → v ≤ version d h
    one h seat (Flushed doc token n) may was v is = go (eqb doc d) refl is
      where
        go : (b : Bool) → eqb doc d ≡ b → (if b then Some n else kept d h) ≡ Some v → v ≤ version d h
        go true same is =
            let v_is : n ≡ v = some_same n v is in
            let at = may.v_is ∙ ap (λ k. version k h) (eqb-true doc d same) in
            omega (arith, v_is, at)
        go false apart is = was v is
    one h seat _ may was v is = was v is

    more : Keeps (λ j. (v : ℕ) → kept d j ≡ Some v → v ≤ version d j)
    more h e legal may was v is =
        let low = one h e.seat e.act may was v (sym (kept-push d h e) ∙ is) in
        let grows = version_grows d h e legal in
        omega (arith, low, grows)
