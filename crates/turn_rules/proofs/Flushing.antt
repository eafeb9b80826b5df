-- What a flush of which nothing is missing leaves: the documents that were made, their versions, and what is kept of the others.
use Rattle.std.proofs.Common.{◌≡◌, ◌≢◌, ℕ, ◌+◌, List, [], ◌∷◌, ◌++◌, length, refl, sym, ap, ap₂, ◌∙◌, subst, inl, inr, eq-eqb, ne_eqb, append-nil, append_assoc}
use Rattle.std.specs.Prelude.{Option, Some, map, slice_get, if◌then◌else◌}
use Rattle.journal_entries.specs.declared.act.Act.{Act}
use Rattle.journal_entries.specs.declared.act.Act.TheVariants.{Flushed, Released}
use Rattle.journal_entries.specs.declared.act.Entry.{Entry}
use Rattle.journal_rules.specs.Documents.{Item, Making, applied_list, base_in, items_by, making_of, makings, version}
use Rattle.journal_rules.specs.Keeping.{kept, kept_by}
use Rattle.journal_rules.specs.Legal.{IsAllowed, IsLegal}
use Rattle.journal_rules.proofs.Legality.{allowed_next}
use Rattle.journal_rules.proofs.Pushing.{applied_list-push, kept-push, makings-push, makings_still}
use Rattle.turn_rules.specs.Flushing.{IsPut}
use Rattle.turn_rules.specs.Locking.{acquired}
use Rattle.turn_rules.specs.Turns.{entry_by}

pub version_still : (d : ℕ) (h : List Entry) (e : Entry) → making_of e.act ≡ [] → items_by d h e.act ≡ [] → version d (h ++ e ∷ []) ≡ version d h
version_still d h e makes items =
    ap₂ (λ (m : List Making) (l : List Item). base_in (slice_get m d) + length l) (makings-push h e ∙ ap (λ m. makings h ++ m) makes ∙ append-nil (makings h))
    (applied_list-push d h e ∙ ap (λ l. applied_list d h ++ l) items ∙ append-nil (applied_list d h))

-- what was put makes and applies nothing
pub record IsPutting (put : Act) : Type 0 where
  pub makes_not : making_of put ≡ []
  pub items_not : (d : ℕ) (h : List Entry) → items_by d h put ≡ []

pub putting : (doc token : ℕ) (put : Act) → IsPut doc token put → IsPutting put
putting doc token put (inl x) = subst IsPutting (sym x.1) (record { makes_not = refl; items_not = λ d h. refl })
putting doc token put (inr x) = subst IsPutting (sym x.2) (record { makes_not = refl; items_not = λ d h. refl })

module _ (seat : ℕ) (line : Option ℕ) (doc : ℕ) (left last : List Entry) (token : ℕ) (put : Act) (is : last ≡ left ++ map (entry_by seat line) (acquired doc left ∷ put ∷ Released doc token ∷ [])) (puts : IsPutting put) where
  abbrev a : Entry
  a = entry_by seat line (acquired doc left)

  abbrev f : Entry
  f = entry_by seat line put

  abbrev r : Entry
  r = entry_by seat line (Released doc token)

  abbrev j1 : List Entry
  j1 = left ++ a ∷ []

  abbrev j2 : List Entry
  j2 = j1 ++ f ∷ []

  step_by_step : last ≡ j2 ++ r ∷ []
  step_by_step = is ∙ sym (append_assoc left (a ∷ f ∷ []) (r ∷ [])) ∙ ap (λ (j : List Entry). j ++ r ∷ []) (sym (append_assoc left (a ∷ []) (f ∷ [])))

  pub flush_makings : makings last ≡ makings left
  flush_makings = ap makings step_by_step ∙ makings_still j2 r refl ∙ makings_still j1 f puts.makes_not ∙ makings_still left a refl

  pub flush_version : (d : ℕ) → version d last ≡ version d left
  flush_version d = ap (version d) step_by_step ∙ version_still d j2 r refl refl ∙ version_still d j1 f puts.makes_not (puts.items_not d j1) ∙ version_still d left a refl refl

  pub kept_then : (d : ℕ) → kept d last ≡ kept_by d put (kept d left)
  kept_then d = ap (kept d) step_by_step ∙ kept-push d j2 r ∙ kept-push d j1 f ∙ ap (λ k. kept_by d put k) (kept-push d left a)

  pub flush_other : (d : ℕ) → doc ≢ d → IsPut doc token put → kept d last ≡ kept d left
  flush_other d other (inl x) = kept_then d ∙ ap (λ (act : Act). kept_by d act (kept d left)) x.1 ∙ ap (λ b. if b then Some x.0 else kept d left) (ne_eqb doc d other)
  flush_other d other (inr x) = kept_then d ∙ ap (λ (act : Act). kept_by d act (kept d left)) x.2

  pub flush_keeps : IsLegal last → (v : ℕ) → put ≡ Flushed doc token v → kept doc last ≡ Some (version doc last)
  flush_keeps legal v put_is =
      let row = subst (λ (act : Act). IsAllowed j1 seat act) put_is (allowed_next j1 f (r ∷ []) (subst IsLegal (step_by_step ∙ append_assoc j1 (f ∷ []) (r ∷ [])) legal)) in
      let at : v ≡ version doc last = row.v_is ∙ version_still doc left a refl refl ∙ sym (flush_version doc) in
      kept_then doc ∙ ap (λ (act : Act). kept_by doc act (kept doc left)) put_is ∙ ap (λ b. if b then Some v else kept doc left) (eq-eqb doc doc refl) ∙ ap (λ (n : ℕ). Some n) at
