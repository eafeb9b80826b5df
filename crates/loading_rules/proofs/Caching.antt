-- Under a token that stands a document stays cached, unless it is unloaded under this token.
use Rattle.std.proofs.Common.{◌≡◌, ℕ, suc, List, [], ◌∷◌, ◌++◌, Bool, true, false, true≢false, ◌||◌, refl, sym, ap, ◌∙◌, subst, arith, eqb, eq-eqb, append-nil, append_assoc, All}
use Rattle.std.specs.Prelude.{Some, if◌then◌else◌}
use Rattle.std.specs.Option.{unwrap_or}
use Rattle.std.proofs.lemmas.Bool.{eqb-true}
use Rattle.journal_entries.specs.declared.act.Act.{Act}
use Rattle.journal_entries.specs.declared.act.Act.TheVariants.{Made, Loaded, Unloaded}
use Rattle.journal_entries.specs.declared.act.Entry.{Entry}
use Rattle.journal_rules.specs.Documents.{is_in}
use Rattle.journal_rules.specs.Keeping.{cached_by, cached}
use Rattle.journal_rules.specs.Locks.{Acquiring, last_acquiring}
use Rattle.journal_rules.proofs.Pushing.{cached-push}
use Rattle.loading_rules.specs.Caching.{unloaded_by}
use Rattle.loading_rules.specs.LegalBut.{IsAllowedBut, IsLegalBut}
use Rattle.loading_rules.proofs.Legality.{allowed_next}
use Rattle.loading_rules.proofs.Fencing.{last_kept}

module _ (d : ℕ) (a : Acquiring) where
  still : (h : List Entry) (seat : ℕ) (x : Act) → IsAllowedBut h seat x → last_acquiring d h ≡ Some a → is_in a.token (unloaded_by x) ≡ false → cached_by d x true ≡ true
  still h seat (Made doc name project first base) may holds none = either (eqb doc d)
    where
      either : (b : Bool) → (if b then true else true) ≡ true
      either true = refl
      either false = refl
  still h seat (Loaded doc token v) may holds none = either (eqb doc d)
    where
      either : (b : Bool) → (if b then true else true) ≡ true
      either true = refl
      either false = refl
  still h seat (Unloaded doc token) may holds none = by (eqb doc d) refl
    where
      by : (b : Bool) → eqb doc d ≡ b → (if b then false else true) ≡ true
      by false apart = refl
      by true same =
          let mine : Some may.holds.acquiring ≡ Some a = sym may.holds.held.last ∙ ap (λ k. last_acquiring k h) (eqb-true doc d same) ∙ holds in
          let it : may.holds.acquiring ≡ a = ap (λ o. unwrap_or o a) mine in
          let t : token ≡ a.token = sym may.holds.token_is ∙ ap (λ (x : Acquiring). x.token) it in
          absurd (true≢false (sym (ap (λ b. b || false) (eq-eqb token a.token t)) ∙ none))
  still h seat _ may holds none = refl

  pub stays_cached : (more h : List Entry) → IsLegalBut (h ++ more) → last_acquiring d h ≡ Some a → last_acquiring d (h ++ more) ≡ Some a → All (λ (e : Entry). is_in a.token (unloaded_by e.act) ≡ false) more → cached d h ≡ true → cached d (h ++ more) ≡ true
  stays_cached [] h legal holds ends none was = ap (cached d) (append-nil h) ∙ was
  stays_cached (e ∷ es) h legal holds ends none was =
      let again : (h ++ e ∷ []) ++ es ≡ h ++ e ∷ es = append_assoc h (e ∷ []) es in
      let here : cached d (h ++ e ∷ []) ≡ true = cached-push d h e ∙ ap (cached_by d e.act) was ∙ still h e.seat e.act (allowed_next h e es legal) holds (none 0 e (omega arith)) in
      ap (cached d) (sym again)
      ∙ stays_cached es (h ++ e ∷ []) (subst IsLegalBut (sym again) legal) (last_kept d a h e es legal holds ends) (ap (last_acquiring d) again ∙ ends) (λ k x l. none (suc k) x (omega arith)) here
