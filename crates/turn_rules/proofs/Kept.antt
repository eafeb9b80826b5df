-- What is kept of documents in a legal journal: at most the version, and all of a document that isn't cached.
use Rattle.std.proofs.Common.{◌≡◌, ◌≢◌, ◌⊎◌, inl, inr, ℕ, ◌+◌, ◌≤◌, ◌<◌, List, [], ◌∷◌, ◌++◌, length, Bool, true, false, true≢false, refl, sym, ap, ap₂, ◌∙◌, subst, arith, eqb, append-nil, length-append}
use Rattle.std.specs.Prelude.{Option, Some, None, slice_get, if◌then◌else◌}
use Rattle.std.proofs.lemmas.Bool.{cases_lt, eqb-true}
use Rattle.std.proofs.lemmas.Bool.Decides.{eqb_tells}
use Rattle.ot_op.specs.declared.comp.Comp.{Comp}
use Rattle.journal_entries.specs.declared.update.Cause.TheVariants.{Memory as WantsMemory, StoreFault}
use Rattle.journal_entries.specs.declared.update.Update.{Update}
use Rattle.journal_entries.specs.declared.update.Outcome.{Outcome}
use Rattle.journal_entries.specs.declared.update.Outcome.TheVariants.{Applied, Dup, Refused as RefusedUpdate}
use Rattle.journal_entries.specs.declared.act.Act.{Act}
use Rattle.journal_entries.specs.declared.act.Act.TheVariants.{Made, Ticked, Joined as JoinedAct, Edited, Sent, Malformed, Got, Left as LeftAct, Acquired, Loaded, LoadFailed, LoadDiffers, Committed, Released, Flushed, FlushFailed, Unloaded, Handed, Declined, Closed}
use Rattle.journal_entries.specs.declared.act.Entry.{Entry}
use Rattle.journal_rules.specs.Documents.{IsMade, Item, Making, applied_list, base, base_in, item_of, items_by, making_of, makings, update_at, version}
use Rattle.journal_rules.specs.Keeping.{cached, cached_by, kept, kept_by}
use Rattle.journal_rules.specs.Legal.{IsAllowed, IsDecision, IsLegal, IsUnloadable}
use Rattle.journal_rules.proofs.Fencing.{making_stays}
use Rattle.journal_rules.proofs.Legality.{Keeps, by_last, front}
use Rattle.journal_rules.proofs.Lists.{some_same}
use Rattle.journal_rules.proofs.Pushing.{applied_list-push, cached-push, kept-push, kept-none, makings-none, makings-push}

-- ---- what is kept is at most the version
base_grows : (ms more : List Making) (d : ℕ) → base_in (slice_get ms d) ≤ base_in (slice_get (ms ++ more) d)
base_grows ms more d = go (slice_get ms d) refl
  where
    go : (o : Option Making) → slice_get ms d ≡ o → base_in o ≤ base_in (slice_get (ms ++ more) d)
    go None e = omega arith
    go (Some m) e = let f : base_in (slice_get (ms ++ more) d) ≡ base_in (Some m) = ap base_in (front ms more d m e) in omega (arith, f)

version_grows : (d : ℕ) (h : List Entry) (e : Entry) → version d h ≤ version d (h ++ e ∷ [])
version_grows d h e =
    let b = base_grows (makings h) (making_of e.act) d in
    let m : base d (h ++ e ∷ []) ≡ base_in (slice_get (makings h ++ making_of e.act) d) = ap (λ (ms : List Making). base_in (slice_get ms d)) (makings-push h e) in
    let l : length (applied_list d (h ++ e ∷ [])) ≡ length (applied_list d h) + length (items_by d h e.act) = ap length (applied_list-push d h e) ∙ length-append (applied_list d h) (items_by d h e.act) in
    omega (arith, b, m, l)

abbrev pub KeepsWithin : ℕ → List Entry → Type 0
KeepsWithin d j = (v : ℕ) → kept d j ≡ Some v → v ≤ version d j

pub kept_within : (d : ℕ) (j : List Entry) → IsLegal j → KeepsWithin d j
kept_within d = by_last (λ j. KeepsWithin d j)
    (λ v is. (let f : None ≡ Some v = sym (kept-none d) ∙ is in absurd (cc)))
    (λ h e legal may p v is. by h e p v e.act refl may (sym (kept-push d h e) ∙ is))
  where
    still : (h : List Entry) (e : Entry) → KeepsWithin d h → (v : ℕ) → kept d h ≡ Some v → v ≤ version d (h ++ e ∷ [])
    still h e p v is = let a = p v is in let b = version_grows d h e in omega (arith, a, b)

    by : (h : List Entry) (e : Entry) → KeepsWithin d h → (v : ℕ) (act : Act) → e.act ≡ act → IsAllowed h e.seat act → kept_by d act (kept d h) ≡ Some v → v ≤ version d (h ++ e ∷ [])
    by h e p v (Flushed doc token w) act_is row is = go (eqb doc d) refl is
      where
        go : (same : Bool) → eqb doc d ≡ same → (if same then Some w else kept d h) ≡ Some v → v ≤ version d (h ++ e ∷ [])
        go true same is =
            let a : w ≡ v = some_same w v is in
            let b : version doc h ≡ version d h = ap (λ (k : ℕ). version k h) (eqb-true doc d same) in
            let c = version_grows d h e in
            let r : w ≡ version doc h = row.v_is in
            omega (arith, a, b, c, r)
        go false same is = still h e p v is
    by h e p v _ act_is row is = still h e p v is

-- ---- a document that isn't cached is kept at its version
abbrev pub KeptOrCached : List Entry → Type 0
KeptOrCached j = (d : ℕ) → IsMade d j → cached d j ≡ false → kept d j ≡ Some (version d j)

version_same : (d : ℕ) (h : List Entry) (e : Entry) → IsMade d h → items_by d h e.act ≡ [] → version d (h ++ e ∷ []) ≡ version d h
version_same d h e made none =
    ap₂ (λ (o : Option Making) (l : List Item). base_in o + length l) (making_stays d h e made) (applied_list-push d h e ∙ ap (λ l. applied_list d h ++ l) none ∙ append-nil (applied_list d h))

-- nothing is applied to a document that isn't cached
none_applied : (d : ℕ) (h : List Entry) (seat doc token ticket : ℕ) (outcome : Outcome) → IsAllowed h seat (Committed doc token ticket outcome) → cached d h ≡ false → items_by d h (Committed doc token ticket outcome) ≡ []
none_applied d h seat doc token ticket outcome may off = by (eqb_tells doc d)
  where
    none_of : (o : Option Update) (out : Outcome) → ((v : ℕ) (op : List Comp) → out ≡ Applied v op → ⊥) → item_of ticket o out ≡ []
    none_of None out never = refl
    none_of (Some u) (Applied v op) never = absurd (never v op refl)
    none_of (Some u) (Dup v) never = refl
    none_of (Some u) (RefusedUpdate cause) never = refl

    by : ((eqb doc d ≡ true) × (doc ≡ d)) ⊎ ((eqb doc d ≡ false) × (doc ≢ d)) → (if eqb doc d then item_of ticket (update_at h ticket) outcome else []) ≡ []
    by (inr t) = ap (λ b. if b then item_of ticket (update_at h ticket) outcome else []) t.0
    by (inl t) = ap (λ b. if b then item_of ticket (update_at h ticket) outcome else []) t.0 ∙ none_of (update_at h ticket) outcome (refused may.ends)
      where
        refused : IsDecision h doc ticket outcome ⊎ (outcome ≡ RefusedUpdate WantsMemory) ⊎ IsUnloadable h doc token outcome → (v : ℕ) (op : List Comp) → outcome ≡ Applied v op → ⊥
        refused (inl x) v op is = let on : false ≡ true = sym off ∙ ap (λ n. cached n h) (sym t.1) ∙ x.cached_is in true≢false (sym on)
        refused (inr (inl x)) v op is = let f : RefusedUpdate WantsMemory ≡ Applied v op = sym x ∙ is in cc
        refused (inr (inr x)) v op is = let f : RefusedUpdate StoreFault ≡ Applied v op = sym x.outcome_is ∙ is in cc

-- one entry more of which a document's keeping knows nothing
module _ (h : List Entry) (e : Entry) (legal : IsLegal h) (was : KeptOrCached h) where
  still_kept : (d : ℕ) → IsMade d h → items_by d h e.act ≡ [] → kept_by d e.act (kept d h) ≡ kept d h → cached d h ≡ false → kept d (h ++ e ∷ []) ≡ Some (version d (h ++ e ∷ []))
  still_kept d made none same off = kept-push d h e ∙ same ∙ was d made off ∙ ap (λ n. Some n) (sym (version_same d h e made none))

  -- an act that neither puts, applies, loads nor unloads
  plain : (d : ℕ) → IsMade d h → items_by d h e.act ≡ [] → kept_by d e.act (kept d h) ≡ kept d h → cached_by d e.act (cached d h) ≡ cached d h → cached d (h ++ e ∷ []) ≡ false → kept d (h ++ e ∷ []) ≡ Some (version d (h ++ e ∷ []))
  plain d made none same caches off = still_kept d made none same (sym caches ∙ sym (cached-push d h e) ∙ off)

-- the same, as an act says it
record Leaves (d : ℕ) (h : List Entry) (act : Act) : Type 0 where
  makes : making_of act ≡ []
  applies : items_by d h act ≡ []
  puts : kept_by d act (kept d h) ≡ kept d h
  caches : cached_by d act (cached d h) ≡ cached d h

made_before : (d : ℕ) (h : List Entry) (e : Entry) → making_of e.act ≡ [] → IsMade d (h ++ e ∷ []) → IsMade d h
made_before d h e none made = let n = ap length (makings-push h e ∙ ap (λ l. makings h ++ l) none ∙ append-nil (makings h)) in omega (arith, n, made)

module _ (h : List Entry) (e : Entry) (legal : IsLegal h) (was : KeptOrCached h) (d : ℕ) (made : IsMade d (h ++ e ∷ [])) (off : cached d (h ++ e ∷ []) ≡ false) where
  abbrev Goal : Type 0
  Goal = kept d (h ++ e ∷ []) ≡ Some (version d (h ++ e ∷ []))

  by_leaves : (act : Act) → e.act ≡ act → Leaves d h act → Goal
  by_leaves act is l =
      plain h e legal was d (made_before d h e (ap making_of is ∙ l.makes) made) (ap (items_by d h) is ∙ l.applies) (ap (λ a. kept_by d a (kept d h)) is ∙ l.puts) (ap (λ a. cached_by d a (cached d h)) is ∙ l.caches) off

  off_by : (act : Act) → e.act ≡ act → cached_by d act (cached d h) ≡ false
  off_by act is = sym (ap (λ a. cached_by d a (cached d h)) is) ∙ sym (cached-push d h e) ∙ off

  apart_of : (doc : ℕ) → (if eqb doc d then true else cached d h) ≡ false → eqb doc d ≡ false
  apart_of doc e = by (eqb doc d) refl e
    where
      by : (b : Bool) → eqb doc d ≡ b → (if b then true else cached d h) ≡ false → eqb doc d ≡ false
      by true is e = absurd (true≢false e)
      by false is e = is

  by_act : (act : Act) → e.act ≡ act → IsAllowed h e.seat act → Goal
  by_act (Made doc called project first base) is may =
      let apart = apart_of doc (off_by (Made doc called project first base) is) in
      let n = ap length (makings-push h e ∙ ap (λ a. makings h ++ making_of a) is) ∙ length-append (makings h) (record { name = called; project = project; first = first; base = base } ∷ []) in
      let next = may.next in
      let here : IsMade d h = below (eqb_tells doc d) apart n next in
      plain h e legal was d here (ap (items_by d h) is) (ap (λ a. kept_by d a (kept d h)) is) (ap (λ a. cached_by d a (cached d h)) is ∙ ap (λ b. if b then true else cached d h) apart) off
    where
      below : ((eqb doc d ≡ true) × (doc ≡ d)) ⊎ ((eqb doc d ≡ false) × (doc ≢ d)) → eqb doc d ≡ false → length (makings (h ++ e ∷ [])) ≡ length (makings h) + 1 → doc ≡ length (makings h) → IsMade d h
      below (inl t) apart n next = absurd (true≢false (sym t.0 ∙ apart))
      below (inr t) apart n next = by_cases (cases_lt d (length (makings h)))
        where
          by_cases : (d < length (makings h)) ⊎ (length (makings h) ≤ d) → IsMade d h
          by_cases (inl lt) = lt
          by_cases (inr ge) = let same : doc ≡ d = omega (arith, next, ge, made, n) in absurd (t.1 same)
  by_act (Loaded doc token v) is may =
      let apart = apart_of doc (off_by (Loaded doc token v) is) in
      by_leaves (Loaded doc token v) is (record { makes = refl; applies = refl; puts = refl; caches = ap (λ b. if b then true else cached d h) apart })
  by_act (Unloaded doc token) is may = by (eqb_tells doc d)
    where
      by : ((eqb doc d ≡ true) × (doc ≡ d)) ⊎ ((eqb doc d ≡ false) × (doc ≢ d)) → Goal
      by (inl t) =
          let here : kept d h ≡ Some (version d h) = subst (λ n. kept n h ≡ Some (version n h)) t.1 may.kept_is in
          let before = made_before d h e (ap making_of is) made in
          kept-push d h e ∙ ap (λ a. kept_by d a (kept d h)) is ∙ here ∙ ap (λ n. Some n) (sym (version_same d h e before (ap (items_by d h) is)))
      by (inr t) = by_leaves (Unloaded doc token) is (record { makes = refl; applies = refl; puts = refl; caches = ap (λ b. if b then false else cached d h) t.0 })
  by_act (Flushed doc token v) is may = by (eqb_tells doc d)
    where
      by : ((eqb doc d ≡ true) × (doc ≡ d)) ⊎ ((eqb doc d ≡ false) × (doc ≢ d)) → Goal
      by (inl t) = let on : cached d h ≡ true = ap (λ n. cached n h) (sym t.1) ∙ may.cached_is in absurd (true≢false (sym on ∙ off_by (Flushed doc token v) is))
      by (inr t) = by_leaves (Flushed doc token v) is (record { makes = refl; applies = refl; puts = ap (λ b. if b then Some v else kept d h) t.0; caches = refl })
  by_act (Committed doc token ticket outcome) is may =
      by_leaves (Committed doc token ticket outcome) is (record { makes = refl; applies = none_applied d h e.seat doc token ticket outcome may (off_by (Committed doc token ticket outcome) is); puts = refl; caches = refl })
  by_act (Ticked ms) is may = by_leaves (Ticked ms) is (record { makes = refl; applies = refl; puts = refl; caches = refl })
  by_act (JoinedAct client doc user track since source v) is may = by_leaves (JoinedAct client doc user track since source v) is (record { makes = refl; applies = refl; puts = refl; caches = refl })
  by_act (Edited client comp) is may = by_leaves (Edited client comp) is (record { makes = refl; applies = refl; puts = refl; caches = refl })
  by_act (Sent u) is may = by_leaves (Sent u) is (record { makes = refl; applies = refl; puts = refl; caches = refl })
  by_act (Malformed doc fault) is may = by_leaves (Malformed doc fault) is (record { makes = refl; applies = refl; puts = refl; caches = refl })
  by_act (Got client brief) is may = by_leaves (Got client brief) is (record { makes = refl; applies = refl; puts = refl; caches = refl })
  by_act (LeftAct client) is may = by_leaves (LeftAct client) is (record { makes = refl; applies = refl; puts = refl; caches = refl })
  by_act (Acquired doc token until) is may = by_leaves (Acquired doc token until) is (record { makes = refl; applies = refl; puts = refl; caches = refl })
  by_act (LoadFailed doc token from to) is may = by_leaves (LoadFailed doc token from to) is (record { makes = refl; applies = refl; puts = refl; caches = refl })
  by_act (LoadDiffers doc token had got) is may = by_leaves (LoadDiffers doc token had got) is (record { makes = refl; applies = refl; puts = refl; caches = refl })
  by_act (Released doc token) is may = by_leaves (Released doc token) is (record { makes = refl; applies = refl; puts = refl; caches = refl })
  by_act (FlushFailed doc token from to) is may = by_leaves (FlushFailed doc token from to) is (record { makes = refl; applies = refl; puts = refl; caches = refl })
  by_act (Handed project count) is may = by_leaves (Handed project count) is (record { makes = refl; applies = refl; puts = refl; caches = refl })
  by_act (Declined session w) is may = by_leaves (Declined session w) is (record { makes = refl; applies = refl; puts = refl; caches = refl })
  by_act (Closed driver) is may = by_leaves (Closed driver) is (record { makes = refl; applies = refl; puts = refl; caches = refl })

pub kept_or_cached : (j : List Entry) → IsLegal j → KeptOrCached j
kept_or_cached = by_last KeptOrCached none more
  where
    none : KeptOrCached []
    none d made off = let n = ap length makings-none in absurd (omega (arith, n, made))

    more : Keeps KeptOrCached
    more h e legal may was d made off = by_act h e legal was d made off e.act refl may
