-- What was applied to a document: each operation at its version, and passable.
use Rattle.std.proofs.Common.{◌≡◌, ◌⊎◌, inl, inr, ℕ, ◌+◌, ◌-◌, ◌<◌, ◌≤◌, List, [], ◌∷◌, ◌++◌, length, drop, map, Bool, true, false, refl, sym, ap, ap₂, ◌∙◌, subst, arith, eqb, append-nil, length-drop, ◌&&◌, All}
use Rattle.std.specs.Prelude.{Option, Some, None, if◌then◌else◌, nat_le}
use Rattle.std.proofs.lemmas.Bool.{cases_lt, eqb-true}
use Rattle.std.proofs.lemmas.Bool.Decides.{nat_tests}
use Rattle.std.proofs.lemmas.List.{length-map}
use Rattle.std.proofs.lemmas.List.Elements.{All-head, All-tail}
use Rattle.ot_op.specs.declared.comp.Comp.{Comp}
use Rattle.ot_op.specs.Operation.{place}
use Rattle.ot_transform.specs.Size.{Within}
use Rattle.ot_transform.specs.Room.{FitsAll}
use Rattle.journal_entries.specs.declared.update.Update.{Update}
use Rattle.journal_entries.specs.declared.update.Outcome.{Outcome}
use Rattle.journal_entries.specs.declared.update.Outcome.TheVariants.{Applied, Dup, Refused}
use Rattle.journal_entries.specs.declared.update.Cause.{Cause}
use Rattle.journal_entries.specs.declared.act.Act.{Act}
use Rattle.journal_entries.specs.declared.act.Act.TheVariants.{Committed}
use Rattle.journal_entries.specs.declared.act.Entry.{Entry}
use Rattle.journal_rules.specs.Documents.{IsMade, Making, makings, Item, item_of, items_by, applied_list, operations, base, base_in, version, update_at, update_of}
use Rattle.journal_rules.specs.Deciding.{Passed, passed_of, passed_since, greatest_age}
use Rattle.journal_rules.specs.Client.{places_fit, greatest_place}
use Rattle.journal_rules.proofs.Pushing.{applied_list-push, applied_list-none}
use Rattle.journal_rules.proofs.Waits.{SentAt, update_stays, update_within, waits_sent}
use Rattle.journal_rules.proofs.Fencing.{making_stays}
use Rattle.journal_rules.proofs.Lists.{AllIn, AnyIn, Each, each_all, each_map, each-push, all_any_way, all_in_map, any_in_drop, some_same}
use Rattle.journal_rules.proofs.Replaying.{ops}
use Rattle.journal_laws.proofs.Updates.{update_new}
use Rattle.journal_laws.proofs.World.{sent_is}
use Rattle.journal_sizes.specs.Sizes.{IsSized}
use Rattle.journal_sizes.proofs.Rooms.{fits_past}
use Rattle.journal_sizes.proofs.Updates.{raw_sized, all_in_all, all_in_drop}
use Rattle.loading_rules.specs.Passable.{IsPassable, farthest}
use Rattle.loading_rules.specs.LegalBut.{IsLegalBut, IsAllowedBut, IsSendingBut, IsOutcomeBut, IsDecisionBut}
use Rattle.loading_rules.proofs.Legality.{Keeps, by_last}
use Rattle.loading_rules.proofs.Fencing.{acquired_made}
use Rattle.loading_rules.proofs.Unmade.{unmade_applied}
use Rattle.loading_rules.proofs.Deciding.{decided_at, decided_dup}

-- ---- updates
pub update_sized : (t : ℕ) (u : Update) (j : List Entry) → IsLegalBut j → update_at j t ≡ Some u → IsSized u.op
update_sized t u = by_last (λ j. update_at j t ≡ Some u → IsSized u.op) (λ at. let l = update_within [] t u at in absurd (omega (arith, l))) more
  where
    by_client : (h : List Entry) (o : Option ℕ) → IsSendingBut h u o → IsSized u.op
    by_client h None row = raw_sized u.op row.within
    by_client h (Some c) row = row.sized

    more : Keeps (λ j. update_at j t ≡ Some u → IsSized u.op)
    more h e legal may before at = by (update_new h e t u at)
      where
        by : (update_at h t ≡ Some u) ⊎ ((t ≡ length h) × (update_of e.act ≡ Some u)) → IsSized u.op
        by (inl earlier) = before earlier
        by (inr now) = by_client h u.client (subst (IsAllowedBut h e.seat) (sent_is e.act u now.1) may)

-- ---- a decision
-- what a committed outcome says of its document: an operation is applied at the version, and passable; a duplicate is of an item
abbrev pub SaysOf : ℕ → List Entry → Outcome → Type 0
SaysOf d h (Applied v op) = (v ≡ version d h) × IsPassable op
SaysOf d h (Dup v) = AnyIn (λ (x : Item). x.v ≡ v) (applied_list d h)
SaysOf d h (Refused cause) = Unit {0}

any_in_map : {A B : Type 0} (P : B → Type 0) (f : A → B) (xs : List A) → AnyIn P (map f xs) → AnyIn (λ x. P (f x)) xs
any_in_map P f [] any = absurd any
any_in_map P f (x ∷ xs) (inl p) = inl p
any_in_map P f (x ∷ xs) (inr a) = inr (any_in_map P f xs a)

decision_says : (d ticket : ℕ) (h : List Entry) (outcome : Outcome) → IsDecisionBut h d ticket outcome → SaysOf d h outcome
decision_says d ticket h (Applied v op) is = (decided_at (base d h) (version d h) (Some is.text) is.update (passed_since d is.update.v h) v op (sym is.outcome_is), is.passable)
decision_says d ticket h (Dup v) is =
    let any = decided_dup (base d h) (version d h) (Some is.text) is.update (passed_since d is.update.v h) v (sym is.outcome_is) in
    any_in_drop (λ (x : Item). x.v ≡ v) (is.update.v - base d h) (applied_list d h) (any_in_map (λ (x : Passed). x.v ≡ v) passed_of (drop (is.update.v - base d h) (applied_list d h)) any)
decision_says d ticket h (Refused cause) is = tt

refused_says : (d : ℕ) (h : List Entry) (outcome : Outcome) (cause : Cause) → outcome ≡ Refused cause → SaysOf d h outcome
refused_says d h (Applied v op) cause is = absurd (cc)
refused_says d h (Dup v) cause is = absurd (cc)
refused_says d h (Refused c) cause is = tt

pub outcome_says : (d token ticket : ℕ) (h : List Entry) (outcome : Outcome) → IsOutcomeBut h d token ticket outcome → SaysOf d h outcome
outcome_says d token ticket h outcome (inl is) = decision_says d ticket h outcome is
outcome_says d token ticket h outcome (inr (inl is)) = refused_says d h outcome _ is
outcome_says d token ticket h outcome (inr (inr is)) = refused_says d h outcome _ is.outcome_is

-- ---- items
-- an item stands at its version, its update is known and of this document, and its operation is passable
pub record IsItemBut (d : ℕ) (j : List Entry) (before : List Item) (x : Item) : Type 0 where
  pub v_is : x.v ≡ base d j + length before
  pub known : update_at j x.ticket ≡ Some x.update
  pub doc_is : x.update.doc ≡ d
  pub passable : IsPassable x.op

abbrev AreItems : ℕ → List Entry → Type 0
AreItems d j = Each (IsItemBut d j) [] (applied_list d j)

item_on : (d : ℕ) (h : List Entry) (e : Entry) → IsMade d h → (before : List Item) (x : Item) → IsItemBut d h before x → IsItemBut d (h ++ e ∷ []) before x
item_on d h e made before x is = record {
  v_is = is.v_is ∙ ap (λ (o : Option Making). base_in o + length before) (sym (making_stays d h e made));
  known = update_stays h (e ∷ []) x.ticket x.update is.known;
  doc_is = is.doc_is;
  passable = is.passable;
}

module _ (d : ℕ) (h : List Entry) (e : Entry) (legal : IsLegalBut h) (made : IsMade d h) where
  abbrev Is : List Item → Item → Type 0
  Is = IsItemBut d (h ++ e ∷ [])

  none_new : Each Is [] (applied_list d h) → (l : List Item) → l ≡ [] → Each Is [] (applied_list d h ++ l)
  none_new each l none = subst (λ (xs : List Item). Each Is [] (applied_list d h ++ xs)) (sym none) (subst (Each Is []) (sym (append-nil (applied_list d h))) each)

  one_new : Each Is [] (applied_list d h) → (ticket v : ℕ) (op : List Comp) (u : Update) → update_at h ticket ≡ Some u → u.doc ≡ d → v ≡ version d h → IsPassable op
      → Each Is [] (applied_list d h ++ record { op = op; v = v; ticket = ticket; update = u } ∷ [])
  one_new each ticket v op u known own at passable = each-push Is [] (applied_list d h) (record { op = op; v = v; ticket = ticket; update = u }) each (record {
    v_is = at ∙ ap (λ (o : Option Making). base_in o + length (applied_list d h)) (sym (making_stays d h e made));
    known = update_stays h (e ∷ []) ticket u known;
    doc_is = own;
    passable = passable;
  })

  by_outcome : Each Is [] (applied_list d h) → (ticket : ℕ) (outcome : Outcome) (o : Option Update) → update_at h ticket ≡ o → ((u : Update) → o ≡ Some u → u.doc ≡ d) → SaysOf d h outcome → Each Is [] (applied_list d h ++ item_of ticket o outcome)
  by_outcome each ticket (Applied v op) (Some u) known own says = one_new each ticket v op u known (own u refl) says.0 says.1
  by_outcome each ticket (Applied v op) None known own says = none_new each [] refl
  by_outcome each ticket (Dup v) (Some u) known own says = none_new each [] refl
  by_outcome each ticket (Dup v) None known own says = none_new each [] refl
  by_outcome each ticket (Refused cause) (Some u) known own says = none_new each [] refl
  by_outcome each ticket (Refused cause) None known own says = none_new each [] refl

  by_act : Each Is [] (applied_list d h) → (seat : ℕ) (a : Act) → IsAllowedBut h seat a → Each Is [] (applied_list d h ++ items_by d h a)
  by_act each seat (Committed doc token ticket outcome) may = go (eqb doc d) refl
    where
      sent_to : SentAt doc h ticket
      sent_to = waits_sent doc ticket h may.rest may.first

      go : (b : Bool) → eqb doc d ≡ b → Each Is [] (applied_list d h ++ (if b then item_of ticket (update_at h ticket) outcome else []))
      go false apart = none_new each [] refl
      go true same =
          let is : doc ≡ d = eqb-true doc d same in
          by_outcome each ticket outcome (update_at h ticket) refl
          (λ u at. ap (λ (x : Update). x.doc) (some_same u sent_to.0 (sym at ∙ sent_to.1)) ∙ sent_to.2 ∙ is)
          (subst (λ n. SaysOf n h outcome) is (outcome_says doc token ticket h outcome may.ends))
  by_act each seat _ may = none_new each [] refl

-- a document that is made by the entry has none
fresh_none : (d : ℕ) (h : List Entry) (e : Entry) → IsLegalBut h → IsAllowedBut h e.seat e.act → length (makings h) ≤ d → applied_list d (h ++ e ∷ []) ≡ []
fresh_none d h e legal may high =
    applied_list-push d h e ∙ ap₂ (λ (xs ys : List Item). xs ++ ys) (unmade_applied d h legal high) (one e.seat e.act may)
  where
    one : (seat : ℕ) (a : Act) → IsAllowedBut h seat a → items_by d h a ≡ []
    one seat (Committed doc token ticket outcome) may = go (eqb doc d) refl
      where
        go : (b : Bool) → eqb doc d ≡ b → (if b then item_of ticket (update_at h ticket) outcome else []) ≡ []
        go false apart = refl
        go true same =
            let made = acquired_made doc h legal may.holds.acquiring may.holds.held.last in
            let is = eqb-true doc d same in
            absurd (omega (arith, made, is, high))
    one seat _ may = refl

pub items_but : (d : ℕ) (j : List Entry) → IsLegalBut j → IsMade d j → Each (IsItemBut d j) [] (applied_list d j)
items_but d = by_last (λ j. IsMade d j → AreItems d j) (λ made. subst (Each (IsItemBut d []) []) (sym (applied_list-none d)) tt) more
  where
    more : Keeps (λ j. IsMade d j → AreItems d j)
    more h e legal may was made = by (cases_lt d (length (makings h)))
      where
        by : (d < length (makings h)) ⊎ (length (makings h) ≤ d) → AreItems d (h ++ e ∷ [])
        by (inl lt) = subst (Each (IsItemBut d (h ++ e ∷ [])) []) (sym (applied_list-push d h e))
            (by_act d h e legal lt (each_map (IsItemBut d h) (IsItemBut d (h ++ e ∷ [])) [] (applied_list d h) (item_on d h e lt) (was lt)) e.seat e.act may)
        by (inr high) = subst (Each (IsItemBut d (h ++ e ∷ [])) []) (sym (fresh_none d h e legal may high)) tt

-- ---- what follows
abbrev pub IsBetween : ℕ → List Entry → Item → Type 0
IsBetween d j x = (base d j ≤ x.v) × (x.v < version d j)

pub items_between_versions : (d : ℕ) (j : List Entry) → IsLegalBut j → AllIn (IsBetween d j) (applied_list d j)
items_between_versions d j legal = by (cases_lt d (length (makings j)))
  where
    by : (d < length (makings j)) ⊎ (length (makings j) ≤ d) → AllIn (IsBetween d j) (applied_list d j)
    by (inl made) = each_all (IsItemBut d j) (λ x. Unit {0}) (IsBetween d j) [] (applied_list d j) (λ b x low high is any. let v = is.v_is in (omega (arith, v), omega (arith, v, high))) (items_but d j legal made) (all_any_way (applied_list d j))
    by (inr high) = subst (AllIn (IsBetween d j)) (sym (unmade_applied d j legal high)) tt

pub items_passable : (d : ℕ) (j : List Entry) → IsLegalBut j → AllIn (λ (x : Item). IsPassable x.op) (applied_list d j)
items_passable d j legal = by (cases_lt d (length (makings j)))
  where
    by : (d < length (makings j)) ⊎ (length (makings j) ≤ d) → AllIn (λ (x : Item). IsPassable x.op) (applied_list d j)
    by (inl made) = each_all (IsItemBut d j) (λ x. Unit {0}) (λ x. IsPassable x.op) [] (applied_list d j) (λ b x low high is any. is.passable) (items_but d j legal made) (all_any_way (applied_list d j))
    by (inr high) = subst (AllIn (λ (x : Item). IsPassable x.op)) (sym (unmade_applied d j legal high)) tt

-- a passable operation is sized
low_near : (cs : List Comp) → Within farthest cs → places_fit cs ≡ true
low_near [] near = refl
low_near (c ∷ cs) near =
    let h = All-head (λ (x : Comp). place x ≤ farthest) c cs near in
    ap (λ b. b && places_fit cs) (is_low (place c) h) ∙ low_near cs (All-tail (λ (x : Comp). place x ≤ farthest) c cs near)
  where
    is_low : (n : ℕ) → n ≤ farthest → nat_le n greatest_place ≡ true
    is_low n le = grind (arith, nat_tests)

pub passable_sized : (op : List Comp) → IsPassable op → IsSized op
passable_sized op is = record { light = is.light; low = low_near op is.near }

all_in_ops : (P : List Comp → Type 0) (xs : List Item) → AllIn (λ (x : Item). P x.op) xs → AllIn P (ops xs)
all_in_ops P [] all = tt
all_in_ops P (x ∷ xs) all = (all.0, all_in_ops P xs all.1)

pub items_sized : (d : ℕ) (j : List Entry) → IsLegalBut j → AllIn IsSized (operations d j)
items_sized d j legal = all_in_ops IsSized (applied_list d j) (all_in_map (λ (x : Item). IsPassable x.op) (λ (x : Item). IsSized x.op) (applied_list d j) (λ x is. passable_sized x.op is) (items_passable d j legal))

pub operations_passable : (d : ℕ) (j : List Entry) → IsLegalBut j → All IsPassable (operations d j)
operations_passable d j legal = all_in_all IsPassable (operations d j) (all_in_ops IsPassable (applied_list d j) (items_passable d j legal))

-- there is room to move an update past what was applied since its version
pub has_room : (d : ℕ) (u : Update) (j : List Entry) (t : ℕ) → IsLegalBut j → update_at j t ≡ Some u → base d j ≤ u.v → version d j ≤ u.v + greatest_age → FitsAll u.op (drop (u.v - base d j) (operations d j))
has_room d u j t legal at low young =
    let l = length-drop (u.v - base d j) (operations d j) in
    let m = length-map (applied_list d j) (λ (x : Item). x.op) in
    fits_past u.op (drop (u.v - base d j) (operations d j)) (update_sized t u j legal at) (all_in_drop IsSized (u.v - base d j) (operations d j) (items_sized d j legal)) (omega (arith, l, low, young, m))

-- ---- what a committed outcome says of versions
find : {A : Type 0} (P Q : A → Type 0) (G : Type 0) (xs : List A) → ((x : A) → P x → Q x → G) → AllIn P xs → AnyIn Q xs → G
find P Q G [] f all any = absurd any
find P Q G (x ∷ xs) f all (inl q) = f x all.0 q
find P Q G (x ∷ xs) f all (inr any) = find P Q G xs f all.1 any

-- a duplicate's version is below the document's
pub dup_below : (d v : ℕ) (h : List Entry) → IsLegalBut h → SaysOf d h (Dup v) → v < version d h
dup_below d v h legal says = find (IsBetween d h) (λ (x : Item). x.v ≡ v) (v < version d h) (applied_list d h) (λ x between is. let b = between.1 in omega (arith, b, is)) (items_between_versions d h legal) says
