-- The last joining of a client after one entry more: its document was made, and its source is its own.
use Rattle.std.proofs.Common.{◌≡◌, ℕ, ◌-◌, ◌≤◌, List, [], ◌∷◌, ◌++◌, length, Bool, true, false, refl, sym, ap, ◌∙◌, subst, arith, eqb}
use Rattle.std.specs.Prelude.{Option, Some, None, if◌then◌else◌, slice_get}
use Rattle.std.proofs.lemmas.Bool.{eqb-true}
use Rattle.journal_entries.specs.declared.act.Act.{Act}
use Rattle.journal_entries.specs.declared.act.Act.TheVariants.{Joined as JoinedAct}
use Rattle.journal_entries.specs.declared.act.Entry.{Entry}
use Rattle.journal_rules.specs.Documents.{IsMade}
use Rattle.journal_rules.specs.Legal.{source_at}
use Rattle.journal_rules.proofs.Pushing.{folded-push}
use Rattle.journal_rules.proofs.Legality.{front, seam}
use Rattle.journal_rules.proofs.Fencing.{made_stays}
use Rattle.journal_rules.proofs.Lists.{some_same}
use Rattle.loading_rules.specs.Joinings.{Joining, joining_by, last_joining}
use Rattle.loading_rules.specs.LegalBut.{IsLegalBut, IsAllowedBut}
use Rattle.loading_rules.proofs.Legality.{Keeps, by_last}

pub last_joining-push : (c : ℕ) (j : List Entry) (e : Entry) → last_joining c (j ++ e ∷ []) ≡ joining_by c e.act (last_joining c j)
unfolding last_joining
last_joining-push c j e = folded-push (λ before e now. joining_by c e.act now) None j e

pub last_joining-none : (c : ℕ) → last_joining c [] ≡ None
unfolding last_joining
last_joining-none c = refl

-- who joins what
abbrev pub joiner_of : Act → Option (ℕ × ℕ)
joiner_of (JoinedAct client doc user track since source v) = Some (client, doc)
joiner_of _ = None

abbrev pub joiner_in : Option Entry → Option (ℕ × ℕ)
joiner_in (Some e) = joiner_of e.act
joiner_in None = None

-- the source is that of a joining of this client to this document
abbrev pub IsJoinedUnder : ℕ → ℕ → List Entry → ℕ → Type 0
IsJoinedUnder c d j source = (1000000 ≤ source) × (joiner_in (slice_get j (source - 1000000)) ≡ Some (c, d))

pub under_on : (c d : ℕ) (h more : List Entry) (source : ℕ) → IsJoinedUnder c d h source → IsJoinedUnder c d (h ++ more) source
under_on c d h more source under = (under.0, go (slice_get h (source - 1000000)) refl under.1)
  where
    go : (o : Option Entry) → slice_get h (source - 1000000) ≡ o → joiner_in o ≡ Some (c, d) → joiner_in (slice_get (h ++ more) (source - 1000000)) ≡ Some (c, d)
    go None at is = absurd (cc)
    go (Some e) at is = ap joiner_in (front h more (source - 1000000) e at) ∙ is

pub under_new : (c d : ℕ) (h : List Entry) (e : Entry) (source : ℕ) → source ≡ source_at h → joiner_of e.act ≡ Some (c, d) → IsJoinedUnder c d (h ++ e ∷ []) source
under_new c d h e source is joins =
    let at : source - 1000000 ≡ length h = omega (arith, is) in
    (omega (arith, is), ap joiner_in (ap (slice_get (h ++ e ∷ [])) at ∙ seam h e []) ∙ joins)

-- one source is of one client and one document
pub under_one : (c d c' d' : ℕ) (j : List Entry) (source : ℕ) → IsJoinedUnder c d j source → IsJoinedUnder c' d' j source → (c ≡ c') × (d ≡ d')
under_one c d c' d' j source a b =
    let same : (c, d) ≡ (c', d') = some_same (c, d) (c', d') (sym a.1 ∙ b.1) in
    (ap (λ (x : ℕ × ℕ). x.0) same, ap (λ (x : ℕ × ℕ). x.1) same)

-- ---- a joining by its own entry, or an earlier one
abbrev IsGood : ℕ → List Entry → Joining → Type 0
IsGood c j x = IsMade x.doc j × IsJoinedUnder c x.doc j x.source

good_on : (c : ℕ) (h : List Entry) (e : Entry) (x : Joining) → IsGood c h x → IsGood c (h ++ e ∷ []) x
good_on c h e x good = (made_stays x.doc h e good.0, under_on c x.doc h (e ∷ []) x.source good.1)

pub joining_good : (c : ℕ) (j : List Entry) → IsLegalBut j → (x : Joining) → last_joining c j ≡ Some x → IsMade x.doc j × IsJoinedUnder c x.doc j x.source
joining_good c = by_last (λ j. (x : Joining) → last_joining c j ≡ Some x → IsGood c j x) none more
  where
    none : (x : Joining) → last_joining c [] ≡ Some x → IsGood c [] x
    none x is = let f : None ≡ Some x = sym (last_joining-none c) ∙ is in absurd (cc)

    fresh : (h : List Entry) (e : Entry) (doc source : ℕ) (user : List ℕ) (track : Bool) → joiner_of e.act ≡ Some (c, doc) → IsMade doc h → source ≡ source_at h → (x : Joining)
        → Some (record { doc = doc; user = user; track = track; source = source }) ≡ Some x → IsGood c (h ++ e ∷ []) x
    fresh h e doc source user track joins made source_is x is =
        let now : Joining = record { doc = doc; user = user; track = track; source = source } in
        subst (IsGood c (h ++ e ∷ [])) (some_same now x is) (made_stays doc h e made, under_new c doc h e source source_is joins)

    by_act : (h : List Entry) (e : Entry) (a : Act) → e.act ≡ a → IsAllowedBut h e.seat a → ((x : Joining) → last_joining c h ≡ Some x → IsGood c h x) → (x : Joining) → joining_by c a (last_joining c h) ≡ Some x → IsGood c (h ++ e ∷ []) x
    by_act h e (JoinedAct client doc user track None source v) is may was x at = go (eqb client c) refl at
      where
        go : (b : Bool) → eqb client c ≡ b → (if b then Some (record { doc = doc; user = user; track = track; source = source }) else last_joining c h) ≡ Some x → IsGood c (h ++ e ∷ []) x
        go true same at = fresh h e doc source user track (ap joiner_of is ∙ ap (λ n. Some (n, doc)) (eqb-true client c same)) may.made may.source_is x at
        go false apart at = good_on c h e x (was x at)
    by_act h e (JoinedAct client doc user track (Some n) source v) is may was x at = go (eqb client c) refl at
      where
        go : (b : Bool) → eqb client c ≡ b → (if b then Some (record { doc = doc; user = user; track = track; source = source }) else last_joining c h) ≡ Some x → IsGood c (h ++ e ∷ []) x
        go true same at =
            let last = ap (λ k. last_joining k h) (sym (eqb-true client c same)) ∙ may.placed.last in
            fresh h e doc source user track (ap joiner_of is ∙ ap (λ n. Some (n, doc)) (eqb-true client c same)) (subst (λ d. IsMade d h) may.placed.doc_is (was may.placed.joining last).0) may.source_is x at
        go false apart at = good_on c h e x (was x at)
    by_act h e _ is may was x at = good_on c h e x (was x at)

    more : Keeps (λ j. (x : Joining) → last_joining c j ≡ Some x → IsGood c j x)
    more h e legal may was x at = by_act h e e.act refl may was x (sym (last_joining-push c h e) ∙ at)

pub joining_made : (c : ℕ) (j : List Entry) → IsLegalBut j → (x : Joining) → last_joining c j ≡ Some x → IsMade x.doc j
joining_made c j legal x is = (joining_good c j legal x is).0

pub joining_under : (c : ℕ) (j : List Entry) → IsLegalBut j → (x : Joining) → last_joining c j ≡ Some x → IsJoinedUnder c x.doc j x.source
joining_under c j legal x is = (joining_good c j legal x is).1
