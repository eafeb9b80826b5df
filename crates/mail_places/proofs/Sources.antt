-- A member of a room is there as it joined last; and the source of an update is that of a joining of its client to its document.
use Rattle.std.proofs.Common.{◌≡◌, ℕ, ◌≤◌, List, [], ◌∷◌, ◌++◌, length, Bool, true, false, ◌&&◌, refl, sym, ap, ◌∙◌, subst, ⊎_elim, arith, eqb}
use Rattle.std.specs.Prelude.{Option, Some, None, if◌then◌else◌, option_map}
use Rattle.journal_entries.specs.declared.update.Update.{Update}
use Rattle.journal_entries.specs.declared.update.Outcome.{Outcome}
use Rattle.journal_entries.specs.declared.act.Act.{Act}
use Rattle.journal_entries.specs.declared.act.Act.TheVariants.{Joined as JoinedAct, Committed, Got, Left as LeftAct}
use Rattle.journal_entries.specs.declared.act.Entry.{Entry}
use Rattle.journal_rules.specs.Documents.{update_at}
use Rattle.journal_rules.specs.Mail.{told_of}
use Rattle.journal_rules.proofs.Waits.{by_end, update_within}
use Rattle.journal_laws.proofs.Updates.{update_new}
use Rattle.journal_laws.proofs.World.{sent_is}
use Rattle.mail_places.specs.Places.{Placed, is_told, with_place, placed_if_told, without_first, placed_by, placed, IsOwnUpdate}
use Rattle.mail_places.proofs.Placing.{placed-push, placed-none}
use Rattle.loading_rules.specs.Joinings.{Joining, joining_by, last_joining}
use Rattle.loading_rules.specs.LegalBut.{IsLegalBut, IsAllowedBut, IsSendingBut}
use Rattle.loading_rules.proofs.Legality.{Keeps, by_last}
use Rattle.loading_rules.proofs.Joinings.{last_joining-push, IsJoinedUnder, under_on, under_one, joining_under}

-- ---- members
abbrev pub AreMatched : Option Joining → Option Placed → Type 0
AreMatched o None = Unit {0}
AreMatched (Some x) (Some box) = (x.doc ≡ box.doc) × (x.source ≡ box.source)
AreMatched None (Some box) = ⊥

matched_if : (b : Bool) (o o' : Option Joining) (p p' : Option Placed) → AreMatched o p → AreMatched o' p' → AreMatched (if b then o else o') (if b then p else p')
matched_if true o o' p p' m m' = m
matched_if false o o' p p' m m' = m'

matched_either : (b : Bool) (o : Option Joining) (p p' : Option Placed) → AreMatched o p → AreMatched o p' → AreMatched o (if b then p else p')
matched_either true o p p' m m' = m
matched_either false o p p' m m' = m'

matched_first : (o : Option Joining) (p : Option Placed) → AreMatched o p → AreMatched o (option_map without_first p)
matched_first o None m = tt
matched_first (Some x) (Some box) m = m
matched_first None (Some box) m = absurd m

matched_told : (o : Option Joining) (p : Option Placed) (doc : ℕ) (before : List Entry) (ticket : ℕ) (outcome : Outcome) → AreMatched o p → AreMatched o (option_map (placed_if_told doc before ticket outcome) p)
matched_told o None doc before ticket outcome m = tt
matched_told None (Some box) doc before ticket outcome m = absurd m
matched_told (Some x) (Some box) doc before ticket outcome m = go (eqb doc box.doc && is_told (told_of box.source (update_at before ticket) outcome))
  where
    go : (b : Bool) → AreMatched (Some x) (Some (if b then with_place (length before) box else box))
    go true = m
    go false = m

pub matched : (c : ℕ) (j : List Entry) → AreMatched (last_joining c j) (placed c j)
matched c = by_end (λ j. AreMatched (last_joining c j) (placed c j)) (subst (AreMatched (last_joining c [])) (sym (placed-none c)) tt) more
  where
    by_act : (h : List Entry) (a : Act) → AreMatched (last_joining c h) (placed c h) → AreMatched (joining_by c a (last_joining c h)) (placed_by c h a (placed c h))
    by_act h (JoinedAct client doc user track since source v) m =
        matched_if (eqb client c) (Some (record { doc = doc; user = user; track = track; source = source })) (last_joining c h) (Some (record { doc = doc; source = source; places = [] })) (placed c h) (refl, refl) m
    by_act h (LeftAct client) m = matched_either (eqb client c) (last_joining c h) None (placed c h) tt m
    by_act h (Committed doc token ticket outcome) m = matched_told (last_joining c h) (placed c h) doc h ticket outcome m
    by_act h (Got client brief) m = matched_either (eqb client c) (last_joining c h) (option_map without_first (placed c h)) (placed c h) (matched_first (last_joining c h) (placed c h) m) m
    by_act h _ m = m

    more : (h : List Entry) (e : Entry) → AreMatched (last_joining c h) (placed c h) → AreMatched (last_joining c (h ++ e ∷ [])) (placed c (h ++ e ∷ []))
    more h e m =
        subst (λ (o : Option Joining). AreMatched o (placed c (h ++ e ∷ []))) (sym (last_joining-push c h e))
        (subst (λ (p : Option Placed). AreMatched (joining_by c e.act (last_joining c h)) p) (sym (placed-push c h e)) (by_act h e.act m))

-- a member's joining
pub member_joining : (c : ℕ) (j : List Entry) (box : Placed) → placed c j ≡ Some box → (x : Joining) × (last_joining c j ≡ Some x) × (x.doc ≡ box.doc) × (x.source ≡ box.source)
member_joining c j box is = go (last_joining c j) refl (subst (AreMatched (last_joining c j)) is (matched c j))
  where
    go : (o : Option Joining) → last_joining c j ≡ o → AreMatched o (Some box) → (x : Joining) × (last_joining c j ≡ Some x) × (x.doc ≡ box.doc) × (x.source ≡ box.source)
    go None at m = absurd m
    go (Some x) at m = (x, at, m.0, m.1)

pub member_under : (c : ℕ) (j : List Entry) → IsLegalBut j → (box : Placed) → placed c j ≡ Some box → IsJoinedUnder c box.doc j box.source
member_under c j legal box is =
    let m = member_joining c j box is in
    subst (IsJoinedUnder c box.doc j) m.3 (subst (λ d. IsJoinedUnder c d j m.0.source) m.2 (joining_under c j legal m.0 m.1))

-- ---- updates
abbrev IsOwned : List Entry → Option ℕ → Update → Type 0
IsOwned j (Some c) u = IsJoinedUnder c u.doc j u.source
IsOwned j None u = u.source ≤ 999999

owned_on : (h more : List Entry) (o : Option ℕ) (u : Update) → IsOwned h o u → IsOwned (h ++ more) o u
owned_on h more (Some c) u own = under_on c u.doc h more u.source own
owned_on h more None u own = own

updates_owned : (j : List Entry) → IsLegalBut j → (t : ℕ) (u : Update) → update_at j t ≡ Some u → IsOwned j u.client u
updates_owned = by_last (λ j. (t : ℕ) (u : Update) → update_at j t ≡ Some u → IsOwned j u.client u) none more
  where
    none : (t : ℕ) (u : Update) → update_at [] t ≡ Some u → IsOwned [] u.client u
    none t u is = let l = update_within [] t u is in absurd (omega (arith, l))

    by : (h : List Entry) (u : Update) → IsLegalBut h → (o : Option ℕ) → IsSendingBut h u o → IsOwned h o u
    by h u legal None row = row.source_low
    by h u legal (Some c) row =
        let x = row.placed.joining in
        subst (IsJoinedUnder c u.doc h) row.placed.source_is (subst (λ d. IsJoinedUnder c d h x.source) row.placed.doc_is (joining_under c h legal x row.placed.last))

    more : Keeps (λ j. (t : ℕ) (u : Update) → update_at j t ≡ Some u → IsOwned j u.client u)
    more h e legal may was t u known = ⊎_elim {C = IsOwned (h ++ e ∷ []) u.client u}
        (λ old. owned_on h (e ∷ []) u.client u (was t u old))
        (λ new. owned_on h (e ∷ []) u.client u (by h u legal u.client (subst (λ a. IsAllowedBut h e.seat a) (sent_is e.act u new.1) may)))
        (update_new h e t u known)

-- the law
pub own_update : (c : ℕ) (j : List Entry) → IsLegalBut j → (box : Placed) → placed c j ≡ Some box → (t : ℕ) (u : Update) → update_at j t ≡ Some u → u.source ≡ box.source → IsOwnUpdate c box u
own_update c j legal box is t u known same = go u.client refl (updates_owned j legal t u known)
  where
    mine : IsJoinedUnder c box.doc j u.source
    mine = subst (IsJoinedUnder c box.doc j) (sym same) (member_under c j legal box is)

    go : (o : Option ℕ) → u.client ≡ o → IsOwned j o u → IsOwnUpdate c box u
    go None own low = let high = mine.0 in absurd (omega (arith, high, low))
    go (Some k) own under =
        let one = under_one k u.doc c box.doc j u.source under mine in
        (own ∙ ap (λ (n : ℕ). Some n) one.0, one.1)
