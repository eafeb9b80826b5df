-- Under a token that stands, a document is what a look under this token was.
use Rattle.std.proofs.Common.{◌≡◌, ℕ, ◌+◌, List, [], ◌∷◌, ◌++◌, append-nil, append_assoc, length, map, Bool, true, false, true≢false, not, refl, sym, ap, ap₂, ◌∙◌, subst, inl, eqb, All}
use Rattle.std.specs.Prelude.{Option, Some, None, if◌then◌else◌}
use Rattle.std.proofs.lemmas.Bool.{eqb-true, not-true}
use Rattle.std.proofs.lemmas.List.Elements.{All-append}
use Rattle.ranges_tracker.specs.Cells.{plain_row}
use Rattle.ranges_tracker.specs.Shown.{shown}
use Rattle.expiring_lock.specs.declared.refusal.Stale.{Stale}
use Rattle.expiring_lock.specs.declared.refusal.Stale.TheVariants.{Other, Ended}
use Rattle.dup_check.specs.declared.snapshot.Snapshot.{Snapshot}
use Rattle.dup_check.specs.declared.snapshot.Decision.{Decision}
use Rattle.dup_check.specs.Window.{Recent, recent, since_in}
use Rattle.dup_check.specs.Snapshot.{outcome_of}
use Rattle.journal_entries.specs.declared.act.Entry.{Entry}
use Rattle.journal_rules.specs.Documents.{Item, Making, base_in, first_in, is_in, replayed, text, text_at, update_at, version, waiting}
use Rattle.journal_rules.specs.Deciding.{decided}
use Rattle.journal_rules.specs.Fence.{IsSameOf}
use Rattle.journal_rules.specs.Legal.{IsLegal}
use Rattle.journal_rules.specs.Locks.{Acquiring, HeldBy, Holds, is_held_in, last_acquiring, released, token_in, used, used_by}
use Rattle.journal_rules.specs.Tracking.{cells, tracked}
use Rattle.journal_rules.proofs.Fencing.{fenced}
use Rattle.journal_rules.proofs.Legality.{legal_front}
use Rattle.journal_rules.proofs.Lists.{some_same}
use Rattle.journal_rules.proofs.Waits.{all_none, all_one, update_stays}
use Rattle.journal_laws.proofs.Updates.{text_at_version}
use Rattle.turn_rules.specs.Locking.{staleness}
use Rattle.book.specs.declared.document.Document.{Document}
use Rattle.book.specs.Looking.{IsDecided, IsLook, IsLookAt, IsNoCommit, IsOf, IsSince, window_of}
use Rattle.book.specs.Calls.{MayRefuse}
use Rattle.book.specs.Passing.{past_or_none}
use Rattle.journal_entries.specs.declared.update.Cause.TheVariants.{Memory as WantsMemory}
use Rattle.book.specs.Standing.{IsDocument, past_of}
use Rattle.book.proofs.Acquirings.{IsKnown, known_more, known_same, last_known, unused_behind, unused_more}
use Rattle.book.proofs.Locking.{window_is}
use Rattle.book.proofs.Looking.{decision_is}
use Rattle.book.proofs.Settling.{outcome_is}

-- a document is held under a token
pub record IsUnder (d token : ℕ) (j : List Entry) : Type 0 where
  pub acquiring : Acquiring
  pub held : HeldBy d acquiring j
  pub token_is : acquiring.token ≡ token

abbrev tested : Option Acquiring → List ℕ → ℕ → Option Stale
tested o tokens token = if eqb (token_in o) token then (if is_held_in o tokens then None else Some Ended) else Some (Other (token_in o))

tells : (b h : Bool) (s : Stale) → (if b then (if h then None else Some Ended) else Some s) ≡ None → (b ≡ true) × (h ≡ true)
tells true true s e = (refl, refl)
tells true false s e = absurd (cc)
tells false h s e = absurd (cc)

pub under : (d token : ℕ) (j : List Entry) → staleness d token j ≡ None → IsUnder d token j
under d token j none = by (last_acquiring d j) refl none
  where
    by : (o : Option Acquiring) → last_acquiring d j ≡ o → tested (last_acquiring d j) (released j) token ≡ None → IsUnder d token j
    by None is e =
        let t = tells (eqb 0 token) false (Other 0) (sym (ap (λ o. tested o (released j) token) is) ∙ e) in
        absurd (true≢false (sym t.1))
    by (Some a) is e =
        let t = tells (eqb a.token token) (not (is_in a.token (released j))) (Other a.token) (sym (ap (λ o. tested o (released j) token) is) ∙ e) in
        record { acquiring = a; held = record { last = is; standing = not-true (is_in a.token (released j)) t.1 }; token_is = eqb-true a.token token t.0 }

-- while a token stands, the document's last acquiring is the one that gave it
pub last_stays : (doc token : ℕ) (early more j : List Entry) (a : Acquiring) → j ≡ early ++ more → IsLegal j → last_acquiring doc early ≡ Some a → a.token ≡ token → (u : IsUnder doc token j) → a ≡ u.acquiring
last_stays doc token early more j a is legal last same u =
    let on = subst IsLegal is legal in
    known_same a u.acquiring (early ++ more)
    (known_more a more early (last_known doc early (legal_front early more on) a last))
    (last_known doc (early ++ more) on u.acquiring (sym (ap (last_acquiring doc) is) ∙ u.held.last))
    (same ∙ sym u.token_is)

-- what was looked at is a look of the journal at once
pub begins : (look : Snapshot) (j : List Entry) → IsLookAt j look → IsOf look j
begins look j looks = record { early = j; more = []; journal_is = sym (append-nil j); looks = looks; unused = all_none (λ (e : Entry). is_in look.token (used_by e.act) ≡ false) }

-- and stays one behind entries that don't commit it
pub stays : (look : Snapshot) (j more : List Entry) → IsOf look j → IsLegal (j ++ more) → All (IsNoCommit look) more → IsOf look (j ++ more)
stays look j more of legal all = record {
  early = of.early;
  more = of.more ++ more;
  journal_is = ap (λ k. k ++ more) of.journal_is ∙ append_assoc of.early of.more more;
  looks = of.looks;
  unused = All-append (λ (e : Entry). is_in look.token (used_by e.act) ≡ false) of.more more of.unused
      (unused_behind look of.looks.acquiring more j legal here of.looks.token_is of.looks.seat_is all);
}
  where
    low : IsLegal (of.early ++ of.more)
    low = subst IsLegal of.journal_is (legal_front j more legal)

    here : IsKnown of.looks.acquiring j
    here = subst (λ (k : List Entry). IsKnown of.looks.acquiring k) (sym of.journal_is)
        (known_more of.looks.acquiring of.more of.early (last_known look.doc of.early (legal_front of.early of.more low) of.looks.acquiring of.looks.last))

pub stays_on : (look : Snapshot) (j k : List Entry) (e : Entry) → k ≡ j ++ e ∷ [] → IsLegal k → IsNoCommit look e → IsOf look j → IsOf look k
stays_on look j k e is legal apart of = subst (λ (l : List Entry). IsOf look l) (sym is) (stays look j (e ∷ []) of (subst IsLegal is legal) (all_one (IsNoCommit look) e apart))

abbrev pub since_of : (look : Snapshot) (j : List Entry) → IsOf look j → IsSince look j
since_of look j of = record { early = of.early; more = of.more; journal_is = of.journal_is; looks = of.looks }

pub since_more : (look : Snapshot) (j more : List Entry) → IsSince look j → IsSince look (j ++ more)
since_more look j more since = record {
  early = since.early;
  more = since.more ++ more;
  journal_is = ap (λ k. k ++ more) since.journal_is ∙ append_assoc since.early since.more more;
  looks = since.looks;
}

-- while the token of a look stands, the document's acquiring is that of the look
module _ (look : Snapshot) (j : List Entry) (legal : IsLegal j) (since : IsSince look j) (stands : staleness look.doc look.token j ≡ None) where
  now : IsUnder look.doc look.token j
  now = under look.doc look.token j stands

  same_acquiring : since.looks.acquiring ≡ now.acquiring
  same_acquiring = last_stays look.doc look.token since.early since.more j since.looks.acquiring since.journal_is legal since.looks.last since.looks.token_is now

  pub last_is : last_acquiring look.doc j ≡ Some since.looks.acquiring
  last_is = now.held.last ∙ ap (λ (x : Acquiring). Some x) (sym same_acquiring)

  pub token_holds : Holds look.seat look.doc look.token j
  token_holds = record { acquiring = now.acquiring; held = now.held; token_is = now.token_is; seat_is = ap (λ (x : Acquiring). x.seat) (sym same_acquiring) ∙ since.looks.seat_is }

module _ (look : Snapshot) (j : List Entry) (legal : IsLegal j) (of : IsOf look j) (stands : staleness look.doc look.token j ≡ None) where
  abbrev pub early : List Entry
  early = of.early

  abbrev pub a : Acquiring
  a = of.looks.acquiring

  pub holds : Holds look.seat look.doc look.token j
  holds = token_holds look j legal (since_of look j of) stands

  pub unused : is_in look.token (used j) ≡ false
  unused = ap (λ k. is_in look.token (used k)) of.journal_is ∙ unused_more look.token of.more early of.looks.unused of.unused

  pub fence : IsSameOf look.doc of.early j
  fence = subst (λ (k : List Entry). IsSameOf look.doc of.early k) (sym of.journal_is)
      (fenced of.early of.more look.doc of.looks.acquiring (subst IsLegal of.journal_is legal) of.looks.last (sym (ap (last_acquiring look.doc) of.journal_is) ∙ last_is look j legal (since_of look j of) stands) none)
    where
      none : All (λ (e : Entry). is_in of.looks.acquiring.token (used_by e.act) ≡ false) of.more
      none = subst (λ t. All (λ (e : Entry). is_in t (used_by e.act) ≡ false) of.more) (sym of.looks.token_is) of.unused

  pub named : update_at j look.ticket ≡ Some look.update
  named = ap (λ k. update_at k look.ticket) of.journal_is ∙ update_stays early of.more look.ticket look.update of.looks.update_is

  pub first : waiting look.doc j ≡ look.ticket ∷ (of.looks.rest ++ fence.more)
  first = fence.first_is look.ticket of.looks.rest of.looks.first

  text_same : text look.doc j ≡ text look.doc early
  text_same = ap₂ (λ (m : Option Making) (l : List Item). replayed (first_in m) (map (λ (i : Item). i.op) l)) fence.making_is fence.applied_is

  version_same : version look.doc j ≡ version look.doc early
  version_same = ap₂ (λ (m : Option Making) (l : List Item). base_in m + length l) fence.making_is fence.applied_is

  -- the text that was looked at is that of its version
  pub read : text_at look.doc look.version j ≡ Some look.text
  read = ap (λ n. text_at look.doc n j) (of.looks.version_is ∙ sym version_same) ∙ text_at_version look.doc j ∙ text_same ∙ of.looks.text_is

  cells_same : cells look.doc j ≡ cells look.doc early
  cells_same = ap₂ (λ (m : Option Making) (l : List Item). tracked (plain_row (first_in m)) l) fence.making_is fence.applied_is

  window_same : window_of look.doc j ≡ window_of look.doc early
  window_same = ap₂ (λ (m : Option Making) (l : List Item). record { base = base_in m; version = base_in m + length l; last = recent (map past_of l) }) fence.making_is fence.applied_is

  -- the document as it stands is what was looked at
  pub still : (x : Document) → IsDocument look.doc x j → IsLook x look.update look
  still x is = record {
    base_is = of.looks.base_is ∙ sym (ap (λ (w : Recent). w.base) window);
    version_is = of.looks.version_is ∙ sym (ap (λ (w : Recent). w.version) window);
    text_is = some_same look.text x.text (sym of.looks.text_is ∙ sym text_same ∙ is.text_is);
    ranges_are = sym of.looks.ranges_are ∙ ap shown (sym cells_same) ∙ is.tracked.ranges_are;
    past_is = of.looks.past_is ∙ ap (λ (w : Recent). past_or_none (since_in w look.update.v)) (sym window);
    update_is = refl;
  }
    where
      window : x.window ≡ window_of look.doc early
      window = window_is look.doc x j is ∙ window_same

  -- so the decision by the look is that of the journal
  pub still_decided : (x : Document) (decision : Decision) → IsDocument look.doc x j → IsDecided look decision → outcome_of look.version decision ≡ decided j look.doc look.update
  still_decided x decision is by =
      outcome_is x look.update look (still x is) decision (outcome_of look.version decision) refl by.outcome_is
      ∙ decision_is look.doc x j look.update is.text_is is.window_is

  -- so its update may be refused for want of memory
  pub may_refuse : MayRefuse j look.seat look.doc look.token look.ticket WantsMemory
  may_refuse = record { holds = holds; unused = unused; rest = of.looks.rest ++ fence.more; first = first; cause_is = inl refl }
