-- The end of a run is determined by the journal before it; so the whole journal is by the script.
use Rattle.std.proofs.Common.{◌≡◌, ℕ, zero, suc, List, [], ◌∷◌, ◌++◌, length, Bool, true, false, true≢false, refl, sym, ap, ◌∙◌, subst, inl, inr}
use Rattle.std.specs.Prelude.{None, map}
use Rattle.expiring_lock.specs.declared.lock.TheConstants.{LOCK_LIFE}
use Rattle.journal_entries.specs.declared.act.Act.TheVariants.{Ticked, Closed}
use Rattle.journal_entries.specs.declared.act.Entry.{Entry}
use Rattle.journal_rules.specs.Client.{client}
use Rattle.journal_rules.specs.Documents.{makings}
use Rattle.journal_rules.specs.Legal.{IsLegal}
use Rattle.session_lines.specs.declared.line.Line.{Line}
use Rattle.run_rules.specs.Determined.{has_fault, ShareFaults}
use Rattle.turn_rules.specs.Draining.{Done}
use Rattle.run_rules.specs.Ending.{at_end, InOrder, DrainsDry, sending_acts, CatchesUpIf, CatchesUp, IsRound, Rounds, FlushesIf, FlushesAtEnd, Ends}
use Rattle.run_rules.specs.Follows.{Follows}
use Rattle.run_rules.specs.Keeping.{nothing_kept}
use Rattle.run_rules.specs.Lines.{Leads, numbered}
use Rattle.run_rules.specs.Plain.{needs_flush}
use Rattle.turn_rules.specs.Turns.{Alone, entry_by}
use Rattle.run_rules.proofs.Growing.{Extends, extends_on}
use Rattle.run_rules.proofs.Pinned.{Pair, pair_front, pair_before, share_none}
use Rattle.run_rules.proofs.OneAlone.{extends_alone, alone_look, alone_unfailed, dry_same}
use Rattle.run_rules.proofs.OneLine.{drains_on, flushes_on, flushes_same, gets_on, gets_same, leads_same}
use Rattle.turn_rules.specs.Clients.{is_joined}

-- ---- the same step for each number
module _ (Step : ℕ → List Entry → List Entry → Type 0) (on : (n : ℕ) (left last : List Entry) → Step n left last → Extends left last) where
  in_order_on : (n : ℕ) (left last : List Entry) → InOrder Step n left last → Extends left last
  in_order_on zero left last x = extends_alone left last x
  in_order_on (suc n) left last x = extends_on left x.0 last (in_order_on n left x.0 x.1) (on n x.0 last x.2)

  in_order_same : ((n : ℕ) (left a b : List Entry) → Pair a b → Step n left a → Step n left b → a ≡ b) → (n : ℕ) (left a b : List Entry) → Pair a b → InOrder Step n left a → InOrder Step n left b → a ≡ b
  in_order_same same zero left a b p x y = x ∙ sym y
  in_order_same same (suc n) left a b p x y =
      let e = in_order_same same n left x.0 y.0 (pair_before x.0 y.0 a b (on n x.0 a x.2) (on n y.0 b y.2) p) x.1 y.1 in
      same n x.0 a b p x.2 (subst (λ (j : List Entry). Step n j b) (sym e) y.2)

-- ---- drains
dry_on : (doc : ℕ) (left last : List Entry) → DrainsDry doc left last → Extends left last
dry_on doc left last x = drains_on Alone alone_look extends_alone 0 None (alone_unfailed 0 None) doc x.0 left last Done x.1

drains_dry_same : (doc : ℕ) (left a b : List Entry) → Pair a b → DrainsDry doc left a → DrainsDry doc left b → a ≡ b
drains_dry_same doc left a b p x y = dry_same 0 None doc x.0 y.0 left a b p (x.1, x.2) (y.1, y.2)

-- ---- clients catch up
catch_up_on : (b : Bool) (c : ℕ) (left last : List Entry) → CatchesUpIf b c left last → Extends left last
catch_up_on false c left last x = extends_alone left last x
catch_up_on true c left last x = extends_on left x.0 last (gets_on Alone alone_look extends_alone 0 None (alone_unfailed 0 None) x.1.0 c left x.0 x.1.1) (map at_end (sending_acts c x.0), x.2)

catches_on : (c : ℕ) (left last : List Entry) → CatchesUp c left last → Extends left last
catches_on c left last x = catch_up_on (is_joined (client c left).state) c left last x

catch_up_same : (joined : Bool) (c : ℕ) (left a b : List Entry) → Pair a b → CatchesUpIf joined c left a → CatchesUpIf joined c left b → a ≡ b
catch_up_same false c left a b p x y = x ∙ sym y
catch_up_same true c left a b p x y =
    let mids = pair_before x.0 y.0 a b (map at_end (sending_acts c x.0), x.2) (map at_end (sending_acts c y.0), y.2) p in
    x.2 ∙ ap (λ (j : List Entry). j ++ map at_end (sending_acts c j)) (gets_same Alone alone_look extends_alone 0 None (alone_unfailed 0 None) x.1.0 y.1.0 c left x.0 y.0 mids x.1.1 y.1.1) ∙ sym y.2

catches_same : (c : ℕ) (left a b : List Entry) → Pair a b → CatchesUp c left a → CatchesUp c left b → a ≡ b
catches_same c left a b p x y = catch_up_same (is_joined (client c left).state) c left a b p x y

-- ---- rounds
pub drains_all_on : (docs : ℕ) (left last : List Entry) → InOrder DrainsDry docs left last → Extends left last
drains_all_on docs left last x = in_order_on DrainsDry dry_on docs left last x

pub round_on : (sessions : ℕ) (left last : List Entry) → IsRound sessions left last → Extends left last
round_on sessions left last x = extends_on left x.0 last (drains_all_on (length (makings left)) left x.0 x.1) (in_order_on CatchesUp catches_on sessions x.0 last x.2)

round_same : (sessions : ℕ) (left a b : List Entry) → Pair a b → IsRound sessions left a → IsRound sessions left b → a ≡ b
round_same sessions left a b p x y =
    let e = in_order_same DrainsDry dry_on drains_dry_same (length (makings left)) left x.0 y.0 (pair_before x.0 y.0 a b (in_order_on CatchesUp catches_on sessions x.0 a x.2) (in_order_on CatchesUp catches_on sessions y.0 b y.2) p) x.1 y.1 in
    in_order_same CatchesUp catches_on catches_same sessions x.0 a b p x.2 (subst (λ (j : List Entry). InOrder CatchesUp sessions j b) (sym e) y.2)

pub rounds_on : (sessions most : ℕ) (left last : List Entry) → Rounds sessions most left last → Extends left last
rounds_on sessions zero left last x = extends_alone left last x
rounds_on sessions (suc most) left last (inl x) = extends_alone left last x.1
rounds_on sessions (suc most) left last (inr x) = extends_on left x.1.0 last (round_on sessions left x.1.0 x.1.1) (rounds_on sessions most x.1.0 last x.1.2)

pub rounds_same : (sessions most : ℕ) (left a b : List Entry) → Pair a b → Rounds sessions most left a → Rounds sessions most left b → a ≡ b
rounds_same sessions zero left a b p x y = x ∙ sym y
rounds_same sessions (suc most) left a b p (inl x) (inl y) = x.1 ∙ sym y.1
rounds_same sessions (suc most) left a b p (inl x) (inr y) = absurd (true≢false (sym y.0 ∙ x.0))
rounds_same sessions (suc most) left a b p (inr x) (inl y) = absurd (true≢false (sym x.0 ∙ y.0))
rounds_same sessions (suc most) left a b p (inr x) (inr y) =
    let e = round_same sessions left x.1.0 y.1.0 (pair_before x.1.0 y.1.0 a b (rounds_on sessions most x.1.0 a x.1.2) (rounds_on sessions most y.1.0 b y.1.2) p) x.1.1 y.1.1 in
    rounds_same sessions most x.1.0 a b p x.1.2 (subst (λ (j : List Entry). Rounds sessions most j b) (sym e) y.1.2)

-- ---- flushes
flush_on : (b : Bool) (doc : ℕ) (left last : List Entry) → FlushesIf b doc left last → Extends left last
flush_on false doc left last x = extends_alone left last x
flush_on true doc left last x = flushes_on Alone alone_look extends_alone 0 None (alone_unfailed 0 None) (λ look. []) doc left last x

flushes_at_end_on : (doc : ℕ) (left last : List Entry) → FlushesAtEnd doc left last → Extends left last
flushes_at_end_on doc left last x = flush_on (needs_flush doc left) doc left last x

flush_if_same : (needs : Bool) (doc : ℕ) (left a b : List Entry) → Pair a b → FlushesIf needs doc left a → FlushesIf needs doc left b → a ≡ b
flush_if_same false doc left a b p x y = x ∙ sym y
flush_if_same true doc left a b p x y = flushes_same Alone alone_look extends_alone 0 None (alone_unfailed 0 None) (λ look. []) doc left a b p x y

flushes_at_end_same : (doc : ℕ) (left a b : List Entry) → Pair a b → FlushesAtEnd doc left a → FlushesAtEnd doc left b → a ≡ b
flushes_at_end_same doc left a b p x y = flush_if_same (needs_flush doc left) doc left a b p x y

-- ---- the end
flushes_all_on : (mid last : List Entry) → InOrder FlushesAtEnd (length (makings mid)) mid last → Extends mid last
flushes_all_on mid last x = in_order_on FlushesAtEnd flushes_at_end_on (length (makings mid)) mid last x

ticked_on : (sessions : ℕ) (left last : List Entry) → Rounds sessions 3 (left ++ at_end (Ticked LOCK_LIFE) ∷ []) last → Extends left last
ticked_on sessions left last x =
    let tick = at_end (Ticked LOCK_LIFE) in
    extends_on left (left ++ tick ∷ []) last (tick ∷ [], refl) (rounds_on sessions 3 (left ++ tick ∷ []) last x)

pub ends_on : (sessions : ℕ) (left last : List Entry) → Ends sessions left last → Extends left last
ends_on sessions left last x = extends_on left x.0 last (ticked_on sessions left x.0 x.1) (flushes_all_on x.0 last x.2)

pub ends_same : (sessions : ℕ) (left a b : List Entry) → Pair a b → Ends sessions left a → Ends sessions left b → a ≡ b
ends_same sessions left a b p x y =
    let e = rounds_same sessions 3 (left ++ at_end (Ticked LOCK_LIFE) ∷ []) x.0 y.0 (pair_before x.0 y.0 a b (flushes_all_on x.0 a x.2) (flushes_all_on y.0 b y.2) p) x.1 y.1 in
    in_order_same FlushesAtEnd flushes_at_end_on flushes_at_end_same (length (makings x.0)) x.0 a b p x.2
    (subst (λ (j : List Entry). InOrder FlushesAtEnd (length (makings j)) j b) (sym e) y.2)

-- ---- the whole journal
module _ (lines : List Line) (sessions : ℕ) (one other : List Entry) where
  one_by_ends : (a b : List Entry) → IsLegal one → IsLegal other → ShareFaults one other → Leads 0 Alone (numbered 1 lines) nothing_kept [] a → Leads 0 Alone (numbered 1 lines) nothing_kept [] b
      → Ends sessions (a ++ entry_by 0 None (Closed 0) ∷ []) one → Ends sessions (b ++ entry_by 0 None (Closed 0) ∷ []) other → one ≡ other
  one_by_ends a b legal legal2 shared leads leads2 ends ends2 =
      let closed = entry_by 0 None (Closed 0) in
      let ends_pair = pair_before (a ++ closed ∷ []) (b ++ closed ∷ []) one other (ends_on sessions (a ++ closed ∷ []) one ends) (ends_on sessions (b ++ closed ∷ []) other ends2) (legal, legal2, shared) in
      let e = leads_same Alone alone_look extends_alone 0 (alone_unfailed 0) (numbered 1 lines) nothing_kept [] a b (pair_front a (closed ∷ []) b (closed ∷ []) ends_pair) leads leads2 in
      ends_same sessions (a ++ closed ∷ []) one other (legal, legal2, shared) ends (subst (λ (j : List Entry). Ends sessions (j ++ closed ∷ []) other) (sym e) ends2)

  pub one_journal : IsLegal one → IsLegal other → ShareFaults one other → Follows lines sessions one → Follows lines sessions other → one ≡ other
  one_journal legal legal2 shared f f2 = one_by_ends f.done f2.done legal legal2 shared f.leads f2.leads f.ends f2.ends

  pub one_journal_faultless : IsLegal one → IsLegal other → has_fault one ≡ false → has_fault other ≡ false → Follows lines sessions one → Follows lines sessions other → one ≡ other
  one_journal_faultless legal legal2 none none2 f f2 = one_journal legal legal2 (share_none one other none none2) f f2
