-- One who is alone: nothing comes between turns.
use Rattle.std.proofs.Common.{◌≡◌, ℕ, zero, suc, List, [], ◌∷◌, ◌++◌, true, sym, ap, ◌∙◌, subst, inl, inr, append_assoc, append-nil}
use Rattle.std.specs.Prelude.{Option, Some, map}
use Rattle.journal_entries.specs.declared.act.Act.{Act}
use Rattle.journal_entries.specs.declared.act.Entry.{Entry}
use Rattle.journal_rules.specs.Documents.{waiting}
use Rattle.journal_rules.specs.Keeping.{cached, loading}
use Rattle.journal_rules.specs.Legal.{IsLegal}
use Rattle.journal_rules.specs.Locks.{next_token}
use Rattle.journal_rules.proofs.Legality.{legal_front}
use Rattle.turn_rules.specs.Draining.{Caches, TakesUp, DrainsOne, Drains, Done}
use Rattle.turn_rules.specs.Locking.{acquired}
use Rattle.turn_rules.specs.Turns.{Alone, entry_by}
use Rattle.run_rules.proofs.Alone.{alone_turn}
use Rattle.run_rules.proofs.Growing.{Extends}
use Rattle.run_rules.proofs.Pinned.{Pair, IsBelow, below_taken, not_below}
use Rattle.run_rules.proofs.OneLine.{IsUnfailed, drains_on, no_stop, same_mid}

pub extends_alone : (a b : List Entry) → Alone a b → Extends a b
extends_alone a b e = ([], e ∙ sym (append-nil a))

pub alone_look : (left a b : List Entry) → Alone left a → Alone left b → a ≡ b
alone_look left a b x y = x ∙ sym y

-- behind a turn that made a document ready, no loading has failed under the token
pub unfailed_there : (seat : ℕ) (line : Option ℕ) (doc token : ℕ) (left made : List Entry) → IsLegal left → TakesUp (entry_by seat line) doc token true left made → IsBelow token (loading doc (left ++ made))
unfailed_there seat line doc token left made legal t =
    let by : Act → Entry = entry_by seat line in
    let locked : List Entry = left ++ by (acquired doc left) ∷ [] in
    let caches = subst (λ (n : ℕ). Caches (cached doc left) doc (Some n) true t.loading) t.token_is t.caches in
    let at : left ++ made ≡ locked ++ map by t.loading =
    ap (λ (m : List Entry). left ++ m) t.made_is ∙ sym (append_assoc left (by (acquired doc left) ∷ []) (map by (t.loading ++ []))) ∙ ap (λ (acts : List Act). locked ++ map by acts) (append-nil t.loading) in
    subst (λ (n : ℕ). IsBelow n (loading doc (left ++ made))) (sym t.token_is) (subst (λ (j : List Entry). IsBelow (next_token left) (loading doc j)) (sym at) (below_taken seat line doc left (cached doc left) t.loading legal caches))

pub alone_unfailed : (seat : ℕ) (line : Option ℕ) → IsUnfailed Alone seat line
alone_unfailed seat line doc token left made look legal t next =
    let low = unfailed_there seat line doc token left made (legal_front left made (subst IsLegal next legal)) t in
    not_below token (loading doc look) (subst (λ (j : List Entry). IsBelow token (loading doc j)) (sym next) low)

-- ---- draining until nothing waits
module _ (seat : ℕ) (line : Option ℕ) where
  abbrev by : Act → Entry
  by = entry_by seat line

  abbrev Dry : ℕ → ℕ → List Entry → List Entry → Type 0
  Dry doc most left last = Drains by Alone doc most left last Done × (waiting doc last ≡ [])

  waits_before : (doc : ℕ) (left last : List Entry) → DrainsOne by Alone doc left last → waiting doc left ≡ [] → ⊥
  waits_before doc left last d none = let t = (alone_turn (TakesUp by doc d.0 d.1) left d.2 d.3).1 in nothing_first t.ticket t.rest (sym none ∙ t.first)
    where
      nothing_first : (t : ℕ) (ts : List ℕ) → [] ≡ t ∷ ts → ⊥
      nothing_first t ts e = absurd (cc)

  pub dry_same : (doc most more : ℕ) (left a b : List Entry) → Pair a b → Dry doc most left a → Dry doc more left b → a ≡ b
  dry_same doc zero zero left a b p x y = x.0.1 ∙ sym y.0.1
  dry_same doc zero (suc more) left a b p x (inl y, none) = x.0.1 ∙ sym y.0
  dry_same doc zero (suc more) left a b p x (inr y, none) = absurd (waits_before doc left y.0 y.1 (sym (ap (waiting doc) x.0.1) ∙ x.1))
  dry_same doc (suc most) zero left a b p (inl x, none) y = x.0 ∙ sym y.0.1
  dry_same doc (suc most) zero left a b p (inr x, none) y = absurd (waits_before doc left x.0 x.1 (sym (ap (waiting doc) y.0.1) ∙ y.1))
  dry_same doc (suc most) (suc more) left a b p (inl x, none) (inl y, none2) = x.0 ∙ sym y.0
  dry_same doc (suc most) (suc more) left a b p (inl x, none) (inr y, none2) = absurd (no_stop Alone alone_look extends_alone seat line (alone_unfailed seat line) doc left y.0 a Done x.0 x.1 y.1)
  dry_same doc (suc most) (suc more) left a b p (inr x, none) (inl y, none2) = absurd (no_stop Alone alone_look extends_alone seat line (alone_unfailed seat line) doc left x.0 b Done y.0 y.1 x.1)
  dry_same doc (suc most) (suc more) left a b p (inr x, none) (inr y, none2) =
      let e = same_mid Alone alone_look extends_alone seat line (alone_unfailed seat line) doc left x.0 y.0 a b p x.1 y.1 (drains_on Alone alone_look extends_alone seat line (alone_unfailed seat line) doc most x.0 a Done x.2) (drains_on Alone alone_look extends_alone seat line (alone_unfailed seat line) doc more y.0 b Done y.2) in
      dry_same doc most more x.0 a b p (x.2, none) (subst (λ (j : List Entry). Drains by Alone doc more j b Done) e y.2, none2)
