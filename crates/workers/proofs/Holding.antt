-- What a drained update keeps: a seat that held no lock holds none after it, and it acquires no other document.
use Rattle.std.proofs.Common.{◌≡◌, ◌≢◌, ℕ, ◌==◌, zero, suc, List, [], ◌∷◌, ◌++◌, map, Bool, true, false, not, ◌&&◌, refl, sym, ap, ap₂, ◌∙◌, subst, inl, inr, append_assoc, ne_eqb}
use Rattle.std.specs.Prelude.{Option, Some, None}
use Rattle.std.specs.List.{list_all}
use Rattle.std.proofs.lemmas.List.Folds.{list_all-append}
use Rattle.journal_entries.specs.declared.act.Act.{Act}
use Rattle.journal_entries.specs.declared.act.Entry.{Entry}
use Rattle.journal_rules.specs.Keeping.{cached}
use Rattle.turn_rules.specs.Draining.{IsLoad, Caches, refused_unless, TakesUp, Under, IsCommit, IsRelease, Settles, DrainsOne}
use Rattle.turn_rules.specs.Locking.{acquired}
use Rattle.turn_rules.specs.Turns.{Among, entry_by}
use Rattle.run_rules.specs.Threads.{DrainsOn, is_by}
use Rattle.seat_turns.specs.Seats.{HoldsNoLock, acquires, is_acquiring}
use Rattle.seat_turns.proofs.Holding.{HoldsBut, Quiet, but_acquired, but_on, none_among, none_releases, quiet_among, quiet_made, quiet_map, quiet_on, quiet_release, quiet_turn}
use Rattle.workers.specs.Draining.{DrainsOf}
use Rattle.workers.specs.Sweeping.{IsSweptBy}

module _ (seat d : ℕ) where
  pub quiet_commit : (doc token : ℕ) (look made : List Entry) → Under (entry_by seat None) doc token (IsCommit doc token) look made → Quiet seat d look (look ++ made)
  quiet_commit doc token look made (inl x) = quiet_made seat d (x.0 ∷ []) look made x.2 (subst (λ (a : Act). list_all (λ x. not (is_acquiring d x)) (a ∷ []) ≡ true) (sym x.1.2) refl)
  quiet_commit doc token look made (inr x) = quiet_made seat d [] look made x.1 refl

  -- loading acquires nothing
  load_not : (doc : ℕ) (token : Option ℕ) (ready : Bool) (act : Act) → IsLoad doc token ready act → not (is_acquiring d act) ≡ true
  load_not doc token true act l = subst (λ (a : Act). not (is_acquiring d a) ≡ true) (sym l.1) refl
  load_not doc token false act (inl l) = subst (λ (a : Act). not (is_acquiring d a) ≡ true) (sym l.2) refl
  load_not doc token false act (inr l) = subst (λ (a : Act). not (is_acquiring d a) ≡ true) (sym l.2) refl

  loads_not : (there : Bool) (doc : ℕ) (token : Option ℕ) (ready : Bool) (acts : List Act) → Caches there doc token ready acts → list_all (λ x. not (is_acquiring d x)) acts ≡ true
  loads_not true doc token ready acts c = subst (λ (xs : List Act). list_all (λ x. not (is_acquiring d x)) xs ≡ true) (sym c.1) refl
  loads_not false doc token ready acts c =
      subst (λ (xs : List Act). list_all (λ x. not (is_acquiring d x)) xs ≡ true) (sym c.2) (ap (λ (b : Bool). b && true) (load_not doc token ready c.0 c.1))

  refused_not : (ready : Bool) (doc token ticket : ℕ) → list_all (λ x. not (is_acquiring d x)) (refused_unless ready doc token ticket) ≡ true
  refused_not true doc token ticket = refl
  refused_not false doc token ticket = refl

  pub after_not : (doc token : ℕ) (ready : Bool) (look made : List Entry) → (t : TakesUp (entry_by seat None) doc token ready look made) → list_all (λ x. not (is_acquiring d x)) (t.loading ++ refused_unless ready doc token t.ticket) ≡ true
  after_not doc token ready look made t =
      list_all-append (λ x. not (is_acquiring d x)) t.loading (refused_unless ready doc token t.ticket)
      ∙ ap₂ (λ (p q : Bool). p && q) (loads_not (cached doc look) doc (Some token) ready t.loading t.caches) (refused_not ready doc token t.ticket)

  -- taking up one document acquires no other
  quiet_takes : (doc token : ℕ) (ready : Bool) → doc ≢ d → (look made : List Entry) → TakesUp (entry_by seat None) doc token ready look made → Quiet seat d look (look ++ made)
  quiet_takes doc token ready other look made t =
      quiet_made seat d (acquired doc look ∷ t.loading ++ refused_unless ready doc token t.ticket) look made t.made_is
      (ap₂ (λ (p q : Bool). p && q) (ap not (ne_eqb doc d other)) (after_not doc token ready look made t))

  quiet_settles : (ready : Bool) (doc token : ℕ) (left last : List Entry) → Settles (entry_by seat None) (Among (is_by seat)) ready doc token left last → Quiet seat d left last
  quiet_settles true doc token left last s =
      quiet_on seat d left s.0 last (quiet_turn seat d (Under (entry_by seat None) doc token (IsCommit doc token)) (quiet_commit doc token) left s.0 s.1)
      (quiet_turn seat d (Under (entry_by seat None) doc token (IsRelease doc token)) (quiet_release seat d doc token) s.0 last s.2)
  quiet_settles false doc token left last s = quiet_turn seat d (Under (entry_by seat None) doc token (IsRelease doc token)) (quiet_release seat d doc token) left last s

  pub quiet_one : (doc : ℕ) (left last : List Entry) → doc ≢ d → DrainsOne (entry_by seat None) (Among (is_by seat)) doc left last → Quiet seat d left last
  quiet_one doc left last other x =
      quiet_on seat d left x.2 last (quiet_turn seat d (TakesUp (entry_by seat None) doc x.0 x.1) (quiet_takes doc x.0 x.1 other) left x.2 x.3) (quiet_settles x.1 doc x.0 x.2 last x.4)

  pub quiet_of : (doc n : ℕ) (left last : List Entry) → doc ≢ d → DrainsOf seat doc n left last → Quiet seat d left last
  quiet_of doc zero left last other x = quiet_among seat d left last x
  quiet_of doc (suc n) left last other x = quiet_on seat d left x.0 last (quiet_one doc left x.0 other x.1) (quiet_of doc n x.0 last other x.2)

  -- a document that was swept stays so
  pub swept_quiet : (drivers : ℕ) (seen journal : List Entry) → IsSweptBy drivers seat d seen → Quiet seat d seen journal → IsSweptBy drivers seat d journal
  swept_quiet drivers seen journal l more = record {
    look = l.look;
    rest = l.rest ++ more.0;
    seen_is = more.1 ∙ ap (λ (j : List Entry). j ++ more.0) l.seen_is ∙ append_assoc l.look l.rest more.0;
    closed = l.closed;
    no_more = list_all-append (λ e. not (acquires seat d e)) l.rest more.0 ∙ ap₂ (λ (p q : Bool). p && q) l.no_more more.2;
    left = l.left;
  }

but_takes : (seat doc token : ℕ) (ready : Bool) (look made : List Entry) → HoldsNoLock seat look → TakesUp (entry_by seat None) doc token ready look made → HoldsBut seat doc token (look ++ made)
but_takes seat doc token ready look made none t =
    let acts = t.loading ++ refused_unless ready doc token t.ticket in
    let first = entry_by seat None (acquired doc look) in
    let whole : look ++ made ≡ (look ++ first ∷ []) ++ map (entry_by seat None) acts = ap (λ (m : List Entry). look ++ m) t.made_is ∙ sym (append_assoc look (first ∷ []) (map (entry_by seat None) acts)) in
    but_on seat doc token (look ++ first ∷ []) (look ++ made) (λ d. (map (entry_by seat None) acts, whole, quiet_map seat d acts (after_not seat d doc token ready look made t)))
    (subst (λ (k : ℕ). HoldsBut seat doc k (look ++ first ∷ [])) (sym t.token_is) (but_acquired seat doc look none))

module _ (seat : ℕ) where
  none_settles : (ready : Bool) (doc token : ℕ) (left last : List Entry) → HoldsBut seat doc token left → Settles (entry_by seat None) (Among (is_by seat)) ready doc token left last → HoldsNoLock seat last
  none_settles true doc token left last but s =
      none_releases seat doc token s.0 last (but_on seat doc token left s.0 (λ d. quiet_turn seat d (Under (entry_by seat None) doc token (IsCommit doc token)) (quiet_commit seat d doc token) left s.0 s.1) but) s.2
  none_settles false doc token left last but s = none_releases seat doc token left last but s

  pub none_one : (doc : ℕ) (left last : List Entry) → HoldsNoLock seat left → DrainsOne (entry_by seat None) (Among (is_by seat)) doc left last → HoldsNoLock seat last
  none_one doc left last none x =
      let t = x.3 in
      none_settles x.1 doc x.0 x.2 last (subst (λ (j : List Entry). HoldsBut seat doc x.0 j) (sym t.4) (but_takes seat doc x.0 x.1 t.0 t.1 (none_among seat left t.0 t.2 none) t.3)) x.4

  pub none_of : (doc n : ℕ) (left last : List Entry) → HoldsNoLock seat left → DrainsOf seat doc n left last → HoldsNoLock seat last
  none_of doc zero left last none x = none_among seat left last x none
  none_of doc (suc n) left last none x = none_of doc n x.0 last (none_one doc left x.0 none x.1) x.2

  pub none_on : (n : ℕ) (left last : List Entry) → HoldsNoLock seat left → DrainsOn seat n left last → HoldsNoLock seat last
  none_on zero left last none x = none_among seat left last x none
  none_on (suc n) left last none x = none_on n x.1 last (none_one x.0 left x.1 none x.2) x.3
