-- A drain takes the lock at most as often as it may, also among others.
use Rattle.std.proofs.Common.{◌≡◌, ℕ, ◌+◌, ◌≤◌, zero, suc, List, [], ◌∷◌, ◌++◌, length, Bool, true, false, not, true≢false, ◌&&◌, refl, sym, ap, ◌∙◌, subst, inl, inr, arith}
use Rattle.std.specs.Prelude.{Option, Some, map, filter, if◌then◌else◌}
use Rattle.std.specs.List.{list_all}
use Rattle.journal_entries.specs.declared.act.Act.{Act}
use Rattle.journal_entries.specs.declared.act.Entry.{Entry}
use Rattle.journal_rules.specs.Keeping.{cached}
use Rattle.run_rules.specs.Counting.{is_taking, takings}
use Rattle.turn_rules.specs.Draining.{IsLoad, Caches, refused_unless, TakesUp, Under, IsCommit, IsRelease, Releases, Settles, DrainsOne, Drains, Stop}
use Rattle.turn_rules.specs.Locking.{acquired}
use Rattle.turn_rules.specs.Turns.{Among, Turn, entry_by}

module _ (own : Entry → Bool) where
  abbrev counts : Entry → Bool
  counts e = own e && is_taking e.act

  filtered : (a b : List Entry) → length (filter counts (a ++ b)) ≡ length (filter counts a) + length (filter counts b)
  filtered [] b = omega arith
  filtered (e ∷ a) b = go (counts e) (filtered a b)
    where
      go : (c : Bool) → length (filter counts (a ++ b)) ≡ length (filter counts a) + length (filter counts b)
          → length (if c then e ∷ filter counts (a ++ b) else filter counts (a ++ b)) ≡ length (if c then e ∷ filter counts a else filter counts a) + length (filter counts b)
      go true h = omega (arith, h)
      go false h = h

  -- others take nothing of one's own
  others : (more : List Entry) → list_all (λ e. not (own e)) more ≡ true → takings own more ≡ 0
  others [] all = refl
  others (e ∷ more) all = go (own e) all (others more)
    where
      go : (o : Bool) → (not o && list_all (λ e. not (own e)) more) ≡ true → (list_all (λ e. not (own e)) more ≡ true → takings own more ≡ 0)
          → length (if o && is_taking e.act then e ∷ filter counts more else filter counts more) ≡ 0
      go true all rest = absurd (true≢false (sym all))
      go false all rest = rest all

  next_same : (left look : List Entry) → Among own left look → takings own look ≡ takings own left
  next_same left look n = let e = ap (takings own) n.1 ∙ filtered left n.0 in omega (arith, e, others n.0 n.2)

  module _ (seat : ℕ) (line : Option ℕ) where
    abbrev by : Act → Entry
    by = entry_by seat line

    at_most_one : (act : Act) → takings own (by act ∷ []) ≤ 1
    at_most_one act = go (counts (by act))
      where
        go : (c : Bool) → length (if c then by act ∷ [] else []) ≤ 1
        go true = omega arith
        go false = omega arith

    no_taking : (act : Act) → is_taking act ≡ false → takings own (by act ∷ []) ≡ 0
    no_taking act is = go (own (by act)) (is_taking act) is
      where
        go : (o t : Bool) → t ≡ false → length (if o && t then by act ∷ [] else []) ≡ 0
        go o true e = absurd (true≢false e)
        go true false e = refl
        go false false e = refl

    abbrev AreNone : List Act → Type 0
    AreNone [] = Unit {0}
    AreNone (act ∷ acts) = (is_taking act ≡ false) × AreNone acts

    none_taken : (acts : List Act) → AreNone acts → takings own (map by acts) ≡ 0
    none_taken [] none = refl
    none_taken (act ∷ acts) none = omega (arith, filtered (by act ∷ []) (map by acts), no_taking act none.0, none_taken acts none.1)

    load_none : (doc : ℕ) (token : Option ℕ) (ready : Bool) (act : Act) → IsLoad doc token ready act → is_taking act ≡ false
    load_none doc token true act l = ap is_taking l.1
    load_none doc token false act (inl l) = ap is_taking l.2
    load_none doc token false act (inr l) = ap is_taking l.2

    loading_none : (here : Bool) (doc : ℕ) (token : Option ℕ) (ready refused : Bool) (t ticket : ℕ) (acts : List Act) → Caches here doc token ready acts → AreNone (acts ++ refused_unless refused doc t ticket)
    loading_none true doc token ready true t ticket acts c = subst (λ (l : List Act). AreNone (l ++ [])) (sym c.1) tt
    loading_none true doc token ready false t ticket acts c = subst (λ (l : List Act). AreNone (l ++ refused_unless false doc t ticket)) (sym c.1) (refl, tt)
    loading_none false doc token ready true t ticket acts c = subst (λ (l : List Act). AreNone (l ++ [])) (sym c.2) (load_none doc token ready c.0 c.1, tt)
    loading_none false doc token ready false t ticket acts c = subst (λ (l : List Act). AreNone (l ++ refused_unless false doc t ticket)) (sym c.2) (load_none doc token ready c.0 c.1, (refl, tt))

    turn_adds : (Makes : List Entry → List Entry → Type 0) (n : ℕ) → ((look made : List Entry) → Makes look made → takings own made ≤ n) → (left last : List Entry) → Turn (Among own) Makes left last → takings own last ≤ takings own left + n
    turn_adds Makes n few left last t =
        omega (arith, next_same left t.0 t.2, few t.0 t.1 t.3, ap (takings own) t.4, filtered t.0 t.1)

    takes_up : (doc token : ℕ) (ready : Bool) (look made : List Entry) → TakesUp by doc token ready look made → takings own made ≤ 1
    takes_up doc token ready look made t =
        let rest : takings own (map by (t.loading ++ refused_unless ready doc token t.ticket)) ≡ 0 =
        none_taken (t.loading ++ refused_unless ready doc token t.ticket) (loading_none (cached doc look) doc (Some token) ready ready token t.ticket t.loading t.caches) in
        omega (arith, ap (takings own) t.made_is, filtered (by (acquired doc look) ∷ []) (map by (t.loading ++ refused_unless ready doc token t.ticket)), at_most_one (acquired doc look), rest)

    under_none : (doc token : ℕ) (Is : Act → Type 0) → ((act : Act) → Is act → is_taking act ≡ false) → (look made : List Entry) → Under by doc token Is look made → takings own made ≤ 0
    under_none doc token Is never look made (inl x) = omega (arith, ap (takings own) x.2, no_taking x.0 (never x.0 x.1))
    under_none doc token Is never look made (inr x) = omega (arith, ap (takings own) x.1)

    releases_none : (doc token : ℕ) (left last : List Entry) → Releases by (Among own) doc token left last → takings own last ≤ takings own left + 0
    releases_none doc token left last r = turn_adds (Under by doc token (IsRelease doc token)) 0 (under_none doc token (IsRelease doc token) (λ act is. ap is_taking is)) left last r

    settles_none : (ready : Bool) (doc token : ℕ) (left last : List Entry) → Settles by (Among own) ready doc token left last → takings own last ≤ takings own left + 0
    settles_none true doc token left last s =
        omega (arith, turn_adds (Under by doc token (IsCommit doc token)) 0 (under_none doc token (IsCommit doc token) (λ act is. ap is_taking is.2)) left s.0 s.1, releases_none doc token s.0 last s.2)
    settles_none false doc token left last s = releases_none doc token left last s

    drains_one_adds : (doc : ℕ) (left last : List Entry) → DrainsOne by (Among own) doc left last → takings own last ≤ takings own left + 1
    drains_one_adds doc left last d =
        omega (arith, turn_adds (TakesUp by doc d.0 d.1) 1 (takes_up doc d.0 d.1) left d.2 d.3, settles_none d.1 doc d.0 d.2 last d.4)

    pub drains_add : (doc most : ℕ) (left last : List Entry) (stop : Stop) → Drains by (Among own) doc most left last stop → takings own last ≤ takings own left + most
    drains_add doc zero left last stop d = omega (arith, ap (takings own) d.1)
    drains_add doc (suc most) left last stop (inl x) = omega (arith, next_same left last x.0)
    drains_add doc (suc most) left last stop (inr x) = omega (arith, drains_one_adds doc left x.0 x.1, drains_add doc most x.0 last stop x.2)
