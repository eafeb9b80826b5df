-- What was handed out of histories while a crew went on: nobody but those who do lines hands anything out.
use Rattle.std.proofs.Common.{◌≡◌, ◌⊎◌, ℕ, ◌+◌, ◌-◌, ◌<◌, ◌≤◌, zero, suc, List, [], ◌∷◌, ◌++◌, map, length, All, Bool, true, false, not, ◌&&◌, ◌||◌, refl, sym, ap, ap₂, ◌∙◌, subst, inl, inr, true≢false, arith, append_assoc, append-nil, eq-eqb}
use Rattle.std.specs.Prelude.{◌==◌, Option, Some, None, nat_lt, nat_le, get_or, if◌then◌else◌}
use Rattle.std.specs.List.{list_all}
use Rattle.std.proofs.lemmas.Bool.{and_parts, cases_lt}
use Rattle.std.proofs.lemmas.Bool.Decides.{nat_tests}
use Rattle.std.proofs.lemmas.List.Folds.{list_all-append}
use Rattle.history_queue.specs.declared.item.Item.{Item}
use Rattle.journal_entries.specs.declared.act.Act.{Act}
use Rattle.journal_entries.specs.declared.act.Act.TheVariants.{Handed}
use Rattle.journal_entries.specs.declared.act.Entry.{Entry}
use Rattle.journal_rules.specs.Keeping.{cached}
use Rattle.journal_rules.specs.Locks.{next_token}
use Rattle.journal_rules.proofs.Lists.{same_cut}
use Rattle.project_histories.specs.Handing.{items_of}
use Rattle.session_lines.specs.declared.line.Line.{Line}
use Rattle.turn_rules.specs.Draining.{IsLoad, Caches, refused_unless, TakesUp, Under, IsCommit, IsRelease, Releases, Settles, DrainsOne}
use Rattle.turn_rules.specs.Flushing.{IsPut}
use Rattle.turn_rules.specs.Locking.{acquired}
use Rattle.turn_rules.specs.Turns.{Among, Turn, entry_by}
use Rattle.run_rules.specs.Threads.{driver_seat, worker_seat, flusher_seat, is_of_crew, is_by, with_workers, DrainsOn, FlushesOn}
use Rattle.script_driver.specs.Handing.{items_handed, items_handed_by}
use Rattle.script_driver.proofs.Handing.{handed_by-none, handed_by-push}
use Rattle.board.specs.Views.{SawAll}
use Rattle.flusher.proofs.Ends.{PutsAt}
use Rattle.crew_rules.specs.Together.{GoesTogether}
use Rattle.crew_rules.proofs.Seen.{saw_among}

-- ---- acts that hand nothing out
abbrev pub hands_none : Act → Bool
hands_none (Handed project count) = false
hands_none _ = true

nothing_handed : (j : List Entry) (act : Act) → hands_none act ≡ true → items_of j act ≡ []
nothing_handed j (Handed project count) e = absurd (true≢false (sym e))
nothing_handed j _ e = refl

-- ---- a journal has grown, and this seat handed nothing out
module _ (seat : ℕ) where
  abbrev still : Entry → Bool
  still e = not (is_by seat e) || hands_none e.act

  abbrev pub Still : List Entry → List Entry → Type 0
  Still a b = (more : List Entry) × (b ≡ a ++ more) × (list_all (λ e. still e) more ≡ true)

  still_on : (a b c : List Entry) → Still a b → Still b c → Still a c
  still_on a b c x y = (
    x.0 ++ y.0,
    y.1 ∙ ap (λ (j : List Entry). j ++ y.0) x.1 ∙ append_assoc a x.0 y.0,
    list_all-append (λ e. still e) x.0 y.0 ∙ ap₂ (λ (p q : Bool). p && q) x.2 y.2,
  )

  others_still : (es : List Entry) → list_all (λ e. not (is_by seat e)) es ≡ true → list_all (λ e. still e) es ≡ true
  others_still [] all = refl
  others_still (e ∷ es) all =
      let both = and_parts (not (is_by seat e)) (list_all (λ e. not (is_by seat e)) es) all in
      ap₂ (λ (p q : Bool). (p || hands_none e.act) && q) both.0 (others_still es both.1)

  still_among : (a b : List Entry) → Among (is_by seat) a b → Still a b
  still_among a b x = (x.0, x.1, others_still x.0 x.2)

  acts_still : (acts : List Act) → list_all hands_none acts ≡ true → list_all (λ e. still e) (map (entry_by seat None) acts) ≡ true
  acts_still [] all = refl
  acts_still (act ∷ acts) all =
      let both = and_parts (hands_none act) (list_all hands_none acts) all in
      ap₂ (λ (p q : Bool). (not (seat == seat) || p) && q) both.0 (acts_still acts both.1) ∙ or_true (not (seat == seat))
    where
      or_true : (b : Bool) → ((b || true) && true) ≡ true
      or_true true = refl
      or_true false = refl

  still_made : (acts : List Act) (look made : List Entry) → made ≡ map (entry_by seat None) acts → list_all hands_none acts ≡ true → Still look (look ++ made)
  still_made acts look made is all = (made, refl, subst (λ (m : List Entry). list_all (λ e. still e) m ≡ true) (sym is) (acts_still acts all))

  still_turn : (Makes : List Entry → List Entry → Type 0) → ((look made : List Entry) → Makes look made → Still look (look ++ made)) → (left last : List Entry) → Turn (Among (is_by seat)) Makes left last → Still left last
  still_turn Makes made left last t = still_on left t.0 last (still_among left t.0 t.2) (subst (λ (j : List Entry). Still t.0 j) (sym t.4) (made t.0 t.1 t.3))

  -- ---- drained updates
  one_act : (act other : Act) → act ≡ other → hands_none other ≡ true → list_all hands_none (act ∷ []) ≡ true
  one_act act other is none = ap (λ (a : Act). hands_none a && true) is ∙ ap (λ (b : Bool). b && true) none

  still_commit : (doc token : ℕ) (look made : List Entry) → Under (entry_by seat None) doc token (IsCommit doc token) look made → Still look (look ++ made)
  still_commit doc token look made (inl x) = still_made (x.0 ∷ []) look made x.2 (one_act x.0 _ x.1.2 refl)
  still_commit doc token look made (inr x) = still_made [] look made x.1 refl

  still_release : (doc token : ℕ) (look made : List Entry) → Under (entry_by seat None) doc token (IsRelease doc token) look made → Still look (look ++ made)
  still_release doc token look made (inl x) = still_made (x.0 ∷ []) look made x.2 (one_act x.0 _ x.1 refl)
  still_release doc token look made (inr x) = still_made [] look made x.1 refl

  releases_still : (doc token : ℕ) (left last : List Entry) → Releases (entry_by seat None) (Among (is_by seat)) doc token left last → Still left last
  releases_still doc token left last r = still_turn (Under (entry_by seat None) doc token (IsRelease doc token)) (still_release doc token) left last r

  settles_still : (ready : Bool) (doc token : ℕ) (left last : List Entry) → Settles (entry_by seat None) (Among (is_by seat)) ready doc token left last → Still left last
  settles_still true doc token left last s =
      still_on left s.0 last (still_turn (Under (entry_by seat None) doc token (IsCommit doc token)) (still_commit doc token) left s.0 s.1) (releases_still doc token s.0 last s.2)
  settles_still false doc token left last s = releases_still doc token left last s

  loads : (there : Bool) (doc : ℕ) (token : Option ℕ) (ready : Bool) (acts : List Act) → Caches there doc token ready acts → list_all hands_none acts ≡ true
  loads true doc token ready acts c = ap (λ (xs : List Act). list_all hands_none xs) c.1
  loads false doc token ready acts c = ap (λ (xs : List Act). list_all hands_none xs) c.2 ∙ load ready c.0 c.1
    where
      load : (ready : Bool) (act : Act) → IsLoad doc token ready act → list_all hands_none (act ∷ []) ≡ true
      load true act l = one_act act _ l.1 refl
      load false act (inl l) = one_act act _ l.2 refl
      load false act (inr l) = one_act act _ l.2 refl

  refused : (ready : Bool) (doc token ticket : ℕ) → list_all hands_none (refused_unless ready doc token ticket) ≡ true
  refused true doc token ticket = refl
  refused false doc token ticket = refl

  still_takes : (doc token : ℕ) (ready : Bool) (look made : List Entry) → TakesUp (entry_by seat None) doc token ready look made → Still look (look ++ made)
  still_takes doc token ready look made t =
      still_made (acquired doc look ∷ t.loading ++ refused_unless ready doc token t.ticket) look made t.made_is
      (list_all-append hands_none t.loading (refused_unless ready doc token t.ticket) ∙ ap₂ (λ (p q : Bool). p && q) (loads (cached doc look) doc (Some token) ready t.loading t.caches) (refused ready doc token t.ticket))

  pub drains_still : (n : ℕ) (left last : List Entry) → DrainsOn seat n left last → Still left last
  drains_still zero left last d = still_among left last d
  drains_still (suc n) left last d = still_on left d.1 last (one d.0 left d.1 d.2) (drains_still n d.1 last d.3)
    where
      one : (doc : ℕ) (left last : List Entry) → DrainsOne (entry_by seat None) (Among (is_by seat)) doc left last → Still left last
      one doc left last x = still_on left x.2 last (still_turn (TakesUp (entry_by seat None) doc x.0 x.1) (still_takes doc x.0 x.1) left x.2 x.3) (settles_still x.1 doc x.0 x.2 last x.4)

  -- ---- flushes
  still_wrote : (act other : Act) (left : List Entry) → act ≡ other → hands_none other ≡ true → Still left (left ++ entry_by seat None act ∷ [])
  still_wrote act other left is none = still_made (act ∷ []) left (entry_by seat None act ∷ []) refl (one_act act other is none)

  put_still : (doc token : ℕ) (at : List Entry) (act : Act) → IsPut doc token act → Still at (at ++ entry_by seat None act ∷ [])
  put_still doc token at act (inl x) = still_wrote act _ at x.1 refl
  put_still doc token at act (inr x) = still_wrote act _ at x.2 refl

  puts_still : (doc token : ℕ) (at last : List Entry) → PutsAt (Among (is_by seat)) seat doc token at last → Still at last
  puts_still doc token at last (inl p) = let put = at ++ entry_by seat None p.0 ∷ [] in still_on at put last (put_still doc token at p.0 p.1) (releases_still doc token put last p.2)
  puts_still doc token at last (inr p) = ([], p.1, refl)

  pub flushes_still : (n : ℕ) (left last : List Entry) → FlushesOn seat n left last → Still left last
  flushes_still zero left last d = still_among left last d
  flushes_still (suc n) left last d =
      let first = d.1 ++ entry_by seat None (acquired d.0 d.1) ∷ [] in
      let token = next_token d.1 in
      let put = d.5 in
      still_on left d.1 last (still_among left d.1 d.3)
      (still_on d.1 first last (still_wrote (acquired d.0 d.1) (acquired d.0 d.1) d.1 refl refl)
      (still_on first d.2 last (still_on first put.0 d.2 (still_among first put.0 put.1) (puts_still d.0 token put.0 d.2 put.2)) (flushes_still n d.2 last d.6)))

-- ---- each entry that hands something out is by a driver
module _ (workers : ℕ) (lines : List Line) where
  abbrev mine : Entry → Bool
  mine e = is_by (driver_seat 0) e

  abbrev IsMine : Entry → Type 0
  IsMine e = (mine e || hands_none e.act) ≡ true

  each : (p : Entry → Bool) (es : List Entry) → list_all p es ≡ true → (i : ℕ) (x : Entry) → i < length es → p (get_or es i x) ≡ true
  each p [] all i x lt = absurd (omega (arith, lt))
  each p (e ∷ es) all zero x lt = (and_parts (p e) (list_all p es) all).0
  each p (e ∷ es) all (suc i) x lt = each p es (and_parts (p e) (list_all p es) all).1 i x (omega (arith, lt))

  cancelled : (seat : ℕ) (start between : List Entry) → Still seat start (start ++ between) → list_all (λ e. still seat e) between ≡ true
  cancelled seat start between s = subst (λ (es : List Entry). list_all (λ e. still seat e) es ≡ true) (sym (same_cut start between start s.0 s.1 refl).1) s.2

  -- one that is by no driver is by one who hands nothing out
  by_seat : (e : Entry) → is_of_crew (with_workers workers) e.seat ≡ true → ((w : ℕ) → w < workers → still (worker_seat (with_workers workers) w) e ≡ true) → still (flusher_seat (with_workers workers)) e ≡ true → IsMine e
  by_seat e is by_worker by_flusher = go (cases_lt e.seat 2)
    where
      range : (0 < e.seat) × (e.seat ≤ 2 + workers)
      range = let both = and_parts (nat_lt 0 e.seat) (nat_le e.seat (2 + workers)) is in (above e.seat both.0, below e.seat (2 + workers) both.1)
        where
          above : (seat : ℕ) → nat_lt 0 seat ≡ true → 0 < seat
          above seat e = grind (arith, nat_tests)

          below : (seat top : ℕ) → nat_le seat top ≡ true → seat ≤ top
          below seat top e = grind (arith, nat_tests)

      its_own : (b n : Bool) → b ≡ true → (not b || n) ≡ true → n ≡ true
      its_own true n is h = h
      its_own false n is h = absurd (true≢false (sym is))

      or_right : (a b : Bool) → b ≡ true → (a || b) ≡ true
      or_right true b is = refl
      or_right false b is = is

      or_left : (a b : Bool) → a ≡ true → (a || b) ≡ true
      or_left true b is = refl
      or_left false b is = absurd (true≢false (sym is))

      other : 2 ≤ e.seat → (e.seat < 2 + workers) ⊎ (2 + workers ≤ e.seat) → IsMine e
      other le (inl lt) =
          let w = e.seat - 2 in
          let here : (e.seat == 2 + w) ≡ true = eq-eqb e.seat (2 + w) (omega (arith, le)) in
          or_right (mine e) (hands_none e.act) (its_own (e.seat == 2 + w) (hands_none e.act) here (by_worker w (omega (arith, lt, le))))
      other le (inr more) =
          let top = range.1 in
          let here : (e.seat == 2 + workers) ≡ true = eq-eqb e.seat (2 + workers) (omega (arith, top, more)) in
          or_right (mine e) (hands_none e.act) (its_own (e.seat == 2 + workers) (hands_none e.act) here by_flusher)

      go : (e.seat < 2) ⊎ (2 ≤ e.seat) → IsMine e
      go (inl lt) = let low = range.0 in or_left (mine e) (hands_none e.act) (eq-eqb e.seat 1 (omega (arith, lt, low)))
      go (inr le) = other le (cases_lt e.seat (2 + workers))

  by_drivers : (start between : List Entry) → GoesTogether (with_workers workers) lines start (start ++ between) → list_all (λ e. is_of_crew (with_workers workers) e.seat) between ≡ true → All IsMine between
  by_drivers start between t crew_only = λ i x lt.
      by_seat (get_or between i x) (each (λ e. is_of_crew (with_workers workers) e.seat) between crew_only i x lt)
      (λ w low. let f = t.worker w low in let seat = worker_seat (with_workers workers) w in each (λ e. still seat e) between (cancelled seat start between (drains_still seat f.0 start (start ++ between) f.1)) i x lt)
      (let f = t.flusher in let seat = flusher_seat (with_workers workers) in each (λ e. still seat e) between (cancelled seat start between (flushes_still seat f.0 start (start ++ between) f.1)) i x lt)

-- ---- what was handed out
-- others' entries hand nothing out of one's own
pub others_hand : (own : Entry → Bool) (j es : List Entry) → list_all (λ e. not (own e)) es ≡ true → items_handed_by own (j ++ es) ≡ items_handed_by own j
others_hand own j [] all = ap (items_handed_by own) (append-nil j)
others_hand own j (e ∷ es) all =
    let both = and_parts (not (own e)) (list_all (λ e. not (own e)) es) all in
    ap (items_handed_by own) (sym (append_assoc j (e ∷ []) es)) ∙ others_hand own (j ++ e ∷ []) es both.1 ∙ handed_by-push own j e
    ∙ ap (λ (xs : List Item). items_handed_by own j ++ xs) (none (own e) both.0) ∙ append-nil (items_handed_by own j)
  where
    none : (b : Bool) → not b ≡ true → (if b then items_of j e.act else []) ≡ []
    none false is = refl
    none true is = absurd (true≢false (sym is))

-- where one hands out all that is handed out, that is all
same_handed : (own : Entry → Bool) (j es : List Entry) → All (λ (e : Entry). (own e || hands_none e.act) ≡ true) es → items_handed j ≡ items_handed_by own j → items_handed (j ++ es) ≡ items_handed_by own (j ++ es)
same_handed own j [] all same = ap items_handed (append-nil j) ∙ same ∙ ap (items_handed_by own) (sym (append-nil j))
same_handed own j (e ∷ es) all same =
    let next : items_handed (j ++ e ∷ []) ≡ items_handed_by own (j ++ e ∷ []) =
    handed_by-push (λ e. true) j e ∙ ap₂ (λ (xs ys : List Item). xs ++ ys) same (one (own e) (hands_none e.act) refl (all 0 e (omega arith))) ∙ sym (handed_by-push own j e) in
    subst (λ (k : List Entry). items_handed k ≡ items_handed_by own k) (append_assoc j (e ∷ []) es) (same_handed own (j ++ e ∷ []) es (λ k d h. all (suc k) d (omega (arith, h))) next)
  where
    one : (b n : Bool) → hands_none e.act ≡ n → (b || n) ≡ true → items_of j e.act ≡ (if b then items_of j e.act else [])
    one true n is h = refl
    one false n is h = nothing_handed j e.act (is ∙ h)

none_of_driver : (es : List Entry) → All (λ (e : Entry). e.seat ≡ 0) es → list_all (λ e. not (is_by (driver_seat 0) e)) es ≡ true
none_of_driver [] all = refl
none_of_driver (e ∷ es) all = ap₂ (λ (s : ℕ) (q : Bool). not (s == 1) && q) (all 0 e (omega arith)) (none_of_driver es (λ k d h. all (suc k) d (omega (arith, h))))

pub driver_handed : (workers : ℕ) (lines : List Line) (start seen journal : List Entry) → All (λ (e : Entry). e.seat ≡ 0) start → items_handed start ≡ [] → GoesTogether (with_workers workers) lines start journal → SawAll journal (driver_seat 0, seen)
    → items_handed journal ≡ items_handed_by (is_by (driver_seat 0)) seen
driver_handed workers lines start seen journal first none t saw =
    let own : Entry → Bool = is_by (driver_seat 0) in
    let among = saw_among (driver_seat 0) seen journal saw in
    let at_start : items_handed start ≡ items_handed_by own start = none ∙ sym (others_hand own [] start (none_of_driver start first) ∙ handed_by-none own) in
    let here = subst (λ (j : List Entry). GoesTogether (with_workers workers) lines start j) t.journal_is t in
    ap items_handed t.journal_is ∙ same_handed own start t.between (by_drivers workers lines start t.between here t.crew_only) at_start ∙ ap (items_handed_by own) (sym t.journal_is)
    ∙ ap (items_handed_by own) among.1 ∙ others_hand own seen among.0 among.2
