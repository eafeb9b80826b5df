-- What one drains, flushes, gets and does is determined by the journal as it was left, by what sessions kept, and by what others add between turns.
use Rattle.std.proofs.Common.{◌≡◌, ◌⊎◌, ℕ, zero, suc, List, [], ◌∷◌, ◌++◌, length, Bool, true, false, refl, sym, ap, ap₂, ◌∙◌, subst, inl, inr, append_assoc, append-nil}
use Rattle.std.specs.Prelude.{Option, Some, None, map}
use Rattle.std.specs.List.{list_all}
use Rattle.expiring_lock.specs.declared.refusal.Stale.{Stale}
use Rattle.journal_entries.specs.declared.message.Msg.{Msg}
use Rattle.journal_entries.specs.declared.update.Outcome.{Outcome}
use Rattle.journal_entries.specs.declared.act.Act.{Act}
use Rattle.journal_entries.specs.declared.act.Act.TheVariants.{Committed, Released, Flushed, FlushFailed, Got}
use Rattle.journal_entries.specs.declared.act.Entry.{Entry}
use Rattle.journal_entries.specs.declared.why.Why.{Why}
use Rattle.journal_rules.specs.Client.{client}
use Rattle.journal_rules.specs.Deciding.{decided}
use Rattle.journal_rules.specs.Documents.{number_of, update_at, waiting}
use Rattle.journal_rules.specs.Keeping.{cached, loading, FailedUnder}
use Rattle.journal_rules.specs.Legal.{IsAllowed, IsDecision, IsLegal, brief_of}
use Rattle.journal_rules.specs.Locks.{last_token, next_token, token_in, Holds as HoldsLock}
use Rattle.journal_rules.specs.Mail.{mail}
use Rattle.journal_rules.proofs.Legality.{allowed_next, legal_front}
use Rattle.journal_rules.proofs.Lists.{some_same}
use Rattle.session_lines.specs.declared.line.Line.{Line}
use Rattle.session_lines.specs.declared.line.Line.TheVariants.{Join, Sync, Finish, Drain, Hold, Flush}
use Rattle.turn_rules.specs.Clients.{is_present}
use Rattle.turn_rules.specs.Draining.{Caches, TakesUp, refused_unless, IsTakenOver, Under, IsCommit, IsRelease, Releases, Settles, DrainsOne, Drains, Stop, stop_by, StopsAt}
use Rattle.turn_rules.specs.Flushing.{IsPut, FlushesFrom}
use Rattle.run_rules.specs.Keeping.{Preparation, Preparations}
use Rattle.run_rules.specs.Lines.{joined_if, Joins, FinishesUnless, Finishes, GetsOne, GetsSoMany, DrainsSoMany, DrainsNamed, SyncsIf, Syncs, FlushesUnless, FlushesNamed, HoldsIf, HoldsUnless, HoldsNamed, Holds, not_holdable, late_acts, stop_acts, Does, Leads}
use Rattle.turn_rules.specs.Locking.{acquired, busy, staleness, unavailable}
use Rattle.run_rules.specs.Plain.{plain_acts}
use Rattle.turn_rules.specs.Turns.{Turn, entry_by}
use Rattle.run_rules.proofs.Growing.{any, does_grow, drains, flushes, gets, releases, settles, Extends, extends_on}
use Rattle.run_rules.proofs.Pinned.{Pair, pair_front, pair_same, pair_before, pair_next, AreNext, IsThis, this_same, first_ticket, committed_at, commit_is, caches_same, put_same}
use Rattle.run_rules.proofs.Whole.{maps}

pub extends_same : (j : List Entry) → Extends j j
extends_same j = ([], sym (append-nil j))

-- behind a turn that made a document ready, no loading of it has failed under the token
abbrev pub IsUnfailed : (List Entry → List Entry → Type 0) → ℕ → Option ℕ → Type 0
IsUnfailed Next seat line =
    (doc token : ℕ) (left made look : List Entry) → IsLegal look → TakesUp (entry_by seat line) doc token true left made → Next (left ++ made) look → loading doc look ≡ FailedUnder (Some token) → ⊥

-- whoever may write under a token has the last one of the document
stands_by : (seat doc token : ℕ) (look : List Entry) → HoldsLock seat doc token look → last_token doc look ≡ token
stands_by seat doc token look h = ap token_in h.held.last ∙ h.token_is

release_stands : (seat doc token : ℕ) (look : List Entry) (act : Act) → IsRelease doc token act → IsAllowed look seat act → last_token doc look ≡ token
release_stands seat doc token look act r may = of_release (subst (λ (a : Act). IsAllowed look seat a) r may)
  where
    of_release : IsAllowed look seat (Released doc token) → last_token doc look ≡ token
    of_release h = stands_by seat doc token look h

commit_stands : (seat doc token : ℕ) (look : List Entry) (act : Act) → IsCommit doc token act → IsAllowed look seat act → last_token doc look ≡ token
commit_stands seat doc token look act c may = of_commit (subst (λ (a : Act). IsAllowed look seat a) c.2 may)
  where
    of_commit : IsAllowed look seat (Committed doc token c.0 c.1) → last_token doc look ≡ token
    of_commit x = stands_by seat doc token look x.holds

put_stands : (seat doc token : ℕ) (look : List Entry) (act : Act) → IsPut doc token act → IsAllowed look seat act → last_token doc look ≡ token
put_stands seat doc token look act (inl x) may = of_flush (subst (λ (a : Act). IsAllowed look seat a) x.1 may)
  where
    of_flush : IsAllowed look seat (Flushed doc token x.0) → last_token doc look ≡ token
    of_flush f = stands_by seat doc token look f.holds
put_stands seat doc token look act (inr x) may = of_fault (subst (λ (a : Act). IsAllowed look seat a) x.2 may)
  where
    of_fault : IsAllowed look seat (FlushFailed doc token x.0 x.1) → last_token doc look ≡ token
    of_fault f = stands_by seat doc token look f.holds

-- what comes next is determined by what was left
module _ (Next : List Entry → List Entry → Type 0) (one_look : (left a b : List Entry) → Next left a → Next left b → a ≡ b) (on : (left look : List Entry) → Next left look → Extends left look) where
  -- a turn whose acts are the same from the same look
  pub turn_same : (Makes : List Entry → List Entry → Type 0) (left a b : List Entry) → ((look x y : List Entry) → Next left look → Makes look x → Makes look y → Pair (look ++ x) (look ++ y) → x ≡ y)
      → Pair a b → Turn Next Makes left a → Turn Next Makes left b → a ≡ b
  turn_same Makes left a b same p x y =
      let e : y.0 ≡ x.0 = one_look left y.0 x.0 y.2 x.2 in
      let y_is : b ≡ x.0 ++ y.1 = y.4 ∙ ap (λ (j : List Entry). j ++ y.1) e in
      let makes : Makes x.0 y.1 = subst (λ (j : List Entry). Makes j y.1) e y.3 in
      x.4 ∙ ap (λ (m : List Entry). x.0 ++ m) (same x.0 x.1 y.1 x.2 x.3 makes (pair_same a b (x.0 ++ x.1) (x.0 ++ y.1) x.4 y_is p)) ∙ sym y_is

  -- from the first look on
  from_left : (Makes : List Entry → List Entry → Type 0) → ((first a b : List Entry) → Pair a b → Makes first a → Makes first b → a ≡ b) → (left a b : List Entry) → Pair a b
      → ((first : List Entry) × Next left first × Makes first a) → ((first : List Entry) × Next left first × Makes first b) → a ≡ b
  from_left Makes same left a b p x y = same x.0 a b p x.2 (subst (λ (j : List Entry). Makes j b) (one_look left y.0 x.0 y.1 x.1) y.2)

  module _ (seat : ℕ) (line : Option ℕ) (unfailed : IsUnfailed Next seat line) where
    abbrev by : Act → Entry
    by = entry_by seat line

    writes : (acts : List Act) (j : List Entry) → Extends j (j ++ map by acts)
    writes acts j = (map by acts, refl)

    pub drains_on : (doc most : ℕ) (left last : List Entry) (stop : Stop) → Drains by Next doc most left last stop → Extends left last
    drains_on = drains any (λ act e. refl) Extends extends_same extends_on Next on by (λ acts may j. writes acts j)

    pub flushes_on : (late : List Entry → List Act) (doc : ℕ) (look last : List Entry) → FlushesFrom by Next late doc look last → Extends look last
    flushes_on late = flushes any (λ act e. refl) Extends extends_same extends_on Next on by (λ acts may j. writes acts j) late (λ look. any_all (late look))
      where
        any_all : (acts : List Act) → list_all any acts ≡ true
        any_all [] = refl
        any_all (act ∷ acts) = any_all acts

    pub gets_on : (n c : ℕ) (left last : List Entry) → GetsSoMany by Next n c left last → Extends left last
    gets_on = gets any (λ act e. refl) Extends extends_same extends_on Next on by (λ acts may j. writes acts j)

    settles_on : (ready : Bool) (doc token : ℕ) (left last : List Entry) → Settles by Next ready doc token left last → Extends left last
    settles_on = settles any (λ act e. refl) Extends extends_same extends_on Next on by (λ acts may j. writes acts j)

    releases_on : (doc token : ℕ) (left last : List Entry) → Releases by Next doc token left last → Extends left last
    releases_on = releases any (λ act e. refl) Extends extends_same extends_on Next on by (λ acts may j. writes acts j)

    -- ---- an update is taken up
    abbrev pub locked : ℕ → List Entry → List Entry
    locked doc look = look ++ by (acquired doc look) ∷ []

    abbrev taken : ℕ → ℕ → List Act → Bool → ℕ → List Entry → List Entry
    taken doc token loading ready ticket look = map by (acquired doc look ∷ loading ++ refused_unless ready doc token ticket)

    taken_is : (doc token : ℕ) (ready : Bool) (look made : List Entry) (t : TakesUp by doc token ready look made) → look ++ made ≡ (locked doc look ++ map by t.loading) ++ map by (refused_unless ready doc token t.ticket)
    taken_is doc token ready look made t =
        let refused = refused_unless ready doc token t.ticket in
        ap (λ (m : List Entry). look ++ m) t.made_is ∙ sym (append_assoc look (by (acquired doc look) ∷ []) (map by (t.loading ++ refused)))
        ∙ ap (λ (m : List Entry). locked doc look ++ m) (sym (maps seat line doc t.loading refused)) ∙ sym (append_assoc (locked doc look) (map by t.loading) (map by refused))

    pub takes_up_same : (doc n m : ℕ) (r s : Bool) (look x y : List Entry) → TakesUp by doc n r look x → TakesUp by doc m s look y → Pair (look ++ x) (look ++ y) → (r ≡ s) × (x ≡ y)
    takes_up_same doc n m r s look x y t u p =
        let token_same : m ≡ n = u.token_is ∙ sym t.token_is in
        let ticket_same : t.ticket ≡ u.ticket = ap first_ticket (sym t.first ∙ u.first) in
        let loaded : Pair (locked doc look ++ map by t.loading) (locked doc look ++ map by u.loading) =
        pair_front (locked doc look ++ map by t.loading) (map by (refused_unless r doc n t.ticket)) (locked doc look ++ map by u.loading) (map by (refused_unless s doc m u.ticket))
        (pair_same (look ++ x) (look ++ y) _ _ (taken_is doc n r look x t) (taken_is doc m s look y u) p) in
        let l = caches_same seat line (cached doc look) doc (Some n) r s t.loading u.loading (locked doc look) t.caches (subst (λ (k : ℕ). Caches (cached doc look) doc (Some k) s u.loading) token_same u.caches) loaded in
        (l.0, t.made_is ∙ ap₂ (λ (b : Bool) (acts : List Act). taken doc n acts b t.ticket look) l.0 l.1 ∙ ap₂ (λ (k : ℕ) (ticket : ℕ). taken doc k u.loading s ticket look) (sym token_same) ticket_same ∙ sym u.made_is)

    -- ---- a turn under a token
    under_same : (doc token : ℕ) (Is : Act → Type 0) (look x y : List Entry) → ((act : Act) → Is act → IsAllowed look seat act → last_token doc look ≡ token) → ((a b : Act) → Is a → Is b → AreNext look seat a b → a ≡ b)
        → Under by doc token Is look x → Under by doc token Is look y → Pair (look ++ x) (look ++ y) → x ≡ y
    under_same doc token Is look x y stands same (inl u) (inl v) p =
        let at = pair_same (look ++ x) (look ++ y) (look ++ by u.0 ∷ []) (look ++ by v.0 ∷ []) (ap (λ (m : List Entry). look ++ m) u.2) (ap (λ (m : List Entry). look ++ m) v.2) p in
        u.2 ∙ ap (λ (act : Act). by act ∷ []) (same u.0 v.0 u.1 v.1 (pair_next seat line look u.0 v.0 [] [] at)) ∙ sym v.2
    under_same doc token Is look x y stands same (inl u) (inr v) p = absurd (v.0 (stands u.0 u.1 (allowed_next look (by u.0) [] (subst (λ (m : List Entry). IsLegal (look ++ m)) u.2 p.0))))
    under_same doc token Is look x y stands same (inr u) (inl v) p = absurd (u.0 (stands v.0 v.1 (allowed_next look (by v.0) [] (subst (λ (m : List Entry). IsLegal (look ++ m)) v.2 p.1))))
    under_same doc token Is look x y stands same (inr u) (inr v) p = u.1 ∙ sym v.1

    pub releases_same : (doc token : ℕ) (left a b : List Entry) → Pair a b → Releases by Next doc token left a → Releases by Next doc token left b → a ≡ b
    releases_same doc token left a b p x y =
        turn_same (Under by doc token (IsRelease doc token)) left a b
        (λ look m n next u v pair. under_same doc token (IsRelease doc token) look m n (release_stands seat doc token look) (λ c d e f are. e ∙ sym f) u v pair) p x y

    commit_same : (doc token : ℕ) (look : List Entry) (x y : Act) → (loading doc look ≡ FailedUnder (Some token) → ⊥) → IsCommit doc token x → IsCommit doc token y → AreNext look seat x y → x ≡ y
    commit_same doc token look x y none c d n = this_same x y (committed_at doc token look) (of_commit x c n.one) (of_commit y d n.other) n.shared
      where
        of_commit : (act : Act) → IsCommit doc token act → IsAllowed look seat act → IsThis act (committed_at doc token look)
        of_commit act c may = subst (λ (a : Act). IsThis a (committed_at doc token look)) (sym c.2) (commit_is look seat doc token c.0 c.1 none (subst (λ (a : Act). IsAllowed look seat a) c.2 may))

    settles_same : (ready : Bool) (doc token : ℕ) (mid a b : List Entry) → (ready ≡ true → (look : List Entry) → IsLegal look → Next mid look → loading doc look ≡ FailedUnder (Some token) → ⊥) → Pair a b → Settles by Next ready doc token mid a → Settles by Next ready doc token mid b → a ≡ b
    settles_same true doc token mid a b none p x y =
        let committed = pair_before x.0 y.0 a b (releases_on doc token x.0 a x.2) (releases_on doc token y.0 b y.2) p in
        let same : x.0 ≡ y.0 =
        turn_same (Under by doc token (IsCommit doc token)) mid x.0 y.0
        (λ look m n next u v pair. under_same doc token (IsCommit doc token) look m n (commit_stands seat doc token look) (λ c d e f are. commit_same doc token look c d (none refl look (legal_front look m pair.0) next) e f are) u v pair) committed x.1 y.1 in
        releases_same doc token x.0 a b p x.2 (subst (λ (j : List Entry). Releases by Next doc token j b) (sym same) y.2)
    settles_same false doc token mid a b none p x y = releases_same doc token mid a b p x y

    -- ---- an update is drained
    pub drains_one_same : (doc : ℕ) (left a b : List Entry) → Pair a b → DrainsOne by Next doc left a → DrainsOne by Next doc left b → a ≡ b
    drains_one_same doc left a b p x y =
        let look = x.3.0 in
        let e : y.3.0 ≡ look = one_look left y.3.0 look y.3.2 x.3.2 in
        let u : TakesUp by doc y.0 y.1 look y.3.1 = subst (λ (j : List Entry). TakesUp by doc y.0 y.1 j y.3.1) e y.3.3 in
        let y_is : y.2 ≡ look ++ y.3.1 = y.3.4 ∙ ap (λ (j : List Entry). j ++ y.3.1) e in
        let mids = pair_same x.2 y.2 (look ++ x.3.1) (look ++ y.3.1) x.3.4 y_is (pair_before x.2 y.2 a b (settles_on x.1 doc x.0 x.2 a x.4) (settles_on y.1 doc y.0 y.2 b y.4) p) in
        let taken = takes_up_same doc x.0 y.0 x.1 y.1 look x.3.1 y.3.1 x.3.3 u mids in
        let mid : y.2 ≡ x.2 = y_is ∙ ap (λ (m : List Entry). look ++ m) (sym taken.1) ∙ sym x.3.4 in
        let token : y.0 ≡ x.0 = u.token_is ∙ sym x.3.3.token_is in
        let s1 : Settles by Next y.1 doc y.0 x.2 b = subst (λ (j : List Entry). Settles by Next y.1 doc y.0 j b) mid y.4 in
        let s2 : Settles by Next y.1 doc x.0 x.2 b = subst (λ (n : ℕ). Settles by Next y.1 doc n x.2 b) token s1 in
        let s3 : Settles by Next x.1 doc x.0 x.2 b = subst (λ (r : Bool). Settles by Next r doc x.0 x.2 b) (sym taken.0) s2 in
        settles_same x.1 doc x.0 x.2 a b
        (λ ready later legal next. unfailed doc x.0 look x.3.1 later legal (subst (λ (r : Bool). TakesUp by doc x.0 r look x.3.1) ready x.3.3) (subst (λ (j : List Entry). Next j later) x.3.4 next)) p x.4 s3

    -- who drains one doesn't stop at the look
    pub no_stop : (doc : ℕ) (left mid last : List Entry) (stop : Stop) → Next left last → StopsAt doc last stop → DrainsOne by Next doc left mid → ⊥
    no_stop doc left mid last stop next stops d =
        let t = d.3.3 in
        let e : d.3.0 ≡ last = one_look left d.3.0 last d.3.2 next in
        goes_on stop (sym (ap₂ stop_by t.first t.free) ∙ ap₂ stop_by (ap (waiting doc) e) (ap (busy doc) e) ∙ stops)
      where
        goes_on : (stop : Stop) → None ≡ Some stop → ⊥
        goes_on stop e = absurd (cc)

    -- ---- so many are drained
    pub same_mid : (doc : ℕ) (left mid mid2 a b : List Entry) → Pair a b → DrainsOne by Next doc left mid → DrainsOne by Next doc left mid2 → Extends mid a → Extends mid2 b → mid2 ≡ mid
    same_mid doc left mid mid2 a b p d e x y = sym (drains_one_same doc left mid mid2 (pair_before mid mid2 a b x y p) d e)

    pub drains_same : (doc most : ℕ) (left a b : List Entry) (s t : Stop) → Pair a b → Drains by Next doc most left a s → Drains by Next doc most left b t → (a ≡ b) × (s ≡ t)
    drains_same doc zero left a b s t p x y = (x.1 ∙ sym y.1, x.0 ∙ sym y.0)
    drains_same doc (suc most) left a b s t p (inl x) (inl y) =
        let e = one_look left a b x.0 y.0 in (e, some_same s t (sym (subst (λ (j : List Entry). StopsAt doc j s) e x.1) ∙ y.1))
    drains_same doc (suc most) left a b s t p (inl x) (inr y) = absurd (no_stop doc left y.0 a s x.0 x.1 y.1)
    drains_same doc (suc most) left a b s t p (inr x) (inl y) = absurd (no_stop doc left x.0 b t y.0 y.1 x.1)
    drains_same doc (suc most) left a b s t p (inr x) (inr y) =
        let e = same_mid doc left x.0 y.0 a b p x.1 y.1 (drains_on doc most x.0 a s x.2) (drains_on doc most y.0 b t y.2) in
        drains_same doc most x.0 a b s t p x.2 (subst (λ (j : List Entry). Drains by Next doc most j b t) e y.2)

    -- ---- a document is flushed
    putting_same : (late : List Entry → List Act) (doc token : ℕ) (look a b : List Entry) → Pair a b
        → ((act : Act) × IsPut doc token act × Releases by Next doc token (look ++ by act ∷ []) a) ⊎ (IsTakenOver doc token look × (a ≡ look ++ map by (late look)))
        → ((act : Act) × IsPut doc token act × Releases by Next doc token (look ++ by act ∷ []) b) ⊎ (IsTakenOver doc token look × (b ≡ look ++ map by (late look))) → a ≡ b
    putting_same late doc token look a b p (inl u) (inl v) =
        let at = pair_before (look ++ by u.0 ∷ []) (look ++ by v.0 ∷ []) a b (releases_on doc token (look ++ by u.0 ∷ []) a u.2) (releases_on doc token (look ++ by v.0 ∷ []) b v.2) p in
        let e : v.0 ≡ u.0 = sym (put_same seat line doc token u.0 v.0 look u.1 v.1 (pair_next seat line look u.0 v.0 [] [] at)) in
        releases_same doc token (look ++ by u.0 ∷ []) a b p u.2 (subst (λ (act : Act). Releases by Next doc token (look ++ by act ∷ []) b) e v.2)
    putting_same late doc token look a b p (inl u) (inr v) =
        let x = releases_on doc token (look ++ by u.0 ∷ []) a u.2 in
        absurd (v.0 (put_stands seat doc token look u.0 u.1 (allowed_next look (by u.0) [] (legal_front (look ++ by u.0 ∷ []) x.0 (subst IsLegal x.1 p.0)))))
    putting_same late doc token look a b p (inr u) (inl v) =
        let x = releases_on doc token (look ++ by v.0 ∷ []) b v.2 in
        absurd (u.0 (put_stands seat doc token look v.0 v.1 (allowed_next look (by v.0) [] (legal_front (look ++ by v.0 ∷ []) x.0 (subst IsLegal x.1 p.1)))))
    putting_same late doc token look a b p (inr u) (inr v) = u.1 ∙ sym v.1

    pub flushes_same : (late : List Entry → List Act) (doc : ℕ) (left a b : List Entry) → Pair a b → FlushesFrom by Next late doc left a → FlushesFrom by Next late doc left b → a ≡ b
    flushes_same late doc left a b p x y =
        putting_same late doc (next_token left) x.0 a b p x.2
        (subst (λ (j : List Entry). ((act : Act) × IsPut doc (next_token left) act × Releases by Next doc (next_token left) (j ++ by act ∷ []) b) ⊎ (IsTakenOver doc (next_token left) j × (b ≡ j ++ map by (late j)))) (one_look (locked doc left) y.0 x.0 y.1 x.1) y.2)

    -- ---- a client gets its mail
    abbrev got_at : ℕ → List Msg → List Entry
    got_at c [] = []
    got_at c (m ∷ ms) = by (Got c (brief_of m)) ∷ []

    gets_one_same : (c : ℕ) (left a b : List Entry) → Pair a b → Turn Next (GetsOne by c) left a → Turn Next (GetsOne by c) left b → a ≡ b
    gets_one_same c left a b p x y = turn_same (GetsOne by c) left a b (λ look m n next g h pair. g.3 ∙ ap (got_at c) (sym g.2 ∙ h.2) ∙ sym h.3) p x y

    has_mail : (c : ℕ) (left mid last : List Entry) → Next left last → mail c last ≡ [] → Turn Next (GetsOne by c) left mid → ⊥
    has_mail c left mid last next none t = nothing_first t.3.0 t.3.1 (sym none ∙ ap (mail c) (one_look left last t.0 next t.2) ∙ t.3.2)
      where
        nothing_first : (m : Msg) (ms : List Msg) → [] ≡ m ∷ ms → ⊥
        nothing_first m ms e = absurd (cc)

    pub gets_same : (n m c : ℕ) (left a b : List Entry) → Pair a b → GetsSoMany by Next n c left a → GetsSoMany by Next m c left b → a ≡ b
    gets_same zero zero c left a b p x y = one_look left a b x.0 y.0
    gets_same zero (suc m) c left a b p x y = absurd (has_mail c left y.0 a x.0 x.1 y.1)
    gets_same (suc n) zero c left a b p x y = absurd (has_mail c left x.0 b y.0 y.1 x.1)
    gets_same (suc n) (suc m) c left a b p x y =
        let mids = pair_before x.0 y.0 a b (gets_on n c x.0 a x.2) (gets_on m c y.0 b y.2) p in
        gets_same n m c x.0 a b p x.2 (subst (λ (j : List Entry). GetsSoMany by Next m c j b) (sym (gets_one_same c left x.0 y.0 mids x.1 y.1)) y.2)

    module _ (session : ℕ) where
      -- ---- one turn
      abbrev joined : Bool → List Act → ℕ → List ℕ → Bool → List Entry → List Entry
      joined ready loading doc user track look = map by loading ++ by (joined_if ready session doc user track (look ++ map by loading)) ∷ []

      pub joins_same : (doc : Option ℕ) (user : List ℕ) (track : Bool) (look x y : List Entry) → Joins by session doc user track look x → Joins by session doc user track look y → Pair (look ++ x) (look ++ y) → x ≡ y
      joins_same None user track look x y j k p = j ∙ sym k
      joins_same (Some doc) user track look x y j k p =
          let act = λ (ready : Bool) (loading : List Act). by (joined_if ready session doc user track (look ++ map by loading)) ∷ [] in
          let at : look ++ x ≡ (look ++ map by j.1) ++ act j.0 j.1 = ap (λ (m : List Entry). look ++ m) j.3 ∙ sym (append_assoc look (map by j.1) (act j.0 j.1)) in
          let at2 : look ++ y ≡ (look ++ map by k.1) ++ act k.0 k.1 = ap (λ (m : List Entry). look ++ m) k.3 ∙ sym (append_assoc look (map by k.1) (act k.0 k.1)) in
          let l = caches_same seat line (cached doc look) doc None j.0 k.0 j.1 k.1 look j.2 k.2 (pair_front (look ++ map by j.1) (act j.0 j.1) (look ++ map by k.1) (act k.0 k.1) (pair_same (look ++ x) (look ++ y) _ _ at at2 p)) in
          j.3 ∙ ap₂ (λ (b : Bool) (acts : List Act). joined b acts doc user track look) l.0 l.1 ∙ sym k.3

      finished_same : (p : Preparation) (stale : Option Stale) (look x y : List Entry) → FinishesUnless by session p stale look x → FinishesUnless by session p stale look y → Pair (look ++ x) (look ++ y) → x ≡ y
      finished_same p (Some stale) look x y f f2 pair = f ∙ sym f2
      finished_same p None look x y f f2 pair =
          let rest : List Entry = by (Released p.doc p.token) ∷ [] in
          let c : Act = Committed p.doc p.token f.0 f.1 in
          let d : Act = Committed p.doc p.token f2.0 f2.1 in
          let n = pair_next seat line look c d rest rest (pair_same (look ++ x) (look ++ y) (look ++ by c ∷ rest) (look ++ by d ∷ rest) (ap (λ (m : List Entry). look ++ m) f.3) (ap (λ (m : List Entry). look ++ m) f2.3) pair) in
          let ticket : f.0 ≡ f2.0 = first_same f.0 f2.0 f.1 f2.1 n.one n.other in
          f.3 ∙ ap₂ (λ (t : ℕ) (o : Outcome). by (Committed p.doc p.token t o) ∷ rest) ticket (decision_same f.0 f2.0 f.1 f2.1 f.2 f2.2 ticket) ∙ sym f2.3
        where
          first_same : (t u : ℕ) (o q : Outcome) → IsAllowed look seat (Committed p.doc p.token t o) → IsAllowed look seat (Committed p.doc p.token u q) → t ≡ u
          first_same t u o q c d = ap first_ticket (sym c.first ∙ d.first)

          decision_same : (t u : ℕ) (o q : Outcome) → IsDecision look p.doc t o → IsDecision look p.doc u q → t ≡ u → o ≡ q
          decision_same t u o q c d e = c.outcome_is ∙ ap (decided look p.doc) (some_same c.update d.update (sym c.named ∙ ap (update_at look) e ∙ d.named)) ∙ sym d.outcome_is

      pub finishes_same : (p : Option Preparation) (look x y : List Entry) → Finishes by session p look x → Finishes by session p look y → Pair (look ++ x) (look ++ y) → x ≡ y
      finishes_same None look x y f f2 pair = f ∙ sym f2
      finishes_same (Some p) look x y f f2 pair = finished_same p (staleness p.doc p.token look) look x y f f2 pair

      -- ---- several turns: the same from the first look on
      drains_many_same : (doc n : ℕ) (first a b : List Entry) → Pair a b → DrainsSoMany by Next session doc n first a → DrainsSoMany by Next session doc n first b → a ≡ b
      drains_many_same doc zero first a b p x y = x ∙ sym y
      drains_many_same doc (suc n) first a b p x y =
          let mids = pair_front x.0 (map by (stop_acts session x.1)) y.0 (map by (stop_acts session y.1)) (pair_same a b _ _ x.3 y.3 p) in
          let e = drains_same doc (suc n) first x.0 y.0 x.1 y.1 mids x.2 y.2 in
          x.3 ∙ ap₂ (λ (j : List Entry) (s : Stop). j ++ map by (stop_acts session s)) e.0 e.1 ∙ sym y.3

      pub drains_named_same : (doc : Option ℕ) (first a b : List Entry) → Pair a b → DrainsNamed by Next session doc first a → DrainsNamed by Next session doc first b → a ≡ b
      drains_named_same None first a b p x y = x ∙ sym y
      drains_named_same (Some doc) first a b p x y = drains_many_same doc (length (waiting doc first)) first a b p x y

      syncs_if_same : (here : Bool) (doc : ℕ) (first a b : List Entry) → Pair a b → SyncsIf by Next session here doc first a → SyncsIf by Next session here doc first b → a ≡ b
      syncs_if_same false doc first a b p x y = x ∙ sym y
      syncs_if_same true doc first a b p x y =
          let mids = pair_before x.0 y.0 a b (gets_on x.3.0 session x.0 a x.3.1) (gets_on y.3.0 session y.0 b y.3.1) p in
          let e : y.0 ≡ x.0 = sym (drains_same doc (length (waiting doc first)) first x.0 y.0 x.1 y.1 mids x.2 y.2).0 in
          gets_same x.3.0 y.3.0 session x.0 a b p x.3.1 (subst (λ (j : List Entry). GetsSoMany by Next y.3.0 session j b) e y.3.1)

      pub syncs_same : (first a b : List Entry) → Pair a b → Syncs by Next session first a → Syncs by Next session first b → a ≡ b
      syncs_same first a b p x y = syncs_if_same (is_present (client session first).state) (client session first).doc first a b p x y

      flushes_unless_same : (doc : ℕ) (why : Option Why) (look a b : List Entry) → Pair a b → FlushesUnless by Next session doc why look a → FlushesUnless by Next session doc why look b → a ≡ b
      flushes_unless_same doc (Some why) look a b p x y = x ∙ sym y
      flushes_unless_same doc None look a b p x y = flushes_same (late_acts session doc) doc look a b p x y

      pub flushes_named_same : (doc : Option ℕ) (look a b : List Entry) → Pair a b → FlushesNamed by Next session doc look a → FlushesNamed by Next session doc look b → a ≡ b
      flushes_named_same None look a b p x y = x ∙ sym y
      flushes_named_same (Some doc) look a b p x y = flushes_unless_same doc (unavailable doc look) look a b p x y

      -- ---- what is held: the journal, and what sessions keep
      abbrev Same : List Entry → List Entry → Preparations → Preparations → Type 0
      Same a b s t = (a ≡ b) × (s ≡ t)

      hold_if_on : (ready : Bool) (doc token : ℕ) (kept : Preparations) (mid last : List Entry) (after : Preparations) → HoldsIf by Next session ready doc token kept mid last after → Extends mid last
      hold_if_on true doc token kept mid last after h = ([], h.0 ∙ sym (append-nil mid))
      hold_if_on false doc token kept mid last after h = releases_on doc token mid last h.0

      holds_if_same : (ready : Bool) (doc token : ℕ) (kept : Preparations) (mid a b : List Entry) (s t : Preparations) → Pair a b → HoldsIf by Next session ready doc token kept mid a s → HoldsIf by Next session ready doc token kept mid b t → Same a b s t
      holds_if_same true doc token kept mid a b s t p x y = (x.0 ∙ sym y.0, x.1 ∙ sym y.1)
      holds_if_same false doc token kept mid a b s t p x y = (releases_same doc token mid a b p x.0 y.0, x.1 ∙ sym y.1)

      holds_unless_same : (doc : ℕ) (why : Option Why) (kept : Preparations) (look a b : List Entry) (s t : Preparations) → Pair a b → HoldsUnless by Next session doc why kept look a s → HoldsUnless by Next session doc why kept look b t → Same a b s t
      holds_unless_same doc (Some why) kept look a b s t p x y = (x.0 ∙ sym y.0, x.1 ∙ sym y.1)
      holds_unless_same doc None kept look a b s t p x y =
          let at = pair_before (look ++ x.2) (look ++ y.2) a b (hold_if_on x.1 doc x.0 kept (look ++ x.2) a s x.4) (hold_if_on y.1 doc y.0 kept (look ++ y.2) b t y.4) p in
          let taken = takes_up_same doc x.0 y.0 x.1 y.1 look x.2 y.2 x.3 y.3 at in
          let token : y.0 ≡ x.0 = y.3.token_is ∙ sym x.3.token_is in
          let h1 = subst (λ (m : List Entry). HoldsIf by Next session y.1 doc y.0 kept (look ++ m) b t) (sym taken.1) y.4 in
          let h2 = subst (λ (n : ℕ). HoldsIf by Next session y.1 doc n kept (look ++ x.2) b t) token h1 in
          let h3 = subst (λ (r : Bool). HoldsIf by Next session r doc x.0 kept (look ++ x.2) b t) (sym taken.0) h2 in
          holds_if_same x.1 doc x.0 kept (look ++ x.2) a b s t p x.4 h3

      holds_named_same : (doc : Option ℕ) (kept : Preparations) (look a b : List Entry) (s t : Preparations) → Pair a b → HoldsNamed by Next session doc kept look a s → HoldsNamed by Next session doc kept look b t → Same a b s t
      holds_named_same None kept look a b s t p x y = (x.0 ∙ sym y.0, x.1 ∙ sym y.1)
      holds_named_same (Some doc) kept look a b s t p x y = holds_unless_same doc (not_holdable doc look) kept look a b s t p x y

      pub holds_same : (q : Option Preparation) (name : List ℕ) (kept : Preparations) (look a b : List Entry) (s t : Preparations) → Pair a b → Holds by Next session q name kept look a s → Holds by Next session q name kept look b t → Same a b s t
      holds_same (Some q) name kept look a b s t p x y = (x.0 ∙ sym y.0, x.1 ∙ sym y.1)
      holds_same None name kept look a b s t p x y = holds_named_same (number_of name look) kept look a b s t p x y

  -- ---- a line
  module _ (seat : ℕ) (unfailed : (line : Option ℕ) → IsUnfailed Next seat line) where
    pub does_same : (k : ℕ) (line : Line) (kept : Preparations) (left a b : List Entry) (s t : Preparations) → Pair a b → Does seat Next k line kept left a s → Does seat Next k line kept left b t → (a ≡ b) × (s ≡ t)
    does_same k (Join session doc user track) kept left a b s t p x y =
        (turn_same (λ look made. Joins (entry_by seat (Some k)) session (number_of doc look) user track look made) left a b (λ look m n next j k2 pair. joins_same seat (Some k) (unfailed (Some k)) session (number_of doc look) user track look m n j k2 pair) p x.0 y.0, x.1 ∙ sym y.1)
    does_same k (Sync session) kept left a b s t p x y =
        (from_left (Syncs (entry_by seat (Some k)) Next session) (syncs_same seat (Some k) (unfailed (Some k)) session) left a b p x.0 y.0, x.1 ∙ sym y.1)
    does_same k (Drain session doc) kept left a b s t p x y =
        (from_left (λ first last. DrainsNamed (entry_by seat (Some k)) Next session (number_of doc first) first last) (λ first. drains_named_same seat (Some k) (unfailed (Some k)) session (number_of doc first) first) left a b p x.0 y.0, x.1 ∙ sym y.1)
    does_same k (Flush session doc) kept left a b s t p x y =
        (from_left (λ look last. FlushesNamed (entry_by seat (Some k)) Next session (number_of doc look) look last) (λ look. flushes_named_same seat (Some k) (unfailed (Some k)) session (number_of doc look) look) left a b p x.0 y.0, x.1 ∙ sym y.1)
    does_same k (Hold session doc) kept left a b s t p x y =
        holds_same seat (Some k) (unfailed (Some k)) session (kept session) doc kept x.0 a b s t p x.2
        (subst (λ (j : List Entry). Holds (entry_by seat (Some k)) Next session (kept session) doc kept j b t) (one_look left y.0 x.0 y.1 x.1) y.2)
    does_same k (Finish session) kept left a b s t p x y =
        (turn_same (Finishes (entry_by seat (Some k)) session (kept session)) left a b (λ look m n next f f2 pair. finishes_same seat (Some k) (unfailed (Some k)) session (kept session) look m n f f2 pair) p x.0 y.0, x.1 ∙ sym y.1)
    does_same k line kept left a b s t p x y =
        (turn_same (λ look made. made ≡ map (entry_by seat (Some k)) (plain_acts look line)) left a b (λ look m n next e f pair. e ∙ sym f) p x.0 y.0, x.1 ∙ sym y.1)

    does_on : (k : ℕ) (line : Line) (kept : Preparations) (left last : List Entry) (after : Preparations) → Does seat Next k line kept left last after → Extends left last
    does_on k line =
        does_grow any (λ act e. refl) Extends extends_same extends_on Next on
        seat k (λ acts may j. (map (entry_by seat (Some k)) acts, refl)) line (λ s is doc user track since source v. refl)

    -- ---- lines
    pub leads_on : (lines : List (ℕ × Line)) (kept : Preparations) (left last : List Entry) → Leads seat Next lines kept left last → Extends left last
    leads_on [] kept left last x = ([], x ∙ sym (append-nil left))
    leads_on (line ∷ lines) kept left last x = extends_on left x.0 last (does_on line.0 line.1 kept left x.0 x.1 x.2) (leads_on lines x.1 x.0 last x.3)

    pub leads_same : (lines : List (ℕ × Line)) (kept : Preparations) (left a b : List Entry) → Pair a b → Leads seat Next lines kept left a → Leads seat Next lines kept left b → a ≡ b
    leads_same [] kept left a b p x y = x ∙ sym y
    leads_same (line ∷ lines) kept left a b p x y =
        let same = does_same line.0 line.1 kept left x.0 y.0 x.1 y.1 (pair_before x.0 y.0 a b (leads_on lines x.1 x.0 a x.3) (leads_on lines y.1 y.0 b y.3) p) x.2 y.2 in
        let at_mid = subst (λ (j : List Entry). Leads seat Next lines y.1 j b) (sym same.0) y.3 in
        leads_same lines x.1 x.0 a b p x.3 (subst (λ (s : Preparations). Leads seat Next lines s x.0 b) (sym same.1) at_mid)
