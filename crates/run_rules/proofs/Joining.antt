-- Who joins in a journal that follows a script is one of its sessions.
use Rattle.std.proofs.Common.{◌≡◌, ◌⊎◌, ℕ, ◌+◌, ◌-◌, ◌<◌, ◌≤◌, zero, suc, ◌&&◌, List, [], ◌∷◌, ◌++◌, Bool, true, false, not, true≢false, refl, sym, ap, ◌∙◌, subst, inl, inr, arith, eq-eqb, append_assoc, append-nil, All}
use Rattle.std.specs.Prelude.{Option, Some, None, map, filter, get_or, nat_le, nat_lt, if◌then◌else◌}
use Rattle.std.specs.List.{list_all}
use Rattle.std.proofs.lemmas.Bool.{cases_lt, and_parts}
use Rattle.std.proofs.lemmas.Bool.Decides.{nat_tests}
use Rattle.std.proofs.lemmas.List.Elements.{All-append, All-nil, All-cons, All-weaker}
use Rattle.expiring_lock.specs.declared.lock.TheConstants.{LOCK_LIFE}
use Rattle.journal_entries.specs.declared.act.Act.{Act}
use Rattle.journal_entries.specs.declared.act.Act.TheVariants.{Joined as JoinedAct, Ticked, Closed}
use Rattle.journal_entries.specs.declared.act.Entry.{Entry}
use Rattle.journal_rules.proofs.Lists.{same_cut}
use Rattle.session_lines.specs.declared.line.Line.{Line}
use Rattle.session_lines.specs.Script.{makes_document, session_of}
use Rattle.ending_rules.specs.Rounds.{AreClients, joins_below}
use Rattle.ending_rules.proofs.Clients.{below_clients}
use Rattle.session_lines.specs.Standing.{AreBySessions, is_one_of}
use Rattle.run_rules.specs.Ending.{at_end}
use Rattle.run_rules.specs.Keeping.{Preparations, nothing_kept}
use Rattle.run_rules.specs.Lines.{Leads, numbered}
use Rattle.run_rules.specs.Threads.{Crew, driver_seat, worker_seat, flusher_seat, is_of_crew, is_by, is_driven_by, lines_of_driver, document_lines, DriverFollows, DrainsOn, WorkerFollows, FlushesOn, FlusherFollows, FollowsTogether}
use Rattle.turn_rules.specs.Turns.{Alone, Among, entry_by}
use Rattle.run_rules.proofs.Growing.{is_joining, MayJoin, MayAll, drains_one, flushes, leads_grow}

module _ (sessions : ℕ) where
  abbrev ok : Act → Bool
  ok act = joins_below sessions act

  plain : (act : Act) → is_joining act ≡ false → joins_below sessions act ≡ true
  plain (JoinedAct session doc user track since source v) e = absurd (true≢false e)
  plain _ e = refl

  abbrev pub JoinsOne : Entry → Type 0
  JoinsOne e = joins_below sessions e.act ≡ true

  -- the lines
  line_may : (line : Line) → is_one_of sessions (session_of line) ≡ true → MayJoin ok plain line
  line_may line one s is doc user track since source v = ap (is_one_of sessions) (sym is) ∙ one

  numbered_may : (k : ℕ) (lines : List Line) → AreBySessions sessions lines → MayAll ok plain (numbered k lines)
  numbered_may k [] all = tt
  numbered_may k (line ∷ lines) all =
      let both = and_parts (is_one_of sessions (session_of line)) (list_all (λ l. is_one_of sessions (session_of l)) lines) all in
      (line_may line both.0, numbered_may (k + 1) lines both.1)

  some_may : (p : ℕ × Line → Bool) (lines : List (ℕ × Line)) → MayAll ok plain lines → MayAll ok plain (filter p lines)
  some_may p [] may = tt
  some_may p (x ∷ xs) may = go (p x) (some_may p xs may.1)
    where
      go : (b : Bool) → MayAll ok plain (filter p xs) → MayAll ok plain (if b then x ∷ filter p xs else filter p xs)
      go true rest = (may.0, rest)
      go false rest = rest

  -- what one writes
  module _ (own : Entry → Bool) where
    abbrev pub OwnJoinsOne : Entry → Type 0
    OwnJoinsOne e = own e ≡ true → joins_below sessions e.act ≡ true

    abbrev pub Adds : List Entry → List Entry → Type 0
    Adds a b = (more : List Entry) × (b ≡ a ++ more) × All OwnJoinsOne more

    same : (a : List Entry) → Adds a a
    same a = ([], sym (append-nil a), All-nil OwnJoinsOne)

    on : (a b c : List Entry) → Adds a b → Adds b c → Adds a c
    on a b c x y = (x.0 ++ y.0, y.1 ∙ ap (λ (j : List Entry). j ++ y.0) x.1 ∙ append_assoc a x.0 y.0, All-append OwnJoinsOne x.0 y.0 x.2 y.2)

    others : (more : List Entry) → list_all (λ e. not (own e)) more ≡ true → All OwnJoinsOne more
    others [] all = All-nil OwnJoinsOne
    others (e ∷ es) all =
        let both = and_parts (not (own e)) (list_all (λ e. not (own e)) es) all in
        All-cons OwnJoinsOne e es (λ mine. absurd (true≢false (sym both.0 ∙ ap not mine))) (others es both.1)

    among : (a b : List Entry) → Among own a b → Adds a b
    among a b n = (n.0, n.1, others n.0 n.2)

    alone : (a b : List Entry) → Alone a b → Adds a b
    alone a b e = subst (λ (j : List Entry). Adds a j) (sym e) (same a)

    writes : (seat : ℕ) (line : Option ℕ) (acts : List Act) → list_all ok acts ≡ true → (j : List Entry) → Adds j (j ++ map (entry_by seat line) acts)
    writes seat line acts may j = (map (entry_by seat line) acts, refl, each acts may)
      where
        each : (acts : List Act) → list_all ok acts ≡ true → All OwnJoinsOne (map (entry_by seat line) acts)
        each [] may = All-nil OwnJoinsOne
        each (act ∷ acts) may =
            let both = and_parts (joins_below sessions act) (list_all ok acts) may in
            All-cons OwnJoinsOne (entry_by seat line act) (map (entry_by seat line) acts) (λ mine. both.0) (each acts both.1)

    by_lines : (Next : List Entry → List Entry → Type 0) → ((a b : List Entry) → Next a b → Adds a b) → (seat : ℕ) (lines : List (ℕ × Line)) → MayAll ok plain lines
        → (kept : Preparations) (left last : List Entry) → Leads seat Next lines kept left last → Adds left last
    by_lines Next next seat lines may kept left last l = leads_grow ok plain Adds same on Next next seat (λ k acts fine j. writes seat (Some k) acts fine j) lines may kept left last l

    by_drains : (seat n : ℕ) (left last : List Entry) → own ≡ is_by seat → DrainsOn seat n left last → Adds left last
    by_drains seat zero left last is d = among left last (subst (λ (o : Entry → Bool). Among o left last) (sym is) d)
    by_drains seat (suc n) left last is d =
        on left d.1 last
        (drains_one ok plain Adds same on (Among (is_by seat)) (λ a b m. among a b (subst (λ (o : Entry → Bool). Among o a b) (sym is) m)) (entry_by seat None) (λ acts may j. writes seat None acts may j) d.0 left d.1 d.2)
        (by_drains seat n d.1 last is d.3)

    by_flushes : (seat n : ℕ) (left last : List Entry) → own ≡ is_by seat → FlushesOn seat n left last → Adds left last
    by_flushes seat zero left last is d = among left last (subst (λ (o : Entry → Bool). Among o left last) (sym is) d)
    by_flushes seat (suc n) left last is d =
        let next : (a b : List Entry) → Among (is_by seat) a b → Adds a b = λ a b m. among a b (subst (λ (o : Entry → Bool). Among o a b) (sym is) m) in
        on left d.1 last (next left d.1 d.3)
        (on d.1 d.2 last (flushes ok plain Adds same on (Among (is_by seat)) next (entry_by seat None) (λ acts may j. writes seat None acts may j) (λ late. []) (λ late. refl) d.0 d.1 d.2 d.5)
        (by_flushes seat n d.2 last is d.6))

  -- alone, from the start
  from_start : (lines : List (ℕ × Line)) (last : List Entry) → MayAll ok plain lines → Leads 0 Alone lines nothing_kept [] last → All JoinsOne last
  from_start lines last may l =
      let a = by_lines (λ e. true) Alone (alone (λ e. true)) 0 lines may nothing_kept [] last l in
      subst (All JoinsOne) (sym a.1) (All-weaker (OwnJoinsOne (λ e. true)) JoinsOne (λ e mine. mine refl) a.0 a.2)

  one_more : (j : List Entry) (e : Entry) → All JoinsOne j → JoinsOne e → All JoinsOne (j ++ e ∷ [])
  one_more j e all one = All-append JoinsOne j (e ∷ []) all (All-cons JoinsOne e [] one (All-nil JoinsOne))

  ticked : (j : List Entry) → All JoinsOne j → AreClients sessions (j ++ at_end (Ticked LOCK_LIFE) ∷ [])
  ticked j all = below_clients sessions (j ++ at_end (Ticked LOCK_LIFE) ∷ []) (one_more j (at_end (Ticked LOCK_LIFE)) all refl)

  -- behind the lines and the tick of the end
  pub of_lines : (lines : List Line) (done : List Entry) → AreBySessions sessions lines → Leads 0 Alone (numbered 1 lines) nothing_kept [] done → AreClients sessions ((done ++ entry_by 0 None (Closed 0) ∷ []) ++ at_end (Ticked LOCK_LIFE) ∷ [])
  of_lines lines done by leads =
      ticked (done ++ entry_by 0 None (Closed 0) ∷ []) (one_more done (entry_by 0 None (Closed 0)) (from_start (numbered 1 lines) done (numbered_may 1 lines by) leads) refl)

  -- together
  module _ (crew : Crew) (lines : List Line) (by : AreBySessions sessions lines) where
    cancelled : (own : Entry → Bool) (start between : List Entry) → Adds own start (start ++ between) → All (OwnJoinsOne own) between
    cancelled own start between a = subst (All (OwnJoinsOne own)) (sym (same_cut start between start a.0 a.1 refl).1) a.2

    of_driver : (start between : List Entry) (d : ℕ) → DriverFollows crew lines start (start ++ between) d → All (OwnJoinsOne (is_by (driver_seat d))) between
    of_driver start between d f =
        let own : Entry → Bool = is_by (driver_seat d) in
        let last : List Entry = start ++ between in
        let closed : List Entry = f.look ++ entry_by (driver_seat d) None (Closed d) ∷ [] in
        cancelled own start between
        (on own start f.done last
        (by_lines own (Among own) (among own) (driver_seat d) (lines_of_driver crew d lines) (some_may (λ x. is_driven_by crew d (session_of x.1)) (numbered 1 lines) (numbered_may 1 lines by)) nothing_kept start f.done f.leads)
        (on own f.done f.look last (among own f.done f.look f.next)
        (on own f.look closed last (writes own (driver_seat d) None (Closed d ∷ []) refl f.look) (among own closed last f.more))))

    of_worker : (start between : List Entry) (w : ℕ) → WorkerFollows crew start (start ++ between) w → All (OwnJoinsOne (is_by (worker_seat crew w))) between
    of_worker start between w f = cancelled (is_by (worker_seat crew w)) start between (by_drains (is_by (worker_seat crew w)) (worker_seat crew w) f.0 start (start ++ between) refl f.1)

    of_flusher : (start between : List Entry) → FlusherFollows crew start (start ++ between) → All (OwnJoinsOne (is_by (flusher_seat crew))) between
    of_flusher start between f = cancelled (is_by (flusher_seat crew)) start between (by_flushes (is_by (flusher_seat crew)) (flusher_seat crew) f.0 start (start ++ between) refl f.1)

    crew_of : (es : List Entry) → list_all (λ e. is_of_crew crew e.seat) es ≡ true → All (λ e. is_of_crew crew e.seat ≡ true) es
    crew_of [] all = All-nil (λ (e : Entry). is_of_crew crew e.seat ≡ true)
    crew_of (e ∷ es) all =
        let both = and_parts (is_of_crew crew e.seat) (list_all (λ e. is_of_crew crew e.seat) es) all in
        All-cons (λ (e : Entry). is_of_crew crew e.seat ≡ true) e es both.0 (crew_of es both.1)

    within : (seat : ℕ) → is_of_crew crew seat ≡ true → (0 < seat) × (seat ≤ flusher_seat crew)
    within seat is = let both = and_parts (nat_lt 0 seat) (nat_le seat (flusher_seat crew)) is in (above seat both.0, below seat (flusher_seat crew) both.1)
      where
        above : (seat : ℕ) → nat_lt 0 seat ≡ true → 0 < seat
        above seat e = grind (arith, nat_tests)

        below : (seat top : ℕ) → nat_le seat top ≡ true → seat ≤ top
        below seat top e = grind (arith, nat_tests)

    by_seat : (e : Entry) → is_of_crew crew e.seat ≡ true → ((d : ℕ) → d < crew.drivers → OwnJoinsOne (is_by (driver_seat d)) e) → ((w : ℕ) → w < crew.workers → OwnJoinsOne (is_by (worker_seat crew w)) e)
        → OwnJoinsOne (is_by (flusher_seat crew)) e → JoinsOne e
    by_seat e is drivers workers flusher = driver (within e.seat is) (cases_lt e.seat (1 + crew.drivers))
      where
        worker : (0 < e.seat) × (e.seat ≤ flusher_seat crew) → 1 + crew.drivers ≤ e.seat → (e.seat < 1 + crew.drivers + crew.workers) ⊎ (1 + crew.drivers + crew.workers ≤ e.seat) → JoinsOne e
        worker r le (inl lt) = workers (e.seat - (1 + crew.drivers)) (omega (arith, lt, le)) (eq-eqb e.seat (1 + crew.drivers + (e.seat - (1 + crew.drivers))) (omega (arith, le)))
        worker r le (inr more) = let top = r.1 in flusher (eq-eqb e.seat (1 + crew.drivers + crew.workers) (omega (arith, top, more)))

        driver : (0 < e.seat) × (e.seat ≤ flusher_seat crew) → (e.seat < 1 + crew.drivers) ⊎ (1 + crew.drivers ≤ e.seat) → JoinsOne e
        driver r (inl lt) = let some = r.0 in drivers (e.seat - 1) (omega (arith, lt, some)) (eq-eqb e.seat (1 + (e.seat - 1)) (omega (arith, some)))
        driver r (inr le) = worker r le (cases_lt e.seat (1 + crew.drivers + crew.workers))

    pub of_together : (journal : List Entry) → (f : FollowsTogether crew lines sessions journal) → AreClients sessions ((f.start ++ f.between) ++ at_end (Ticked LOCK_LIFE) ∷ [])
    of_together journal f =
        let start : All JoinsOne f.start = from_start (document_lines lines) f.start (some_may (λ x. makes_document x.1) (numbered 1 lines) (numbered_may 1 lines by)) f.makes in
        let crew_is = crew_of f.between f.crew_only in
        ticked (f.start ++ f.between)
        (All-append JoinsOne f.start f.between start
        (λ i x lt. by_seat (get_or f.between i x) (crew_is i x lt)
        (λ d few. of_driver f.start f.between d (f.driver d few) i x lt)
        (λ w few. of_worker f.start f.between w (f.worker w few) i x lt)
        (of_flusher f.start f.between f.flusher i x lt)))
