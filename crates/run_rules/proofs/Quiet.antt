-- No flush of the end stands before the rounds of the end, nor in them; so the status tells whether each version is kept.
use Rattle.std.proofs.Common.{◌≡◌, ℕ, ◌<◌, zero, suc, ◌==◌, ◌&&◌, List, [], ◌∷◌, ◌++◌, length, Bool, true, false, true≢false, refl, sym, ap, ◌∙◌, subst, arith, append_assoc, append-nil, All}
use Rattle.std.specs.Prelude.{Option, Some, None, map, nat_lt, nat_le, is_none}
use Rattle.std.specs.List.{list_all}
use Rattle.std.proofs.lemmas.Bool.Decides.{nat_tests}
use Rattle.std.proofs.lemmas.List.Folds.{list_any_none}
use Rattle.std.proofs.lemmas.List.Elements.{All-append, All-nil, All-cons, All-weaker}
use Rattle.expiring_lock.specs.declared.lock.TheConstants.{LOCK_LIFE}
use Rattle.journal_entries.specs.declared.update.Update.{Update}
use Rattle.journal_entries.specs.declared.act.Act.{Act}
use Rattle.journal_entries.specs.declared.act.Act.TheVariants.{Ticked, Closed, FlushFailed}
use Rattle.journal_entries.specs.declared.act.Entry.{Entry}
use Rattle.journal_rules.specs.declared.state.ClientState.{ClientState}
use Rattle.journal_rules.specs.declared.state.ClientState.TheVariants.{Away, Joined, Left, Stale}
use Rattle.journal_rules.specs.Documents.{Making, makings}
use Rattle.journal_rules.specs.Client.{client, sending}
use Rattle.journal_rules.specs.Locks.{clock}
use Rattle.session_lines.specs.declared.line.Line.{Line}
use Rattle.ending_rules.proofs.Shapes.{is_of_drain, is_got_by, IsSentOnce, AreDrains, IsTurnOf, AreTurns, IsRound, AreRounds}
use Rattle.run_rules.specs.Completing.{AreKept, has_flush_failed_at_end, is_flush_failed, is_flush_failed_at_end}
use Rattle.run_rules.specs.Ending.{at_end, Ends}
use Rattle.run_rules.specs.Follows.{Follows}
use Rattle.run_rules.specs.Keeping.{nothing_kept}
use Rattle.run_rules.specs.Lines.{Leads, numbered}
use Rattle.run_rules.specs.Threads.{Crew, flusher_seat, is_of_crew, document_lines, FollowsTogether}
use Rattle.turn_rules.specs.Turns.{Alone, entry_by}
use Rattle.run_rules.proofs.Bridge.{last_rounds}
use Rattle.run_rules.proofs.Flushed.{IsQuiet, AddsQuiet, quiet_below, flush_makes_none}
use Rattle.run_rules.proofs.Growing.{MayAll, leads_grow}
use Rattle.std.proofs.lemmas.Bool.{and_parts}

-- ---- lines
same : (a : List Entry) → AddsQuiet a a
same a = ([], sym (append-nil a), All-nil IsQuiet)

on : (a b c : List Entry) → AddsQuiet a b → AddsQuiet b c → AddsQuiet a c
on a b c x y = (x.0 ++ y.0, y.1 ∙ ap (λ (j : List Entry). j ++ y.0) x.1 ∙ append_assoc a x.0 y.0, All-append IsQuiet x.0 y.0 x.2 y.2)

of_line : (seat k : ℕ) (acts : List Act) → All IsQuiet (map (entry_by seat (Some k)) acts)
of_line seat k [] = All-nil IsQuiet
of_line seat k (act ∷ acts) = All-cons IsQuiet (entry_by seat (Some k) act) (map (entry_by seat (Some k)) acts) refl (of_line seat k acts)

any_may : (lines : List (ℕ × Line)) → MayAll (λ act. true) (λ act e. refl) lines
any_may [] = tt
any_may (x ∷ xs) = ((λ s is doc user track since source v. refl), any_may xs)

by_lines : (lines : List (ℕ × Line)) (last : List Entry) → Leads 0 Alone lines nothing_kept [] last → All IsQuiet last
by_lines lines last l =
    let a : AddsQuiet [] last = leads_grow (λ act. true) (λ act e. refl) AddsQuiet same on Alone (λ a b e. subst (λ (j : List Entry). AddsQuiet a j) (sym e) (same a)) 0
    (λ k acts may j. (map (entry_by 0 (Some k)) acts, refl, of_line 0 k acts)) lines (any_may lines) nothing_kept [] last l in
    subst (All IsQuiet) (sym a.1) a.2

-- ---- the crew
of_crew : (crew : Crew) (es : List Entry) → list_all (λ e. is_of_crew crew e.seat) es ≡ true → All IsQuiet es
of_crew crew [] all = All-nil IsQuiet
of_crew crew (e ∷ es) all =
    let both = and_parts (is_of_crew crew e.seat) (list_all (λ e. is_of_crew crew e.seat) es) all in
    let is = and_parts (nat_lt 0 e.seat) (nat_le e.seat (flusher_seat crew)) both.0 in
    All-cons IsQuiet e es (not_first (is_none e.line) e.seat is.0) (of_crew crew es both.1)
  where
    apart : (seat : ℕ) → nat_lt 0 seat ≡ true → (seat == 0) ≡ false
    apart seat e = grind (arith, nat_tests)

    neither : (b : Bool) → (b && false) ≡ false
    neither true = refl
    neither false = refl

    not_first : (b : Bool) (seat : ℕ) → nat_lt 0 seat ≡ true → (b && (seat == 0 && is_flush_failed e.act)) ≡ false
    not_first b seat above = ap (λ c. b && (c && is_flush_failed e.act)) (apart seat above) ∙ neither b

-- ---- rounds
abbrev IsNone : Entry → Type 0
IsNone e = is_flush_failed e.act ≡ false

drain_none : (d : ℕ) (act : Act) → is_of_drain d act ≡ true → is_flush_failed act ≡ false
drain_none d (FlushFailed doc token from to) e = absurd (true≢false (sym e))
drain_none d _ e = refl

got_none : (c : ℕ) (act : Act) → is_got_by c act ≡ true → is_flush_failed act ≡ false
got_none c (FlushFailed doc token from to) e = absurd (true≢false (sym e))
got_none c _ e = refl

drains_none : (n : ℕ) (before es : List Entry) → AreDrains n before es → All IsNone es
drains_none zero before es x = subst (All IsNone) (sym x) (All-nil IsNone)
drains_none (suc n) before es x =
    subst (All IsNone) (sym x.2) (All-append IsNone x.0 x.1 (drains_none n before x.0 x.3) (All-weaker (λ e. is_of_drain n e.act ≡ true) IsNone (λ e is. drain_none n e.act is) x.1 x.4.only))

sent_none : (u : Option Update) (es : List Entry) → IsSentOnce u es → All IsNone es
sent_none (Some u) es x = subst (All IsNone) (sym x.1) (All-cons IsNone x.0 [] (ap is_flush_failed x.2) (All-nil IsNone))
sent_none None es x = subst (All IsNone) (sym x) (All-nil IsNone)

turn_none : (state : ClientState) (c : ℕ) (before es : List Entry) → IsTurnOf state c before es → All IsNone es
turn_none Joined c before es x =
    subst (All IsNone) (sym x.cut)
    (All-append IsNone x.gets x.sends (All-weaker (λ e. is_got_by c e.act ≡ true) IsNone (λ e is. got_none c e.act is) x.gets x.only) (sent_none (sending c (client c (before ++ x.gets)) (clock (before ++ x.gets))) x.sends x.sends_is))
turn_none Away c before es x = subst (All IsNone) (sym x) (All-nil IsNone)
turn_none Left c before es x = subst (All IsNone) (sym x) (All-nil IsNone)
turn_none Stale c before es x = subst (All IsNone) (sym x) (All-nil IsNone)

turns_none : (n : ℕ) (before es : List Entry) → AreTurns n before es → All IsNone es
turns_none zero before es x = subst (All IsNone) (sym x) (All-nil IsNone)
turns_none (suc n) before es x =
    subst (All IsNone) (sym x.2) (All-append IsNone x.0 x.1 (turns_none n before x.0 x.3) (turn_none (client n (before ++ x.0)).state n (before ++ x.0) x.1 x.4))

round_none : (clients : ℕ) (before es : List Entry) → IsRound clients before es → All IsNone es
round_none clients before es x =
    subst (All IsNone) (sym x.cut) (All-append IsNone x.drained x.turned (drains_none (length (makings before)) before x.drained x.drains) (turns_none clients (before ++ x.drained) x.turned x.turns))

rounds_none : (clients n : ℕ) (before es : List Entry) → AreRounds clients n before es → All IsNone es
rounds_none clients zero before es x = subst (All IsNone) (sym x) (All-nil IsNone)
rounds_none clients (suc n) before es x =
    subst (All IsNone) (sym x.2) (All-append IsNone x.0 x.1 (rounds_none clients n before x.0 x.3) (round_none clients (before ++ x.0) x.1 x.4))

none_quiet : (e : Entry) → IsNone e → IsQuiet e
none_quiet e none = ap (λ b. is_none e.line && (e.seat == 0 && b)) none ∙ go (is_none e.line) (e.seat == 0)
  where
    go : (a b : Bool) → (a && (b && false)) ≡ false
    go true true = refl
    go true false = refl
    go false b = refl

-- ---- the whole
quiet : (sessions : ℕ) (left last : List Entry) → All IsQuiet left → Ends sessions left last → AreKept last → has_flush_failed_at_end last ≡ false
quiet sessions left last all x kept =
    let tick = at_end (Ticked LOCK_LIFE) in
    let r = last_rounds sessions (left ++ tick ∷ []) x.0 x.1 in
    let made : makings last ≡ makings x.0 = flush_makes_none (length (makings x.0)) x.0 last x.2 in
    let f = quiet_below (length (makings x.0)) x.0 last (λ d lt. kept d (subst (λ (ms : List Making). d < length ms) (sym made) lt)) x.2 in
    let to_tick : All IsQuiet (left ++ tick ∷ []) = All-append IsQuiet left (tick ∷ []) all (All-cons IsQuiet tick [] refl (All-nil IsQuiet)) in
    let to_mid : All IsQuiet x.0 = subst (All IsQuiet) (sym r.1) (All-append IsQuiet (left ++ tick ∷ []) r.0 to_tick (All-weaker IsNone IsQuiet none_quiet r.0 (rounds_none sessions r.2.rounds (left ++ tick ∷ []) r.0 r.2.are))) in
    list_any_none is_flush_failed_at_end last (subst (All IsQuiet) (sym f.1) (All-append IsQuiet x.0 f.0 to_mid f.2))

pub follows_quiet : (lines : List Line) (sessions : ℕ) (journal : List Entry) → Follows lines sessions journal → AreKept journal → has_flush_failed_at_end journal ≡ false
follows_quiet lines sessions journal f kept =
    let closed = entry_by 0 None (Closed 0) in
    quiet sessions (f.done ++ closed ∷ []) journal (All-append IsQuiet f.done (closed ∷ []) (by_lines (numbered 1 lines) f.done f.leads) (All-cons IsQuiet closed [] refl (All-nil IsQuiet))) f.ends kept

pub together_quiet : (crew : Crew) (lines : List Line) (sessions : ℕ) (journal : List Entry) → FollowsTogether crew lines sessions journal → AreKept journal → has_flush_failed_at_end journal ≡ false
together_quiet crew lines sessions journal f kept =
    quiet sessions (f.start ++ f.between) journal (All-append IsQuiet f.start f.between (by_lines (document_lines lines) f.start f.makes) (of_crew crew f.between f.crew_only)) f.ends kept
