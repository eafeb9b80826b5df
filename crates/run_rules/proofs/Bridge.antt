-- The rounds of a run that ended are those of which three suffice.
use Rattle.std.proofs.Common.{◌≡◌, ℕ, ◌+◌, suc, zero, ◌&&◌, List, [], ◌∷◌, ◌++◌, length, Bool, true, false, true≢false, refl, sym, ap, ◌∙◌, subst, inl, inr, arith, eqb, eq-eqb, All}
use Rattle.std.specs.Prelude.{Option, Some, None, map}
use Rattle.std.specs.List.{list_all}
use Rattle.std.proofs.lemmas.List.Folds.{list_all-append}
use Rattle.std.proofs.lemmas.List.Elements.{All-append, All-nil, All-cons}
use Rattle.journal_entries.specs.declared.update.Update.{Update}
use Rattle.journal_entries.specs.declared.act.Act.{Act}
use Rattle.journal_entries.specs.declared.act.Act.TheVariants.{Sent, Got, Committed, Released}
use Rattle.journal_entries.specs.declared.act.Entry.{Entry}
use Rattle.journal_rules.specs.Client.{client, sending}
use Rattle.journal_rules.specs.Documents.{makings}
use Rattle.journal_rules.specs.Keeping.{cached}
use Rattle.journal_rules.specs.Legal.{IsLegal, brief_of}
use Rattle.journal_rules.specs.Locks.{clock}
use Rattle.journal_rules.specs.Mail.{mail}
use Rattle.ending_rules.specs.Rounds.{AreClients}
use Rattle.ending_rules.proofs.Shapes.{is_of_drain, IsSentOnce}
use Rattle.ending_rules.specs.Ended.{HasEnded}
use Rattle.ending_rules.proofs.Between.{DrainsSome, Drains as DrainsOut, DrainsBelow, GetsSome, SendsOnce, TakesTurn, TakeTurnsBelow, GoesRound, GoesRounds, GoesLastRounds}
use Rattle.ending_rules.proofs.Steps.{joined_lists, none_drained, drain_ends, no_drains, drains_more, none_got, some_got, no_turn, turn_ends, no_turns, turns_more, round_of, no_rounds, rounds_more, last_rounds_of, ended_by}
use Rattle.turn_rules.specs.Draining.{IsLoad, Caches, IsWhole, Drains, Stop}
use Rattle.run_rules.specs.Ending.{at_end, InOrder, DrainsDry, sent_acts, sending_acts, CatchesUpIf, CatchesUp, Rounds}
use Rattle.run_rules.specs.Lines.{GetsOne, GetsSoMany}
use Rattle.turn_rules.specs.Locking.{acquired}
use Rattle.turn_rules.specs.Turns.{Alone}
use Rattle.run_rules.proofs.Alone.{alone_turn}
use Rattle.run_rules.proofs.Whole.{whole}
use Rattle.turn_rules.specs.Clients.{is_joined}
use Rattle.std.proofs.lemmas.Bool.{and_parts}

module _ (doc : ℕ) where
  abbrev IsOf : Entry → Type 0
  IsOf e = is_of_drain doc e.act ≡ true

  its_own : eqb doc doc ≡ true
  its_own = eq-eqb doc doc refl

  all_of : (acts : List Act) → list_all (is_of_drain doc) acts ≡ true → All IsOf (map at_end acts)
  all_of [] e = All-nil IsOf
  all_of (act ∷ acts) e =
      let both = and_parts (is_of_drain doc act) (list_all (is_of_drain doc) acts) e in
      All-cons IsOf (at_end act) (map at_end acts) both.0 (all_of acts both.1)

  load_of : (token : Option ℕ) (ready : Bool) (act : Act) → IsLoad doc token ready act → is_of_drain doc act ≡ true
  load_of token true act l = ap (is_of_drain doc) l.1 ∙ its_own
  load_of token false act (inl l) = ap (is_of_drain doc) l.2 ∙ its_own
  load_of token false act (inr l) = ap (is_of_drain doc) l.2 ∙ its_own

  loading_of : (here : Bool) (token : Option ℕ) (ready : Bool) (acts : List Act) → Caches here doc token ready acts → list_all (is_of_drain doc) acts ≡ true
  loading_of true token ready acts c = ap (list_all (is_of_drain doc)) c.1
  loading_of false token ready acts c = ap (list_all (is_of_drain doc)) c.2 ∙ ap (λ b. b && true) (load_of token ready c.0 c.1)

  whole_of : (left last : List Entry) (w : IsWhole at_end doc left last) → list_all (is_of_drain doc) (acquired doc left ∷ w.loading ++ Committed doc w.token w.ticket w.outcome ∷ Released doc w.token ∷ []) ≡ true
  whole_of left last w =
      ap (λ b. b && list_all (is_of_drain doc) (w.loading ++ Committed doc w.token w.ticket w.outcome ∷ Released doc w.token ∷ [])) its_own
      ∙ list_all-append (is_of_drain doc) w.loading (Committed doc w.token w.ticket w.outcome ∷ Released doc w.token ∷ [])
      ∙ ap (λ b. b && list_all (is_of_drain doc) (Committed doc w.token w.ticket w.outcome ∷ Released doc w.token ∷ [])) (loading_of (cached doc left) (Some w.token) w.ready w.loading w.caches)
      ∙ ap (λ b. b && (b && true)) its_own

  one_more : (h left last : List Entry) → DrainsSome doc h left → IsWhole at_end doc left last → DrainsSome doc h last
  one_more h left last some w =
      let acts : List Act = acquired doc left ∷ w.loading ++ Committed doc w.token w.ticket w.outcome ∷ Released doc w.token ∷ [] in
      (some.0 ++ map at_end acts, joined_lists h left last some.0 (map at_end acts) some.1 w.last_is, All-append IsOf some.0 (map at_end acts) some.2 (all_of acts (whole_of left last w)))

  some_more : (most : ℕ) (h left last : List Entry) (stop : Stop) → DrainsSome doc h left → Drains at_end Alone doc most left last stop → DrainsSome doc h last
  some_more zero h left last stop some d = subst (λ (j : List Entry). DrainsSome doc h j) (sym d.1) some
  some_more (suc most) h left last stop some (inl x) = subst (λ (j : List Entry). DrainsSome doc h j) (sym x.0) some
  some_more (suc most) h left last stop some (inr x) = some_more most h x.0 last stop (one_more h left x.0 some (whole 0 None doc left x.0 x.1)) x.2

  dry : (left last : List Entry) → DrainsDry doc left last → DrainsOut doc left last
  dry left last d = drain_ends doc left last last (some_more d.0 left left last _ (none_drained doc left) d.1) (refl, d.2)

all_dry : (n : ℕ) (left last : List Entry) → InOrder DrainsDry n left last → DrainsBelow n left last
all_dry zero left last x = subst (λ (j : List Entry). DrainsBelow 0 left j) (sym x) (no_drains left)
all_dry (suc n) left last x = drains_more n (suc n) left x.0 last refl (all_dry n left x.0 x.1) (dry n x.0 last x.2)

-- ---- turns
module _ (c : ℕ) where
  gets : (n : ℕ) (h left last : List Entry) → GetsSome c h left → GetsSoMany at_end Alone n c left last → GetsSome c h last × (mail c last ≡ [])
  gets zero h left last some g = (subst (λ (j : List Entry). GetsSome c h j) (sym g.0) some, g.1)
  gets (suc n) h left last some g =
      let t = alone_turn (GetsOne at_end c) left g.0 g.1 in
      let at : g.0 ≡ left ++ at_end (Got c (brief_of t.1.0)) ∷ [] = t.2 ∙ ap (λ (m : List Entry). left ++ m) t.1.3 in
      gets n h g.0 last (some_got c h left g.0 some (at_end (Got c (brief_of t.1.0)), at, eq-eqb c c refl)) g.2

  sent_once : (u : Option Update) → IsSentOnce u (map at_end (sent_acts u))
  sent_once (Some u) = (at_end (Sent u), refl, refl)
  sent_once None = refl

  sends : (left last : List Entry) → last ≡ left ++ map at_end (sending_acts c left) → SendsOnce c left last
  sends left last e = (map at_end (sending_acts c left), e, sent_once (sending c (client c left) (clock left)))

  turn : (joined : Bool) (left last : List Entry) → is_joined (client c left).state ≡ joined → CatchesUpIf joined c left last → TakesTurn c left last
  turn false left last e x = subst (λ (j : List Entry). TakesTurn c left j) (sym x) (no_turn c left e)
  turn true left last e x =
      let g = gets x.1.0 left left x.0 (none_got c left) x.1.1 in
      turn_ends c left x.0 x.0 last e g.0 (refl, g.1) (sends x.0 last x.2)

all_turns : (n : ℕ) (left last : List Entry) → InOrder CatchesUp n left last → TakeTurnsBelow n left last
all_turns zero left last x = subst (λ (j : List Entry). TakeTurnsBelow 0 left j) (sym x) (no_turns left)
all_turns (suc n) left last x =
    turns_more n (suc n) left x.0 last refl (all_turns n left x.0 x.1) (turn n (is_joined (client n x.0).state) x.0 last refl x.2)

-- ---- rounds
rounds : (sessions most k : ℕ) (start left last : List Entry) → k + most ≡ 3 → GoesRounds sessions k start left → Rounds sessions most left last → GoesLastRounds sessions start last
rounds sessions zero k start left last is so_far r =
    subst (λ (j : List Entry). GoesLastRounds sessions start j) (sym r) (last_rounds_of sessions k start left (omega (arith, is)) so_far (inl (omega (arith, is))))
rounds sessions (suc most) k start left last is so_far (inl x) =
    subst (λ (j : List Entry). GoesLastRounds sessions start j) (sym x.1) (last_rounds_of sessions k start left (omega (arith, is)) so_far (inr x.0))
rounds sessions (suc most) k start left last is so_far (inr x) =
    let mid = x.1.0 in
    let round : GoesRound sessions left mid = round_of sessions left x.1.1.0 mid x.0 (all_dry (length (makings left)) left x.1.1.0 x.1.1.1) (all_turns sessions x.1.1.0 mid x.1.1.2) in
    rounds sessions most (suc k) start mid last (omega (arith, is)) (rounds_more sessions k (suc k) start left mid refl so_far round) x.1.2

pub last_rounds : (sessions : ℕ) (left last : List Entry) → Rounds sessions 3 left last → GoesLastRounds sessions left last
last_rounds sessions left last r = rounds sessions 3 0 left left last refl (no_rounds sessions left) r

pub suffice : (sessions : ℕ) (left last : List Entry) → IsLegal last → AreClients sessions left → Rounds sessions 3 left last → HasEnded last
suffice sessions left last legal beyond r = ended_by sessions left last legal beyond (last_rounds sessions left last r)
