-- How far a client is in the rounds, entry by entry: what others do leaves it there, and so does what it gets.
use Rattle.std.proofs.Common.{◌≡◌, ◌⊎◌, ℕ, ◌≤◌, List, [], ◌∷◌, ◌++◌, true, refl, sym, ap, ◌∙◌, subst, inl, inr, ⊎_elim, arith, eqb, eq-eqb, append-nil}
use Rattle.std.specs.Prelude.{Some, None}
use Rattle.journal_entries.specs.declared.update.Update.{Update}
use Rattle.journal_entries.specs.declared.update.Cause.{Cause}
use Rattle.journal_entries.specs.declared.update.Outcome.{Outcome}
use Rattle.journal_entries.specs.declared.update.Outcome.TheVariants.{Applied, Refused}
use Rattle.journal_entries.specs.declared.message.Msg.{Msg}
use Rattle.journal_entries.specs.declared.message.Msg.TheVariants.{Op, Ack, Error}
use Rattle.journal_entries.specs.declared.message.Brief.{Brief}
use Rattle.journal_entries.specs.declared.act.Act.TheVariants.{Got}
use Rattle.journal_entries.specs.declared.act.Entry.{Entry}
use Rattle.journal_rules.specs.declared.state.ClientState.TheVariants.{Joined, Stale}
use Rattle.journal_rules.specs.Documents.{Item, applied_list, update_of, update_at, is_in}
use Rattle.journal_rules.specs.Mail.{mail_in, mail}
use Rattle.journal_rules.specs.Client.{Client, client, client_by, has_flight, got_by, delivered}
use Rattle.journal_rules.specs.Legal.{IsAllowed, IsLegal}
use Rattle.journal_laws.specs.Once.{IsCopy}
use Rattle.journal_rules.proofs.Pushing.{client-push}
use Rattle.journal_rules.proofs.Waits.{update_stays}
use Rattle.journal_rules.proofs.Lists.{AllIn, AnyIn, Each, all_any, all_in_right, each_at}
use Rattle.journal_laws.proofs.Alive.{Mine, owner_is, start, IsItem, IsFlying, IsGrounded, IsAlive}
use Rattle.journal_laws.proofs.Stepping.{own}
use Rattle.journal_laws.proofs.Updates.{update_new}
use Rattle.journal_laws.proofs.Mailing.{Delivers, IsPosted}
use Rattle.journal_laws.proofs.World.{IsWell, World, joined_alive}
use Rattle.journal_laws.proofs.ClientsOn.{if_true}
use Rattle.journal_laws.proofs.Everything.{world}
use Rattle.ending_rules.specs.Outcomes.{outcomes}
use Rattle.ending_rules.specs.Ended.{AreAnswered, AreRefused}
use Rattle.ending_rules.proofs.Answered.{answer_stays, fates, HasOutcome, items_answered}
use Rattle.ending_rules.proofs.Apart.{Apart, apart_client}
use Rattle.ending_rules.proofs.Given.{IsLanding, Leaving, leaving, void_stays}
use Rattle.ending_rules.proofs.Refusals.{IsErrorOf, told_refusals}

-- how many turns a client has had
pub data Stage : Type 0 where
  NoTurn : Stage
  OneTurn : Stage
  TwoTurns : Stage
  ThreeTurns : Stage

abbrev pub after : Stage → Stage
after NoTurn = OneTurn
after OneTurn = TwoTurns
after TwoTurns = ThreeTurns
after ThreeTurns = ThreeTurns

-- nothing of its own is left to a client
abbrev pub IsSilent : Client → Type 0
IsSilent s = (s.flight ≡ None) × (s.pending ≡ [])

-- the client's operation in flight became empty while every copy of it was refused
abbrev pub IsVoid : ℕ → List Entry → Client → Type 0
IsVoid c j s = (s.flight ≡ Some []) × AreRefused c s.number j

-- an update was sent under the client's present number and source
pub record WasSent (c : ℕ) (j : List Entry) (s : Client) : Type 0 where
  pub t : ℕ
  pub u : Update
  pub known : update_at j t ≡ Some u
  pub own : u.client ≡ Some c
  pub number_is : u.number ≡ s.number
  pub source_is : u.source ≡ s.source

-- what may still be in flight, or pending
abbrev pub MayFly : Stage → ℕ → List Entry → Client → Type 0
MayFly NoTurn c j s = Unit {0}
MayFly OneTurn c j s = WasSent c j s
MayFly TwoTurns c j s = WasSent c j s × (s.pending ≡ [])
MayFly ThreeTurns c j s = ⊥

abbrev pub StageOf : Stage → ℕ → List Entry → Client → Type 0
StageOf k c j s = IsSilent s ⊎ (IsVoid c j s ⊎ MayFly k c j s)

abbrev pub StageAt : Stage → ℕ → List Entry → Type 0
StageAt k c j = (client c j).state ≡ Joined → StageOf k c j (client c j)

-- each update of a client has its outcome
abbrev pub AllAnswered : ℕ → List Entry → Type 0
AllAnswered c j = AreAnswered c j

-- ---- an entry that sends nothing of the client's
module _ (c : ℕ) (h : List Entry) (e : Entry) (may : IsAllowed h e.seat e.act) (unsent : (u : Update) → update_of e.act ≡ Some u → u.client ≡ Some c → ⊥) where
  old_one : (t : ℕ) (u : Update) → update_at (h ++ e ∷ []) t ≡ Some u → u.client ≡ Some c → update_at h t ≡ Some u
  old_one t u known mine = ⊎_elim {C = update_at h t ≡ Some u} (λ old. old) (λ new. absurd (unsent u new.1 mine)) (update_new h e t u known)

  pub refused_stay : (n : ℕ) → AreRefused c n h → AreRefused c n (h ++ e ∷ [])
  refused_stay n all t u known mine number = let r = all t u (old_one t u known mine) mine number in (r.0, answer_stays t h e (Refused r.0) [] may r.1)

  pub answered_stay : AllAnswered c h → AllAnswered c (h ++ e ∷ [])
  answered_stay all t u known mine = let r = all t u (old_one t u known mine) mine in (r.0, answer_stays t h e r.0 [] may r.1)

  pub sent_stays : (s t : Client) → t.number ≡ s.number → t.source ≡ s.source → WasSent c h s → WasSent c (h ++ e ∷ []) t
  sent_stays s t number source w = record { t = w.t; u = w.u; known = update_stays h (e ∷ []) w.t w.u w.known; own = w.own; number_is = w.number_is ∙ sym number; source_is = w.source_is ∙ sym source }

  flies_on : (k : Stage) (s t : Client) → t.number ≡ s.number → t.source ≡ s.source → (s.pending ≡ [] → t.pending ≡ []) → MayFly k c h s → MayFly k c (h ++ e ∷ []) t
  flies_on NoTurn s t number source pending m = tt
  flies_on OneTurn s t number source pending m = sent_stays s t number source m
  flies_on TwoTurns s t number source pending m = (sent_stays s t number source m.0, pending m.1)
  flies_on ThreeTurns s t number source pending m = m

  pub stage_same : (k : Stage) (s : Client) → StageOf k c h s → StageOf k c (h ++ e ∷ []) s
  stage_same k s x = ⊎_elim {C = StageOf k c (h ++ e ∷ []) s}
      (λ silent. inl silent)
      (λ r. ⊎_elim {C = StageOf k c (h ++ e ∷ []) s} (λ void. inr (inl (void.0, refused_stay s.number void.1))) (λ m. inr (inr (flies_on k s s refl refl (λ p. p) m))) r)
      x

-- another's entry
pub stage_apart : (k : Stage) (c : ℕ) (h : List Entry) (e : Entry) → IsAllowed h e.seat e.act → Apart c e.act → StageAt k c h → StageAt k c (h ++ e ∷ [])
stage_apart k c h e may a x =
    let T : Client → Type 0 = λ s. s.state ≡ Joined → StageOf k c (h ++ e ∷ []) s in
    subst T (sym (apart_client c h e a)) (λ st. stage_same c h e may a.unsent k (client c h) (x st))

-- ---- what a client gets
module _ (c : ℕ) (h : List Entry) (legal : IsLegal h) (st : (client c h).state ≡ Joined) where
  abbrev pub w : World h
  w = world h legal

  abbrev pub x : IsWell c h (client c h)
  x = w.clients c (joined_alive (client c h).state st)

  p : IsPosted c h (client c h) x.ahead
  p = x.posted st

  letters : (ms : List Msg) → mail c h ≡ ms → Delivers (client c h).source (client c h).version x.ahead ms
  letters ms is = subst (λ (l : List Msg). Delivers (client c h).source (client c h).version x.ahead l) (sym (ap mail_in p.place_is) ∙ is) p.delivers

  -- no item of the client's document is a copy of a number that was refused
  no_copy : (i : Item) (rest : List Item) → x.ahead ≡ i ∷ rest → AreRefused c (client c h).number h → i.update.client ≡ Some c → i.update.number ≡ (client c h).number → IsItem (client c h).doc h x.seen i → ⊥
  no_copy i rest first refused own number it =
      let all : AllIn (HasOutcome h) (x.seen ++ i ∷ rest) = subst (AllIn (HasOutcome h)) (x.alive.split ∙ ap (λ l. x.seen ++ l) first) (items_answered (client c h).doc h legal) in
      let out : HasOutcome h i = (all_in_right (HasOutcome h) x.seen (i ∷ rest) all).0 in
      let r = refused i.ticket i.update it.known own number in
      let f : Applied i.v i.op ∷ [] ≡ Refused r.0 ∷ [] = sym out ∙ r.1 in
      cc

  item_is : (i : Item) (rest : List Item) → x.ahead ≡ i ∷ rest → IsItem (client c h).doc h x.seen i
  item_is i rest first =
      let each : Each (IsItem (client c h).doc h) [] (x.seen ++ i ∷ rest) = subst (λ (l : List Item). Each (IsItem (client c h).doc h) [] l) (x.alive.split ∙ ap (λ l. x.seen ++ l) first) (w.items (client c h).doc x.alive.made) in
      each_at (IsItem (client c h).doc h) [] x.seen i rest each

  -- no message ends a flight whose every copy was refused
  pub lands_not : AreRefused c (client c h).number h → (m : Msg) (ms : List Msg) → mail c h ≡ m ∷ ms → IsLanding (client c h) m → ⊥
  lands_not refused m ms first lands = by m lands (letters (m ∷ ms) first)
    where
      by : (m : Msg) → IsLanding (client c h) m → Delivers (client c h).source (client c h).version x.ahead (m ∷ ms) → ⊥
      by (Op v op source) lands f =
          let al : IsAlive c h (client c h) x.seen (f.0 ∷ f.1) = subst (λ (l : List Item). IsAlive c h (client c h) x.seen l) f.2 x.alive in
          let it = item_is f.0 f.1 f.2 in
          let under : is_in f.0.update.source (client c h).sources ≡ true = ap (λ n. is_in n (client c h).sources) (sym f.5) ∙ lands.2 in
          let fly : IsFlying h (client c h) x.seen f.0.update = own c h (client c h) x.seen f.0 f.1 w.owned al it under in
          let mine = x.alive.under_mine f.0.update.source under in
          no_copy f.0 f.1 f.2 refused (owner_is c h f.0.update.client f.0.update.source mine.0 (w.owned f.0.ticket f.0.update it.known)) fly.number_is it
      by (Ack v number) lands (inl f) =
          let it = item_is f.0 f.1 f.2 in
          let m : Mine c h f.0.update.source = subst (Mine c h) (sym f.5) x.alive.source_mine.0 in
          let own_it : f.0.update.client ≡ Some c = owner_is c h f.0.update.client f.0.update.source m (w.owned f.0.ticket f.0.update it.known) in
          ⊎_elim {C = ⊥}
          (λ (fly : IsFlying h (client c h) x.seen f.0.update). no_copy f.0 f.1 f.2 refused own_it fly.number_is it)
          (λ (g : IsGrounded c h (client c h) x.seen f.0.update). all_any (IsCopy c f.0.update.number) x.seen (it.once c own_it) (g.done (subst (λ n. start c h ≤ n) (sym f.5) x.alive.source_mine.1)))
          (x.alive.filed f.0.ticket f.0.update it.known own_it)
      by (Ack v number) lands (inr f) = let lt = f.0 in let same = lands.0 in absurd (omega (arith, lt, same))
      by (Error number cause) lands f = lands

  -- with no mail, and each update answered, each copy of what is in flight was refused, and none was sent under the present source
  pub nothing_ahead : mail c h ≡ [] → x.ahead ≡ []
  nothing_ahead none = letters [] none

  pub all_refused : mail c h ≡ [] → AllAnswered c h → has_flight (client c h).flight ≡ true → AreRefused c (client c h).number h
  all_refused none answered flies t u known mine number =
      let a = answered t u known mine in
      ⊎_elim {C = (cause : Cause) × (outcomes t h ≡ Refused cause ∷ [])}
      (λ r. (r.0, a.1 ∙ ap (λ (o : Outcome). o ∷ []) r.1))
      (λ any. absurd (landed_not any))
      (fates h legal t c u a.0 known mine a.1)
    where
      its_doc : u.doc ≡ (client c h).doc
      its_doc = ⊎_elim {C = u.doc ≡ (client c h).doc}
          (λ (f : IsFlying h (client c h) x.seen u). f.doc_is)
          (λ (g : IsGrounded c h (client c h) x.seen u). absurd (g.other flies number))
          (x.alive.filed t u known mine)

      landed_not : AnyIn (IsCopy c u.number) (applied_list u.doc h) → ⊥
      landed_not any =
          let list : applied_list u.doc h ≡ x.seen = ap (λ d. applied_list d h) its_doc ∙ x.alive.split ∙ ap (λ l. x.seen ++ l) (nothing_ahead none) ∙ append-nil x.seen in
          let there : AnyIn (IsCopy c (client c h).number) x.seen = subst (λ n. AnyIn (IsCopy c n) x.seen) number (subst (AnyIn (IsCopy c u.number)) list any) in
          all_any (IsCopy c (client c h).number) x.seen (x.alive.late flies) there

  pub not_sent_now : mail c h ≡ [] → AllAnswered c h → has_flight (client c h).flight ≡ true → WasSent c h (client c h) → ⊥
  not_sent_now none answered flies sent =
      let r = all_refused none answered flies sent.t sent.u sent.known sent.own sent.number_is in
      let there : AnyIn (IsErrorOf (client c h).number) (mail c h) = told_refusals c h legal st flies sent.t sent.u r.0 sent.known sent.own sent.number_is sent.source_is r.1 in
      subst (AnyIn (IsErrorOf (client c h).number)) none there

pub stage_got : (k : Stage) (c : ℕ) (h : List Entry) (e : Entry) (brief : Brief) → IsLegal h → IsAllowed h e.seat e.act → e.act ≡ Got c brief → StageAt k c h → StageAt k c (h ++ e ∷ [])
stage_got k c h e brief legal may is at =
    let row : IsAllowed h e.seat (Got c brief) = subst (λ a. IsAllowed h e.seat a) is may in
    let T : Client → Type 0 = λ s. s.state ≡ Joined → StageOf k c (h ++ e ∷ []) s in
    let by : client c (h ++ e ∷ []) ≡ delivered (client c h) row.message =
    client-push c h e ∙ ap (λ a. client_by c h a (client c h)) is ∙ if_true (eqb c c) (got_by (client c h) (mail c h)) (client c h) (eq-eqb c c refl) ∙ ap (got_by (client c h)) row.first in
    subst T (sym by) (go row.message row.rest row.first)
  where
    unsent : (u : Update) → update_of e.act ≡ Some u → u.client ≡ Some c → ⊥
    unsent u sent mine = let f : None ≡ Some u = sym (ap update_of is) ∙ sent in cc

    go : (m : Msg) (ms : List Msg) → mail c h ≡ m ∷ ms → (delivered (client c h) m).state ≡ Joined → StageOf k c (h ++ e ∷ []) (delivered (client c h) m)
    go m ms first st =
        let l : Leaving (client c h) (delivered (client c h) m) = leaving (client c h) m in
        let st0 : (client c h).state ≡ Joined = ⊎_elim {C = (client c h).state ≡ Joined} (λ same. sym same ∙ st) (λ gone. let f : Stale ≡ Joined = sym gone ∙ st in absurd (cc)) l.state_is in
        ⊎_elim {C = StageOf k c (h ++ e ∷ []) (delivered (client c h) m)}
        (λ silent. inl (l.none_stays silent.0, l.pending_from silent.1))
        (λ r. ⊎_elim {C = StageOf k c (h ++ e ∷ []) (delivered (client c h) m)}
        (λ void. inr (inl (
          void_stays (client c h) m void.0 (lands_not c h legal st0 void.1 m ms first),
          subst (λ n. AreRefused c n (h ++ e ∷ [])) (sym l.number_is) (refused_stay c h e may unsent (client c h).number void.1),
        )))
        (λ f. inr (inr (flies_on c h e may unsent k (client c h) (delivered (client c h) m) l.number_is l.source_is l.pending_from f)))
        r)
        (at st0)
