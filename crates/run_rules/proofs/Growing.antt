-- What holds of each turn holds of lines: a journal only grows, and a line of one who is alone is, to everyone else, entries of another.
use Rattle.std.proofs.Common.{◌≡◌, ◌⊎◌, ℕ, ◌+◌, ◌&&◌, zero, suc, List, [], ◌∷◌, ◌++◌, length, Bool, true, false, not, refl, sym, ap, ap₂, ◌∙◌, subst, inl, inr, append_assoc, append-nil}
use Rattle.std.specs.Prelude.{Option, Some, None, Result, Ok, Err, map, min, nat_lt, if◌then◌else◌}
use Rattle.std.specs.List.{list_all}
use Rattle.std.proofs.lemmas.List.Folds.{list_all-append}
use Rattle.ot_op.specs.declared.comp.Comp.{Comp}
use Rattle.ot_op.specs.declared.comp.Comp.TheVariants as comp
use Rattle.ot_op.specs.declared.fault.FormFault.{FormFault}
use Rattle.ot_op.specs.Compose.{appended}
use Rattle.ot_op.specs.Operation.{total_units}
use Rattle.expiring_lock.specs.declared.refusal.Stale.{Stale}
use Rattle.expiring_lock.specs.declared.refusal.Stale.TheVariants.{Other}
use Rattle.journal_entries.specs.declared.update.Outcome.TheVariants.{Refused}
use Rattle.journal_entries.specs.declared.update.Cause.TheVariants.{StoreFault}
use Rattle.journal_entries.specs.declared.message.Msg.{Msg}
use Rattle.journal_entries.specs.declared.update.Update.{Update}
use Rattle.journal_entries.specs.declared.act.Act.{Act}
use Rattle.journal_entries.specs.declared.act.Act.TheVariants.{Made, Ticked, Joined as JoinedAct, Edited, Sent, Malformed, Got, Left as LeftAct, Loaded, LoadFailed, LoadDiffers, Committed, Released, Flushed, FlushFailed, Unloaded, Handed, Declined}
use Rattle.journal_entries.specs.declared.act.Entry.{Entry}
use Rattle.journal_entries.specs.declared.why.Why.{Why}
use Rattle.journal_entries.specs.declared.why.Why.TheVariants.{NoDoc, NoProject, NotJoined, NotLeft, TooOld, PastEnd, Full, InFlight, Nothing, Empty, Busy as IsBusy, Holding, Stale as IsStale, StoreFault as StoreFaultWhy}
use Rattle.journal_rules.specs.Client.{client, has_flight, sending}
use Rattle.journal_rules.specs.Deciding.{greatest_age}
use Rattle.journal_rules.specs.Documents.{makings, number_of, version, waiting}
use Rattle.journal_rules.specs.History.{history}
use Rattle.journal_rules.specs.Keeping.{cached}
use Rattle.journal_rules.specs.Legal.{brief_of, is_project, source_at}
use Rattle.journal_rules.specs.Locks.{clock, last_token, next_token}
use Rattle.journal_rules.specs.Mail.{mail}
use Rattle.session_lines.specs.declared.line.Line.{Line}
use Rattle.session_lines.specs.declared.line.Line.TheVariants.{Doc, Tick, Raw, Join, Rejoin, Leave, Send, Resend, Recv, Sync, Finish, Ins, Del, Com, Drain, Hold, Flush, Unload, Hand}
use Rattle.session_lines.specs.Script.{session_of}
use Rattle.turn_rules.specs.Clients.{back_act, edit_act, got_act, is_full, is_left, is_present, leave_act, part_of, recv_act, rejoin_act, resend_act, send_act, sent_or_nothing, is_joined}
use Rattle.turn_rules.specs.Draining.{IsLoad, Caches, refused_unless, TakesUp, IsTakenOver, Under, IsCommit, IsRelease, Stop, Done, HeldUp, Releases, Settles, DrainsOne, Drains}
use Rattle.turn_rules.specs.Flushing.{IsPut, FlushesFrom}
use Rattle.run_rules.specs.Keeping.{Preparation, Preparations}
use Rattle.run_rules.specs.Lines.{joined_if, Joins, Finishes, FinishesUnless, GetsOne, GetsSoMany, DrainsSoMany, DrainsNamed, SyncsIf, stop_acts, late_acts, FlushesUnless, FlushesNamed, HoldsIf, HoldsUnless, HoldsNamed, Holds, not_holdable, Does, Leads}
use Rattle.turn_rules.specs.Locking.{acquired, staleness, unavailable}
use Rattle.run_rules.specs.Plain.{hand_act, not_unloadable, plain_acts, raw_act, unload_acts, unload_acts_by, unloads}
use Rattle.turn_rules.specs.Turns.{Alone, Among, Turn, entry_by}

-- entries of others, none or some
module _ (own : Entry → Bool) where
  pub among_same : (j : List Entry) → Among own j j
  among_same j = ([], sym (append-nil j), refl)

  pub among_on : (a b c : List Entry) → Among own a b → Among own b c → Among own a c
  among_on a b c x y = (
    x.0 ++ y.0,
    y.1 ∙ ap (λ (j : List Entry). j ++ y.0) x.1 ∙ append_assoc a x.0 y.0,
    list_all-append (λ e. not (own e)) x.0 y.0 ∙ ap₂ (λ (p q : Bool). p && q) x.2 y.2,
  )

-- who joins
abbrev pub is_joining : Act → Bool
is_joining (JoinedAct session doc user track since source v) = true
is_joining _ = false

-- acts of which each may be made: those that join nobody, and those by which the session of a line joins
module _ (ok : Act → Bool) (plain : (act : Act) → is_joining act ≡ false → ok act ≡ true) where
  abbrev pub IsOk : Act → Type 0
  IsOk act = ok act ≡ true

  abbrev pub AreOk : List Act → Type 0
  AreOk acts = list_all ok acts ≡ true

  abbrev pub MayJoin : Line → Type 0
  MayJoin line = (s : ℕ) → session_of line ≡ Some s → (doc : ℕ) (user : List ℕ) (track : Bool) (since : Option ℕ) (source v : ℕ) → IsOk (JoinedAct s doc user track since source v)

  abbrev pub MayAll : List (ℕ × Line) → Type 0
  MayAll [] = Unit {0}
  MayAll (x ∷ xs) = MayJoin x.1 × MayAll xs

  ok_then : (act : Act) (acts : List Act) → IsOk act → AreOk acts → AreOk (act ∷ acts)
  ok_then act acts x y = ap₂ (λ (p q : Bool). p && q) x y

  one : (act : Act) → IsOk act → AreOk (act ∷ [])
  one act x = ok_then act [] x refl

  said : (act : Act) → is_joining act ≡ false → AreOk (act ∷ [])
  said act e = one act (plain act e)

  both : (xs ys : List Act) → AreOk xs → AreOk ys → AreOk (xs ++ ys)
  both xs ys x y = list_all-append ok xs ys ∙ ap₂ (λ (p q : Bool). p && q) x y

  ok_same : (a b : Act) → a ≡ b → IsOk b → IsOk a
  ok_same a b e x = subst IsOk (sym e) x

  ok_if : (c : Bool) (x y : Act) → IsOk x → IsOk y → IsOk (if c then x else y)
  ok_if true x y p q = p
  ok_if false x y p q = q

  ok_load : (doc : ℕ) (token : Option ℕ) (ready : Bool) (act : Act) → IsLoad doc token ready act → IsOk act
  ok_load doc token true act l = ok_same act (Loaded doc token l.0) l.1 (plain (Loaded doc token l.0) refl)
  ok_load doc token false act (inl l) = ok_same act (LoadFailed doc token l.0 l.1) l.2 (plain (LoadFailed doc token l.0 l.1) refl)
  ok_load doc token false act (inr l) = ok_same act (LoadDiffers doc token l.0 l.1) l.2 (plain (LoadDiffers doc token l.0 l.1) refl)

  ok_loading : (here : Bool) (doc : ℕ) (token : Option ℕ) (ready : Bool) (acts : List Act) → Caches here doc token ready acts → AreOk acts
  ok_loading true doc token ready acts c = subst AreOk (sym c.1) refl
  ok_loading false doc token ready acts c = subst AreOk (sym c.2) (one c.0 (ok_load doc token ready c.0 c.1))

  ok_refused : (ready : Bool) (doc token ticket : ℕ) → AreOk (refused_unless ready doc token ticket)
  ok_refused true doc token ticket = refl
  ok_refused false doc token ticket = said (Committed doc token ticket (Refused StoreFault)) refl

  ok_commit : (doc token : ℕ) (act : Act) → IsCommit doc token act → IsOk act
  ok_commit doc token act c = ok_same act (Committed doc token c.0 c.1) c.2 (plain (Committed doc token c.0 c.1) refl)

  ok_release : (doc token : ℕ) (act : Act) → IsRelease doc token act → IsOk act
  ok_release doc token act r = ok_same act (Released doc token) r (plain (Released doc token) refl)

  ok_put : (doc token : ℕ) (act : Act) → IsPut doc token act → IsOk act
  ok_put doc token act (inl x) = ok_same act (Flushed doc token x.0) x.1 (plain (Flushed doc token x.0) refl)
  ok_put doc token act (inr x) = ok_same act (FlushFailed doc token x.0 x.1) x.2 (plain (FlushFailed doc token x.0 x.1) refl)

  ok_stop : (session : ℕ) (stop : Stop) → AreOk (stop_acts session stop)
  ok_stop session Done = refl
  ok_stop session (HeldUp b) = said (Declined session (IsBusy b)) refl

  -- the lines of one turn
  ok_raw : (doc : Option ℕ) (now session : ℕ) (user : List ℕ) (source : ℕ) (dup : List ℕ) (track : Bool) (v : ℕ) (op : Result (List Comp) FormFault) → IsOk (raw_act doc now session user source dup track v op)
  ok_raw None now session user source dup track v op = plain (Declined session NoDoc) refl
  ok_raw (Some doc) now session user source dup track v (Ok op) = plain (Sent _) refl
  ok_raw (Some doc) now session user source dup track v (Err fault) = plain (Malformed doc fault) refl

  ok_sent : (session : ℕ) (u : Option Update) → IsOk (sent_or_nothing session u)
  ok_sent session (Some u) = plain (Sent u) refl
  ok_sent session None = plain (Declined session Nothing) refl

  ok_got : (session : ℕ) (mail : List Msg) → IsOk (got_act session mail)
  ok_got session [] = plain (Declined session Empty) refl
  ok_got session (message ∷ rest) = plain (Got session (brief_of message)) refl

  ok_edit : (session : ℕ) (look : List Entry) (end : ℕ) (comp : Comp) → IsOk (edit_act session look end comp)
  ok_edit session look end comp =
      ok_if (not (is_joined (client session look).state)) (Declined session NotJoined) _ (plain (Declined session NotJoined) refl)
      (ok_if (nat_lt (length (client session look).text) end) (Declined session (PastEnd (length (client session look).text))) _ (plain (Declined session (PastEnd (length (client session look).text))) refl)
      (ok_if (is_full (appended (client session look).pending comp)) (Declined session (Full (length (appended (client session look).pending comp)) (total_units (appended (client session look).pending comp)))) (Edited session comp)
      (plain (Declined session (Full (length (appended (client session look).pending comp)) (total_units (appended (client session look).pending comp)))) refl) (plain (Edited session comp) refl)))

  ok_send : (session : ℕ) (look : List Entry) → IsOk (send_act session look)
  ok_send session look =
      ok_if (not (is_joined (client session look).state)) (Declined session NotJoined) _ (plain (Declined session NotJoined) refl)
      (ok_if (has_flight (client session look).flight) (Declined session InFlight) _ (plain (Declined session InFlight) refl) (ok_sent session (sending session (client session look) (clock look))))

  ok_resend : (session : ℕ) (look : List Entry) → IsOk (resend_act session look)
  ok_resend session look =
      ok_if (not (is_joined (client session look).state)) (Declined session NotJoined) _ (plain (Declined session NotJoined) refl)
      (ok_if (has_flight (client session look).flight) _ (Declined session Nothing) (ok_sent session (sending session (client session look) (clock look))) (plain (Declined session Nothing) refl))

  ok_rejoin : (session : ℕ) (look : List Entry) → MayJoin (Rejoin session) → IsOk (rejoin_act session look)
  ok_rejoin session look may =
      let c = client session look in
      ok_if (not (is_left c.state)) (Declined session NotLeft) _ (plain (Declined session NotLeft) refl)
      (ok_if (nat_lt (c.version + greatest_age) (version c.doc look)) (Declined session (TooOld (version c.doc look))) (back_act session c look)
      (plain (Declined session (TooOld (version c.doc look))) refl) (may session refl c.doc c.user c.track (Some c.version) (source_at look) (version c.doc look)))

  ok_unloads : (session doc token : ℕ) (why : Option Why) → AreOk (unloads session doc token why)
  ok_unloads session doc token None = ok_then (Unloaded doc token) (Released doc token ∷ []) (plain (Unloaded doc token) refl) (said (Released doc token) refl)
  ok_unloads session doc token (Some why) = ok_then (Released doc token) (Declined session why ∷ []) (plain (Released doc token) refl) (said (Declined session why) refl)

  ok_unload_by : (session doc : ℕ) (look : List Entry) (why : Option Why) → AreOk (unload_acts_by session doc look why)
  ok_unload_by session doc look (Some why) = said (Declined session why) refl
  ok_unload_by session doc look None =
      ok_then (acquired doc look) (unloads session doc (next_token look) (not_unloadable doc look)) (plain (acquired doc look) refl) (ok_unloads session doc (next_token look) (not_unloadable doc look))

  ok_unload : (session : ℕ) (doc : Option ℕ) (look : List Entry) → AreOk (unload_acts session doc look)
  ok_unload session None look = said (Declined session NoDoc) refl
  ok_unload session (Some doc) look = ok_unload_by session doc look (unavailable doc look)

  ok_hand : (session : ℕ) (project : List ℕ) (n : ℕ) (look : List Entry) → IsOk (hand_act session project n look)
  ok_hand session project n look =
      ok_if (is_project project look) (Handed project (min n (length (history project look)))) (Declined session NoProject) (plain (Handed project (min n (length (history project look)))) refl) (plain (Declined session NoProject) refl)

  ok_plain : (look : List Entry) (line : Line) → MayJoin line → AreOk (plain_acts look line)
  ok_plain look (Doc name project text v) may = said (Made (length (makings look)) name project text v) refl
  ok_plain look (Tick session ms) may = said (Ticked ms) refl
  ok_plain look (Raw session doc user source dup track v op) may = one _ (ok_raw (number_of doc look) (clock look) session user source dup track v op)
  ok_plain look (Rejoin session) may = one (rejoin_act session look) (ok_rejoin session look may)
  ok_plain look (Leave session) may =
      one (leave_act session look) (ok_if (is_present (client session look).state) (LeftAct session) (Declined session NotJoined) (plain (LeftAct session) refl) (plain (Declined session NotJoined) refl))
  ok_plain look (Ins session p text) may = one (edit_act session look p (comp.Ins p text)) (ok_edit session look p (comp.Ins p text))
  ok_plain look (Del session p n) may = one (edit_act session look (p + n) (comp.Del p (part_of session look p n))) (ok_edit session look (p + n) (comp.Del p (part_of session look p n)))
  ok_plain look (Com session p n t) may = one (edit_act session look (p + n) (comp.Com p (part_of session look p n) t)) (ok_edit session look (p + n) (comp.Com p (part_of session look p n) t))
  ok_plain look (Send session) may = one (send_act session look) (ok_send session look)
  ok_plain look (Resend session) may = one (resend_act session look) (ok_resend session look)
  ok_plain look (Recv session) may = one (recv_act session look) (ok_got session (mail session look))
  ok_plain look (Unload session doc) may = ok_unload session (number_of doc look) look
  ok_plain look (Hand session project n) may = one (hand_act session project n look) (ok_hand session project n look)
  ok_plain look _ may = refl

-- what leads from each journal to itself, goes on, and holds of what comes between turns and of the entries of turns, holds of all that is done
module _ (ok : Act → Bool) (plain : (act : Act) → is_joining act ≡ false → ok act ≡ true) (Goes : List Entry → List Entry → Type 0) (stays : (j : List Entry) → Goes j j) (on : (a b c : List Entry) → Goes a b → Goes b c → Goes a c)
    (Next : List Entry → List Entry → Type 0) (next : (a b : List Entry) → Next a b → Goes a b) where
  module _ (by : Act → Entry) (writes : (acts : List Act) → list_all ok acts ≡ true → (j : List Entry) → Goes j (j ++ map by acts)) where
    by_acts : (acts : List Act) → list_all ok acts ≡ true → (left last : List Entry) → last ≡ left ++ map by acts → Goes left last
    by_acts acts may left last e = subst (λ (j : List Entry). Goes left j) (sym e) (writes acts may left)

    made_by : (acts : List Act) → list_all ok acts ≡ true → (look made : List Entry) → made ≡ map by acts → Goes look (look ++ made)
    made_by acts may look made e = by_acts acts may look (look ++ made) (ap (λ (m : List Entry). look ++ m) e)

    says : (act : Act) → is_joining act ≡ false → (left last : List Entry) → last ≡ left ++ by act ∷ [] → Goes left last
    says act e left last is = by_acts (act ∷ []) (said ok plain act e) left last is

    same : (left last : List Entry) → last ≡ left → Goes left last
    same left last e = subst (λ (j : List Entry). Goes left j) (sym e) (stays left)

    turn_grows : (Makes : List Entry → List Entry → Type 0) → ((look made : List Entry) → Makes look made → Goes look (look ++ made)) → (left last : List Entry) → Turn Next Makes left last → Goes left last
    turn_grows Makes grows left last t =
        on left t.0 last (next left t.0 t.2) (subst (λ (j : List Entry). Goes t.0 j) (sym t.4) (grows t.0 t.1 t.3))

    takes_up : (doc token : ℕ) (ready : Bool) (look made : List Entry) → TakesUp by doc token ready look made → Goes look (look ++ made)
    takes_up doc token ready look made t =
        made_by (acquired doc look ∷ t.loading ++ refused_unless ready doc token t.ticket)
        (ok_then ok plain (acquired doc look) (t.loading ++ refused_unless ready doc token t.ticket) (plain (acquired doc look) refl)
        (both ok plain t.loading (refused_unless ready doc token t.ticket) (ok_loading ok plain (cached doc look) doc (Some token) ready t.loading t.caches) (ok_refused ok plain ready doc token t.ticket)))
        look made t.made_is

    under : (doc token : ℕ) (Is : Act → Type 0) → ((act : Act) → Is act → ok act ≡ true) → (look made : List Entry) → Under by doc token Is look made → Goes look (look ++ made)
    under doc token Is may look made (inl x) = made_by (x.0 ∷ []) (one ok plain x.0 (may x.0 x.1)) look made x.2
    under doc token Is may look made (inr x) = made_by [] refl look made x.1

    pub releases : (doc token : ℕ) (left last : List Entry) → Releases by Next doc token left last → Goes left last
    releases doc token left last r = turn_grows (Under by doc token (IsRelease doc token)) (under doc token (IsRelease doc token) (ok_release ok plain doc token)) left last r

    pub settles : (ready : Bool) (doc token : ℕ) (left last : List Entry) → Settles by Next ready doc token left last → Goes left last
    settles true doc token left last s =
        on left s.0 last (turn_grows (Under by doc token (IsCommit doc token)) (under doc token (IsCommit doc token) (ok_commit ok plain doc token)) left s.0 s.1) (releases doc token s.0 last s.2)
    settles false doc token left last s = releases doc token left last s

    pub drains_one : (doc : ℕ) (left last : List Entry) → DrainsOne by Next doc left last → Goes left last
    drains_one doc left last d = on left d.2 last (turn_grows (TakesUp by doc d.0 d.1) (takes_up doc d.0 d.1) left d.2 d.3) (settles d.1 doc d.0 d.2 last d.4)

    pub drains : (doc most : ℕ) (left last : List Entry) (stop : Stop) → Drains by Next doc most left last stop → Goes left last
    drains doc zero left last stop d = same left last d.1
    drains doc (suc most) left last stop (inl x) = next left last x.0
    drains doc (suc most) left last stop (inr x) = on left x.0 last (drains_one doc left x.0 x.1) (drains doc most x.0 last stop x.2)

    gets_one : (c : ℕ) (look made : List Entry) → GetsOne by c look made → Goes look (look ++ made)
    gets_one c look made g = made_by (Got c (brief_of g.0) ∷ []) (said ok plain (Got c (brief_of g.0)) refl) look made g.3

    pub gets : (n c : ℕ) (left last : List Entry) → GetsSoMany by Next n c left last → Goes left last
    gets zero c left last g = next left last g.0
    gets (suc n) c left last g = on left g.0 last (turn_grows (GetsOne by c) (gets_one c) left g.0 g.1) (gets n c g.0 last g.2)

    put : (late : List Entry → List Act) (late_ok : (look : List Entry) → list_all ok (late look) ≡ true) (doc token : ℕ) (look last : List Entry)
        → ((act : Act) × IsPut doc token act × Releases by Next doc token (look ++ by act ∷ []) last) ⊎ (IsTakenOver doc token look × (last ≡ look ++ map by (late look))) → Goes look last
    put late late_ok doc token look last (inl x) = on look (look ++ by x.0 ∷ []) last (by_acts (x.0 ∷ []) (one ok plain x.0 (ok_put ok plain doc token x.0 x.1)) look (look ++ by x.0 ∷ []) refl) (releases doc token (look ++ by x.0 ∷ []) last x.2)
    put late late_ok doc token look last (inr x) = by_acts (late look) (late_ok look) look last x.1

    pub flushes : (late : List Entry → List Act) (late_ok : (look : List Entry) → list_all ok (late look) ≡ true) (doc : ℕ) (look last : List Entry) → FlushesFrom by Next late doc look last → Goes look last
    flushes late late_ok doc look last p =
        on look (look ++ by (acquired doc look) ∷ []) last (says (acquired doc look) refl look (look ++ by (acquired doc look) ∷ []) refl)
        (on (look ++ by (acquired doc look) ∷ []) p.0 last (next _ p.0 p.1) (put late late_ok doc (next_token look) p.0 last p.2))

    module _ (session : ℕ) where
      drain : (doc n : ℕ) (first last : List Entry) → DrainsSoMany by Next session doc n first last → Goes first last
      drain doc zero first last d = says (Declined session Empty) refl first last d
      drain doc (suc n) first last d = on first d.0 last (drains doc (suc n) first d.0 d.1 d.2) (by_acts (stop_acts session d.1) (ok_stop ok plain session d.1) d.0 last d.3)

      drain_named : (doc : Option ℕ) (first last : List Entry) → DrainsNamed by Next session doc first last → Goes first last
      drain_named None first last d = says (Declined session NoDoc) refl first last d
      drain_named (Some doc) first last d = drain doc (length (waiting doc first)) first last d

      sync : (here : Bool) (doc : ℕ) (first last : List Entry) → SyncsIf by Next session here doc first last → Goes first last
      sync false doc first last s = says (Declined session NotJoined) refl first last s
      sync true doc first last s = on first s.0 last (drains doc (length (waiting doc first)) first s.0 s.1 s.2) (gets s.3.0 session s.0 last s.3.1)

      flush : (doc : ℕ) (why : Option Why) (look last : List Entry) → FlushesUnless by Next session doc why look last → Goes look last
      flush doc (Some why) look last f = says (Declined session why) refl look last f
      flush doc None look last f = flushes (late_acts session doc) (λ late. said ok plain (Declined session (IsStale (Other (last_token doc late)))) refl) doc look last f

      flush_named : (doc : Option ℕ) (look last : List Entry) → FlushesNamed by Next session doc look last → Goes look last
      flush_named None look last f = says (Declined session NoDoc) refl look last f
      flush_named (Some doc) look last f = flush doc (unavailable doc look) look last f

      hold_if : (ready : Bool) (doc token : ℕ) (kept : Preparations) (mid last : List Entry) (after : Preparations) → HoldsIf by Next session ready doc token kept mid last after → Goes mid last
      hold_if true doc token kept mid last after h = same mid last h.0
      hold_if false doc token kept mid last after h = releases doc token mid last h.0

      hold_unless : (doc : ℕ) (why : Option Why) (kept : Preparations) (look last : List Entry) (after : Preparations) → HoldsUnless by Next session doc why kept look last after → Goes look last
      hold_unless doc (Some why) kept look last after h = says (Declined session why) refl look last h.0
      hold_unless doc None kept look last after h =
          on look (look ++ h.2) last (takes_up doc h.0 h.1 look h.2 h.3) (hold_if h.1 doc h.0 kept (look ++ h.2) last after h.4)

      hold_named : (doc : Option ℕ) (kept : Preparations) (look last : List Entry) (after : Preparations) → HoldsNamed by Next session doc kept look last after → Goes look last
      hold_named None kept look last after h = says (Declined session NoDoc) refl look last h.0
      hold_named (Some doc) kept look last after h = hold_unless doc (not_holdable doc look) kept look last after h

      hold : (p : Option Preparation) (name : List ℕ) (kept : Preparations) (look last : List Entry) (after : Preparations) → Holds by Next session p name kept look last after → Goes look last
      hold (Some p) name kept look last after h = says (Declined session Holding) refl look last h.0
      hold None name kept look last after h = hold_named (number_of name look) kept look last after h

      joins : ((doc : ℕ) (user : List ℕ) (track : Bool) (since : Option ℕ) (source v : ℕ) → ok (JoinedAct session doc user track since source v) ≡ true) → (doc : Option ℕ) (user : List ℕ) (track : Bool) (look made : List Entry)
          → Joins by session doc user track look made → Goes look (look ++ made)
      joins may None user track look made j = made_by (Declined session NoDoc ∷ []) (said ok plain (Declined session NoDoc) refl) look made j
      joins may (Some doc) user track look made j =
          let before : List Entry = look ++ map by j.1 in
          on look before (look ++ made) (by_acts j.1 (ok_loading ok plain (cached doc look) doc None j.0 j.1 j.2) look before refl)
          (by_acts (joined_if j.0 session doc user track before ∷ []) (one ok plain (joined_if j.0 session doc user track before) (either j.0 before)) before (look ++ made)
          (ap (λ (m : List Entry). look ++ m) j.3 ∙ sym (append_assoc look (map by j.1) (by (joined_if j.0 session doc user track before) ∷ []))))
        where
          either : (ready : Bool) (before : List Entry) → ok (joined_if ready session doc user track before) ≡ true
          either true before = may doc user track None (source_at before) (version doc before)
          either false before = plain (Declined session StoreFaultWhy) refl

      finish_unless : (p : Preparation) (stale : Option Stale) (look made : List Entry) → FinishesUnless by session p stale look made → Goes look (look ++ made)
      finish_unless p (Some stale) look made f = made_by (Declined session (IsStale stale) ∷ []) (said ok plain (Declined session (IsStale stale)) refl) look made f
      finish_unless p None look made f =
          made_by (Committed p.doc p.token f.0 f.1 ∷ Released p.doc p.token ∷ [])
          (ok_then ok plain (Committed p.doc p.token f.0 f.1) (Released p.doc p.token ∷ []) (plain (Committed p.doc p.token f.0 f.1) refl) (said ok plain (Released p.doc p.token) refl)) look made f.3

      finishes : (p : Option Preparation) (look made : List Entry) → Finishes by session p look made → Goes look (look ++ made)
      finishes None look made f = made_by (Declined session Nothing ∷ []) (said ok plain (Declined session Nothing) refl) look made f
      finishes (Some p) look made f = finish_unless p (staleness p.doc p.token look) look made f

  -- a line
  pub does_grow : (seat k : ℕ) (writes : (acts : List Act) → list_all ok acts ≡ true → (j : List Entry) → Goes j (j ++ map (entry_by seat (Some k)) acts)) (line : Line) → MayJoin ok plain line → (kept : Preparations) (left last : List Entry) (after : Preparations)
      → Does seat Next k line kept left last after → Goes left last
  does_grow seat k writes (Join session doc user track) may kept left last after d =
      turn_grows (entry_by seat (Some k)) writes (λ look made. Joins (entry_by seat (Some k)) session (number_of doc look) user track look made)
      (λ look made j. joins (entry_by seat (Some k)) writes session (may session refl) (number_of doc look) user track look made j) left last d.0
  does_grow seat k writes (Sync session) may kept left last after d =
      on left d.0.0 last (next left d.0.0 d.0.1) (sync (entry_by seat (Some k)) writes session (is_present (client session d.0.0).state) (client session d.0.0).doc d.0.0 last d.0.2)
  does_grow seat k writes (Drain session doc) may kept left last after d =
      on left d.0.0 last (next left d.0.0 d.0.1) (drain_named (entry_by seat (Some k)) writes session (number_of doc d.0.0) d.0.0 last d.0.2)
  does_grow seat k writes (Flush session doc) may kept left last after d =
      on left d.0.0 last (next left d.0.0 d.0.1) (flush_named (entry_by seat (Some k)) writes session (number_of doc d.0.0) d.0.0 last d.0.2)
  does_grow seat k writes (Hold session doc) may kept left last after d =
      on left d.0 last (next left d.0 d.1) (hold (entry_by seat (Some k)) writes session (kept session) doc kept d.0 last after d.2)
  does_grow seat k writes (Finish session) may kept left last after d =
      turn_grows (entry_by seat (Some k)) writes (Finishes (entry_by seat (Some k)) session (kept session))
      (λ look made f. finishes (entry_by seat (Some k)) writes session (kept session) look made f) left last d.0
  does_grow seat k writes line may kept left last after d =
      turn_grows (entry_by seat (Some k)) writes (λ look made. made ≡ map (entry_by seat (Some k)) (plain_acts look line))
      (λ look made m. made_by (entry_by seat (Some k)) writes (plain_acts look line) (ok_plain ok plain look line may) look made m) left last d.0

  -- lines
  pub leads_grow : (seat : ℕ) (writes : (k : ℕ) (acts : List Act) → list_all ok acts ≡ true → (j : List Entry) → Goes j (j ++ map (entry_by seat (Some k)) acts)) (lines : List (ℕ × Line)) → MayAll ok plain lines → (kept : Preparations) (left last : List Entry)
      → Leads seat Next lines kept left last → Goes left last
  leads_grow seat writes [] may kept left last l = subst (λ (j : List Entry). Goes left j) (sym l) (stays left)
  leads_grow seat writes (x ∷ xs) may kept left last l =
      on left l.0 last (does_grow seat x.0 (writes x.0) x.1 may.0 kept left l.0 l.1 l.2) (leads_grow seat writes xs may.1 l.1 l.0 last l.3)

-- every act may be made
abbrev pub any : Act → Bool
any act = true

-- a line of another, done alone
module _ (own : Entry → Bool) where
  all_others : (by : Act → Entry) → ((act : Act) → own (by act) ≡ false) → (acts : List Act) → list_all (λ e. not (own e)) (map by acts) ≡ true
  all_others by others [] = refl
  all_others by others (act ∷ acts) = ap₂ (λ (p q : Bool). p && q) (ap not (others act)) (all_others by others acts)

  pub does_among : (seat k : ℕ) (others : (act : Act) → own (entry_by seat (Some k) act) ≡ false) (line : Line) (kept : Preparations) (left last : List Entry) (after : Preparations)
      → Does seat Alone k line kept left last after → Among own left last
  does_among seat k others line =
      does_grow any (λ act e. refl) (Among own) (among_same own) (among_on own) Alone (λ a b e. subst (λ (j : List Entry). Among own a j) (sym e) (among_same own a))
      seat k (λ acts may j. (map (entry_by seat (Some k)) acts, refl, all_others (entry_by seat (Some k)) others acts)) line (λ s is doc user track since source v. refl)

-- a journal only grows
abbrev pub Extends : List Entry → List Entry → Type 0
Extends a b = (more : List Entry) × (b ≡ a ++ more)

pub extends_on : (a b c : List Entry) → Extends a b → Extends b c → Extends a c
extends_on a b c x y = (x.0 ++ y.0, y.1 ∙ ap (λ (j : List Entry). j ++ y.0) x.1 ∙ append_assoc a x.0 y.0)

pub leads_on : (own : Entry → Bool) (seat : ℕ) (lines : List (ℕ × Line)) (kept : Preparations) (left last : List Entry) → Leads seat (Among own) lines kept left last → Extends left last
leads_on own seat lines =
    leads_grow any (λ act e. refl) Extends (λ j. ([], sym (append-nil j))) extends_on (Among own) (λ a b n. (n.0, n.1)) seat (λ k acts may j. (map (entry_by seat (Some k)) acts, refl)) lines (any_may lines)
  where
    any_may : (lines : List (ℕ × Line)) → MayAll any (λ act e. refl) lines
    any_may [] = tt
    any_may (x ∷ xs) = ((λ s is doc user track since source v. refl), any_may xs)
