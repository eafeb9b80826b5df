-- A line of a session's client: what it makes is the client's own, and the driver stands behind it.
use Rattle.std.proofs.Common.{◌≡◌, ℕ, zero, suc, ◌+◌, arith, ◌<◌, List, [], ◌∷◌, ◌++◌, length, slice_set, Bool, true, false, not, refl, sym, ap, ◌∙◌, subst, eq-eqb, append-nil, ap₂}
use Rattle.std.specs.Prelude.{slice_get, slice_index_or, Option, Some, None, nat_lt, if◌then◌else◌}
use Rattle.std.specs.Global.{Vec}
use Rattle.std.proofs.lemmas.List.{length-set}
use Rattle.ot_op.specs.declared.comp.Comp.{Comp}
use Rattle.ot_op.specs.Compose.{appended}
use Rattle.history_queue.specs.declared.item.Item.{Item}
use Rattle.journal_entries.specs.declared.message.Msg.{Msg}
use Rattle.journal_entries.specs.declared.update.Update.{Update}
use Rattle.journal_entries.specs.declared.act.Act.{Act}
use Rattle.journal_entries.specs.declared.act.Act.TheVariants.{Joined, Edited, Sent, Got, Declined}
use Rattle.journal_entries.specs.declared.act.Entry.{Entry}
use Rattle.journal_entries.specs.declared.why.Why.TheVariants.{NotJoined, PastEnd, Full, InFlight, Nothing}
use Rattle.journal_rules.specs.Client.{Client, client, has_flight, sending}
use Rattle.journal_rules.specs.Legal.{source_at}
use Rattle.journal_rules.specs.Deciding.{greatest_age}
use Rattle.journal_rules.specs.Documents.{version}
use Rattle.journal_rules.specs.Locks.{clock, next_token}
use Rattle.journal_rules.specs.Mail.{mail}
use Rattle.journal_laws.proofs.Updates.{Sends, Fresh, Again, sending_is}
use Rattle.turn_rules.specs.Clients.{edit_act, edit_act_of, got_act, is_full, is_joined, is_left, is_present, leave_act, recv_act, rejoin_act, resend_act, send_act, sent_or_nothing}
use Rattle.turn_rules.specs.Turns.{Alone, Turn, entry_by}
use Rattle.turn_rules.specs.Draining.{Caches}
use Rattle.journal_rules.specs.Keeping.{cached}
use Rattle.run_rules.specs.Lines.{Joins}
use Rattle.share_client.specs.Clients.{Numbered}
use Rattle.share_client.specs.Edits.{edit_comp, edit_end}
use Rattle.client_lines.specs.declared.line.ClientLine.{ClientLine}
use Rattle.client_lines.specs.declared.line.ClientLine.TheVariants.{Edit, Send, Resend, Receive, Leave, Rejoin}
use Rattle.client_lines.specs.Lines.{client_act}
use Rattle.client_lines.specs.Joining.{join_act}
use Rattle.book.specs.Roomed.{IsClientAfter, IsClientOf}
use Rattle.book.specs.Shown.{Shown, adds}
use Rattle.script_driver.specs.declared.driver.Driver.{Driver}
use Rattle.script_driver.specs.Clients.{GoesQuietly, IsQuietOf, is_at_most, is_of_session, is_quiet}
use Rattle.script_driver.specs.Holding.{IsDriver}
use Rattle.script_driver.specs.Syncing.{GoesApartThenQuietly}
use Rattle.script_driver.proofs.Apart.{same_clients}
use Rattle.script_driver.specs.Handing.{is_own, items_handed_by}
use Rattle.script_driver.proofs.Clients.{own_moves}
use Rattle.script_driver.proofs.Handing.{apart_hands_none, quiet_hands_none}
use Rattle.script_driver.proofs.Holding.{behind_apart}
use Rattle.script_driver.proofs.Quiet.{quiet_held, quiet_one, quiet_others}

-- what stands at a place within a list
pub get_there : {A : Type 0} (xs : List A) (i : ℕ) (x : A) → i < length xs → x ≡ slice_index_or xs i x → slice_get xs i ≡ Some x
get_there [] i x lt is = absurd (omega (arith, lt))
get_there (y ∷ ys) zero x lt is = ap (λ z. Some z) (sym is)
get_there (y ∷ ys) (suc i) x lt is = get_there ys i x (omega (arith, lt)) is

-- ---- acts of the session's own
pub record IsOwn (session : ℕ) (a : Act) : Type 0 where
  pub quiet : is_quiet a ≡ true
  pub its : is_of_session session a ≡ true

own_if : (session : ℕ) (b : Bool) (x y : Act) → IsOwn session x → IsOwn session y → IsOwn session (if b then x else y)
own_if session true x y own other = own
own_if session false x y own other = other

own_edit : (session : ℕ) (j : List Entry) (end : ℕ) (comp : Comp) → IsOwn session (edit_act session j end comp)
own_edit session j end comp =
    let s = client session j in
    let p = appended s.pending comp in
    own_if session (not (is_joined s.state)) _ _ (record { quiet = refl; its = refl })
    (own_if session (nat_lt (length s.text) end) _ _ (record { quiet = refl; its = refl })
    (own_if session (is_full p) _ _ (record { quiet = refl; its = refl }) (record { quiet = refl; its = eq-eqb session session refl })))

sent_own : (session : ℕ) (s : Client) (now : ℕ) (o : Option Update) → sending session s now ≡ o → IsOwn session (sent_or_nothing session o)
sent_own session s now None is = record { quiet = refl; its = refl }
sent_own session s now (Some u) is = record { quiet = refl; its = by (sending_is session s now u is).1 }
  where
    by : Sends session s now u → is_at_most session u.client ≡ true
    by (Fresh none same) = subst (λ (v : Update). is_at_most session v.client ≡ true) (sym same) (eq-eqb session session refl)
    by (Again f flies same) = subst (λ (v : Update). is_at_most session v.client ≡ true) (sym same) (eq-eqb session session refl)

own_send : (session : ℕ) (j : List Entry) → IsOwn session (send_act session j)
own_send session j =
    let s = client session j in
    own_if session (not (is_joined s.state)) _ _ (record { quiet = refl; its = refl })
    (own_if session (has_flight s.flight) _ _ (record { quiet = refl; its = refl }) (sent_own session s (clock j) (sending session s (clock j)) refl))

own_receive : (session : ℕ) (j : List Entry) → IsOwn session (recv_act session j)
own_receive session j = by (mail session j)
  where
    by : (ms : List Msg) → IsOwn session (got_act session ms)
    by [] = record { quiet = refl; its = refl }
    by (m ∷ ms) = record { quiet = refl; its = eq-eqb session session refl }

own_resend : (session : ℕ) (j : List Entry) → IsOwn session (resend_act session j)
own_resend session j =
    let s = client session j in
    own_if session (not (is_joined s.state)) _ _ (record { quiet = refl; its = refl })
    (own_if session (has_flight s.flight) _ _ (sent_own session s (clock j) (sending session s (clock j)) refl) (record { quiet = refl; its = refl }))

own_leave : (session : ℕ) (j : List Entry) → IsOwn session (leave_act session j)
own_leave session j = own_if session (is_present (client session j).state) _ _ (record { quiet = refl; its = eq-eqb session session refl }) (record { quiet = refl; its = refl })

own_rejoin : (session : ℕ) (j : List Entry) → IsOwn session (rejoin_act session j)
own_rejoin session j =
    let s = client session j in
    own_if session (not (is_left s.state)) _ _ (record { quiet = refl; its = refl })
    (own_if session (nat_lt (s.version + greatest_age) (version s.doc j)) _ _ (record { quiet = refl; its = refl }) (record { quiet = refl; its = eq-eqb session session refl }))

pub own_line : (session : ℕ) (j : List Entry) (line : ClientLine) → IsOwn session (client_act session j line)
own_line session j (Edit edit) = own_edit session j (edit_end edit) (edit_comp (client session j).text edit)
own_line session j Send = own_send session j
own_line session j Resend = own_resend session j
own_line session j Receive = own_receive session j
own_line session j Leave = own_leave session j
own_line session j Rejoin = own_rejoin session j

pub own_join : (session : ℕ) (doc : Option ℕ) (user : List ℕ) (track : Bool) (j : List Entry) → IsOwn session (join_act session doc user track j)
own_join session None user track j = record { quiet = refl; its = refl }
own_join session (Some doc) user track j = record { quiet = refl; its = eq-eqb session session refl }

-- ---- one act
pub own_goes : (seat : ℕ) (session : ℕ) (left last : Shown) (line : Option ℕ) (act : Act) → last ≡ adds left seat line (act ∷ []) → IsOwn session act → GoesQuietly session left.journal last.journal
own_goes seat session left last line act is own = quiet_one session left.journal last.journal (entry_by seat line act) (ap (λ (b : Shown). b.journal) is) (record { quiet = own.quiet; its = own.its })

-- the entry of a client's number is its session's
pub own_act : (left last : Shown) (seat by number session : ℕ) (line : Option ℕ) (act : ℕ → Act) → by ≡ seat → number ≡ session → last ≡ adds left by line (act number ∷ []) → last ≡ adds left seat line (act session ∷ [])
own_act left last seat by number session line act seat_is same is = subst (λ n. last ≡ adds left n line (act session ∷ [])) seat_is (subst (λ n. last ≡ adds left by line (act n ∷ [])) same is)

-- ---- the driver behind a session's own entries
pub own_driver : {K : Type 0} (driver now : Driver K) (session : ℕ) (was is : Numbered) → IsDriver driver → slice_get driver.clients.items session ≡ Some was → now.seat ≡ driver.seat → now.holds ≡ driver.holds → now.handed ≡ driver.handed → now.clients.items ≡ slice_set driver.clients.items session is
    → now.book.drivers ≡ driver.book.drivers → GoesQuietly session driver.book.journal now.book.journal → IsClientAfter now.book.journal was is → IsDriver now
own_driver driver now session was is stood at seat holds kept set drivers g after = record {
  held = rw (seat, holds) (quiet_held session driver.book.journal now.book.journal g driver.holds.items stood.held);
  clients = rw (drivers, seat, set) (own_moves driver.book.drivers driver.seat driver.clients.items session was is driver.book.journal now.book.journal at after (quiet_others session driver.book.journal now.book.journal g) stood.clients);
  many = ap length set ∙ length-set driver.clients.items session is ∙ stood.many ∙ ap (λ (v : _). length v.items) (sym holds);
  handed = ap (λ (v : Vec Item). v.items) kept ∙ stood.handed ∙ sym (ap₂ (λ d s. items_handed_by (is_own d s) now.book.journal) drivers seat ∙ quiet_hands_none (is_own driver.book.drivers driver.seat) session driver.book.journal now.book.journal g);
}

pub synced_driver : {K : Type 0} (driver now : Driver K) (session : ℕ) (was is : Numbered) → IsDriver driver → slice_get driver.clients.items session ≡ Some was → now.seat ≡ driver.seat → now.holds ≡ driver.holds → now.handed ≡ driver.handed → now.clients.items ≡ slice_set driver.clients.items session is
    → now.book.drivers ≡ driver.book.drivers → GoesApartThenQuietly (next_token driver.book.journal) session driver.book.journal now.book.journal → IsClientAfter now.book.journal was is → IsDriver now
synced_driver driver now session was is stood at seat holds kept set drivers g after =
    let left = driver.book.journal in
    record {
      held = rw (seat, holds) (quiet_held session g.mid now.book.journal g.quiet driver.holds.items (behind_apart driver.holds.items left g.mid g.apart stood.held));
      clients = rw (drivers, seat, set) (own_moves driver.book.drivers driver.seat driver.clients.items session was is left now.book.journal at after (λ c apart. quiet_others session g.mid now.book.journal g.quiet c apart ∙ same_clients (next_token left) left g.mid g.apart c) stood.clients);
      many = ap length set ∙ length-set driver.clients.items session is ∙ stood.many ∙ ap (λ (v : _). length v.items) (sym holds);
      handed = ap (λ (v : Vec Item). v.items) kept ∙ stood.handed ∙ sym (ap₂ (λ d s. items_handed_by (is_own d s) now.book.journal) drivers seat ∙ quiet_hands_none (is_own driver.book.drivers driver.seat) session g.mid now.book.journal g.quiet ∙ apart_hands_none (is_own driver.book.drivers driver.seat) (next_token left) left g.mid g.apart);
    }

-- ---- joining
pub joins_cached : (by : Act → Entry) (session : ℕ) (doc : Option ℕ) (user : List ℕ) (track : Bool) (look made : List Entry) → made ≡ by (join_act session doc user track look) ∷ [] → ((d : ℕ) → doc ≡ Some d → cached d look ≡ true) → Joins by session doc user track look made
joins_cached by session None user track look made is cache = is
joins_cached by session (Some doc) user track look made is cache = (true, [], subst (λ b. Caches b doc None true []) (sym (cache doc refl)) (refl, refl), is ∙ ap (λ l. by (Joined session doc user track None (source_at l) (version doc l)) ∷ []) (sym (append-nil look)))
