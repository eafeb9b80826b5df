-- Which clients are in a room.
use Rattle.std.proofs.Common.{◌≡◌, ℕ, ◌+◌, List, [], ◌∷◌, length, Bool, true, false, ◌&&◌, refl, sym, ap, ◌∙◌, eqb}
use Rattle.std.specs.Prelude.{Option, Some, None, if◌then◌else◌, nat_lt, option_map}
use Rattle.std.proofs.lemmas.Bool.{eqb-true}
use Rattle.ot_op.specs.declared.comp.Comp.{Comp}
use Rattle.journal_entries.specs.declared.message.Msg.{Msg}
use Rattle.journal_entries.specs.declared.message.Msg.TheVariants.{Op, Ack, Error}
use Rattle.journal_entries.specs.declared.act.Act.{Act}
use Rattle.journal_entries.specs.declared.act.Act.TheVariants.{Joined as JoinedAct, Edited, Sent, Committed, Got, Left as LeftAct}
use Rattle.journal_entries.specs.declared.act.Entry.{Entry}
use Rattle.journal_rules.specs.declared.state.ClientState.TheVariants.{Away, Joined, Left}
use Rattle.journal_rules.specs.Documents.{Item, is_in}
use Rattle.journal_rules.specs.Mail.{Outbox, outbox, mail}
use Rattle.journal_rules.specs.Client.{Client, client, client_by, longest_text, stale, bounded, landed, Shift, shifted, shifted_to, flight_fits, places_fit, has_flight, is_alive, given, delivered, caught_up, items_between, joined_by, back_under, edited_by, sent_by, got_by, left_by, is_of}
use Rattle.journal_rules.specs.Legal.{IsAllowed, IsLegal}
use Rattle.journal_rules.proofs.Pushing.{client-push}
use Rattle.journal_rules.proofs.Legality.{Keeps, by_last}
use Rattle.journal_rules.proofs.Lists.{some_same}
use Rattle.journal_laws.proofs.World.{joined_alive}
use Rattle.journal_laws.proofs.Everything.{world}
use Rattle.loading_rules.proofs.Weakening.{legal_but}
use Rattle.mail_places.specs.Places.{Placed, placed_if_told, without_first, placed_by, placed, IsMailIn, IsRoomed}
use Rattle.mail_places.proofs.Placing.{placed-push, placed-none}
use Rattle.mail_places.proofs.Telling.{mail_at_places}

-- ---- a client that is away was so before it was given a message
abbrev IsAway : Client → Type 0
IsAway s = s.state ≡ Away

away_bounded : (s : Client) → IsAway (bounded s) → IsAway s
away_bounded s = go (nat_lt longest_text (length s.text))
  where
    go : (b : Bool) → IsAway (if b then stale s else s) → IsAway s
    go true away = absurd (cc)
    go false away = away

away_shifted : (s : Client) (o : Option Shift) → IsAway (shifted_to s o) → IsAway s
away_shifted s None away = absurd (cc)
away_shifted s (Some x) away = go (flight_fits x.flight && places_fit x.pending) away
  where
    go : (b : Bool) → IsAway (if b then bounded (record s { flight = x.flight; pending = x.pending; text = x.text; version = s.version + 1 }) else stale s) → IsAway s
    go true away = away_bounded (record s { flight = x.flight; pending = x.pending; text = x.text; version = s.version + 1 }) away
    go false away = absurd (cc)

away_landed : (s : Client) → IsAway (landed s) → IsAway s
away_landed s away = away_bounded (record s { flight = None; sources = []; version = s.version + 1 }) away

away_given : (s : Client) (m : Msg) → IsAway (given s m) → IsAway s
away_given s (Op v op source) = go (eqb v s.version) (has_flight s.flight && is_in source s.sources)
  where
    go : (b c : Bool) → IsAway (if b then (if c then landed s else shifted_to s (shifted s.flight s.pending s.text op)) else s) → IsAway s
    go true true away = away_landed s away
    go true false away = away_shifted s (shifted s.flight s.pending s.text op) away
    go false c away = away
away_given s (Ack v number) = go (eqb v s.version && has_flight s.flight)
  where
    go : (b : Bool) → IsAway (if b then landed s else s) → IsAway s
    go true away = away_landed s away
    go false away = away
away_given s (Error number cause) = go (has_flight s.flight && eqb number s.number)
  where
    go : (b : Bool) → IsAway (if b then stale s else s) → IsAway s
    go true away = absurd (cc)
    go false away = away

away_delivered : (s : Client) (m : Msg) → IsAway (delivered s m) → IsAway s
away_delivered s m = go (is_alive s.state)
  where
    go : (b : Bool) → IsAway (if b then given s m else s) → IsAway s
    go true away = away_given s m away
    go false away = away

away_caught : (s : Client) (xs : List Item) → IsAway (caught_up s xs) → IsAway s
away_caught s [] away = away
away_caught s (x ∷ xs) away = away_delivered s (Op x.v x.op x.update.source) (away_caught (delivered s (Op x.v x.op x.update.source)) xs away)

away_back : (source : ℕ) (s : Client) → IsAway (back_under source s) → IsAway s
away_back source s = go (is_alive s.state)
  where
    go : (b : Bool) → IsAway (if b then record s { state = Joined; source = source } else s) → IsAway s
    go true away = absurd (cc)
    go false away = away

-- ---- a client that is away is in no room
away_roomless : (c : ℕ) (j : List Entry) → IsLegal j → IsAway (client c j) → placed c j ≡ None
away_roomless c = by_last (λ j. IsAway (client c j) → placed c j ≡ None) (λ away. placed-none c) more
  where
    by_act : (h : List Entry) (seat : ℕ) (a : Act) → IsAllowed h seat a → (IsAway (client c h) → placed c h ≡ None) → IsAway (client_by c h a (client c h)) → placed_by c h a (placed c h) ≡ None
    by_act h seat (JoinedAct client_ doc user track None source v) may was = go (eqb client_ c)
      where
        go : (b : Bool) → IsAway (if b then joined_by (client c h) h doc user track None source v else client c h) → (if b then Some (record { doc = doc; source = source; places = [] }) else placed c h) ≡ None
        go true away = absurd (cc)
        go false away = was away
    by_act h seat (JoinedAct client_ doc user track (Some n) source v) may was = go (eqb client_ c) refl
      where
        go : (b : Bool) → eqb client_ c ≡ b → IsAway (if b then joined_by (client c h) h doc user track (Some n) source v else client c h) → (if b then Some (record { doc = doc; source = source; places = [] }) else placed c h) ≡ None
        go true same away =
            let before : IsAway (client c h) = away_caught (client c h) (items_between doc n v h) (away_back source (caught_up (client c h) (items_between doc n v h)) away) in
            let left : (client c h).state ≡ Left = ap (λ k. (client k h).state) (sym (eqb-true client_ c same)) ∙ may.left in
            let f : Away ≡ Left = sym before ∙ left in
            absurd (cc)
        go false same away = was away
    by_act h seat (Edited client_ comp) may was = go (eqb client_ c)
      where
        go : (b : Bool) → IsAway (if b then edited_by (client c h) comp else client c h) → placed c h ≡ None
        go true away = was away
        go false away = was away
    by_act h seat (Sent u) may was = go (is_of c u.client) (client c h).flight
      where
        go : (b : Bool) (f : Option (List Comp)) → IsAway (if b then sent_by (client c h) f else client c h) → placed c h ≡ None
        go true None away = was away
        go true (Some f) away = was away
        go false f away = was away
    by_act h seat (Got client_ brief) may was = go (eqb client_ c) (mail c h)
      where
        go : (b : Bool) (ms : List Msg) → IsAway (if b then got_by (client c h) ms else client c h) → (if b then option_map without_first (placed c h) else placed c h) ≡ None
        go true [] away = ap (option_map without_first) (was away)
        go true (m ∷ ms) away = ap (option_map without_first) (was (away_delivered (client c h) m away))
        go false ms away = was away
    by_act h seat (LeftAct client_) may was = go (eqb client_ c)
      where
        go : (b : Bool) → IsAway (if b then left_by (client c h) else client c h) → (if b then None else placed c h) ≡ None
        go true away = refl
        go false away = was away
    by_act h seat (Committed doc token ticket outcome) may was = λ away. ap (option_map (placed_if_told doc h ticket outcome)) (was away)
    by_act h seat _ may was = λ away. was away

    more : Keeps (λ j. IsAway (client c j) → placed c j ≡ None)
    more h e legal may was away = placed-push c h e ∙ by_act h e.seat e.act may was (ap (λ (s : Client). s.state) (sym (client-push c h e)) ∙ away)

-- ---- one that is joined is in the room of its document, and one that left in none
pub joined_roomed : (c : ℕ) (j : List Entry) → IsLegal j → (client c j).state ≡ Joined → (box : Placed) × (placed c j ≡ Some box) × (box.doc ≡ (client c j).doc) × (box.source ≡ (client c j).source)
joined_roomed c j legal joined = go (placed c j) refl (mail_at_places c j (legal_but j legal))
  where
    post : (outbox_of : Outbox) × (outbox c j ≡ Some outbox_of) × (outbox_of.doc ≡ (client c j).doc) × (outbox_of.source ≡ (client c j).source)
    post = let x = (world j legal).clients c (joined_alive (client c j).state joined) in let p = x.posted joined in (p.place, p.place_is, p.doc_is, p.source_is)

    go : (o : Option Placed) → placed c j ≡ o → IsMailIn c j o → (box : Placed) × (placed c j ≡ Some box) × (box.doc ≡ (client c j).doc) × (box.source ≡ (client c j).source)
    go None is m = let f : None ≡ Some post.0 = sym m.0 ∙ post.1 in absurd (cc)
    go (Some box) is m =
        let same : m.outbox_of ≡ post.0 = some_same m.outbox_of post.0 (sym m.outbox_is ∙ post.1) in
        (box, is, sym m.doc_is ∙ ap (λ (b : Outbox). b.doc) same ∙ post.2, sym m.source_is ∙ ap (λ (b : Outbox). b.source) same ∙ post.3)

left_roomless : (c : ℕ) (j : List Entry) → IsLegal j → (client c j).state ≡ Left → placed c j ≡ None
left_roomless c j legal left = go (placed c j) refl (mail_at_places c j (legal_but j legal))
  where
    gone : outbox c j ≡ None
    gone = let x = (world j legal).clients c (ap is_alive left) in x.gone left

    go : (o : Option Placed) → placed c j ≡ o → IsMailIn c j o → placed c j ≡ None
    go None is m = is
    go (Some box) is m = let f : None ≡ Some m.outbox_of = sym gone ∙ m.outbox_is in absurd (cc)

pub roomed : (c : ℕ) (j : List Entry) → IsLegal j → IsRoomed c j
roomed c j legal = record { joined = joined_roomed c j legal; away = away_roomless c j legal; left = left_roomless c j legal }
