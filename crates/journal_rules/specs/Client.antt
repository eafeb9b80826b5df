-- What a client is, and what each entry and each message make of it.
use Rattle.std.specs.Prelude.{ℕ, ◌+◌, ◌-◌, ◌==◌, nat_le, nat_lt, ◌&&◌, Bool, true, false, List, [], ◌∷◌, ◌++◌, length, take, drop, Option, Some, None, option_map, unwrap_or, if◌then◌else◌}
use Rattle.std.specs.List.{list_all}
use Rattle.std.specs.Option.{option_and_then}
use Rattle.ot_op.specs.declared.comp.Comp.{Comp}
use Rattle.ot_op.specs.Operation.{place}
use Rattle.ot_op.specs.Apply.{applied, applied_all}
use Rattle.ot_op.specs.Compose.{appended}
use Rattle.ot_transform.specs.Crossing.{crossed}
use Rattle.journal_entries.specs.declared.update.Update.{Update}
use Rattle.journal_entries.specs.declared.message.Msg.{Msg}
use Rattle.journal_entries.specs.declared.message.Msg.TheVariants.{Op, Ack, Error}
use Rattle.journal_entries.specs.declared.act.Act.{Act}
use Rattle.journal_entries.specs.declared.act.Act.TheVariants.{Joined as JoinedAct, Edited, Sent, Got, Left as LeftAct}
use Rattle.journal_entries.specs.declared.act.Entry.{Entry}
use Rattle.journal_rules.specs.declared.state.ClientState.{ClientState}
use Rattle.journal_rules.specs.declared.state.ClientState.TheVariants.{Away, Joined, Left, Stale}
use Rattle.journal_rules.specs.Folds.{folded}
use Rattle.journal_rules.specs.Documents.{Item, applied_list, base, text_at, is_in}
use Rattle.journal_rules.specs.Mail.{mail}
use Rattle.ot_op.specs.declared.limits.TheConstants.{MAX_PLACE}
use Rattle.journal_entries.specs.declared.limits.TheConstants.{MAX_CLIENT_UNITS}

-- a client: its document, its text at a version of it, the operation in flight with its number and the sources under which it was sent, and what is pending behind it
pub record Client : Type 0 where
  pub state : ClientState
  pub doc : ℕ
  pub user : List ℕ
  pub track : Bool
  pub source : ℕ
  pub version : ℕ
  pub text : List ℕ
  pub flight : Option (List Comp)
  pub pending : List Comp
  pub number : ℕ
  pub sources : List ℕ

abbrev pub away : Client
away = record { state = Away; doc = 0; user = []; track = false; source = 0; version = 0; text = []; flight = None; pending = []; number = 0; sources = [] }

abbrev pub is_alive : ClientState → Bool
is_alive Away = false
is_alive Joined = true
is_alive Left = true
is_alive Stale = false

abbrev pub stale : Client → Client
stale s = record s { state = Stale }

-- the bounds of a client: the greatest place of its operations, and the greatest length of its text
abbrev pub greatest_place : ℕ
greatest_place = MAX_PLACE

abbrev pub longest_text : ℕ
longest_text = MAX_CLIENT_UNITS

abbrev pub places_fit : List Comp → Bool
places_fit op = list_all (λ c. nat_le (place c) greatest_place) op

abbrev pub flight_fits : Option (List Comp) → Bool
flight_fits (Some op) = places_fit op
flight_fits None = true

-- a client is stale where its text is too long
abbrev pub bounded : Client → Client
bounded s = if nat_lt longest_text (length s.text) then stale s else s

-- the flight ends
abbrev pub landed : Client → Client
landed s = bounded (record s { flight = None; sources = []; version = s.version + 1 })

-- the flight past an operation, and the operation past the flight
abbrev pub flight_crossed : Option (List Comp) → List Comp → Option (Option (List Comp) × List Comp)
flight_crossed None op = Some (None, op)
flight_crossed (Some flight) op = option_map (λ both. (Some both.0, both.1)) (crossed flight op)

-- what an operation of another makes of flight, pending and text, where each crossing is there and the text allows it
pub record Shift : Type 0 where
  pub flight : Option (List Comp)
  pub pending : List Comp
  pub text : List ℕ

abbrev pub shifted : Option (List Comp) → List Comp → List ℕ → List Comp → Option Shift
shifted flight pending text op =
    option_and_then (λ f. option_and_then (λ p. option_map (λ t. record { flight = f.0; pending = p.0; text = t }) (applied_all text p.1)) (crossed pending f.1)) (flight_crossed flight op)

abbrev pub shifted_to : Client → Option Shift → Client
shifted_to s None = stale s
shifted_to s (Some x) =
    if flight_fits x.flight && places_fit x.pending then bounded (record s { flight = x.flight; pending = x.pending; text = x.text; version = s.version + 1 })
    else stale s

abbrev pub has_flight : Option (List Comp) → Bool
has_flight (Some op) = true
has_flight None = false

-- an operation at the client's version: its own, which was in flight, or another's
abbrev pub given_op : Client → ℕ → List Comp → ℕ → Client
given_op s v op source =
    if v == s.version then (if has_flight s.flight && is_in source s.sources then landed s else shifted_to s (shifted s.flight s.pending s.text op))
    else s

-- a message is delivered to a client that is joined or left
abbrev pub given : Client → Msg → Client
given s (Op v op source) = given_op s v op source
given s (Ack v number) = if v == s.version && has_flight s.flight then landed s else s
given s (Error number cause) = if has_flight s.flight && number == s.number then stale s else s

-- and to any client
abbrev pub delivered : Client → Msg → Client
delivered s msg = if is_alive s.state then given s msg else s

-- items are delivered in turn, as operations of others
abbrev pub caught_up : Client → List Item → Client
caught_up s [] = s
caught_up s (x ∷ xs) = caught_up (delivered s (Op x.v x.op x.update.source)) xs

-- the items of a document from a version on up to another
abbrev pub items_between : ℕ → ℕ → ℕ → List Entry → List Item
items_between d from to journal = take (to - from) (drop (from - base d journal) (applied_list d journal))

-- a client joins, with nothing of its own
abbrev pub joined_anew : Client → ℕ → List ℕ → Bool → ℕ → ℕ → List ℕ → Client
joined_anew s doc user track source v text =
    record { state = Joined; doc = doc; user = user; track = track; source = source; version = v; text = text; flight = None; pending = []; number = s.number; sources = [] }

-- a client that had left is back under a new source, unless it became stale
abbrev pub back_under : ℕ → Client → Client
back_under source s = if is_alive s.state then record s { state = Joined; source = source } else s

abbrev pub joined_by : Client → List Entry → ℕ → List ℕ → Bool → Option ℕ → ℕ → ℕ → Client
joined_by s before doc user track None source v = joined_anew s doc user track source v (unwrap_or (text_at doc v before) [])
joined_by s before doc user track (Some n) source v = back_under source (caught_up s (items_between doc n v before))

-- a client edits its text
abbrev pub edited_by : Client → Comp → Client
edited_by s comp = record s { text = unwrap_or (applied s.text comp) s.text; pending = appended s.pending comp }

abbrev pub added : List ℕ → ℕ → List ℕ
added sources source = if is_in source sources then sources else sources ++ source ∷ []

-- a client sends what is pending under its next number, or what is in flight again
abbrev pub sent_by : Client → Option (List Comp) → Client
sent_by s None = record s { flight = Some s.pending; pending = []; number = s.number + 1; sources = s.source ∷ [] }
sent_by s (Some flight) = record s { sources = added s.sources s.source }

-- a client gets the first message of its mail
abbrev pub got_by : Client → List Msg → Client
got_by s [] = s
got_by s (msg ∷ rest) = delivered s msg

-- the user of a client, none before it joins
abbrev pub user_in : Option (List ℕ) → List ℕ
user_in (Some user) = user
user_in None = []

-- a client leaves; one that is away or stale stays so
abbrev pub left_by : Client → Client
left_by s = if is_alive s.state then record s { state = Left } else s

abbrev pub is_of : ℕ → Option ℕ → Bool
is_of c (Some client) = client == c
is_of c None = false

abbrev pub client_by : ℕ → List Entry → Act → Client → Client
client_by c before (JoinedAct client doc user track since source v) s = if client == c then joined_by s before doc user track since source v else s
client_by c before (Edited client comp) s = if client == c then edited_by s comp else s
client_by c before (Sent update) s = if is_of c update.client then sent_by s s.flight else s
client_by c before (Got client brief) s = if client == c then got_by s (mail c before) else s
client_by c before (LeftAct client) s = if client == c then left_by s else s
client_by c before _ s = s

-- the state of a client by the journal
unfoldable pub client : ℕ → List Entry → Client
client c journal = folded (λ before e s. client_by c before e.act s) away journal

-- what a client sends: what is pending, or what is in flight again where it has a component
abbrev pub update_from : ℕ → Client → ℕ → ℕ → List Comp → List ℕ → Update
update_from c s now number op dup =
    record { doc = s.doc; client = Some c; number = number; source = s.source; dup = dup; user = s.user; track = s.track; ms = now; v = s.version; op = op }

abbrev pub sends_flight : ℕ → Client → ℕ → Option (List Comp) → List Comp → Option Update
sends_flight c s now None [] = None
sends_flight c s now None (p ∷ ps) = Some (update_from c s now (s.number + 1) (p ∷ ps) [])
sends_flight c s now (Some []) pending = None
sends_flight c s now (Some (f ∷ fs)) pending = Some (update_from c s now s.number (f ∷ fs) s.sources)

abbrev pub sends_by : ℕ → Client → ℕ → ClientState → Option Update
sends_by c s now Joined = sends_flight c s now s.flight s.pending
sends_by c s now _ = None

abbrev pub sending : ℕ → Client → ℕ → Option Update
sending c s now = sends_by c s now s.state
