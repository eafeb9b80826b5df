-- The mail of a client by places of the journal: where what it is still to be told of stands.
use Rattle.std.specs.Prelude.{◌≡◌, ℕ, ◌==◌, ◌<◌, ◌&&◌, Bool, true, false, List, [], ◌∷◌, ◌++◌, length, map, drop, slice_get, Option, Some, None, All, ⊤, option_map, if◌then◌else◌}
use Rattle.journal_entries.specs.declared.update.Update.{Update}
use Rattle.journal_entries.specs.declared.update.Outcome.{Outcome}
use Rattle.journal_entries.specs.declared.update.Outcome.TheVariants.{Applied, Dup, Refused}
use Rattle.journal_entries.specs.declared.message.Msg.{Msg}
use Rattle.journal_entries.specs.declared.act.Act.{Act}
use Rattle.journal_entries.specs.declared.act.Act.TheVariants.{Joined as JoinedAct, Committed, Got, Left as LeftAct}
use Rattle.journal_entries.specs.declared.act.Entry.{Entry}
use Rattle.journal_rules.specs.declared.state.ClientState.TheVariants.{Away, Joined, Left}
use Rattle.journal_rules.specs.Folds.{folded}
use Rattle.journal_rules.specs.Documents.{update_at}
use Rattle.journal_rules.specs.Mail.{told_of, Outbox, outbox, mail}
use Rattle.journal_rules.specs.Client.{client, is_of}

-- a client that is in a room: its document, the source that it joined under, and the places of the journal that it is still to be told of
pub record Placed : Type 0 where
  pub doc : ℕ
  pub source : ℕ
  pub places : List ℕ

abbrev pub is_told : List Msg → Bool
is_told [] = false
is_told (msg ∷ rest) = true

-- one place more, behind the others
abbrev pub with_place : ℕ → Placed → Placed
with_place at box = record box { places = box.places ++ at ∷ [] }

-- the place of a commit is put into the box of whoever is told of it
abbrev pub placed_if_told : ℕ → List Entry → ℕ → Outcome → Placed → Placed
placed_if_told doc before ticket outcome box = if doc == box.doc && is_told (told_of box.source (update_at before ticket) outcome) then with_place (length before) box else box

abbrev pub without_first : Placed → Placed
without_first box = record box { places = drop 1 box.places }

abbrev pub placed_by : ℕ → List Entry → Act → Option Placed → Option Placed
placed_by c before (JoinedAct client doc user track since source v) now = if client == c then Some (record { doc = doc; source = source; places = [] }) else now
placed_by c before (LeftAct client) now = if client == c then None else now
placed_by c before (Committed doc token ticket outcome) now = option_map (placed_if_told doc before ticket outcome) now
placed_by c before (Got client brief) now = if client == c then option_map without_first now else now
placed_by c before _ now = now

-- none where the client did not join, or left behind its last joining
unfoldable pub placed : ℕ → List Entry → Option Placed
placed c journal = folded (λ before e now. placed_by c before e.act now) None journal

-- the acts that change no client's places
abbrev pub LeavesPlaces : Act → Type 0
LeavesPlaces (JoinedAct client doc user track since source v) = ⊥
LeavesPlaces (LeftAct client) = ⊥
LeavesPlaces (Committed doc token ticket outcome) = ⊥
LeavesPlaces (Got client brief) = ⊥
LeavesPlaces _ = ⊤

-- what a client that joined under a source is told at a place of the journal
abbrev pub told_by : List Entry → ℕ → Act → Option Msg
told_by journal source (Committed doc token ticket outcome) = slice_get (told_of source (update_at journal ticket) outcome) 0
told_by journal source _ = None

abbrev pub told_in : List Entry → ℕ → Option Entry → Option Msg
told_in journal source (Some e) = told_by journal source e.act
told_in journal source None = None

abbrev pub told_at : List Entry → ℕ → ℕ → Option Msg
told_at journal source place = told_in journal source (slice_get journal place)

-- ---- the laws

-- a client in a room has an outbox of the same document and source, and at its places stands its mail
pub record IsMail (c : ℕ) (journal : List Entry) (box : Placed) : Type 0 where
  pub outbox_of : Outbox
  pub outbox_is : outbox c journal ≡ Some outbox_of
  pub doc_is : outbox_of.doc ≡ box.doc
  pub source_is : outbox_of.source ≡ box.source
  pub mail_is : map (told_at journal box.source) box.places ≡ map Some (mail c journal)
  pub within : All (λ place. place < length journal) box.places

-- and one in no room has none, and no mail
abbrev pub IsMailIn : ℕ → List Entry → Option Placed → Type 0
IsMailIn c journal (Some box) = IsMail c journal box
IsMailIn c journal None = (outbox c journal ≡ None) × (mail c journal ≡ [])

-- an update that was sent under a member's source is of that client, for the document of its room
abbrev pub IsOwnUpdate : ℕ → Placed → Update → Type 0
IsOwnUpdate c box u = (u.client ≡ Some c) × (u.doc ≡ box.doc)

-- whom a commit is told: of what was applied the whole room, of any other outcome the one that sent it, where it is still there under the same source
abbrev pub placed_in : ℕ → ℕ → Placed → Placed
placed_in doc at box = if box.doc == doc then with_place at box else box

abbrev pub placed_own : ℕ → Update → ℕ → Placed → Placed
placed_own c u at box = if is_of c u.client && box.source == u.source then with_place at box else box

abbrev pub placed_of : ℕ → Update → ℕ → Outcome → Placed → Placed
placed_of c u at (Applied v op) box = placed_in u.doc at box
placed_of c u at (Dup v) box = placed_own c u at box
placed_of c u at (Refused cause) box = placed_own c u at box

-- a client that is joined is in the room of its document under its source; one that is away or left is in none
pub record IsRoomed (c : ℕ) (journal : List Entry) : Type 0 where
  pub joined : (client c journal).state ≡ Joined → (box : Placed) × (placed c journal ≡ Some box) × (box.doc ≡ (client c journal).doc) × (box.source ≡ (client c journal).source)
  pub away : (client c journal).state ≡ Away → placed c journal ≡ None
  pub left : (client c journal).state ≡ Left → placed c journal ≡ None
