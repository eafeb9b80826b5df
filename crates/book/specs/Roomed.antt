-- The rooms of a book, with the clients in them as the journal has them.
use Rattle.std.specs.Prelude.{◌≡◌, ℕ, ◌==◌, ◌≤◌, ◌&&◌, List, length, Option, Some, None, if◌then◌else◌, ⊤}
use Rattle.rooms.specs.Rooms.{Membership, Roomed, member, posted, posted_in}
use Rattle.journal_entries.specs.declared.update.Update.{Update}
use Rattle.journal_entries.specs.declared.update.Outcome.{Outcome}
use Rattle.journal_entries.specs.declared.update.Outcome.TheVariants.{Applied, Dup, Refused}
use Rattle.journal_entries.specs.declared.act.Entry.{Entry}
use Rattle.journal_rules.specs.Client.{client, is_of}
use Rattle.journal_rules.specs.Documents.{waiting}
use Rattle.mail_places.specs.Places.{Placed, placed}
use Rattle.share_client.specs.Clients.{Numbered}

-- a member stands as the journal has it: its outbox has the places that it is still to be told of, and there is room in it for all that waits on its document
pub record IsMember (m : Membership) (box : Placed) (journal : List Entry) : Type 0 where
  pub doc_is : m.doc ≡ box.doc
  pub source_is : m.source ≡ box.source
  pub outbox_is : m.outbox ≡ box.places
  pub room : length (waiting box.doc journal) ≤ m.spare

abbrev pub IsThere : Option Membership → Option Placed → List Entry → Type 0
IsThere (Some m) (Some box) journal = IsMember m box journal
IsThere None None journal = ⊤
IsThere _ _ journal = ⊥

-- each client is in the room that the journal has it in
abbrev pub AreRoomed : Roomed → List Entry → Type 0
AreRoomed rooms journal = (c : ℕ) → IsThere (member c rooms) (placed c journal) journal

-- whom a commit is told: of what was applied the whole room, of any other outcome the one who sent it, where it is still there under the same source
abbrev pub posted_own : ℕ → Update → ℕ → Membership → Membership
posted_own c u at m = if is_of c u.client && m.source == u.source then posted at m else m

abbrev pub posted_by : ℕ → Update → ℕ → Outcome → Membership → Membership
posted_by c u at (Applied v op) m = posted_in u.doc at m
posted_by c u at (Dup v) m = posted_own c u at m
posted_by c u at (Refused cause) m = posted_own c u at m

-- whoever is in a room under an update's source is in that of its document
abbrev pub AreSourced : Roomed → Update → Type 0
AreSourced rooms u = (c : ℕ) (m : Membership) → member c rooms ≡ Some m → m.source ≡ u.source → m.doc ≡ u.doc

-- a client that is handed in is the journal's client of its number
abbrev pub IsClientOf : List Entry → Numbered → Type 0
IsClientOf journal c = c.now ≡ client c.client journal

-- it is another client's, or the same one later
pub record IsClientAfter (journal : List Entry) (was now : Numbered) : Type 0 where
  pub client_is : now.client ≡ was.client
  pub stands : IsClientOf journal now
