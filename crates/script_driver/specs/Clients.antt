-- The clients of a run's sessions, by their numbers.
use Rattle.std.specs.Prelude.{◌≡◌, ◌≢◌, ℕ, ◌==◌, Bool, true, false, List, ◌++◌, slice_get, Option, Some, None, All}
use Rattle.journal_entries.specs.declared.act.Act.{Act}
use Rattle.journal_entries.specs.declared.act.Act.TheVariants.{Joined, Edited, Sent, Got, Left, Declined}
use Rattle.journal_entries.specs.declared.act.Entry.{Entry}
use Rattle.journal_rules.specs.Client.{client}
use Rattle.turn_rules.specs.Owning.{client_owner}
use Rattle.book.specs.Roomed.{IsClientOf}
use Rattle.share_client.specs.Clients.{Numbered}

-- each session's client is the journal's of its number
pub record AreClientsOf (clients : List Numbered) (journal : List Entry) : Type 0 where
  pub each : (c : ℕ) (s : Numbered) → slice_get clients c ≡ Some s → (s.client ≡ c) × IsClientOf journal s

-- so is each that a seat owns
pub record AreOwnClientsOf (drivers seat : ℕ) (clients : List Numbered) (journal : List Entry) : Type 0 where
  pub each : (c : ℕ) (s : Numbered) → slice_get clients c ≡ Some s → (s.client ≡ c) × (client_owner drivers c ≡ seat → IsClientOf journal s)

-- all clients are what they were, or all but one
abbrev pub StayAll : List Entry → List Entry → Type 0
StayAll left last = (c : ℕ) → client c last ≡ client c left

abbrev pub StayOthers : ℕ → List Entry → List Entry → Type 0
StayOthers session left last = (c : ℕ) → c ≢ session → client c last ≡ client c left

-- an act that is of no client, or of no other
abbrev pub is_clientless : Option ℕ → Bool
is_clientless None = true
is_clientless (Some c) = false

abbrev pub is_of_none : Act → Bool
is_of_none (Joined client doc user track since source v) = false
is_of_none (Edited client comp) = false
is_of_none (Sent u) = is_clientless u.client
is_of_none (Got client brief) = false
is_of_none (Left client) = false
is_of_none _ = true

abbrev pub is_at_most : ℕ → Option ℕ → Bool
is_at_most session None = true
is_at_most session (Some c) = c == session

abbrev pub is_of_session : ℕ → Act → Bool
is_of_session session (Joined client doc user track since source v) = client == session
is_of_session session (Edited client comp) = client == session
is_of_session session (Sent u) = is_at_most session u.client
is_of_session session (Got client brief) = client == session
is_of_session session (Left client) = client == session
is_of_session session _ = true

-- an act of a client, or of a line that was declined: it makes no document, and leaves the clock, the cache, all locks and all drivers
abbrev pub is_quiet : Act → Bool
is_quiet (Joined client doc user track since source v) = true
is_quiet (Edited client comp) = true
is_quiet (Sent u) = true
is_quiet (Got client brief) = true
is_quiet (Left client) = true
is_quiet (Declined session why) = true
is_quiet _ = false

-- a journal goes on by such entries, which are of no client but this session's
pub record IsQuietOf (session : ℕ) (e : Entry) : Type 0 where
  pub quiet : is_quiet e.act ≡ true
  pub its : is_of_session session e.act ≡ true

pub record GoesQuietly (session : ℕ) (left last : List Entry) : Type 0 where
  pub more : List Entry
  pub last_is : last ≡ left ++ more
  pub all : All (IsQuietOf session) more
