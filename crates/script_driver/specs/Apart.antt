-- What lines leave that the runner counts on: the documents made, the clock, the clients, what was handed out, who closed, and the tokens under which updates were committed.
use Rattle.std.specs.Prelude.{◌≡◌, ℕ, ◌+◌, nat_le, Bool, true, false, List, ◌++◌, All}
use Rattle.journal_entries.specs.declared.act.Act.{Act}
use Rattle.journal_entries.specs.declared.act.Act.TheVariants.{Made, Ticked, Joined, Edited, Sent, Got, Left, Committed, Unloaded, Handed, Closed}
use Rattle.journal_entries.specs.declared.act.Entry.{Entry}
use Rattle.journal_rules.specs.Documents.{makings}
use Rattle.journal_rules.specs.Legal.{closed}
use Rattle.journal_rules.specs.Locks.{clock}
use Rattle.script_driver.specs.Clients.{is_clientless}
use Rattle.session_lines.specs.Standing.{moved_by}
use Rattle.session_lines.specs.declared.line.Line.{Line}
use Rattle.script_driver.specs.Fitting.{makings_by}

-- an act that makes no document, leaves the clock, the cache and all clients, hands nothing out, lets nobody close, and commits under no token below this one
abbrev pub is_apart : ℕ → Act → Bool
is_apart from (Made doc name project first base) = false
is_apart from (Ticked ms) = false
is_apart from (Joined session doc user track since source v) = false
is_apart from (Edited session comp) = false
is_apart from (Sent u) = is_clientless u.client
is_apart from (Got session brief) = false
is_apart from (Left session) = false
is_apart from (Committed doc token ticket outcome) = nat_le from token
is_apart from (Unloaded doc token) = false
is_apart from (Handed project count) = false
is_apart from (Closed driver) = false
is_apart from _ = true

-- an entry of such an act
pub record IsApart (from : ℕ) (e : Entry) : Type 0 where
  pub apart : is_apart from e.act ≡ true

-- a journal goes on by such entries
pub record GoesApart (from : ℕ) (left last : List Entry) : Type 0 where
  pub more : List Entry
  pub last_is : last ≡ left ++ more
  pub all : All (IsApart from) more

-- a journal behind a line
pub record IsBehind (line : Line) (left last : List Entry) : Type 0 where
  pub makings_are : makings last ≡ makings_by (makings left) line
  pub clock_is : clock last ≡ clock left + moved_by line
  pub closed_is : closed last ≡ closed left
