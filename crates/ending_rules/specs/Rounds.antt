-- When a further round is needed at the end of a run, and which clients there are.
use Rattle.std.specs.Prelude.{◌≢◌, ℕ, zero, suc, ◌≤◌, nat_lt, Bool, true, false, ◌&&◌, ◌||◌, List, [], ◌∷◌, length, Some}
use Rattle.journal_entries.specs.declared.act.Act.{Act}
use Rattle.journal_entries.specs.declared.act.Act.TheVariants.{Joined as JoinedAct}
use Rattle.journal_entries.specs.declared.act.Entry.{Entry}
use Rattle.journal_rules.specs.declared.state.ClientState.TheVariants.{Joined}
use Rattle.journal_rules.specs.Documents.{makings, waiting}
use Rattle.journal_rules.specs.Mail.{mail}
use Rattle.journal_rules.specs.Client.{client, has_flight}
use Rattle.turn_rules.specs.Clients.{is_joined}

abbrev pub has_any : {A : Type 0} → List A → Bool
has_any [] = false
has_any (x ∷ xs) = true

abbrev pub any_below : (ℕ → Bool) → ℕ → Bool
any_below p zero = false
any_below p (suc n) = any_below p n || p n

-- a client that is joined has mail, an operation in flight or something pending
abbrev pub is_unfinished : ℕ → List Entry → Bool
is_unfinished c journal =
    let s = client c journal in
    is_joined s.state && (has_any (mail c journal) || has_flight s.flight || has_any s.pending)

-- a round is needed where something waits for a document, or one of the clients, numbered from 0, is unfinished
abbrev pub needs_round : ℕ → List Entry → Bool
needs_round clients journal = any_below (λ d. has_any (waiting d journal)) (length (makings journal)) || any_below (λ c. is_unfinished c journal) clients

-- the clients are those below a number
abbrev pub AreClients : ℕ → List Entry → Type 0
AreClients clients journal = (c : ℕ) → clients ≤ c → (client c journal).state ≢ Joined

-- who joins has a number below this one
abbrev pub joins_below : ℕ → Act → Bool
joins_below n (JoinedAct client doc user track since source v) = nat_lt client n
joins_below n _ = true

-- nobody comes back who had left
abbrev pub returns_not : Act → Bool
returns_not (JoinedAct client doc user track (Some n) source v) = false
returns_not _ = true
