-- Which journals are legal but for what is said of clients' states, of texts and of what is decided by them: what holds of a journal over every keeper. The rows are those of a legal journal; where one speaks of a client's state or of a text, what is left of it stands here.
use Rattle.std.specs.Prelude.{◌≡◌, ◌⊎◌, ℕ, ◌+◌, ◌<◌, ◌≤◌, Bool, true, false, List, ◌∷◌, length, take, slice_get, Option, Some, None, ⊤}
use Rattle.ot_op.specs.Operation.{is_void}
use Rattle.journal_entries.specs.declared.update.Update.{Update}
use Rattle.journal_entries.specs.declared.update.Outcome.{Outcome}
use Rattle.journal_entries.specs.declared.update.Outcome.TheVariants.{Refused}
use Rattle.journal_entries.specs.declared.update.Cause.TheVariants.{Memory}
use Rattle.journal_entries.specs.declared.why.Why.{Why}
use Rattle.journal_entries.specs.declared.why.Why.TheVariants.{NotJoined, NotLeft, TooOld, PastEnd, Full, InFlight}
use Rattle.journal_entries.specs.declared.act.Act.{Act}
use Rattle.journal_entries.specs.declared.act.Act.TheVariants.{Joined as JoinedAct, Edited, Sent, Left as LeftAct, Committed, Declined}
use Rattle.journal_entries.specs.declared.act.Entry.{Entry}
use Rattle.journal_rules.specs.Documents.{base, version, waiting, is_in, update_at}
use Rattle.journal_rules.specs.Locks.{clock, used, Holds}
use Rattle.journal_rules.specs.Deciding.{longest, greatest_age, decided_of, passed_since}
use Rattle.journal_rules.specs.Keeping.{cached}
use Rattle.journal_rules.specs.Legal.{IsAllowed, IsJoining, IsRawUpdate, IsUnloadable, source_at}
use Rattle.journal_rules.specs.Whys.{IsWhy, most_components, most_units}
use Rattle.journal_sizes.specs.Sizes.{IsSized}
use Rattle.loading_rules.specs.Joinings.{Joining, last_joining, IsAsJoined}
use Rattle.loading_rules.specs.Passable.{AppliesPassable}

-- a client comes back as it joined last, under a new source
pub record IsReturningBut (before : List Entry) (c doc : ℕ) (user : List ℕ) (track : Bool) (since source v : ℕ) : Type 0 where
  pub was : ℕ
  pub placed : IsAsJoined before c doc user track was since
  pub recent : version doc before ≤ since + greatest_age
  pub v_is : v ≡ version doc before
  pub source_is : source ≡ source_at before

abbrev pub IsJoinBut : List Entry → ℕ → ℕ → List ℕ → Bool → Option ℕ → ℕ → ℕ → Type 0
IsJoinBut before c doc user track None source v = IsJoining before doc source v
IsJoinBut before c doc user track (Some since) source v = IsReturningBut before c doc user track since source v

-- a client sends as it joined last, and within the limits
pub record IsClientUpdate (before : List Entry) (c : ℕ) (u : Update) : Type 0 where
  pub placed : IsAsJoined before c u.doc u.user u.track u.source u.v
  pub at_once : u.ms ≡ clock before
  pub sized : IsSized u.op

abbrev pub IsSendingBut : List Entry → Update → Option ℕ → Type 0
IsSendingBut before u (Some c) = IsClientUpdate before c u
IsSendingBut before u None = IsRawUpdate before u

-- the outcome is what is decided where the document's text is this one
pub record IsDecisionBut (before : List Entry) (doc ticket : ℕ) (outcome : Outcome) : Type 0 where
  pub update : Update
  pub named : update_at before ticket ≡ Some update
  pub cached_is : cached doc before ≡ true
  pub text : List ℕ
  pub short : length text ≤ longest
  pub outcome_is : outcome ≡ decided_of (base doc before) (version doc before) (Some text) update (passed_since doc update.v before)
  pub passable : AppliesPassable outcome

abbrev pub IsOutcomeBut : List Entry → ℕ → ℕ → ℕ → Outcome → Type 0
IsOutcomeBut before doc token ticket outcome = IsDecisionBut before doc ticket outcome ⊎ (outcome ≡ Refused Memory) ⊎ IsUnloadable before doc token outcome

pub record IsCommittingBut (before : List Entry) (seat doc token ticket : ℕ) (outcome : Outcome) : Type 0 where
  pub holds : Holds seat doc token before
  pub unused : is_in token (used before) ≡ false
  pub rest : List ℕ
  pub first : waiting doc before ≡ ticket ∷ rest
  pub ends : IsOutcomeBut before doc token ticket outcome

-- the document that a client joined last has gone on too far
pub record IsTooOldBut (before : List Entry) (c have : ℕ) : Type 0 where
  pub joining : Joining
  pub last : last_joining c before ≡ Some joining
  pub have_is : have ≡ version joining.doc before
  pub since : ℕ
  pub low : base joining.doc before ≤ since
  pub too_old : since + greatest_age < have

-- the whys of a client's refusals are read from the client that was handed in
abbrev pub IsWhyBut : List Entry → ℕ → ℕ → Why → Type 0
IsWhyBut before seat c NotJoined = ⊤
IsWhyBut before seat c NotLeft = ⊤
IsWhyBut before seat c (TooOld have) = IsTooOldBut before c have
IsWhyBut before seat c (PastEnd len) = ⊤
IsWhyBut before seat c (Full comps units) = (most_components < comps) ⊎ (most_units < units)
IsWhyBut before seat c InFlight = ⊤
IsWhyBut before seat c why = IsWhy before seat c why

-- the rows
abbrev pub IsAllowedBut : List Entry → ℕ → Act → Type 0
IsAllowedBut before seat (JoinedAct c doc user track since source v) = IsJoinBut before c doc user track since source v
IsAllowedBut before seat (Edited c comp) = is_void comp ≡ false
IsAllowedBut before seat (Sent u) = IsSendingBut before u u.client
IsAllowedBut before seat (LeftAct c) = ⊤
IsAllowedBut before seat (Committed doc token ticket outcome) = IsCommittingBut before seat doc token ticket outcome
IsAllowedBut before seat (Declined session why) = IsWhyBut before seat session why
IsAllowedBut before seat act = IsAllowed before seat act

-- a journal that is legal but for these
abbrev pub IsLegalBut : List Entry → Type 0
IsLegalBut journal = (i : ℕ) (e : Entry) → slice_get journal i ≡ Some e → IsAllowedBut (take i journal) e.seat e.act
