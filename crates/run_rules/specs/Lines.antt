-- What each line of a script does: the turns that it takes, and the entries that it makes in them.
use Rattle.std.specs.Prelude.{◌≡◌, ℕ, ◌+◌, zero, suc, Bool, true, false, List, [], ◌∷◌, ◌++◌, length, map, Option, Some, None}
use Rattle.expiring_lock.specs.declared.refusal.Busy.{Busy}
use Rattle.expiring_lock.specs.declared.refusal.Stale.{Stale}
use Rattle.expiring_lock.specs.declared.refusal.Stale.TheVariants.{Other}
use Rattle.journal_entries.specs.declared.message.Msg.{Msg}
use Rattle.journal_entries.specs.declared.update.Outcome.{Outcome}
use Rattle.journal_entries.specs.declared.act.Act.{Act}
use Rattle.journal_entries.specs.declared.act.Act.TheVariants.{Joined as JoinedAct, Got, Committed, Released, Declined}
use Rattle.journal_entries.specs.declared.act.Entry.{Entry}
use Rattle.journal_entries.specs.declared.why.Why.{Why}
use Rattle.journal_entries.specs.declared.why.Why.TheVariants.{NoDoc, NotJoined, Nothing, Empty, Busy as IsBusy, Holding, Stale as IsStale, StoreFault}
use Rattle.journal_rules.specs.Client.{client}
use Rattle.journal_rules.specs.Documents.{number_of, version, waiting}
use Rattle.journal_rules.specs.Keeping.{cached}
use Rattle.journal_rules.specs.Legal.{IsDecision, brief_of, source_at}
use Rattle.journal_rules.specs.Locks.{last_token}
use Rattle.journal_rules.specs.Mail.{mail}
use Rattle.session_lines.specs.declared.line.Line.{Line}
use Rattle.session_lines.specs.declared.line.Line.TheVariants.{Join, Sync, Drain, Hold, Finish, Flush}
use Rattle.turn_rules.specs.Clients.{is_present}
use Rattle.turn_rules.specs.Draining.{Caches, TakesUp, Stop, Done, HeldUp, Releases, Drains}
use Rattle.turn_rules.specs.Flushing.{FlushesFrom}
use Rattle.run_rules.specs.Keeping.{Preparation, Preparations, keeping}
use Rattle.turn_rules.specs.Locking.{busy, staleness, unavailable}
use Rattle.run_rules.specs.Plain.{plain_acts}
use Rattle.turn_rules.specs.Turns.{Turn, entry_by}

-- joining a document, which is loaded first where it isn't cached; where it can't be, the line is declined
abbrev pub joined_if : Bool → ℕ → ℕ → List ℕ → Bool → List Entry → Act
joined_if true session doc user track before = JoinedAct session doc user track None (source_at before) (version doc before)
joined_if false session doc user track before = Declined session StoreFault

abbrev pub Joins : (Act → Entry) → ℕ → Option ℕ → List ℕ → Bool → List Entry → List Entry → Type 0
Joins by session None user track look made = made ≡ by (Declined session NoDoc) ∷ []
Joins by session (Some doc) user track look made =
    (ready : Bool) × (loading : List Act) × Caches (cached doc look) doc None ready loading
    × (made ≡ map by loading ++ by (joined_if ready session doc user track (look ++ map by loading)) ∷ [])

-- finishing what the session keeps, or saying that it keeps nothing or that the lock is no longer its own
abbrev pub FinishesUnless : (Act → Entry) → ℕ → Preparation → Option Stale → List Entry → List Entry → Type 0
FinishesUnless by session p (Some stale) look made = made ≡ by (Declined session (IsStale stale)) ∷ []
FinishesUnless by session p None look made =
    (ticket : ℕ) × (outcome : Outcome) × IsDecision look p.doc ticket outcome
    × (made ≡ by (Committed p.doc p.token ticket outcome) ∷ by (Released p.doc p.token) ∷ [])

abbrev pub Finishes : (Act → Entry) → ℕ → Option Preparation → List Entry → List Entry → Type 0
Finishes by session None look made = made ≡ by (Declined session Nothing) ∷ []
Finishes by session (Some p) look made = FinishesUnless by session p (staleness p.doc p.token look) look made

-- why no update of a document can be taken up
abbrev pub not_held_by : ℕ → Option Busy → Option Why
not_held_by zero b = Some Empty
not_held_by (suc n) (Some b) = Some (IsBusy b)
not_held_by (suc n) None = None

abbrev pub not_holdable : ℕ → List Entry → Option Why
not_holdable doc look = not_held_by (length (waiting doc look)) (busy doc look)

-- a drain that was held up says so
abbrev pub stop_acts : ℕ → Stop → List Act
stop_acts session Done = []
stop_acts session (HeldUp b) = Declined session (IsBusy b) ∷ []

-- a flush that comes too late says so
abbrev pub late_acts : ℕ → ℕ → List Entry → List Act
late_acts session doc look = Declined session (IsStale (Other (last_token doc look))) ∷ []

-- the turn in which a client gets the first message of its mail
abbrev pub GetsOne : (Act → Entry) → ℕ → List Entry → List Entry → Type 0
GetsOne by c look made = (message : Msg) × (rest : List Msg) × (mail c look ≡ message ∷ rest) × (made ≡ by (Got c (brief_of message)) ∷ [])

module _ (by : Act → Entry) (Next : List Entry → List Entry → Type 0) where
  -- a client gets so many messages, and then its mail is empty
  abbrev pub GetsSoMany : ℕ → ℕ → List Entry → List Entry → Type 0
  GetsSoMany zero c left last = Next left last × (mail c last ≡ [])
  GetsSoMany (suc n) c left last = (mid : List Entry) × Turn Next (GetsOne by c) left mid × GetsSoMany n c mid last

  -- a client gets all of its mail
  abbrev pub Gets : ℕ → List Entry → List Entry → Type 0
  Gets c left last = (n : ℕ) × GetsSoMany n c left last

module _ (by : Act → Entry) (Next : List Entry → List Entry → Type 0) (session : ℕ) where
  -- `drain`, from its first look: as many as wait there
  abbrev pub DrainsSoMany : ℕ → ℕ → List Entry → List Entry → Type 0
  DrainsSoMany doc zero first last = last ≡ first ++ by (Declined session Empty) ∷ []
  DrainsSoMany doc (suc n) first last =
      (mid : List Entry) × (stop : Stop) × Drains by Next doc (suc n) first mid stop × (last ≡ mid ++ map by (stop_acts session stop))

  abbrev pub DrainsNamed : Option ℕ → List Entry → List Entry → Type 0
  DrainsNamed None first last = last ≡ first ++ by (Declined session NoDoc) ∷ []
  DrainsNamed (Some doc) first last = DrainsSoMany doc (length (waiting doc first)) first last

  -- `sync`, from its first look: the client's document is drained, and the client gets its mail
  abbrev pub SyncsIf : Bool → ℕ → List Entry → List Entry → Type 0
  SyncsIf false doc first last = last ≡ first ++ by (Declined session NotJoined) ∷ []
  SyncsIf true doc first last =
      (mid : List Entry) × (stop : Stop) × Drains by Next doc (length (waiting doc first)) first mid stop × Gets by Next session mid last

  abbrev pub Syncs : List Entry → List Entry → Type 0
  Syncs first last = SyncsIf (is_present (client session first).state) (client session first).doc first last

  -- `flush`, from its first look
  abbrev pub FlushesUnless : ℕ → Option Why → List Entry → List Entry → Type 0
  FlushesUnless doc (Some why) look last = last ≡ look ++ by (Declined session why) ∷ []
  FlushesUnless doc None look last = FlushesFrom by Next (late_acts session doc) doc look last

  abbrev pub FlushesNamed : Option ℕ → List Entry → List Entry → Type 0
  FlushesNamed None look last = last ≡ look ++ by (Declined session NoDoc) ∷ []
  FlushesNamed (Some doc) look last = FlushesUnless doc (unavailable doc look) look last

  -- `hold`, from its look: what is prepared is kept; an update whose document can't be loaded is refused, and the lock let go
  abbrev pub HoldsIf : Bool → ℕ → ℕ → Preparations → List Entry → List Entry → Preparations → Type 0
  HoldsIf true doc token kept mid last after = (last ≡ mid) × (after ≡ keeping session (Some (record { doc = doc; token = token })) kept)
  HoldsIf false doc token kept mid last after = Releases by Next doc token mid last × (after ≡ kept)

  abbrev pub HoldsUnless : ℕ → Option Why → Preparations → List Entry → List Entry → Preparations → Type 0
  HoldsUnless doc (Some why) kept look last after = (last ≡ look ++ by (Declined session why) ∷ []) × (after ≡ kept)
  HoldsUnless doc None kept look last after =
      (token : ℕ) × (ready : Bool) × (made : List Entry) × TakesUp by doc token ready look made × HoldsIf ready doc token kept (look ++ made) last after

  abbrev pub HoldsNamed : Option ℕ → Preparations → List Entry → List Entry → Preparations → Type 0
  HoldsNamed None kept look last after = (last ≡ look ++ by (Declined session NoDoc) ∷ []) × (after ≡ kept)
  HoldsNamed (Some doc) kept look last after = HoldsUnless doc (not_holdable doc look) kept look last after

  abbrev pub Holds : Option Preparation → List ℕ → Preparations → List Entry → List Entry → Preparations → Type 0
  Holds (Some p) name kept look last after = (last ≡ look ++ by (Declined session Holding) ∷ []) × (after ≡ kept)
  Holds None name kept look last after = HoldsNamed (number_of name look) kept look last after

module _ (seat : ℕ) (Next : List Entry → List Entry → Type 0) where
  -- the line of this number leads from a journal as it was left to another, and from what sessions kept to what they keep
  abbrev pub Does : ℕ → Line → Preparations → List Entry → List Entry → Preparations → Type 0
  Does k (Join session doc user track) kept left last after =
      Turn Next (λ look made. Joins (entry_by seat (Some k)) session (number_of doc look) user track look made) left last × (after ≡ kept)
  Does k (Sync session) kept left last after =
      ((first : List Entry) × Next left first × Syncs (entry_by seat (Some k)) Next session first last) × (after ≡ kept)
  Does k (Drain session doc) kept left last after =
      ((first : List Entry) × Next left first × DrainsNamed (entry_by seat (Some k)) Next session (number_of doc first) first last) × (after ≡ kept)
  Does k (Flush session doc) kept left last after =
      ((look : List Entry) × Next left look × FlushesNamed (entry_by seat (Some k)) Next session (number_of doc look) look last) × (after ≡ kept)
  Does k (Hold session doc) kept left last after =
      (look : List Entry) × Next left look × Holds (entry_by seat (Some k)) Next session (kept session) doc kept look last after
  Does k (Finish session) kept left last after =
      Turn Next (Finishes (entry_by seat (Some k)) session (kept session)) left last × (after ≡ keeping session None kept)
  Does k line kept left last after =
      Turn Next (λ look made. made ≡ map (entry_by seat (Some k)) (plain_acts look line)) left last × (after ≡ kept)

  -- numbered lines, done in order
  abbrev pub Leads : List (ℕ × Line) → Preparations → List Entry → List Entry → Type 0
  Leads [] kept left last = last ≡ left
  Leads (line ∷ lines) kept left last =
      (mid : List Entry) × (after : Preparations) × Does line.0 line.1 kept left mid after × Leads lines after mid last

-- lines with their numbers, the first of them this one
abbrev pub numbered : ℕ → List Line → List (ℕ × Line)
numbered k [] = []
numbered k (line ∷ lines) = (k, line) ∷ numbered (k + 1) lines
