-- What the types of its fields say of what a line shows: numbers of 32 and 64 bits, names, texts and operations.
use Rattle.std.specs.Prelude.{◌≡◌, ◌≤◌, ℕ, List, [], ◌∷◌, length, Option, Some, None, IsTrue, ⊤}
use Rattle.std.specs.List.{All}
use Rattle.ot_units.specs.Text.{IsText, is_name}
use Rattle.ot_op.specs.declared.comp.Comp.{Comp}
use Rattle.ot_op.specs.declared.fault.FormFault.{FormFault}
use Rattle.ot_op.specs.declared.fault.FormFault.TheVariants.{Form, Supplementary, TooLarge}
use Rattle.ot_op.specs.Operation.{IsOp, AreInReach}
use Rattle.ot_json.specs.Grammar.{IsComponent}
use Rattle.expiring_lock.specs.declared.refusal.Stale.{Stale}
use Rattle.expiring_lock.specs.declared.refusal.Stale.TheVariants as stale
use Rattle.history_queue.specs.declared.item.Item.{Item}
use Rattle.journal_entries.specs.declared.message.Brief.{Brief}
use Rattle.journal_entries.specs.declared.message.Brief.TheVariants as brief
use Rattle.journal_entries.specs.declared.update.Update.{Update}
use Rattle.journal_entries.specs.declared.update.Cause.{Cause}
use Rattle.journal_entries.specs.declared.update.Cause.TheVariants as cause
use Rattle.journal_entries.specs.declared.update.Outcome.{Outcome}
use Rattle.journal_entries.specs.declared.update.Outcome.TheVariants.{Applied, Dup, Refused}
use Rattle.journal_entries.specs.declared.why.Why.{Why}
use Rattle.journal_entries.specs.declared.why.Why.TheVariants as why
use Rattle.journal_entries.specs.declared.act.Act.{Act}
use Rattle.journal_entries.specs.declared.act.Act.TheVariants.{Made, Ticked, Joined, Edited, Sent, Malformed, Got, Left, Acquired, Loaded, LoadFailed, LoadDiffers, Committed, Released, Flushed, FlushFailed, Unloaded, Handed, Declined, Closed}
use Rattle.ranges_tracker.specs.declared.change.Change.{Change}
use Rattle.ranges_tracker.specs.declared.comment.Comment.{Comment}
use Rattle.report_text.specs.declared.client_end.ClientEnd.{ClientEnd}
use Rattle.report_text.specs.declared.document_end.DocEnd.{DocEnd}
use Rattle.report_text.specs.declared.project_end.ProjectEnd.{ProjectEnd}
use Rattle.report_reader.specs.Fields.{max_u32}
use Rattle.report_reader.specs.declared.entry.EntryLine.{EntryLine}
use Rattle.report_reader.specs.declared.piece.Piece.{Piece}
use Rattle.report_reader.specs.declared.piece.Piece.TheVariants as piece

abbrev pub max_u64 : ℕ
max_u64 = 18446744073709551615

abbrev pub IsSmall : ℕ → Type 0
IsSmall n = n ≤ max_u32

abbrev pub IsLong : ℕ → Type 0
IsLong n = n ≤ max_u64

abbrev pub IfAny : {A : Type 0} → (A → Type 0) → Option A → Type 0
IfAny P None = ⊤
IfAny P (Some x) = P x

abbrev pub IsName : List ℕ → Type 0
IsName name = IsTrue (is_name name)

-- an operation that may be written
abbrev pub IsWritable : List Comp → Type 0
IsWritable op = All IsComponent op × IsOp op × AreInReach op

abbrev pub IsTypedFault : FormFault → Type 0
IsTypedFault (Form at) = IsLong at
IsTypedFault (Supplementary at) = IsLong at
IsTypedFault (TooLarge comps units) = IsLong comps × IsLong units

abbrev pub IsTypedCause : Cause → Type 0
IsTypedCause (cause.Future have) = IsLong have
IsTypedCause (cause.TooOld have) = IsLong have
IsTypedCause (cause.TooLong len) = IsLong len
IsTypedCause _ = ⊤

abbrev pub IsTypedOutcome : Outcome → Type 0
IsTypedOutcome (Applied v op) = IsLong v × IsWritable op
IsTypedOutcome (Dup v) = IsLong v
IsTypedOutcome (Refused cause) = IsTypedCause cause

abbrev pub IsTypedBrief : Brief → Type 0
IsTypedBrief (brief.Op v) = IsLong v
IsTypedBrief (brief.Ack v) = IsLong v
IsTypedBrief (brief.Error number) = IsLong number

abbrev pub IsTypedStale : Stale → Type 0
IsTypedStale (stale.Other token) = IsLong token
IsTypedStale stale.Ended = ⊤

abbrev pub IsTypedWhy : Why → Type 0
IsTypedWhy (why.TooOld have) = IsLong have
IsTypedWhy (why.PastEnd len) = IsLong len
IsTypedWhy (why.Full comps units) = IsLong comps × IsLong units
IsTypedWhy (why.Busy busy) = IsLong busy.token × IsLong busy.until
IsTypedWhy (why.Stale stale) = IsTypedStale stale
IsTypedWhy (why.Unflushed kept have) = IfAny IsLong kept × IsLong have
IsTypedWhy (why.Waiting count) = IsLong count
IsTypedWhy _ = ⊤

pub record IsTypedUpdate (u : Update) : Type 0 where
  pub doc : IsSmall u.doc
  pub client : IfAny IsSmall u.client
  pub number : IsLong u.number
  pub source : IsLong u.source
  pub dup : All IsLong u.dup
  pub user : IsName u.user
  pub ms : IsLong u.ms
  pub v : IsLong u.v
  pub op : IsWritable u.op

pub record IsTypedItem (x : Item) : Type 0 where
  pub doc : IsSmall x.doc
  pub v : IsLong x.v
  pub op : IsWritable x.op
  pub user : IsName x.user
  pub ms : IsLong x.ms
  pub length_before : IsLong x.length_before

abbrev pub IsTypedAct : Act → Type 0
IsTypedAct (Made doc name project first base) = IsSmall doc × IsName name × IsName project × IsText first × IsLong base
IsTypedAct (Ticked ms) = IsLong ms
IsTypedAct (Joined client doc user track since source v) = IsSmall client × IsSmall doc × IsName user × IfAny IsLong since × IsLong source × IsLong v
IsTypedAct (Edited client comp) = IsSmall client × IsWritable (comp ∷ [])
IsTypedAct (Sent update) = IsTypedUpdate update
IsTypedAct (Malformed doc fault) = IsSmall doc × IsTypedFault fault
IsTypedAct (Got client brief) = IsSmall client × IsTypedBrief brief
IsTypedAct (Left client) = IsSmall client
IsTypedAct (Acquired doc token until) = IsSmall doc × IsLong token × IsLong until
IsTypedAct (Loaded doc token v) = IsSmall doc × IfAny IsLong token × IsLong v
IsTypedAct (LoadFailed doc token before after) = IsSmall doc × IfAny IsLong token × IsLong before × IsLong after
IsTypedAct (LoadDiffers doc token had got) = IsSmall doc × IfAny IsLong token × IsLong had × IfAny IsLong got
IsTypedAct (Committed doc token ticket outcome) = IsSmall doc × IsLong token × IsLong ticket × IsTypedOutcome outcome
IsTypedAct (Released doc token) = IsSmall doc × IsLong token
IsTypedAct (Flushed doc token v) = IsSmall doc × IsLong token × IsLong v
IsTypedAct (FlushFailed doc token before after) = IsSmall doc × IsLong token × IsLong before × IsLong after
IsTypedAct (Unloaded doc token) = IsSmall doc × IsLong token
IsTypedAct (Handed project count) = IsName project
IsTypedAct (Declined session why) = IsSmall session × IsTypedWhy why
IsTypedAct (Closed driver) = IsSmall driver

-- a `handed` counts its items, and another act has none
abbrev pub HandsOut : Act → List Item → Type 0
HandsOut (Handed project count) items = count ≡ length items
HandsOut _ items = items ≡ []

pub record IsTypedEntry (e : EntryLine) : Type 0 where
  pub board : IsSmall e.board
  pub n : IsLong e.n
  pub seat : IsSmall e.entry.seat
  pub line : IfAny IsSmall e.entry.line
  pub items : All IsTypedItem e.items
  pub hands_out : HandsOut e.entry.act e.items
  pub act : IsTypedAct e.entry.act

pub record IsTypedChange (c : Change) : Type 0 where
  pub version : IsLong c.version
  pub k : IsSmall c.k
  pub at : IsSmall c.at
  pub text : IsText c.text
  pub user : IsName c.user
  pub ms : IsLong c.ms

pub record IsTypedComment (c : Comment) : Type 0 where
  pub thread : IsSmall c.thread
  pub at : IsSmall c.at
  pub text : IsText c.text

pub record IsTypedDocument (end : DocEnd) : Type 0 where
  pub b : IsSmall end.b
  pub doc : IsSmall end.doc
  pub kept : IfAny IsLong end.kept
  pub name : IsName end.name
  pub changes : All IsTypedChange end.ranges.0
  pub comments : All IsTypedComment end.ranges.1
  pub text : IsText end.text
  pub v : IsLong end.v

pub record IsTypedClient (end : ClientEnd) : Type 0 where
  pub b : IsSmall end.b
  pub client : IsSmall end.client
  pub doc : IsSmall end.doc
  pub flight : IfAny IsWritable end.flight
  pub name : IsName end.name
  pub pending : IsWritable end.pending
  pub text : IfAny IsText end.text
  pub v : IsLong end.v

pub record IsTypedProject (end : ProjectEnd) : Type 0 where
  pub b : IsSmall end.b
  pub handed : IsLong end.handed
  pub left : IsLong end.left
  pub project : IsName end.project

-- what a line shows
abbrev pub IsTyped : Piece → Type 0
IsTyped (piece.Entry e) = IsTypedEntry e
IsTyped (piece.Document end) = IsTypedDocument end
IsTyped (piece.Client end) = IsTypedClient end
IsTyped (piece.Project end) = IsTypedProject end
