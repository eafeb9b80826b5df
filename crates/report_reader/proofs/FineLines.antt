-- What is written of an entry is read back as data.
use Rattle.std.proofs.Common.{◌≡◌, ℕ, ◌≤◌, List, [], ◌∷◌, Bool, true, false, Option, Some, None, refl, sym, ap, subst, arith, codes}
use Rattle.std.specs.Prelude.{if◌then◌else◌}
use Rattle.std.proofs.lemmas.List.Elements.{All-head}
use Rattle.std.specs.List.{All}
use Rattle.serde_json.specs.Data.{unsigned, Data, number, object, string, boolean, Members}
use Rattle.json_lines.specs.Object.{with_flag, with_member, with_number, with_text, with_units, units_data, optional}
use Rattle.json_lines.specs.Utf8.{is_text}
use Rattle.ot_op.specs.declared.comp.Comp.{Comp}
use Rattle.ot_op.specs.declared.comp.Comp.TheVariants.{Ins, Del, Com}
use Rattle.ot_op.specs.declared.fault.FormFault.{FormFault}
use Rattle.ot_op.specs.declared.fault.FormFault.TheVariants.{Form, Supplementary, TooLarge}
use Rattle.ot_op.specs.Operation.{is_void, place}
use Rattle.ot_op.specs.Compose.{appended}
use Rattle.ot_json.specs.Grammar.{IsComponent, component_data, operation_data}
use Rattle.ot_units.specs.Text.{IsText}
use Rattle.expiring_lock.specs.declared.refusal.Stale.TheVariants as stale
use Rattle.history_queue.specs.declared.item.Item.{Item}
use Rattle.journal_entries.specs.declared.message.Brief.{Brief}
use Rattle.journal_entries.specs.declared.message.Brief.TheVariants as brief
use Rattle.journal_entries.specs.declared.update.Update.{Update}
use Rattle.journal_entries.specs.declared.update.Cause.{Cause}
use Rattle.journal_entries.specs.declared.update.Cause.TheVariants as cause
use Rattle.journal_entries.specs.declared.update.Outcome.{Outcome}
use Rattle.journal_entries.specs.declared.update.Outcome.TheVariants.{Applied, Dup, Refused}
use Rattle.journal_entries.specs.declared.why.Why.{Why}
use Rattle.journal_entries.specs.declared.why.Why.TheVariants as why
use Rattle.journal_entries.specs.declared.act.Act.{Act}
use Rattle.journal_entries.specs.declared.act.Act.TheVariants.{Made, Ticked, Joined, Edited, Sent, Malformed, Got, Left, Acquired, Loaded, LoadFailed, LoadDiffers, Committed, Released, Flushed, FlushFailed, Unloaded, Handed, Declined, Closed}
use Rattle.report_text.specs.Entries.{act_name, entry_members, item_members, items_data, with_brief, with_cause, with_counts, with_fault, with_fields, with_lock, with_lock_if_any, with_outcome, with_update, with_why}
use Rattle.report_text.specs.Values.{numbers_data, with_optional}
use Rattle.report_reader.specs.Typed.{IfAny, IsLong, IsName, IsSmall, IsTypedAct, IsTypedBrief, IsTypedCause, IsTypedEntry, IsTypedFault, IsTypedItem, IsTypedOutcome, IsTypedUpdate, IsTypedWhy, IsWritable}
use Rattle.report_reader.specs.declared.entry.EntryLine.{EntryLine}
use Rattle.report_reader.proofs.Fine.{AreFine, IsFine, fine_array, fine_flag, fine_name, fine_none, fine_number, fine_object, fine_optional, fine_text, fine_units, fine_with}

pub long : (n : ℕ) → IsSmall n → IsLong n
long n small = omega (arith, small)

pub longs : (o : Option ℕ) → IfAny IsSmall o → IfAny IsLong o
longs None small = tt
longs (Some n) small = long n small

-- ---- one member more

module _ {m : ℕ} {ms : Members} (k : List ℕ) (key : is_text k ≡ true) where
  pub num : (n : ℕ) → IsLong n → AreFine m ms → AreFine m (with_number k n ms)
  num n h all = fine_with k (number (unsigned n)) ms key (fine_number m n h) all

  pub opt : (o : Option ℕ) → IfAny IsLong o → AreFine m ms → AreFine m (with_optional k o ms)
  opt o h all = fine_with k (optional o) ms key (fine_optional m o h) all

  pub txt : (s : List ℕ) → is_text s ≡ true → AreFine m ms → AreFine m (with_text k s ms)
  txt s h all = fine_with k (string s) ms key (fine_text m s h) all

  pub nam : (s : List ℕ) → IsName s → AreFine m ms → AreFine m (with_text k s ms)
  nam s h all = fine_with k (string s) ms key (fine_name m s h) all

  pub uni : (us : List ℕ) → IsText us → AreFine m ms → AreFine m (with_units k us ms)
  uni us h all = fine_with k (units_data us) ms key (fine_units m us h) all

  pub flg : (b : Bool) → AreFine m ms → AreFine m (with_flag k b ms)
  flg b all = fine_with k (boolean b) ms key (fine_flag m b) all

  pub dat : (n : ℕ) (d : Data) → n ≤ m → IsFine n d → AreFine m ms → AreFine m (with_member k d ms)
  dat n d le fine all = fine_with k d ms key (record { formed = fine.formed; texts = fine.texts; shallow = let s = fine.shallow in omega (arith, s, le) }) all

-- ---- operations, numbers and items

component_fine : (c : Comp) → IsComponent c × (place c ≤ 1000000000) → IsFine 1 (component_data c)
unfolding with_member
component_fine (Ins p us) h = fine_object 0 _ (uni (codes "i") refl us h.0 (num (codes "p") refl p (let s = h.1 in omega (arith, s)) (fine_none 0)))
component_fine (Del p us) h = fine_object 0 _ (uni (codes "d") refl us h.0 (num (codes "p") refl p (let s = h.1 in omega (arith, s)) (fine_none 0)))
component_fine (Com p us t) h = fine_object 0 _ (uni (codes "c") refl us h.0.0 (num (codes "p") refl p (let s = h.1 in omega (arith, s)) (num (codes "t") refl t (let s = h.0.1 in omega (arith, s)) (fine_none 0))))

pub operation_fine : (op : List Comp) → IsWritable op → IsFine 2 (operation_data op)
operation_fine op h = fine_array 1 (λ c. IsComponent c × (place c ≤ 1000000000)) component_data component_fine op (λ k d lt. (h.0 k d lt, h.2 k d lt))

pub numbers_fine : (ns : List ℕ) → All IsLong ns → IsFine 1 (numbers_data ns)
numbers_fine ns all = fine_array 0 IsLong (λ n. number (unsigned n)) (λ n h. fine_number 0 n h) ns all

item_fine : (x : Item) → IsTypedItem x → IsFine 3 (object (item_members x))
item_fine x t = fine_object 2 (item_members x)
    (num (codes "v") refl x.v t.v (nam (codes "user") refl x.user t.user (dat (codes "op") refl 2 (operation_data x.op) (omega arith) (operation_fine x.op t.op)
    (num (codes "ms") refl x.ms t.ms (num (codes "len") refl x.length_before t.length_before (num (codes "doc") refl x.doc (long x.doc t.doc) (fine_none 2)))))))

pub items_fine : (xs : List Item) → All IsTypedItem xs → IsFine 4 (items_data xs)
items_fine xs all = fine_array 3 IsTypedItem (λ x. object (item_members x)) item_fine xs all

-- ---- the parts of an entry

module _ {ms : Members} (all : AreFine 4 ms) where
  fault_fine : (fault : FormFault) → IsTypedFault fault → AreFine 4 (with_fault fault ms)
  fault_fine (Form at) t = num (codes "at") refl at t (txt (codes "fault") refl (codes "form") refl all)
  fault_fine (Supplementary at) t = num (codes "at") refl at t (txt (codes "fault") refl (codes "supplementary") refl all)
  fault_fine (TooLarge comps units) t = num (codes "units") refl units t.1 (num (codes "comps") refl comps t.0 (txt (codes "fault") refl (codes "too-large") refl all))

  cause_fine : (c : Cause) → IsTypedCause c → AreFine 4 (with_cause c ms)
  cause_fine (cause.Future have) t = num (codes "have") refl have t (txt (codes "cause") refl (codes "future") refl all)
  cause_fine (cause.TooOld have) t = num (codes "have") refl have t (txt (codes "cause") refl (codes "too-old") refl all)
  cause_fine cause.Mismatch t = txt (codes "cause") refl (codes "mismatch") refl all
  cause_fine (cause.TooLong len) t = num (codes "len") refl len t (txt (codes "cause") refl (codes "too-long") refl all)
  cause_fine cause.StoreFault t = txt (codes "cause") refl (codes "store-fault") refl all
  cause_fine cause.Memory t = txt (codes "cause") refl (codes "memory") refl all

  brief_fine : (b : Brief) → IsTypedBrief b → AreFine 4 (with_brief b ms)
  brief_fine (brief.Op v) t = num (codes "v") refl v t (txt (codes "msg") refl (codes "op") refl all)
  brief_fine (brief.Ack v) t = num (codes "v") refl v t (txt (codes "msg") refl (codes "ack") refl all)
  brief_fine (brief.Error n) t = num (codes "number") refl n t (txt (codes "msg") refl (codes "error") refl all)

  why_fine : (w : Why) → IsTypedWhy w → AreFine 4 (with_why w ms)
  why_fine why.NoDoc t = txt (codes "why") refl (codes "no-doc") refl all
  why_fine why.NoProject t = txt (codes "why") refl (codes "no-project") refl all
  why_fine why.NotJoined t = txt (codes "why") refl (codes "not-joined") refl all
  why_fine why.NotLeft t = txt (codes "why") refl (codes "not-left") refl all
  why_fine (why.TooOld have) t = num (codes "have") refl have t (txt (codes "why") refl (codes "too-old") refl all)
  why_fine (why.PastEnd len) t = num (codes "len") refl len t (txt (codes "why") refl (codes "past-end") refl all)
  why_fine (why.Full comps units) t = num (codes "units") refl units t.1 (num (codes "comps") refl comps t.0 (txt (codes "why") refl (codes "full") refl all))
  why_fine why.InFlight t = txt (codes "why") refl (codes "in-flight") refl all
  why_fine why.Nothing t = txt (codes "why") refl (codes "nothing") refl all
  why_fine why.Empty t = txt (codes "why") refl (codes "empty") refl all
  why_fine (why.Busy busy) t = num (codes "until") refl busy.until t.1 (num (codes "token") refl busy.token t.0 (txt (codes "why") refl (codes "busy") refl all))
  why_fine why.Uncached t = txt (codes "why") refl (codes "uncached") refl all
  why_fine why.Holding t = txt (codes "why") refl (codes "holding") refl all
  why_fine (why.Stale (stale.Other token)) t = opt (codes "token") refl (Some token) t (txt (codes "why") refl (codes "stale") refl all)
  why_fine (why.Stale stale.Ended) t = opt (codes "token") refl None tt (txt (codes "why") refl (codes "stale") refl all)
  why_fine (why.Unflushed kept have) t = opt (codes "kept") refl kept t.0 (num (codes "have") refl have t.1 (txt (codes "why") refl (codes "unflushed") refl all))
  why_fine (why.Waiting count) t = num (codes "count") refl count t (txt (codes "why") refl (codes "waiting") refl all)
  why_fine why.StoreFault t = txt (codes "why") refl (codes "store-fault") refl all

  update_fine : (u : Update) → IsTypedUpdate u → AreFine 4 (with_update u ms)
  update_fine u t =
      num (codes "v") refl u.v t.v (nam (codes "user") refl u.user t.user (flg (codes "track") refl u.track (num (codes "source") refl u.source t.source
      (dat (codes "op") refl 2 (operation_data u.op) (omega arith) (operation_fine u.op t.op) (num (codes "number") refl u.number t.number (num (codes "ms") refl u.ms t.ms
      (dat (codes "dup") refl 1 (numbers_data u.dup) (omega arith) (numbers_fine u.dup t.dup) (num (codes "doc") refl u.doc (long u.doc t.doc) (opt (codes "client") refl u.client (longs u.client t.client) all)))))))))

  lock_fine : (doc token : ℕ) → IsSmall doc → IsLong token → AreFine 4 (with_lock doc token ms)
  lock_fine doc token d t = num (codes "token") refl token t (num (codes "doc") refl doc (long doc d) all)

  lock_if_any_fine : (doc : ℕ) (token : Option ℕ) → IsSmall doc → IfAny IsLong token → AreFine 4 (with_lock_if_any doc token ms)
  lock_if_any_fine doc token d t = opt (codes "token") refl token t (num (codes "doc") refl doc (long doc d) all)

  counts_fine : (before after : ℕ) → IsLong before → IsLong after → AreFine 4 (with_counts before after ms)
  counts_fine before after b a = num (codes "before") refl before b (num (codes "after") refl after a all)

outcome_fine : {ms : Members} → AreFine 4 ms → (o : Outcome) → IsTypedOutcome o → AreFine 4 (with_outcome o ms)
outcome_fine all (Applied v op) t = num (codes "v") refl v t.0 (dat (codes "op") refl 2 (operation_data op) (omega arith) (operation_fine op t.1) (txt (codes "out") refl (codes "applied") refl all))
outcome_fine all (Dup v) t = num (codes "v") refl v t (txt (codes "out") refl (codes "dup") refl all)
outcome_fine all (Refused c) t = cause_fine (txt (codes "out") refl (codes "refused") refl all) c t

-- an edit that isn't void is an operation of it alone
pub alone : (c : Comp) → IsWritable (c ∷ []) → appended [] c ≡ c ∷ []
alone c h = ap (λ b. if b then [] else c ∷ []) (All-head (λ d. is_void d ≡ false) c [] h.1)

edit_fine : (c : Comp) → IsWritable (c ∷ []) → IsFine 2 (operation_data (appended [] c))
edit_fine c h = subst (λ op. IsFine 2 (operation_data op)) (sym (alone c h)) (operation_fine (c ∷ []) h)

module _ {ms : Members} (items : List Item) (typed : All IsTypedItem items) (all : AreFine 4 ms) where
  fields_fine : (act : Act) → IsTypedAct act → AreFine 4 (with_fields items act ms)
  fields_fine (Made doc name project first base) t =
      uni (codes "text") refl first t.3 (nam (codes "project") refl project t.2 (nam (codes "name") refl name t.1 (num (codes "doc") refl doc (long doc t.0) (num (codes "base") refl base t.4 all))))
  fields_fine (Ticked n) t = num (codes "ms") refl n t all
  fields_fine (Joined client doc user track since source v) t =
      num (codes "v") refl v t.5 (nam (codes "user") refl user t.2 (flg (codes "track") refl track (num (codes "source") refl source t.4
      (opt (codes "from") refl since t.3 (num (codes "doc") refl doc (long doc t.1) (num (codes "client") refl client (long client t.0) all))))))
  fields_fine (Edited client comp) t = dat (codes "op") refl 2 (operation_data (appended [] comp)) (omega arith) (edit_fine comp t.1) (num (codes "client") refl client (long client t.0) all)
  fields_fine (Sent update) t = update_fine all update t
  fields_fine (Malformed doc fault) t = fault_fine (num (codes "doc") refl doc (long doc t.0) all) fault t.1
  fields_fine (Got client brief) t = brief_fine (num (codes "client") refl client (long client t.0) all) brief t.1
  fields_fine (Left client) t = num (codes "client") refl client (long client t) all
  fields_fine (Acquired doc token until) t = num (codes "until") refl until t.2 (lock_fine all doc token t.0 t.1)
  fields_fine (Loaded doc token v) t = num (codes "v") refl v t.2 (lock_if_any_fine all doc token t.0 t.1)
  fields_fine (LoadFailed doc token before after) t = counts_fine (lock_if_any_fine all doc token t.0 t.1) before after t.2 t.3
  fields_fine (LoadDiffers doc token had got) t = num (codes "had") refl had t.2 (opt (codes "got") refl got t.3 (lock_if_any_fine all doc token t.0 t.1))
  fields_fine (Committed doc token ticket outcome) t = outcome_fine (num (codes "ticket") refl ticket t.2 (lock_fine all doc token t.0 t.1)) outcome t.3
  fields_fine (Released doc token) t = lock_fine all doc token t.0 t.1
  fields_fine (Flushed doc token v) t = num (codes "v") refl v t.2 (lock_fine all doc token t.0 t.1)
  fields_fine (FlushFailed doc token before after) t = counts_fine (lock_fine all doc token t.0 t.1) before after t.2 t.3
  fields_fine (Unloaded doc token) t = lock_fine all doc token t.0 t.1
  fields_fine (Handed project count) t = nam (codes "project") refl project t (dat (codes "items") refl 4 (items_data items) (omega arith) (items_fine items typed) all)
  fields_fine (Declined session why) t = why_fine (num (codes "session") refl session (long session t.0) all) why t.1
  fields_fine (Closed driver) t = num (codes "driver") refl driver (long driver t) all

-- the names of acts
act_text : (act : Act) → is_text (act_name act) ≡ true
act_text (Made doc name project first base) = refl
act_text (Ticked n) = refl
act_text (Joined client doc user track since source v) = refl
act_text (Edited client comp) = refl
act_text (Sent update) = refl
act_text (Malformed doc fault) = refl
act_text (Got client brief) = refl
act_text (Left client) = refl
act_text (Acquired doc token until) = refl
act_text (Loaded doc token v) = refl
act_text (LoadFailed doc token before after) = refl
act_text (LoadDiffers doc token had got) = refl
act_text (Committed doc token ticket outcome) = refl
act_text (Released doc token) = refl
act_text (Flushed doc token v) = refl
act_text (FlushFailed doc token before after) = refl
act_text (Unloaded doc token) = refl
act_text (Handed project count) = refl
act_text (Declined session why) = refl
act_text (Closed driver) = refl

pub entry_fine : (e : EntryLine) → IsTypedEntry e → AreFine 4 (entry_members e.board e.n e.items e.entry)
entry_fine e t =
    fields_fine e.items t.items (txt (codes "e") refl (act_name e.entry.act) (act_text e.entry.act) (num (codes "seat") refl e.entry.seat (long e.entry.seat t.seat) (num (codes "n") refl e.n t.n
    (opt (codes "line") refl e.entry.line (longs e.entry.line t.line) (num (codes "b") refl e.board (long e.board t.board) (fine_none 4)))))) e.entry.act t.act
