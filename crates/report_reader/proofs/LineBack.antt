-- What is written of an entry is read as this entry.
use Rattle.std.proofs.Common.{◌≡◌, ℕ, List, [], ◌∷◌, true, Option, Some, None, option_map, Ok, length, map, refl, sym, ap, arith, codes}
use Rattle.std.specs.List.{All, list_all}
use Rattle.std.specs.Prelude.{IsTrue, if◌then◌else◌}
use Rattle.std.specs.Str.{encode_utf8_all}
use Rattle.std.proofs.lemmas.Bool.Decides.{nat_tests}
use Rattle.std.proofs.lemmas.List.Elements.{All-head, All-tail}
use Rattle.std.proofs.lemmas.Str.{chars-encodes}
use Rattle.serde_json.specs.Data.{Data, number, object, unsigned}
use Rattle.serde_json.specs.View.{items_of as as_items}
use Rattle.json_lines.specs.Object.{optional, with_member}
use Rattle.json_lines.specs.Reading.{number_at, within}
use Rattle.ot_units.specs.Text.{IsText, exact_units, is_basic, is_unit, name_of}
use Rattle.ot_op.specs.declared.comp.Comp.{Comp}
use Rattle.ot_op.specs.declared.fault.FormFault.TheVariants.{Form, Supplementary, TooLarge}
use Rattle.ot_json.specs.Grammar.{long_operation_of, operation_data}
use Rattle.ot_json.proofs.Back.{long_reads, exact_back}
use Rattle.expiring_lock.specs.declared.refusal.Stale.TheVariants as stale
use Rattle.history_queue.specs.declared.item.Item.{Item}
use Rattle.journal_entries.specs.declared.message.Brief.TheVariants as brief
use Rattle.journal_entries.specs.declared.update.Cause.TheVariants as cause
use Rattle.journal_entries.specs.declared.update.Outcome.TheVariants.{Applied, Dup, Refused}
use Rattle.journal_entries.specs.declared.why.Why.TheVariants as why
use Rattle.journal_entries.specs.declared.act.Act.{Act}
use Rattle.journal_entries.specs.declared.act.Act.TheVariants.{Made, Ticked, Joined, Edited, Sent, Malformed, Got, Left, Acquired, Loaded, LoadFailed, LoadDiffers, Committed, Released, Flushed, FlushFailed, Unloaded, Handed, Declined, Closed}
use Rattle.report_text.specs.Entries.{entry_members, item_members}
use Rattle.report_reader.specs.declared.entry.EntryLine.{EntryLine}
use Rattle.report_reader.specs.declared.kind.ActKind.{ActKind}
use Rattle.report_reader.specs.declared.kind.ActKind.TheVariants as kind
use Rattle.report_reader.specs.declared.kind.LineKind.TheVariants as line
use Rattle.report_reader.specs.declared.piece.Piece.TheVariants as piece
use Rattle.report_reader.specs.Acts.{act_of}
use Rattle.report_reader.specs.Entries.{item_of, items_of}
use Rattle.report_reader.specs.Fields.{and_then, each_of, max_u32, number_of, or_null, small_or_none, u32_at, u32_or_null_at}
use Rattle.report_reader.specs.Kinds.{line_kind}
use Rattle.report_reader.specs.Pieces.{shown_by}
use Rattle.report_reader.specs.Typed.{HandsOut, IfAny, IsName, IsSmall, IsTypedAct, IsTypedItem, IsWritable}
use Rattle.report_reader.proofs.FineLines.{alone}

-- ---- fields

pub small : (n : ℕ) → IsSmall n → within max_u32 n ≡ Some n
small n h = grind (arith, nat_tests)

pub name_back : (s : List ℕ) → IsName s → name_of s ≡ Some s
name_back s h = ap (λ b. if b then Some s else None) h

pub optional_back : (o : Option ℕ) → or_null number_of (optional o) ≡ Some o
optional_back None = refl
optional_back (Some n) = refl

line_back : (o : Option ℕ) → IfAny IsSmall o → and_then (or_null number_of (optional o)) small_or_none ≡ Some o
line_back None h = refl
line_back (Some n) h = ap (option_map Some) (small n h)

pub op_back : (op : List Comp) → IsWritable op → long_operation_of (operation_data op) ≡ Ok op
op_back op h = long_reads (operation_data op) op op refl h.0 h.1 refl h.2

pub each_back : {A : Type 0} (P : A → Type 0) (read : Data → Option A) (shape : A → Data) → ((x : A) → P x → read (shape x) ≡ Some x) → (xs : List A) → All P xs → each_of read (as_items (map shape xs)) ≡ Some xs
each_back P read shape back [] all = refl
each_back P read shape back (x ∷ xs) all = rw (back x (All-head P x xs all), each_back P read shape back xs (All-tail P x xs all)) refl

numbers_back : (ns : List ℕ) → each_of number_of (as_items (map (λ n. number (unsigned n)) ns)) ≡ Some ns
numbers_back [] = refl
numbers_back (n ∷ ns) = rw (numbers_back ns) refl

item_back : (x : Item) → IsTypedItem x → item_of (object (item_members x)) ≡ Some x
unfolding with_member
item_back x t = rw (small x.doc t.doc, op_back x.op t.op, name_back x.user t.user) refl

items_back : (xs : List Item) → All IsTypedItem xs → each_of item_of (as_items (map (λ x. object (item_members x)) xs)) ≡ Some xs
items_back xs all = each_back IsTypedItem item_of (λ x. object (item_members x)) item_back xs all

-- ---- entries

module _ (b n seat : ℕ) (at : Option ℕ) (items : List Item) (small_b : IsSmall b) (small_seat : IsSmall seat) (small_at : IfAny IsSmall at) (typed : All IsTypedItem items) where
  abbrev line_data : Act → Data
  line_data act = object (entry_members b n items (record { seat = seat; line = at; act = act }))

  abbrev the_line : Act → EntryLine
  the_line act = record { board = b; n = n; entry = record { seat = seat; line = at; act = act }; items = items }

  as_kind : (act : Act) (k : ActKind) (d : Data) → line_kind d ≡ Some (line.Entry k) → u32_at (codes "b") d ≡ within max_u32 b → number_at (codes "n") d ≡ Some n → u32_at (codes "seat") d ≡ within max_u32 seat
      → u32_or_null_at (codes "line") d ≡ and_then (or_null number_of (optional at)) small_or_none → items_of k d ≡ Some items → act_of k (length items) d ≡ Some act → shown_by d ≡ Some (piece.Entry (the_line act))
  as_kind act k d kind_is b_is n_is seat_is at_is items_is act_is =
      rw (kind_is, b_is, small b small_b, n_is, seat_is, small seat small_seat, at_is, line_back at small_at, items_is, act_is) refl

  pub shown : (act : Act) → HandsOut act items → IsTypedAct act → shown_by (line_data act) ≡ Some (piece.Entry (the_line act))
  unfolding with_member
  shown (Made doc name project first base) none t = as_kind (Made doc name project first base) kind.Made (line_data (Made doc name project first base)) refl refl refl refl refl (ap Some (sym none)) (rw (small doc t.0, name_back name t.1, name_back project t.2, exact_back first t.3) refl)
  shown (Ticked ms) none t = as_kind (Ticked ms) kind.Ticked (line_data (Ticked ms)) refl refl refl refl refl (ap Some (sym none)) (refl)
  shown (Joined client doc user track since source v) none t = as_kind (Joined client doc user track since source v) kind.Joined (line_data (Joined client doc user track since source v)) refl refl refl refl refl (ap Some (sym none)) (rw (small client t.0, small doc t.1, name_back user t.2, optional_back since) refl)
  shown (Edited client comp) none t = as_kind (Edited client comp) kind.Edited (line_data (Edited client comp)) refl refl refl refl refl (ap Some (sym none)) (rw (alone comp t.1, small client t.0, op_back (comp ∷ []) t.1) refl)
  shown (Sent u) none t = as_kind (Sent u) kind.Sent (line_data (Sent u)) refl refl refl refl refl (ap Some (sym none)) (rw (small u.doc t.doc, line_back u.client t.client, numbers_back u.dup, name_back u.user t.user, op_back u.op t.op) refl)
  shown (Malformed doc (Form at)) none t = as_kind (Malformed doc (Form at)) kind.Malformed (line_data (Malformed doc (Form at))) refl refl refl refl refl (ap Some (sym none)) (rw (small doc t.0) refl)
  shown (Malformed doc (Supplementary at)) none t = as_kind (Malformed doc (Supplementary at)) kind.Malformed (line_data (Malformed doc (Supplementary at))) refl refl refl refl refl (ap Some (sym none)) (rw (small doc t.0) refl)
  shown (Malformed doc (TooLarge comps units)) none t = as_kind (Malformed doc (TooLarge comps units)) kind.Malformed (line_data (Malformed doc (TooLarge comps units))) refl refl refl refl refl (ap Some (sym none)) (rw (small doc t.0) refl)
  shown (Got client (brief.Op v)) none t = as_kind (Got client (brief.Op v)) kind.Got (line_data (Got client (brief.Op v))) refl refl refl refl refl (ap Some (sym none)) (rw (small client t.0) refl)
  shown (Got client (brief.Ack v)) none t = as_kind (Got client (brief.Ack v)) kind.Got (line_data (Got client (brief.Ack v))) refl refl refl refl refl (ap Some (sym none)) (rw (small client t.0) refl)
  shown (Got client (brief.Error serial)) none t = as_kind (Got client (brief.Error serial)) kind.Got (line_data (Got client (brief.Error serial))) refl refl refl refl refl (ap Some (sym none)) (rw (small client t.0) refl)
  shown (Left client) none t = as_kind (Left client) kind.Left (line_data (Left client)) refl refl refl refl refl (ap Some (sym none)) (rw (small client t) refl)
  shown (Acquired doc token until) none t = as_kind (Acquired doc token until) kind.Acquired (line_data (Acquired doc token until)) refl refl refl refl refl (ap Some (sym none)) (rw (small doc t.0) refl)
  shown (Loaded doc token v) none t = as_kind (Loaded doc token v) kind.Loaded (line_data (Loaded doc token v)) refl refl refl refl refl (ap Some (sym none)) (rw (small doc t.0, optional_back token) refl)
  shown (LoadFailed doc token before after) none t = as_kind (LoadFailed doc token before after) kind.LoadFailed (line_data (LoadFailed doc token before after)) refl refl refl refl refl (ap Some (sym none)) (rw (small doc t.0, optional_back token) refl)
  shown (LoadDiffers doc token had got) none t = as_kind (LoadDiffers doc token had got) kind.LoadDiffers (line_data (LoadDiffers doc token had got)) refl refl refl refl refl (ap Some (sym none)) (rw (small doc t.0, optional_back token, optional_back got) refl)
  shown (Committed doc token ticket (Applied v op)) none t = as_kind (Committed doc token ticket (Applied v op)) kind.Committed (line_data (Committed doc token ticket (Applied v op))) refl refl refl refl refl (ap Some (sym none)) (rw (small doc t.0, op_back op t.3.1) refl)
  shown (Committed doc token ticket (Dup v)) none t = as_kind (Committed doc token ticket (Dup v)) kind.Committed (line_data (Committed doc token ticket (Dup v))) refl refl refl refl refl (ap Some (sym none)) (rw (small doc t.0) refl)
  shown (Committed doc token ticket (Refused (cause.Future have))) none t = as_kind (Committed doc token ticket (Refused (cause.Future have))) kind.Committed (line_data (Committed doc token ticket (Refused (cause.Future have)))) refl refl refl refl refl (ap Some (sym none)) (rw (small doc t.0) refl)
  shown (Committed doc token ticket (Refused (cause.TooOld have))) none t = as_kind (Committed doc token ticket (Refused (cause.TooOld have))) kind.Committed (line_data (Committed doc token ticket (Refused (cause.TooOld have)))) refl refl refl refl refl (ap Some (sym none)) (rw (small doc t.0) refl)
  shown (Committed doc token ticket (Refused cause.Mismatch)) none t = as_kind (Committed doc token ticket (Refused cause.Mismatch)) kind.Committed (line_data (Committed doc token ticket (Refused cause.Mismatch))) refl refl refl refl refl (ap Some (sym none)) (rw (small doc t.0) refl)
  shown (Committed doc token ticket (Refused (cause.TooLong len))) none t = as_kind (Committed doc token ticket (Refused (cause.TooLong len))) kind.Committed (line_data (Committed doc token ticket (Refused (cause.TooLong len)))) refl refl refl refl refl (ap Some (sym none)) (rw (small doc t.0) refl)
  shown (Committed doc token ticket (Refused cause.StoreFault)) none t = as_kind (Committed doc token ticket (Refused cause.StoreFault)) kind.Committed (line_data (Committed doc token ticket (Refused cause.StoreFault))) refl refl refl refl refl (ap Some (sym none)) (rw (small doc t.0) refl)
  shown (Committed doc token ticket (Refused cause.Memory)) none t = as_kind (Committed doc token ticket (Refused cause.Memory)) kind.Committed (line_data (Committed doc token ticket (Refused cause.Memory))) refl refl refl refl refl (ap Some (sym none)) (rw (small doc t.0) refl)
  shown (Released doc token) none t = as_kind (Released doc token) kind.Released (line_data (Released doc token)) refl refl refl refl refl (ap Some (sym none)) (rw (small doc t.0) refl)
  shown (Flushed doc token v) none t = as_kind (Flushed doc token v) kind.Flushed (line_data (Flushed doc token v)) refl refl refl refl refl (ap Some (sym none)) (rw (small doc t.0) refl)
  shown (FlushFailed doc token before after) none t = as_kind (FlushFailed doc token before after) kind.FlushFailed (line_data (FlushFailed doc token before after)) refl refl refl refl refl (ap Some (sym none)) (rw (small doc t.0) refl)
  shown (Unloaded doc token) none t = as_kind (Unloaded doc token) kind.Unloaded (line_data (Unloaded doc token)) refl refl refl refl refl (ap Some (sym none)) (rw (small doc t.0) refl)
  shown (Declined session why.NoDoc) none t = as_kind (Declined session why.NoDoc) kind.Declined (line_data (Declined session why.NoDoc)) refl refl refl refl refl (ap Some (sym none)) (rw (small session t.0) refl)
  shown (Declined session why.NoProject) none t = as_kind (Declined session why.NoProject) kind.Declined (line_data (Declined session why.NoProject)) refl refl refl refl refl (ap Some (sym none)) (rw (small session t.0) refl)
  shown (Declined session why.NotJoined) none t = as_kind (Declined session why.NotJoined) kind.Declined (line_data (Declined session why.NotJoined)) refl refl refl refl refl (ap Some (sym none)) (rw (small session t.0) refl)
  shown (Declined session why.NotLeft) none t = as_kind (Declined session why.NotLeft) kind.Declined (line_data (Declined session why.NotLeft)) refl refl refl refl refl (ap Some (sym none)) (rw (small session t.0) refl)
  shown (Declined session (why.TooOld have)) none t = as_kind (Declined session (why.TooOld have)) kind.Declined (line_data (Declined session (why.TooOld have))) refl refl refl refl refl (ap Some (sym none)) (rw (small session t.0) refl)
  shown (Declined session (why.PastEnd len)) none t = as_kind (Declined session (why.PastEnd len)) kind.Declined (line_data (Declined session (why.PastEnd len))) refl refl refl refl refl (ap Some (sym none)) (rw (small session t.0) refl)
  shown (Declined session (why.Full comps units)) none t = as_kind (Declined session (why.Full comps units)) kind.Declined (line_data (Declined session (why.Full comps units))) refl refl refl refl refl (ap Some (sym none)) (rw (small session t.0) refl)
  shown (Declined session why.InFlight) none t = as_kind (Declined session why.InFlight) kind.Declined (line_data (Declined session why.InFlight)) refl refl refl refl refl (ap Some (sym none)) (rw (small session t.0) refl)
  shown (Declined session why.Nothing) none t = as_kind (Declined session why.Nothing) kind.Declined (line_data (Declined session why.Nothing)) refl refl refl refl refl (ap Some (sym none)) (rw (small session t.0) refl)
  shown (Declined session why.Empty) none t = as_kind (Declined session why.Empty) kind.Declined (line_data (Declined session why.Empty)) refl refl refl refl refl (ap Some (sym none)) (rw (small session t.0) refl)
  shown (Declined session (why.Busy busy)) none t = as_kind (Declined session (why.Busy busy)) kind.Declined (line_data (Declined session (why.Busy busy))) refl refl refl refl refl (ap Some (sym none)) (rw (small session t.0) refl)
  shown (Declined session why.Uncached) none t = as_kind (Declined session why.Uncached) kind.Declined (line_data (Declined session why.Uncached)) refl refl refl refl refl (ap Some (sym none)) (rw (small session t.0) refl)
  shown (Declined session why.Holding) none t = as_kind (Declined session why.Holding) kind.Declined (line_data (Declined session why.Holding)) refl refl refl refl refl (ap Some (sym none)) (rw (small session t.0) refl)
  shown (Declined session (why.Stale (stale.Other token))) none t = as_kind (Declined session (why.Stale (stale.Other token))) kind.Declined (line_data (Declined session (why.Stale (stale.Other token)))) refl refl refl refl refl (ap Some (sym none)) (rw (small session t.0) refl)
  shown (Declined session (why.Stale stale.Ended)) none t = as_kind (Declined session (why.Stale stale.Ended)) kind.Declined (line_data (Declined session (why.Stale stale.Ended))) refl refl refl refl refl (ap Some (sym none)) (rw (small session t.0) refl)
  shown (Declined session (why.Unflushed kept have)) none t = as_kind (Declined session (why.Unflushed kept have)) kind.Declined (line_data (Declined session (why.Unflushed kept have))) refl refl refl refl refl (ap Some (sym none)) (rw (small session t.0, optional_back kept) refl)
  shown (Declined session (why.Waiting count)) none t = as_kind (Declined session (why.Waiting count)) kind.Declined (line_data (Declined session (why.Waiting count))) refl refl refl refl refl (ap Some (sym none)) (rw (small session t.0) refl)
  shown (Declined session why.StoreFault) none t = as_kind (Declined session why.StoreFault) kind.Declined (line_data (Declined session why.StoreFault)) refl refl refl refl refl (ap Some (sym none)) (rw (small session t.0) refl)
  shown (Closed driver) none t = as_kind (Closed driver) kind.Closed (line_data (Closed driver)) refl refl refl refl refl (ap Some (sym none)) (rw (small driver t) refl)
  shown (Handed project count) counted t = as_kind (Handed project count) kind.Handed (line_data (Handed project count)) refl refl refl refl refl (items_back items typed) (rw (name_back project t, counted) refl)
