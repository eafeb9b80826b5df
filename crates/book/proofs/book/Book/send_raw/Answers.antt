use Rattle.std.proofs.Common.{◌≡◌, ◌+◌, ◌∙◌, length, refl, sym, ap, subst, arith, List}
use Rattle.std.specs.Prelude.{slice_get, IfOk, Some}
use Rattle.journal_entries.specs.Journals.{entries}
use Rattle.journal_entries.specs.declared.act.Act.TheVariants.{Malformed, Sent}
use Rattle.journal_rules.specs.Documents.{IsMade}
use Rattle.std.specs.Prelude.{Result}
use Rattle.ot_op.specs.declared.comp.Comp.{Comp}
use Rattle.ot_op.specs.declared.fault.FormFault.{FormFault}
use Rattle.journal_entries.specs.declared.update.Update.{Update}
use Rattle.journal_entries.specs.declared.act.Entry.{Entry}
use Rattle.journal_rules.specs.Legal.{IsAllowed, IsRawUpdate}
use Rattle.ot_op.specs.Operation.{IsWithinLimits}
use Rattle.book.specs.Calls.{update_by}
use Rattle.book.specs.declared.document.Document.{Document}
use Rattle.rooms.specs.Rooms.{HaveRoom}
use Rattle.book.specs.Standing.{IsKeptAs, IsQueued, Turns}
use Rattle.book.proofs.Booking.{quiet_by}
use Rattle.book.proofs.Roomed.{roomed_quiet_by}
use Rattle.book.proofs.Sending.{queued_book, reserved_book}
use Rattle.project_histories.proofs.Histories.{histories_by}
use Rattle.book.proofs.Stored.{keeps_by}
use Rattle.turn_rules.proofs.Owning.{own_other, owned_by}
use Rattle.book.proofs.book.Book.send_raw.Goals as goal

pub invariant_of-self-in-Err : goal.invariant_of-self-in-Err
invariant_of-self-in-Err g c =
    let s = c.self.inside in
    let count = c.self.invariant.book.stands.count in
    let within = c.if-doc-len.false in
    let len = c.len.ensures in
    record {
      book = quiet_by s.journal c.make_room.new.journal c.push.new.self s.documents.items s.moment s.moment s.tokens s.owed s.drivers c.in-Ok-make_room._sum c.args.by.seat c.args.by.line (Malformed c.args.raw.now.doc c.in-Err.fault) c.entry_of.result c.entry_of.ensures
          c.self.invariant.book c.make_room.ensures.entries c.in-Ok-make_room.ensures.room c.push.ensures.entries c.push.ensures.spare (omega (arith, count, within, len)) tt refl refl c.self.invariant.book.now_low;
      roomed = roomed_quiet_by s.rooms (entries s.journal) (entries c.make_room.new.journal) (entries c.push.new.self) c.args.by.seat c.args.by.line (Malformed c.args.raw.now.doc c.in-Err.fault) c.entry_of.result c.entry_of.ensures c.make_room.ensures.entries c.push.ensures.entries c.self.invariant.book.stands.legal tt refl (λ d. refl) c.self.invariant.roomed;
      keeps = keeps_by (entries s.journal) (entries c.make_room.new.journal) (entries c.push.new.self) c.args.by.seat c.args.by.line (Malformed c.args.raw.now.doc c.in-Err.fault) c.entry_of.result c.entry_of.ensures c.make_room.ensures.entries c.push.ensures.entries (λ d o. refl) refl tt c.self.invariant.keeps;
      histories = histories_by s.projects (entries s.journal) (entries c.make_room.new.journal) (entries c.push.new.self) c.args.by.seat c.args.by.line (Malformed c.args.raw.now.doc c.in-Err.fault) c.entry_of.result c.entry_of.ensures c.make_room.ensures.entries c.push.ensures.entries c.self.invariant.book.stands.legal refl (λ p. refl) (λ p. refl) c.self.invariant.histories;
      owned = owned_by (entries s.journal) (entries c.make_room.new.journal) (entries c.push.new.self) c.args.by.seat c.args.by.line (Malformed c.args.raw.now.doc c.in-Err.fault) c.entry_of.result c.entry_of.ensures c.make_room.ensures.entries c.push.ensures.entries (own_other (entries s.journal) c.args.by.seat (Malformed c.args.raw.now.doc c.in-Err.fault) refl refl) c.self.invariant.owned;
    }

pub invariant_of-self-in_default-reserve_waiting : goal.invariant_of-self-in_default-reserve_waiting
invariant_of-self-in_default-reserve_waiting g c =
    let s = c.self.inside in
    reserved_book s.journal c.make_room-2.new.journal s.documents.items c.reserve_waiting.new.documents.items s.rooms c.reserve_waiting.new.rooms s.moment s.tokens s.owed s.drivers c.args.raw.now.doc
    c.self.invariant c.reserve_waiting.ensures.names c.make_room-2.ensures.entries c.make_room-2.ensures.kept c.reserve_waiting.ensures.kept c.reserve_waiting.ensures.roomier

pub invariant_of-self-2 : goal.invariant_of-self-2
invariant_of-self-2 g c =
    let s = c.self.inside in
    let count = c.self.invariant.book.stands.count in
    let within = c.if-doc-len.false in
    let len = c.len.ensures in
    let u = c.in-Ok-update_of.update in
    let u_is = c.in-Ok-update_of.ensures in
    let raw : IsWithinLimits c.in-Ok-copy.op = subst IsWithinLimits (sym c.in-Ok-copy.ensures) (subst (λ (o : Result (List Comp) FormFault). IfOk o IsWithinLimits) c.in-Ok.is c.requires.within) in
    let made : IsMade c.args.raw.now.doc (entries s.journal) = omega (arith, count, within, len) in
    let row : IsRawUpdate (entries s.journal) (update_by s.moment c.args.raw.now c.in-Ok-copy.op) = record { made = made; unnumbered = refl; source_low = c.requires.source; at_once = c.self.invariant.book.now_is; within = raw } in
    let at : c.args.raw.now.doc ≡ u.doc = ap (λ (x : Update). x.doc) (sym u_is) in
    queued_book s.journal c.make_room-2.new.journal c.push-2.new.self s.documents.items c.reserve_waiting.new.documents.items c.queue.new.self.items s.rooms c.reserve_waiting.new.rooms s.moment s.tokens s.owed s.drivers c.in-Ok-make_room-2.sum c.len-ticket.result u c.entry_of-2.result
    c.self.invariant c.make_room-2.ensures.entries c.in-Ok-make_room-2.ensures.room c.push-2.ensures.entries c.push-2.ensures.spare (c.queue.ensures.names ∙ c.reserve_waiting.ensures.names)
    (ap (λ (e : Entry). e.act) c.entry_of-2.ensures) (subst (λ (x : Update). IsAllowed (entries s.journal) c.entry_of-2.result.seat (Sent x)) (sym u_is) row) (own_other (entries s.journal) c.entry_of-2.result.seat (Sent u) (ap (λ (x : Update). x.client) u_is) refl) c.len-ticket.ensures.value
    (subst (λ d. Turns d IsKeptAs s.documents.items c.reserve_waiting.new.documents.items) at c.reserve_waiting.ensures.kept) (subst (λ d. Turns d (IsQueued c.len-ticket.result) c.reserve_waiting.new.documents.items c.queue.new.self.items) at c.queue.ensures.queued)
    c.reserve_waiting.ensures.roomier (subst (λ d. (x : Document) → slice_get c.reserve_waiting.new.documents.items d ≡ Some x → HaveRoom d (length x.waiting.items + 1) c.reserve_waiting.new.rooms) at c.in-Ok-reserve_waiting.ensures.told)
