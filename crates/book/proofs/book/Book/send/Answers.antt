use Rattle.std.proofs.Common.{rules as rules_, ◌≡◌, ◌+◌, ◌∙◌, [], ◌∷◌, ◌++◌, length, refl, sym, ap, subst, arith}
use Rattle.std.specs.Prelude.{slice_get, Some}
use Rattle.rooms.specs.Rooms.{HaveRoom}
use Rattle.book.specs.declared.document.Document.{Document}
use Rattle.book.specs.declared.sender.Sender.{Sender}
use Rattle.journal_entries.specs.Journals.{entries}
use Rattle.journal_entries.specs.declared.update.Update.{Update}
use Rattle.journal_entries.specs.declared.act.Act.TheVariants.{Sent}
use Rattle.journal_entries.specs.declared.act.Entry.{Entry}
use Rattle.journal_rules.specs.Client as rules
use Rattle.journal_rules.specs.Locks.{clock}
use Rattle.book.specs.Roomed.{IsClientOf}
use Rattle.book.specs.Shown.{Shown}
use Rattle.book.specs.Standing.{IsKeptAs, IsQueued, Turns}
use Rattle.book.proofs.Sending.{as_many, queued_book, reserved_book}
use Rattle.book.proofs.Serving.{free_flight, may_send, own_doc, sends_joined, sent_client}
use Rattle.turn_rules.specs.Owning.{MayWriteFor}
use Rattle.turn_rules.proofs.Owning.{own_client}
use Rattle.book.proofs.book.Book.send.Goals as goal

pub new-requires : goal.new-requires
new-requires g c = sends_joined c.args.client.now.now (sym c.refused_send.ensures ∙ c.in_default.is)

pub reserve_waiting-requires : goal.reserve_waiting-requires
reserve_waiting-requires g c =
    let s = c.self.inside in
    let j = entries s.journal in
    let own : IsClientOf j c.args.client.now = subst (λ (v : Shown). IsClientOf v.journal c.args.client.now) (sym c.self.view_is) c.requires.client in
    let none = sym c.refused_send.ensures ∙ c.in_default.is in
    let made = own_doc j c.args.client.now c.self.invariant.book.stands.legal own (sends_joined c.args.client.now.now none) in
    let count = c.self.invariant.book.stands.count in
    let doc : c.in-Ok.sender.doc ≡ c.args.client.now.now.doc = ap (λ (x : Sender). x.doc) c.in-Ok.ensures in
    omega (arith, made, count, doc)

pub invariant_of-self-in_default-reserve_waiting : goal.invariant_of-self-in_default-reserve_waiting
invariant_of-self-in_default-reserve_waiting g c =
    let s = c.self.inside in
    reserved_book s.journal c.make_room.new.journal s.documents.items c.reserve_waiting.new.documents.items s.rooms c.reserve_waiting.new.rooms s.moment s.tokens s.owed s.drivers c.in-Ok.sender.doc
    c.self.invariant c.reserve_waiting.ensures.names c.make_room.ensures.entries c.make_room.ensures.kept c.reserve_waiting.ensures.kept c.reserve_waiting.ensures.roomier

pub invariant_of-self-in_err-sent : goal.invariant_of-self-in_err-sent
invariant_of-self-in_err-sent g c =
    let s = c.self.inside in
    reserved_book s.journal c.make_room.new.journal s.documents.items c.reserve_waiting.new.documents.items s.rooms c.reserve_waiting.new.rooms s.moment s.tokens s.owed s.drivers c.in-Ok.sender.doc
    c.self.invariant c.reserve_waiting.ensures.names c.make_room.ensures.entries c.make_room.ensures.kept c.reserve_waiting.ensures.kept c.reserve_waiting.ensures.roomier

pub queue-requires-clause-within : goal.queue-requires-clause-within
queue-requires-clause-within g c =
    let s = c.self.inside in
    let j = entries s.journal in
    let own : IsClientOf j c.args.client.now = subst (λ (v : Shown). IsClientOf v.journal c.args.client.now) (sym c.self.view_is) c.requires.client in
    let none = sym c.refused_send.ensures ∙ c.in_default.is in
    let made = own_doc j c.args.client.now c.self.invariant.book.stands.legal own (sends_joined c.args.client.now.now none) in
    let count = c.self.invariant.book.stands.count in
    let doc : c.in-Ok.sender.doc ≡ c.args.client.now.now.doc = ap (λ (x : Sender). x.doc) c.in-Ok.ensures in
    let many = as_many s.documents.items c.reserve_waiting.new.documents.items c.in-Ok.sender.doc c.reserve_waiting.ensures.kept in
    omega (arith, made, count, doc, many)

pub invariant_of-self-2 : goal.invariant_of-self-2
invariant_of-self-2 g c =
    let s = c.self.inside in
    let j = entries s.journal in
    let own : IsClientOf j c.args.client.now = subst (λ (v : Shown). IsClientOf v.journal c.args.client.now) (sym c.self.view_is) c.requires.client in
    let none = sym c.refused_send.ensures ∙ c.in_default.is in
    let doc : c.in-Ok.sender.doc ≡ c.args.client.now.now.doc = ap (λ (x : Sender). x.doc) c.in-Ok.ensures in
    let sent = c.in_ok-sent.ensures.ok in
    let u : Update = rules.update_from c.args.client.now.client c.args.client.now.now (clock j) (c.args.client.now.now.number + 1) c.args.client.now.now.pending [] in
    let act : c.entry_of.result.act ≡ Sent u = search (rules_, c.entry_of.ensures, c.update-update.ensures, c.in-Ok.ensures, sent.1, c.self.invariant.book.now_is) in
    let writes : MayWriteFor s.drivers j c.args.by.seat c.args.client.now.client = subst (λ (v : Shown). MayWriteFor v.drivers v.journal c.args.by.seat c.args.client.now.client) (sym c.self.view_is) c.requires.owner in
    queued_book s.journal c.make_room.new.journal c.push.new.self s.documents.items c.reserve_waiting.new.documents.items c.queue.new.self.items s.rooms c.reserve_waiting.new.rooms s.moment s.tokens s.owed s.drivers c.in-Ok-make_room.sum c.len-ticket.result u c.entry_of.result
    c.self.invariant c.make_room.ensures.entries c.in-Ok-make_room.ensures.room c.push.ensures.entries c.push.ensures.spare (c.queue.ensures.names ∙ c.reserve_waiting.ensures.names) act (may_send j c.entry_of.result.seat c.args.client.now own none) (own_client j c.entry_of.result.seat c.args.client.now.client (Sent u) refl refl (subst (λ n. MayWriteFor s.drivers j n c.args.client.now.client) (sym (ap (λ (x : Entry). x.seat) c.entry_of.ensures)) writes)) c.len-ticket.ensures.value
    (subst (λ d. Turns d IsKeptAs s.documents.items c.reserve_waiting.new.documents.items) doc c.reserve_waiting.ensures.kept) (subst (λ d. Turns d (IsQueued c.len-ticket.result) c.reserve_waiting.new.documents.items c.queue.new.self.items) doc c.queue.ensures.queued)
    c.reserve_waiting.ensures.roomier (subst (λ d. (x : Document) → slice_get c.reserve_waiting.new.documents.items d ≡ Some x → HaveRoom d (length x.waiting.items + 1) c.reserve_waiting.new.rooms) doc c.in-Ok-reserve_waiting.ensures.told)

pub returns-clause-client : goal.returns-clause-client
returns-clause-client g c =
    let s = c.self.inside in
    let j = entries s.journal in
    let own : IsClientOf j c.args.client.now = subst (λ (v : Shown). IsClientOf v.journal c.args.client.now) (sym c.self.view_is) c.requires.client in
    let none = sym c.refused_send.ensures ∙ c.in_default.is in
    let sent = c.in_ok-sent.ensures.ok in
    let u : Update = rules.update_from c.args.client.now.client c.args.client.now.now (clock j) (c.args.client.now.now.number + 1) c.args.client.now.now.pending [] in
    let act : c.entry_of.result.act ≡ Sent u = search (rules_, c.entry_of.ensures, c.update-update.ensures, c.in-Ok.ensures, sent.1, c.self.invariant.book.now_is) in
    sent_client j (entries c.push.new.self) c.entry_of.result c.args.client.now c.take_send.new.self u (c.push.ensures.entries ∙ ap (λ l. l ++ c.entry_of.result ∷ []) c.make_room.ensures.entries) act refl own (sent.2 ∙ ap (λ f. record c.args.client.now { now = rules.sent_by c.args.client.now.now f }) (sym (free_flight c.args.client.now.now none)))
