use Rattle.std.proofs.Common.{rules, refl, ◌≡◌, ◌<◌, ◌∙◌, sym, ap, subst, arith, length, List, ℕ, [], ◌∷◌, ◌++◌}
use Rattle.journal_entries.specs.Journals.{entries}
use Rattle.journal_entries.specs.declared.act.Entry.{Entry}
use Rattle.journal_rules.specs.Documents.{makings}
use Rattle.journal_rules.specs.Legal.{IsMaking}
use Rattle.book.specs.Shown.{Shown}
use Rattle.book.proofs.Roomed.{roomed_quiet_by}
use Rattle.journal_entries.specs.declared.act.Act.TheVariants.{Made}
use Rattle.book.proofs.Booking.{found_as, made_book, same_book, unnamed}
use Rattle.book.proofs.Stored.{keeps_by, keeps_same}
use Rattle.book.proofs.Roomed.{roomed_same}
use Rattle.project_histories.specs.Histories.{Adds}
use Rattle.project_histories.proofs.Histories.{histories_kept, histories_made, histories_same}
use Rattle.turn_rules.proofs.Owning.{own_other, owned_by, owned_same}
use Rattle.book.proofs.book.Book.make_doc.Goals as goal

pub returns-in-Some-clause-refused : goal.returns-in-Some-clause-refused
returns-in-Some-clause-refused g c =
    let on = found_as c.args.name.now c.self.inside.documents.names (entries c.self.inside.journal) c.self.invariant.book.names_are in
    let is = c.self.view_is in
    search (rules, on, is)

pub returns-in_default-made-clause-refused : goal.returns-in_default-made-clause-refused
returns-in_default-made-clause-refused g c =
    let on = found_as c.args.name.now c.self.inside.documents.names (entries c.self.inside.journal) c.self.invariant.book.names_are in
    let is = c.self.view_is in
    search (rules, on, is)

pub returns-in_default-copy-clause-refused : goal.returns-in_default-copy-clause-refused
returns-in_default-copy-clause-refused g c =
    let on = found_as c.args.name.now c.self.inside.documents.names (entries c.self.inside.journal) c.self.invariant.book.names_are in
    let is = c.self.view_is in
    search (rules, on, is)

pub returns-in_default-make_room-clause-refused : goal.returns-in_default-make_room-clause-refused
returns-in_default-make_room-clause-refused g c =
    let on = found_as c.args.name.now c.self.inside.documents.names (entries c.self.inside.journal) c.self.invariant.book.names_are in
    let is = c.self.view_is in
    search (rules, on, is)

pub returns-in_default-reserve_document-clause-refused : goal.returns-in_default-reserve_document-clause-refused
returns-in_default-reserve_document-clause-refused g c =
    let on = found_as c.args.name.now c.self.inside.documents.names (entries c.self.inside.journal) c.self.invariant.book.names_are in
    let is = c.self.view_is in
    search (rules, on, is)

pub returns-in_default-add-clause-refused : goal.returns-in_default-add-clause-refused
returns-in_default-add-clause-refused g c = rw (← c.self.view_is) (sym (sym (found_as c.args.name.now c.self.inside.documents.names (entries c.self.inside.journal) c.self.invariant.book.names_are) ∙ sym c.find.ensures ∙ c.in_default.is))

pub invariant_of-self-in_default-reserve_document : goal.invariant_of-self-in_default-reserve_document
invariant_of-self-in_default-reserve_document g c =
    let s = c.self.inside in
    record {
      book = same_book s.journal c.make_room.new.journal s.documents.items s.documents.items s.moment s.tokens s.owed s.drivers c.self.invariant.book refl c.make_room.ensures.entries c.make_room.ensures.kept c.self.invariant.book.stands refl;
      roomed = roomed_same s.rooms (entries s.journal) (entries c.make_room.new.journal) c.make_room.ensures.entries c.self.invariant.roomed;
      keeps = keeps_same (entries s.journal) (entries c.make_room.new.journal) c.make_room.ensures.entries c.self.invariant.keeps;
      histories = histories_same c.reserve_document.new.self (entries s.journal) (entries c.make_room.new.journal) c.make_room.ensures.entries (histories_kept s.projects c.reserve_document.new.self (entries s.journal) c.reserve_document.ensures.same c.self.invariant.histories);
      owned = owned_same (entries s.journal) (entries c.make_room.new.journal) c.make_room.ensures.entries c.self.invariant.owned;
    }

pub invariant_of-self-in_default-add : goal.invariant_of-self-in_default-add
invariant_of-self-in_default-add g c =
    let s = c.self.inside in
    rw (c.in_default-add.ensures.kept) (record {
      book = same_book s.journal c.make_room.new.journal s.documents.items s.documents.items s.moment s.tokens s.owed s.drivers c.self.invariant.book refl c.make_room.ensures.entries c.make_room.ensures.kept c.self.invariant.book.stands refl;
      roomed = roomed_same s.rooms (entries s.journal) (entries c.make_room.new.journal) c.make_room.ensures.entries c.self.invariant.roomed;
      keeps = keeps_same (entries s.journal) (entries c.make_room.new.journal) c.make_room.ensures.entries c.self.invariant.keeps;
      histories = histories_same c.reserve_document.new.self (entries s.journal) (entries c.make_room.new.journal) c.make_room.ensures.entries (histories_kept s.projects c.reserve_document.new.self (entries s.journal) c.reserve_document.ensures.same c.self.invariant.histories);
      owned = owned_same (entries s.journal) (entries c.make_room.new.journal) c.make_room.ensures.entries c.self.invariant.owned;
    })

pub invariant_of-self-2 : goal.invariant_of-self-2
invariant_of-self-2 g c =
    let s = c.self.inside in
    let count = c.self.invariant.book.stands.count in
    let none = sym (found_as c.args.name.now c.self.inside.documents.names (entries c.self.inside.journal) c.self.invariant.book.names_are) ∙ sym c.find.ensures ∙ c.in_default.is in
    let len = c.len-doc.ensures in
    let doc_is : c.len-doc.result ≡ length (makings (entries s.journal)) = omega (arith, len, count) in
    let making : IsMaking (entries s.journal) c.len-doc.result c.args.name.now c.args.first.now c.args.base = record { next = doc_is; new = unnamed c.args.name.now (makings (entries s.journal)) none; short = c.requires.short; low = c.requires.low } in
    let few : length (makings (entries s.journal)) < 1000 = subst (λ (v : Shown). length (makings v.journal) < 1000) (sym c.self.view_is) c.requires.few in
    record {
      book = rw (c.in-Ok-add.ensures.names, c.in-Ok-add.ensures.items, c.in-Ok.ensures.name) (made_book s.journal c.make_room.new.journal c.push.new.self s.documents.items c.in-Ok.document s.moment s.tokens s.owed s.drivers c.in-Ok-make_room._sum c.in-Ok.entry c.len-doc.result c.args.name.now c.args.project.now c.args.first.now c.args.base
          c.self.invariant.book c.make_room.ensures.entries c.in-Ok-make_room.ensures.room.0 c.in-Ok-make_room.ensures.room.1 c.push.ensures.entries c.push.ensures.spare (ap (λ (e : Entry). e.act) c.in-Ok.ensures.entry) making (omega (arith, few, count)) c.in-Ok.ensures.document);
      roomed = roomed_quiet_by s.rooms (entries s.journal) (entries c.make_room.new.journal) (entries c.push.new.self) c.args.by.seat c.args.by.line (Made c.len-doc.result c.args.name.now c.args.project.now c.args.first.now c.args.base) c.in-Ok.entry c.in-Ok.ensures.entry c.make_room.ensures.entries c.push.ensures.entries c.self.invariant.book.stands.legal tt refl (λ d. refl) c.self.invariant.roomed;
      keeps = keeps_by (entries s.journal) (entries c.make_room.new.journal) (entries c.push.new.self) c.args.by.seat c.args.by.line (Made c.len-doc.result c.args.name.now c.args.project.now c.args.first.now c.args.base) c.in-Ok.entry c.in-Ok.ensures.entry c.make_room.ensures.entries c.push.ensures.entries (λ d o. refl) refl tt c.self.invariant.keeps;
      histories = histories_same c.add_document.new.self (entries s.journal ++ c.in-Ok.entry ∷ []) (entries c.push.new.self) (c.push.ensures.entries ∙ ap (λ l. l ++ c.in-Ok.entry ∷ []) c.make_room.ensures.entries)
          (histories_made c.reserve_document.new.self c.add_document.new.self (entries s.journal) c.in-Ok.entry c.len-doc.result c.args.name.now c.args.project.now c.args.first.now c.args.base c.self.invariant.book.stands.legal (ap (λ (e : Entry). e.act) c.in-Ok.ensures.entry)
          (subst (λ (p : List ℕ). Adds p c.reserve_document.new.self c.add_document.new.self) c.in-Ok-copy.ensures c.add_document.ensures) (histories_kept s.projects c.reserve_document.new.self (entries s.journal) c.reserve_document.ensures.same c.self.invariant.histories));
      owned = owned_by (entries s.journal) (entries c.make_room.new.journal) (entries c.push.new.self) c.args.by.seat c.args.by.line (Made c.len-doc.result c.args.name.now c.args.project.now c.args.first.now c.args.base) c.in-Ok.entry c.in-Ok.ensures.entry c.make_room.ensures.entries c.push.ensures.entries (own_other (entries s.journal) c.args.by.seat (Made c.len-doc.result c.args.name.now c.args.project.now c.args.first.now c.args.base) refl refl) c.self.invariant.owned;
    }

pub returns-clause-made : goal.returns-clause-made
returns-clause-made g c =
    let count = c.self.invariant.book.stands.count in
    let none = sym (found_as c.args.name.now c.self.inside.documents.names (entries c.self.inside.journal) c.self.invariant.book.names_are) ∙ sym c.find.ensures ∙ c.in_default.is in
    let len = c.len-doc.ensures in
    rw (← c.self.view_is) (omega (arith, len, count), none, search rules)
