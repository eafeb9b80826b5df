use Rattle.std.proofs.Common.{refl, rules, ◌≡◌, ◌∙◌, sym, ap, subst, arith}
use Rattle.std.specs.Prelude.{Some, None}
use Rattle.journal_entries.specs.Journals.{entries}
use Rattle.journal_entries.specs.declared.act.Entry.{Entry}
use Rattle.std.specs.Option.{option_copied, option_map}
use Rattle.rooms.specs.Rooms.{HaveRoom, member}
use Rattle.journal_entries.specs.declared.update.Update.{Update}
use Rattle.journal_entries.specs.declared.update.Outcome.TheVariants.{Refused}
use Rattle.journal_rules.specs.Documents.{update_at}
use Rattle.journal_rules.proofs.Waits.{waits_sent}
use Rattle.book.specs.Roomed.{posted_by}
use Rattle.project_histories.proofs.Lists.{same_item}
use Rattle.book.proofs.Roomed.{room_for_one, roomed_committed, sourced}
use Rattle.turn_rules.specs.Locking.{staleness}
use Rattle.book.specs.Shown.{Shown}
use Rattle.book.specs.Calls.{MayRefuse}
use Rattle.book.proofs.Locking.{told_by, told_unmade, held_owed, refused_book, some_waits}
use Rattle.journal_entries.specs.declared.act.Act.TheVariants.{Committed}
use Rattle.project_histories.proofs.Histories.{histories_by, refused_none}
use Rattle.book.proofs.Stored.{keeps_by}
use Rattle.turn_rules.proofs.Owning.{own_other, owned_by}
use Rattle.book.proofs.book.Book.refuse.Goals as goal

pub returns-then-at-len-clause-stale : goal.returns-then-at-len-clause-stale
returns-then-at-len-clause-stale g c =
    let s = c.self.inside in
    let len = c.len.ensures in
    let high = c.if-at-len.true in
    rw (← c.self.view_is) (told_unmade s.journal s.documents.items s.moment s.tokens s.owed s.drivers c.args.doc c.args.token c.self.invariant.book (Some c.never_given.result) (omega (arith, len, high)) c.never_given.ensures)

pub returns-in-Some-clause-stale : goal.returns-in-Some-clause-stale
returns-in-Some-clause-stale g c =
    let s = c.self.inside in
    let len = c.len.ensures in
    let low = c.if-at-len.false in
    rw (← c.self.view_is) (told_by s.journal s.documents.items s.moment s.tokens s.owed s.drivers c.args.doc c.args.token c.self.invariant.book (Some c.in-Some.stale) (omega (arith, len, low)) (λ d at. c.check.ensures d at ∙ c.in-Some.is))

pub push-requires : goal.push-requires
push-requires g c =
    let s = c.self.inside in
    let len = c.len.ensures in
    let low = c.if-at-len.false in
    let one = held_owed s.journal s.documents.items s.moment s.tokens s.owed s.drivers c.args.doc c.args.token c.self.invariant.book (omega (arith, len, low)) (λ d at. c.check.ensures d at ∙ c.in_default.is) in
    let room = c.self.invariant.book.room in
    omega (arith, one, room)

pub overflow_sub-self : goal.overflow_sub-self
overflow_sub-self g c =
    let s = c.self.inside in
    let len = c.len.ensures in
    let low = c.if-at-len.false in
    held_owed s.journal s.documents.items s.moment s.tokens s.owed s.drivers c.args.doc c.args.token c.self.invariant.book (omega (arith, len, low)) (λ d at. c.check.ensures d at ∙ c.in_default.is)

pub unqueue-requires-clause-waits : goal.unqueue-requires-clause-waits
unqueue-requires-clause-waits g c = λ d at.
    let s = c.self.inside in
    let len = c.len.ensures in
    let low = c.if-at-len.false in
    let none = told_by s.journal s.documents.items s.moment s.tokens s.owed s.drivers c.args.doc c.args.token c.self.invariant.book None (omega (arith, len, low)) (λ d at. c.check.ensures d at ∙ c.in_default.is) in
    let may = subst (λ (v : Shown). staleness c.args.doc c.args.token v.journal ≡ None → MayRefuse v.journal c.args.by.seat c.args.doc c.args.token c.args.ticket c.args.cause) (sym c.self.view_is) c.requires.may none in
    some_waits (entries s.journal) s.documents.items c.args.doc d c.args.ticket may.rest c.self.invariant.book.stands at may.first

pub invariant_of-self : goal.invariant_of-self
invariant_of-self g c =
    let s = c.self.inside in
    let len = c.len.ensures in
    let low = c.if-at-len.false in
    let none = told_by s.journal s.documents.items s.moment s.tokens s.owed s.drivers c.args.doc c.args.token c.self.invariant.book None (omega (arith, len, low)) (λ d at. c.check.ensures d at ∙ c.in_default.is) in
    let may = subst (λ (v : Shown). staleness c.args.doc c.args.token v.journal ≡ None → MayRefuse v.journal c.args.by.seat c.args.doc c.args.token c.args.ticket c.args.cause) (sym c.self.view_is) c.requires.may none in
    let j = entries s.journal in
    let u = c.in-Some-update_at.update.now in
    let named : update_at j c.args.ticket ≡ Some u = sym (ap (λ l. update_at l c.args.ticket) c.as_slice.ensures) ∙ sym c.update_at.ensures ∙ ap option_copied c.in-Some-update_at.is in
    let sent = waits_sent c.args.doc c.args.ticket j may.rest may.first in
    let own : u.doc ≡ c.args.doc = ap (λ (x : Update). x.doc) (same_item u sent.0 (sym named ∙ sent.1)) ∙ sent.2 in
    let book = refused_book s.journal c.push.new.self s.documents.items c.unqueue.new.self.items s.moment s.tokens s.owed s.drivers c.args.doc c.args.token c.args.ticket c.args.by.seat c.args.cause c.entry_of.result c.self.invariant.book c.unqueue.ensures.names c.push.ensures.entries c.push.ensures.spare (ap (λ (e : Entry). e.seat) c.entry_of.ensures) (ap (λ (e : Entry). e.act) c.entry_of.ensures) may c.unqueue.ensures.taken in
    record {
      book = book;
      roomed = roomed_committed j c.entry_of.result c.args.doc c.args.token c.args.ticket (Refused c.args.cause) u may.rest c.self.invariant.book.stands.legal (ap (λ (e : Entry). e.act) c.entry_of.ensures) may.first named own s.rooms c.post.new.rooms (entries c.push.new.self) c.push.ensures.entries book.stands.legal
          (λ k. c.post.ensures k ∙ ap (λ n. option_map (posted_by k u n (Refused c.args.cause)) (member k s.rooms)) c.len-length.ensures.value) c.self.invariant.roomed;
      keeps = keeps_by j j (entries c.push.new.self) c.args.by.seat c.args.by.line (Committed c.args.doc c.args.token c.args.ticket (Refused c.args.cause)) c.entry_of.result c.entry_of.ensures refl c.push.ensures.entries (λ d o. refl) refl tt c.self.invariant.keeps;
      histories = histories_by s.projects j j (entries c.push.new.self) c.args.by.seat c.args.by.line (Committed c.args.doc c.args.token c.args.ticket (Refused c.args.cause)) c.entry_of.result c.entry_of.ensures refl c.push.ensures.entries c.self.invariant.book.stands.legal refl (λ p. refused_none p j c.args.doc c.args.token c.args.ticket c.args.cause) (λ p. refl) c.self.invariant.histories;
      owned = owned_by j j (entries c.push.new.self) c.args.by.seat c.args.by.line (Committed c.args.doc c.args.token c.args.ticket (Refused c.args.cause)) c.entry_of.result c.entry_of.ensures refl c.push.ensures.entries (own_other j c.args.by.seat (Committed c.args.doc c.args.token c.args.ticket (Refused c.args.cause)) refl refl) c.self.invariant.owned;
    }

pub returns-clause-ok : goal.returns-clause-ok
returns-clause-ok g c =
    let s = c.self.inside in
    let len = c.len.ensures in
    let low = c.if-at-len.false in
    let none = told_by s.journal s.documents.items s.moment s.tokens s.owed s.drivers c.args.doc c.args.token c.self.invariant.book None (omega (arith, len, low)) (λ d at. c.check.ensures d at ∙ c.in_default.is) in
    rw (← c.self.view_is) (none, search rules)

pub unreachable-requires : goal.unreachable-requires
unreachable-requires g c =
    let s = c.self.inside in
    let j = entries s.journal in
    let len = c.len.ensures in
    let low = c.if-at-len.false in
    let none = told_by s.journal s.documents.items s.moment s.tokens s.owed s.drivers c.args.doc c.args.token c.self.invariant.book None (omega (arith, len, low)) (λ d at. c.check.ensures d at ∙ c.in_default.is) in
    let may = subst (λ (v : Shown). staleness c.args.doc c.args.token v.journal ≡ None → MayRefuse v.journal c.args.by.seat c.args.doc c.args.token c.args.ticket c.args.cause) (sym c.self.view_is) c.requires.may none in
    let sent = waits_sent c.args.doc c.args.ticket j may.rest may.first in
    let f : None ≡ Some sent.0 = sym (ap option_copied c.in_default-update_at.is) ∙ c.update_at.ensures ∙ ap (λ l. update_at l c.args.ticket) c.as_slice.ensures ∙ sent.1 in
    absurd (cc)

pub post-requires-clause-room : goal.post-requires-clause-room
post-requires-clause-room g c =
    let s = c.self.inside in
    let j = entries s.journal in
    let len = c.len.ensures in
    let low = c.if-at-len.false in
    let none = told_by s.journal s.documents.items s.moment s.tokens s.owed s.drivers c.args.doc c.args.token c.self.invariant.book None (omega (arith, len, low)) (λ d at. c.check.ensures d at ∙ c.in_default.is) in
    let may = subst (λ (v : Shown). staleness c.args.doc c.args.token v.journal ≡ None → MayRefuse v.journal c.args.by.seat c.args.doc c.args.token c.args.ticket c.args.cause) (sym c.self.view_is) c.requires.may none in
    let u = c.in-Some-update_at.update.now in
    let named : update_at j c.args.ticket ≡ Some u = sym (ap (λ l. update_at l c.args.ticket) c.as_slice.ensures) ∙ sym c.update_at.ensures ∙ ap option_copied c.in-Some-update_at.is in
    let sent = waits_sent c.args.doc c.args.ticket j may.rest may.first in
    let own : u.doc ≡ c.args.doc = ap (λ (x : Update). x.doc) (same_item u sent.0 (sym named ∙ sent.1)) ∙ sent.2 in
    subst (λ n. HaveRoom n 1 s.rooms) (sym own) (room_for_one s.rooms j c.args.doc c.args.ticket may.rest may.first c.self.invariant.roomed)

pub post-requires-clause-sourced : goal.post-requires-clause-sourced
post-requires-clause-sourced g c =
    let s = c.self.inside in
    let j = entries s.journal in
    let len = c.len.ensures in
    let low = c.if-at-len.false in
    let none = told_by s.journal s.documents.items s.moment s.tokens s.owed s.drivers c.args.doc c.args.token c.self.invariant.book None (omega (arith, len, low)) (λ d at. c.check.ensures d at ∙ c.in_default.is) in
    let may = subst (λ (v : Shown). staleness c.args.doc c.args.token v.journal ≡ None → MayRefuse v.journal c.args.by.seat c.args.doc c.args.token c.args.ticket c.args.cause) (sym c.self.view_is) c.requires.may none in
    let u = c.in-Some-update_at.update.now in
    let named : update_at j c.args.ticket ≡ Some u = sym (ap (λ l. update_at l c.args.ticket) c.as_slice.ensures) ∙ sym c.update_at.ensures ∙ ap option_copied c.in-Some-update_at.is in
    let sent = waits_sent c.args.doc c.args.ticket j may.rest may.first in
    let own : u.doc ≡ c.args.doc = ap (λ (x : Update). x.doc) (same_item u sent.0 (sym named ∙ sent.1)) ∙ sent.2 in
    sourced s.rooms j c.args.ticket u c.self.invariant.book.stands.legal named c.self.invariant.roomed
