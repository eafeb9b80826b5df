use Rattle.std.proofs.Common.{rules, ◌≡◌, ◌∙◌, refl, sym, ap, subst, arith, length}
use Rattle.std.specs.Prelude.{Some, None, nat_lt}
use Rattle.journal_entries.specs.declared.act.Entry.{Entry}
use Rattle.journal_rules.specs.Documents.{waiting}
use Rattle.journal_rules.specs.Locks.{Holds}
use Rattle.turn_rules.specs.Locking.{staleness}
use Rattle.book.specs.Shown.{Shown}
use Rattle.book.proofs.Roomed.{roomed_quiet_by}
use Rattle.journal_entries.specs.Journals.{entries}
use Rattle.journal_entries.specs.declared.act.Act.TheVariants.{Released}
use Rattle.book.proofs.Locking.{told_by, told_unmade, held_owed, stands_in, released_book}
use Rattle.project_histories.proofs.Histories.{histories_by}
use Rattle.book.proofs.Stored.{keeps_by}
use Rattle.turn_rules.proofs.Owning.{own_other, owned_by}
use Rattle.book.proofs.book.Book.release.Goals as goal

pub returns-then-at-len-clause-stale : goal.returns-then-at-len-clause-stale
returns-then-at-len-clause-stale g c =
    let s = c.self.inside in
    let len = c.len.ensures in
    let high = c.if-at-len.true in
    rw (← c.self.view_is) (told_unmade s.journal s.documents.items s.moment s.tokens s.owed s.drivers c.args.doc c.args.token c.self.invariant.book (Some c.never_given.result) (omega (arith, len, high)) c.never_given.ensures)

pub returns-in-Some-clause-stale : goal.returns-in-Some-clause-stale
returns-in-Some-clause-stale g c =
    let s = c.self.inside in
    let len = c.len.ensures in
    let low = c.if-at-len.false in
    rw (← c.self.view_is) (told_by s.journal s.documents.items s.moment s.tokens s.owed s.drivers c.args.doc c.args.token c.self.invariant.book (Some c.in-Some.stale) (omega (arith, len, low)) (λ d at. c.check.ensures d at ∙ c.in-Some.is))

pub push-requires : goal.push-requires
push-requires g c =
    let s = c.self.inside in
    let len = c.len.ensures in
    let low = c.if-at-len.false in
    let one = held_owed s.journal s.documents.items s.moment s.tokens s.owed s.drivers c.args.doc c.args.token c.self.invariant.book (omega (arith, len, low)) (λ d at. c.check.ensures d at ∙ c.in_default.is) in
    let room = c.self.invariant.book.room in
    omega (arith, one, room)

pub overflow_sub-self : goal.overflow_sub-self
overflow_sub-self g c =
    let s = c.self.inside in
    let len = c.len.ensures in
    let low = c.if-at-len.false in
    held_owed s.journal s.documents.items s.moment s.tokens s.owed s.drivers c.args.doc c.args.token c.self.invariant.book (omega (arith, len, low)) (λ d at. c.check.ensures d at ∙ c.in_default.is)

pub let_go-requires-clause-current : goal.let_go-requires-clause-current
let_go-requires-clause-current g c = λ d at. let s = stands_in d.lock c.args.token (c.check.ensures d at ∙ c.in_default.is) in (sym s.0, s.1)

pub invariant_of-self : goal.invariant_of-self
invariant_of-self g c =
    let s = c.self.inside in
    let len = c.len.ensures in
    let low = c.if-at-len.false in
    let none = told_by s.journal s.documents.items s.moment s.tokens s.owed s.drivers c.args.doc c.args.token c.self.invariant.book None (omega (arith, len, low)) (λ d at. c.check.ensures d at ∙ c.in_default.is) in
    let may = subst (λ (v : Shown). staleness c.args.doc c.args.token v.journal ≡ None → Holds c.args.by.seat c.args.doc c.args.token v.journal) (sym c.self.view_is) c.requires.may none in
    let held = stands_in c.let_go.ensures.freed.was.lock c.args.token (c.check.ensures c.let_go.ensures.freed.was c.let_go.ensures.freed.at ∙ c.in_default.is) in
    record {
      book = released_book s.journal c.push.new.self s.documents.items c.let_go.new.self.items s.moment s.tokens s.owed s.drivers c.args.doc c.args.token c.args.by.seat c.entry_of.result c.self.invariant.book c.let_go.ensures.names c.push.ensures.entries c.push.ensures.spare (ap (λ (e : Entry). e.seat) c.entry_of.ensures) (ap (λ (e : Entry). e.act) c.entry_of.ensures) may c.let_go.ensures.freed held.1;
      roomed = roomed_quiet_by s.rooms (entries s.journal) (entries s.journal) (entries c.push.new.self) c.args.by.seat c.args.by.line (Released c.args.doc c.args.token) c.entry_of.result c.entry_of.ensures refl c.push.ensures.entries c.self.invariant.book.stands.legal tt refl (λ d. refl) c.self.invariant.roomed;
      keeps = keeps_by (entries s.journal) (entries s.journal) (entries c.push.new.self) c.args.by.seat c.args.by.line (Released c.args.doc c.args.token) c.entry_of.result c.entry_of.ensures refl c.push.ensures.entries (λ d o. refl) refl tt c.self.invariant.keeps;
      histories = histories_by s.projects (entries s.journal) (entries s.journal) (entries c.push.new.self) c.args.by.seat c.args.by.line (Released c.args.doc c.args.token) c.entry_of.result c.entry_of.ensures refl c.push.ensures.entries c.self.invariant.book.stands.legal refl (λ p. refl) (λ p. refl) c.self.invariant.histories;
      owned = owned_by (entries s.journal) (entries s.journal) (entries c.push.new.self) c.args.by.seat c.args.by.line (Released c.args.doc c.args.token) c.entry_of.result c.entry_of.ensures refl c.push.ensures.entries (own_other (entries s.journal) c.args.by.seat (Released c.args.doc c.args.token) refl refl) c.self.invariant.owned;
    }

pub returns-clause-ok : goal.returns-clause-ok
returns-clause-ok g c =
    let s = c.self.inside in
    let len = c.len.ensures in
    let low = c.if-at-len.false in
    let none = told_by s.journal s.documents.items s.moment s.tokens s.owed s.drivers c.args.doc c.args.token c.self.invariant.book None (omega (arith, len, low)) (λ d at. c.check.ensures d at ∙ c.in_default.is) in
    rw (← c.self.view_is) (none, ap (nat_lt 0) (c.waiting-more.ensures ∙ ap (λ (v : Shown). length (waiting c.args.doc v.journal)) (sym c.self.view_is)), search rules)
