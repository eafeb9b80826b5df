use Rattle.std.proofs.Common.{rules, ◌≡◌, ◌∙◌, ◌+◌, refl, sym, ap, subst, arith, [], ◌∷◌, ◌++◌, true}
use Rattle.std.specs.Prelude.{slice_get, Some, None}
use Rattle.std.specs.Option.{option_copied}
use Rattle.std.proofs.lemmas.Option.{slice_get_within}
use Rattle.expiring_lock.specs.Locks.{IsUnexpired}
use Rattle.expiring_lock.specs.declared.lock.TheConstants.{LOCK_LIFE}
use Rattle.journal_entries.specs.Journals.{entries}
use Rattle.journal_entries.specs.declared.act.Act.TheVariants.{Acquired}
use Rattle.journal_entries.specs.declared.act.Entry.{Entry}
use Rattle.journal_rules.specs.Documents.{IsMade, is_in, update_at}
use Rattle.journal_rules.specs.Legal.{IsAcquiring}
use Rattle.journal_rules.proofs.Waits.{waits_sent}
use Rattle.book.specs.declared.document.Document.{Document}
use Rattle.journal_rules.specs.Locks.{next_token, used}
use Rattle.book.specs.Standing.{IsLocked}
use Rattle.book.specs.Looking.{IsLook}
use Rattle.book.proofs.Keeping.{here_acquired}
use Rattle.book.proofs.Roomed.{roomed_quiet_by}
use Rattle.journal_sizes.proofs.Updates.{update_sized}
use Rattle.project_histories.proofs.Lists.{same_item}
use Rattle.book.proofs.Acquirings.{next_unused}
use Rattle.book.proofs.Tokens.{acquirings_short}
use Rattle.book.proofs.Standing.{is_decidable}
use Rattle.book.proofs.Settling.{agrees, short_look, ready}
use Rattle.book.proofs.Locking.{acquired_look, acquire_empty, acquire_busy, acquire_free, acquired_book, may_acquire, token_below, waits_first}
use Rattle.project_histories.proofs.Histories.{histories_by}
use Rattle.book.proofs.Stored.{keeps_by}
use Rattle.turn_rules.proofs.Owning.{own_other, owned_by}
use Rattle.book.proofs.book.Book.acquire.Goals as goal

pub returns-in_default-front-clause-refused : goal.returns-in_default-front-clause-refused
returns-in_default-front-clause-refused g c =
    let s = c.self.inside in
    let items = s.documents.items in
    let x = c.in-Some.document.now in
    let at : slice_get s.documents.items c.args.doc ≡ Some x = sym c.get.ensures ∙ ap option_copied c.in-Some.is in
    rw (← c.self.view_is) (sym (acquire_empty (entries s.journal) items c.args.doc x c.self.invariant.book.stands at (sym c.front.ensures ∙ ap option_copied c.in_default-front.is)))

pub returns-in-Some-busy-clause-refused : goal.returns-in-Some-busy-clause-refused
returns-in-Some-busy-clause-refused g c =
    let s = c.self.inside in
    let items = s.documents.items in
    let x = c.in-Some.document.now in
    let at : slice_get s.documents.items c.args.doc ≡ Some x = sym c.get.ensures ∙ ap option_copied c.in-Some.is in
    let first : slice_get x.waiting.items 0 ≡ Some c.in-Some-front.field-0.now = sym c.front.ensures ∙ ap option_copied c.in-Some-front.is in
    let u : IsUnexpired x.lock s.moment = search (rules, c.busy.ensures.busy, c.in-Some-busy.is) in
    let a = acquire_busy (entries s.journal) items c.args.doc x c.self.invariant.book.stands at c.in-Some-front.field-0.now s.moment first c.self.invariant.book.now_is u in
    rw (← c.self.view_is) (search (rules, a, c.in-Some-busy.ensures.told))

pub overflow_add-token : goal.overflow_add-token
overflow_add-token g c =
    let t = c.self.invariant.book.tokens_are in
    let short = acquirings_short (entries c.self.inside.journal) in
    let l = c.len-length.ensures.value in
    let k = c.len-length.ensures.short in
    omega (arith, t, short, l, k)

pub unreachable-requires : goal.unreachable-requires
unreachable-requires g c =
    let s = c.self.inside in
    let items = s.documents.items in
    let x = c.in-Some.document.now in
    let at : slice_get s.documents.items c.args.doc ≡ Some x = sym c.get.ensures ∙ ap option_copied c.in-Some.is in
    let first : slice_get x.waiting.items 0 ≡ Some c.in-Some-front.field-0.now = sym c.front.ensures ∙ ap option_copied c.in-Some-front.is in
    let w = waits_first (entries s.journal) items c.args.doc x c.self.invariant.book.stands at c.in-Some-front.field-0.now first in
    let sent = waits_sent c.args.doc c.in-Some-front.field-0.now (entries s.journal) w.0 w.1 in
    let f : None ≡ Some sent.0 = sym (ap option_copied c.in_default-update_at.is) ∙ c.update_at.ensures ∙ ap (λ l. update_at l c.in-Some-front.field-0.now) c.as_slice.ensures ∙ sent.1 in
    absurd (cc)

pub take-until-requires-clause-next : goal.take-until-requires-clause-next
take-until-requires-clause-next g c = λ d at.
    let b = token_below (entries c.self.inside.journal) c.self.inside.documents.items c.args.doc d c.self.invariant.book.stands at in
    let t = c.self.invariant.book.tokens_are in
    omega (arith, b, t)

pub take-until-requires-clause-free : goal.take-until-requires-clause-free
take-until-requires-clause-free g c = λ d here.
    let s = c.self.inside in
    let items = s.documents.items in
    let x = c.in-Some.document.now in
    let at : slice_get s.documents.items c.args.doc ≡ Some x = sym c.get.ensures ∙ ap option_copied c.in-Some.is in
    let free : IsUnexpired x.lock s.moment → ⊥ = search (rules, c.busy.ensures.busy, c.in_default-busy.is) in
    subst (λ (y : Document). IsUnexpired y.lock s.moment → ⊥) (same_item x d (sym at ∙ here)) free

pub invariant_of-self-2 : goal.invariant_of-self-2
invariant_of-self-2 g c =
    let s = c.self.inside in
    let items = s.documents.items in
    let x = c.in-Some.document.now in
    let at : slice_get s.documents.items c.args.doc ≡ Some x = sym c.get.ensures ∙ ap option_copied c.in-Some.is in
    let free : IsUnexpired x.lock s.moment → ⊥ = search (rules, c.busy.ensures.busy, c.in_default-busy.is) in
    let count = c.self.invariant.book.stands.count in
    let within = slice_get_within items c.args.doc x at in
    let made : IsMade c.args.doc (entries s.journal) = omega (arith, count, within) in
    let may = may_acquire c.args.doc s.moment (s.moment + LOCK_LIFE) x (entries s.journal) made (c.self.invariant.book.stands.each c.args.doc x at) c.self.invariant.book.now_is refl free in
    let row = subst (λ n. IsAcquiring (entries s.journal) c.args.doc (n + 1) (s.moment + LOCK_LIFE)) (sym c.self.invariant.book.tokens_are) may in
    record {
      book = acquired_book s.journal c.make_room.new.journal c.push.new.self items c.take-until.new.self.items s.moment s.tokens s.owed s.drivers c.in-Ok-make_room.sum c.args.doc (s.moment + LOCK_LIFE) c.args.by.seat c.entry_of.result
          c.self.invariant.book c.take-until.ensures.names c.make_room.ensures.entries c.in-Ok-make_room.ensures.room c.push.ensures.entries c.push.ensures.spare (ap (λ (e : Entry). e.seat) c.entry_of.ensures)
          (ap (λ (e : Entry). e.act) c.entry_of.ensures ∙ ap (λ n. Acquired c.args.doc (s.tokens + 1) n) c.take-until.ensures.until) row c.take-until.ensures.taken;
      roomed = roomed_quiet_by s.rooms (entries s.journal) (entries c.make_room.new.journal) (entries c.push.new.self) c.args.by.seat c.args.by.line (Acquired c.args.doc (s.tokens + 1) c.take-until.result) c.entry_of.result c.entry_of.ensures c.make_room.ensures.entries c.push.ensures.entries c.self.invariant.book.stands.legal tt refl (λ d. refl) c.self.invariant.roomed;
      keeps = keeps_by (entries s.journal) (entries c.make_room.new.journal) (entries c.push.new.self) c.args.by.seat c.args.by.line (Acquired c.args.doc (s.tokens + 1) c.take-until.result) c.entry_of.result c.entry_of.ensures c.make_room.ensures.entries c.push.ensures.entries (λ d o. refl) refl tt c.self.invariant.keeps;
      histories = histories_by s.projects (entries s.journal) (entries c.make_room.new.journal) (entries c.push.new.self) c.args.by.seat c.args.by.line (Acquired c.args.doc (s.tokens + 1) c.take-until.result) c.entry_of.result c.entry_of.ensures c.make_room.ensures.entries c.push.ensures.entries c.self.invariant.book.stands.legal refl (λ p. refl) (λ p. refl) c.self.invariant.histories;
      owned = owned_by (entries s.journal) (entries c.make_room.new.journal) (entries c.push.new.self) c.args.by.seat c.args.by.line (Acquired c.args.doc (s.tokens + 1) c.take-until.result) c.entry_of.result c.entry_of.ensures c.make_room.ensures.entries c.push.ensures.entries (own_other (entries s.journal) c.args.by.seat (Acquired c.args.doc (s.tokens + 1) c.take-until.result) refl refl) c.self.invariant.owned;
    }

pub returns-in_default-look-clause-refused : goal.returns-in_default-look-clause-refused
returns-in_default-look-clause-refused g c =
    let s = c.self.inside in
    let items = s.documents.items in
    let x = c.in-Some.document.now in
    let at : slice_get s.documents.items c.args.doc ≡ Some x = sym c.get.ensures ∙ ap option_copied c.in-Some.is in
    let first : slice_get x.waiting.items 0 ≡ Some c.in-Some-front.field-0.now = sym c.front.ensures ∙ ap option_copied c.in-Some-front.is in
    let free : IsUnexpired x.lock s.moment → ⊥ = search (rules, c.busy.ensures.busy, c.in_default-busy.is) in
    rw (← c.self.view_is) (sym (acquire_free (entries s.journal) items c.args.doc x c.self.invariant.book.stands at c.in-Some-front.field-0.now s.moment first c.self.invariant.book.now_is free))

pub returns-in_default-make_room-clause-refused : goal.returns-in_default-make_room-clause-refused
returns-in_default-make_room-clause-refused g c =
    let s = c.self.inside in
    let items = s.documents.items in
    let x = c.in-Some.document.now in
    let at : slice_get s.documents.items c.args.doc ≡ Some x = sym c.get.ensures ∙ ap option_copied c.in-Some.is in
    let first : slice_get x.waiting.items 0 ≡ Some c.in-Some-front.field-0.now = sym c.front.ensures ∙ ap option_copied c.in-Some-front.is in
    let free : IsUnexpired x.lock s.moment → ⊥ = search (rules, c.busy.ensures.busy, c.in_default-busy.is) in
    rw (← c.self.view_is) (sym (acquire_free (entries s.journal) items c.args.doc x c.self.invariant.book.stands at c.in-Some-front.field-0.now s.moment first c.self.invariant.book.now_is free))

pub returns-clause-free : goal.returns-clause-free
returns-clause-free g c =
    let s = c.self.inside in
    let items = s.documents.items in
    let x = c.in-Some.document.now in
    let at : slice_get s.documents.items c.args.doc ≡ Some x = sym c.get.ensures ∙ ap option_copied c.in-Some.is in
    let first : slice_get x.waiting.items 0 ≡ Some c.in-Some-front.field-0.now = sym c.front.ensures ∙ ap option_copied c.in-Some-front.is in
    let free : IsUnexpired x.lock s.moment → ⊥ = search (rules, c.busy.ensures.busy, c.in_default-busy.is) in
    rw (← c.self.view_is) (acquire_free (entries s.journal) items c.args.doc x c.self.invariant.book.stands at c.in-Some-front.field-0.now s.moment first c.self.invariant.book.now_is free)

pub returns-clause-ready : goal.returns-clause-ready
returns-clause-ready g c =
    let s = c.self.inside in
    let items = s.documents.items in
    let x = c.in-Some.document.now in
    let at : slice_get s.documents.items c.args.doc ≡ Some x = sym c.get.ensures ∙ ap option_copied c.in-Some.is in
    let u = c.in-Some-update_at.update.now in
    let named : update_at (entries s.journal) c.in-Some-front.field-0.now ≡ Some u = sym (ap (λ l. update_at l c.in-Some-front.field-0.now) c.as_slice.ensures) ∙ sym c.update_at.ensures ∙ ap option_copied c.in-Some-update_at.is in
    let can = is_decidable c.args.doc x (entries s.journal) (c.self.invariant.book.stands.each c.args.doc x at) in
    let sized = update_sized c.in-Some-front.field-0.now u (entries s.journal) c.self.invariant.book.stands.legal named in
    let look = c.in-Ok.ensures.look in
    record { agrees = agrees x u c.in-Ok.look look can; short = short_look x u c.in-Ok.look look can; ready = λ within. ready x u c.in-Ok.look look can sized within }

pub returns-clause-looks : goal.returns-clause-looks
returns-clause-looks g c =
    let s = c.self.inside in
    let j = entries s.journal in
    let e = c.entry_of.result in
    let doc = c.args.doc in
    let token = s.tokens + 1 in
    let until = s.moment + LOCK_LIFE in
    let t = c.take-until.ensures.taken in
    let legal = c.self.invariant.book.stands.legal in
    let before = c.self.invariant.book.stands.each doc t.was t.at in
    let x = c.in-Some.document.now in
    let at : slice_get s.documents.items c.args.doc ≡ Some x = sym c.get.ensures ∙ ap option_copied c.in-Some.is in
    let first : slice_get x.waiting.items 0 ≡ Some c.in-Some-front.field-0.now = sym c.front.ensures ∙ ap option_copied c.in-Some-front.is in
    let w = waits_first j s.documents.items doc x c.self.invariant.book.stands at c.in-Some-front.field-0.now first in
    let u = c.in-Some-update_at.update.now in
    let named : update_at j c.in-Some-front.field-0.now ≡ Some u = sym (ap (λ l. update_at l c.in-Some-front.field-0.now) c.as_slice.ensures) ∙ sym c.update_at.ensures ∙ ap option_copied c.in-Some-update_at.is in
    let is : e.act ≡ Acquired doc token until = ap (λ (y : Entry). y.act) c.entry_of.ensures ∙ ap (λ n. Acquired doc token n) c.take-until.ensures.until in
    let seat_is : e.seat ≡ c.args.by.seat = ap (λ (y : Entry). y.seat) c.entry_of.ensures in
    let next : token ≡ next_token j = ap (λ n. n + 1) c.self.invariant.book.tokens_are in
    let locked = subst (λ n. IsLocked (record { last = token; until = until; seat = n; held = true }) t.was t.now) (sym seat_is) t.is in
    let here = here_acquired doc t.was t.now j e legal before token until is next locked in
    let taking = c.in-Ok.ensures.taking in
    let more : entries c.push.new.self ≡ j ++ e ∷ [] = c.push.ensures.entries ∙ ap (λ l. l ++ e ∷ []) c.make_room.ensures.entries in
    (rw more (acquired_look doc token until t.was t.now x u c.in-Ok.look j e w.0 c.in-Some-front.field-0.now (subst (λ (y : Document). IsLook y u c.in-Ok.look) (same_item x t.was (sym at ∙ t.at)) c.in-Ok.ensures.look) here before locked is seat_is taking (ap (λ t. is_in t (used j)) next ∙ next_unused j legal) c.len-length.ensures.value w.1 named), taking.0, taking.2)

pub take-until-requires-clause-within : goal.take-until-requires-clause-within
take-until-requires-clause-within g c =
    let s = c.self.inside in
    let x = c.in-Some.document.now in
    let at : slice_get s.documents.items c.args.doc ≡ Some x = sym c.get.ensures ∙ ap option_copied c.in-Some.is in
    slice_get_within s.documents.items c.args.doc x at

pub returns-clause-cached : goal.returns-clause-cached
returns-clause-cached g c =
    let s = c.self.inside in
    let x = c.in-Some.document.now in
    let at : slice_get s.documents.items c.args.doc ≡ Some x = sym c.get.ensures ∙ ap option_copied c.in-Some.is in
    rw (← c.self.view_is) (c.self.invariant.book.stands.each c.args.doc x at).cached_is
