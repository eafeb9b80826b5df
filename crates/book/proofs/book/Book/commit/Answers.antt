use Rattle.std.proofs.Common.{◌≡◌, ◌∙◌, refl, sym, ap, subst, arith, [], ◌∷◌, ◌++◌}
use Rattle.std.specs.Prelude.{Some, None}
use Rattle.journal_entries.specs.Journals.{entries}
use Rattle.journal_entries.specs.declared.act.Act.TheVariants.{Committed}
use Rattle.journal_entries.specs.declared.act.Entry.{Entry}
use Rattle.std.specs.Option.{option_copied, option_map}
use Rattle.rooms.specs.Rooms.{HaveRoom, member}
use Rattle.journal_entries.specs.declared.update.Update.{Update}
use Rattle.journal_rules.specs.Documents.{update_at}
use Rattle.journal_rules.proofs.Waits.{waits_sent}
use Rattle.book.specs.Roomed.{posted_by}
use Rattle.project_histories.proofs.Lists.{same_item}
use Rattle.book.proofs.Roomed.{room_for_one, roomed_committed, sourced}
use Rattle.book.specs.Looking.{IsOf}
use Rattle.book.specs.Shown.{Shown}
use Rattle.book.proofs.Fenced.{first}
use Rattle.book.proofs.Committing.{committed_book, committed_histories, decided_now, version_fits}
use Rattle.book.proofs.Locking.{told_by, told_unmade, held_owed, some_waits}
use Rattle.project_histories.proofs.Histories.{histories_roomier, histories_same, of_some}
use Rattle.book.proofs.Stored.{keeps_by}
use Rattle.turn_rules.proofs.Owning.{own_other, owned_by}
use Rattle.book.proofs.book.Book.commit.Goals as goal

pub returns-then-at-len-clause-refused : goal.returns-then-at-len-clause-refused
returns-then-at-len-clause-refused g c =
    let s = c.self.inside in
    let len = c.len.ensures in
    let high = c.if-at-len.true in
    rw (← c.self.view_is) (told_unmade s.journal s.documents.items s.moment s.tokens s.owed s.drivers c.args.prepared.look.doc c.args.prepared.look.token c.self.invariant.book (Some c.never_given.result) (omega (arith, len, high)) c.never_given.ensures)

pub returns-in-Some-clause-refused : goal.returns-in-Some-clause-refused
returns-in-Some-clause-refused g c =
    let s = c.self.inside in
    let len = c.len.ensures in
    let low = c.if-at-len.false in
    rw (← c.self.view_is) (told_by s.journal s.documents.items s.moment s.tokens s.owed s.drivers c.args.prepared.look.doc c.args.prepared.look.token c.self.invariant.book (Some c.in-Some.stale) (omega (arith, len, low)) (λ d at. c.check.ensures d at ∙ c.in-Some.is))

pub returns-in_default-2-clause-refused : goal.returns-in_default-2-clause-refused
returns-in_default-2-clause-refused g c =
    let s = c.self.inside in
    let len = c.len.ensures in
    let low = c.if-at-len.false in
    rw (← c.self.view_is) (told_by s.journal s.documents.items s.moment s.tokens s.owed s.drivers c.args.prepared.look.doc c.args.prepared.look.token c.self.invariant.book None (omega (arith, len, low)) (λ d at. c.check.ensures d at ∙ c.in_default.is), refl)

pub reserve_item-requires : goal.reserve_item-requires
reserve_item-requires g c =
    let s = c.self.inside in
    let len = c.len.ensures in
    let low = c.if-at-len.false in
    let count = c.self.invariant.book.stands.count in
    of_some c.args.prepared.look.doc s.projects (entries s.journal) c.self.invariant.histories (omega (arith, len, low, count))

pub put_item-requires-clause-of : goal.put_item-requires-clause-of
put_item-requires-clause-of g c =
    let s = c.self.inside in
    let j = entries s.journal in
    let len = c.len.ensures in
    let low = c.if-at-len.false in
    let count = c.self.invariant.book.stands.count in
    of_some c.args.prepared.look.doc c.reserve_item.new.self j (histories_roomier s.projects c.reserve_item.new.self j c.args.prepared.look.doc c.reserve_item.ensures.same c.self.invariant.histories) (omega (arith, len, low, count))

pub returns-in_default-reserve_item-clause-refused : goal.returns-in_default-reserve_item-clause-refused
returns-in_default-reserve_item-clause-refused g c =
    let s = c.self.inside in
    let len = c.len.ensures in
    let low = c.if-at-len.false in
    rw (← c.self.view_is) (told_by s.journal s.documents.items s.moment s.tokens s.owed s.drivers c.args.prepared.look.doc c.args.prepared.look.token c.self.invariant.book None (omega (arith, len, low)) (λ d at. c.check.ensures d at ∙ c.in_default.is), refl)

pub invariant_of-self : goal.invariant_of-self
invariant_of-self g c =
    let s = c.self.inside in
    record {
      book = c.self.invariant.book;
      roomed = c.self.invariant.roomed;
      keeps = c.self.invariant.keeps;
      histories = histories_roomier s.projects c.reserve_item.new.self (entries s.journal) c.args.prepared.look.doc c.reserve_item.ensures.same c.self.invariant.histories;
      owned = c.self.invariant.owned;
    }

pub push-requires : goal.push-requires
push-requires g c =
    let s = c.self.inside in
    let len = c.len.ensures in
    let low = c.if-at-len.false in
    let one = held_owed s.journal s.documents.items s.moment s.tokens s.owed s.drivers c.args.prepared.look.doc c.args.prepared.look.token c.self.invariant.book (omega (arith, len, low)) (λ d at. c.check.ensures d at ∙ c.in_default.is) in
    let room = c.self.invariant.book.room in
    omega (arith, one, room)

pub overflow_sub-self : goal.overflow_sub-self
overflow_sub-self g c =
    let s = c.self.inside in
    let len = c.len.ensures in
    let low = c.if-at-len.false in
    held_owed s.journal s.documents.items s.moment s.tokens s.owed s.drivers c.args.prepared.look.doc c.args.prepared.look.token c.self.invariant.book (omega (arith, len, low)) (λ d at. c.check.ensures d at ∙ c.in_default.is)

pub settle-outcome-requires-clause-waits : goal.settle-outcome-requires-clause-waits
settle-outcome-requires-clause-waits g c = λ d at.
    let s = c.self.inside in
    let len = c.len.ensures in
    let low = c.if-at-len.false in
    let look = c.args.prepared.look in
    let none = told_by s.journal s.documents.items s.moment s.tokens s.owed s.drivers look.doc look.token c.self.invariant.book None (omega (arith, len, low)) (λ d at. c.check.ensures d at ∙ c.in_default.is) in
    let of = subst (λ (v : Shown). IsOf look v.journal) (sym c.self.view_is) c.requires.looked in
    some_waits (entries s.journal) s.documents.items look.doc d look.ticket _ c.self.invariant.book.stands at (first look (entries s.journal) c.self.invariant.book.stands.legal of none)

pub settle-outcome-requires-clause-low : goal.settle-outcome-requires-clause-low
settle-outcome-requires-clause-low g c = λ d at.
    let value = c.len-length.ensures.value in
    let short = c.len-length.ensures.short in
    version_fits (entries c.self.inside.journal) c.self.inside.documents.items d c.args.prepared.look.doc c.self.invariant.book.stands at (omega (arith, value, short))

pub invariant_of-self-2 : goal.invariant_of-self-2
invariant_of-self-2 g c =
    let s = c.self.inside in
    let len = c.len.ensures in
    let low = c.if-at-len.false in
    let look = c.args.prepared.look in
    let none = told_by s.journal s.documents.items s.moment s.tokens s.owed s.drivers look.doc look.token c.self.invariant.book None (omega (arith, len, low)) (λ d at. c.check.ensures d at ∙ c.in_default.is) in
    let of = subst (λ (v : Shown). IsOf look v.journal) (sym c.self.view_is) c.requires.looked in
    let j = entries s.journal in
    let u = c.in-Some-update_at.update.now in
    let named : update_at j look.ticket ≡ Some u = sym (ap (λ l. update_at l look.ticket) c.as_slice.ensures) ∙ sym c.update_at.ensures ∙ ap option_copied c.in-Some-update_at.is in
    let sent = waits_sent look.doc look.ticket j _ (first look j c.self.invariant.book.stands.legal of none) in
    let own : u.doc ≡ look.doc = ap (λ (x : Update). x.doc) (same_item u sent.0 (sym named ∙ sent.1)) ∙ sent.2 in
    let act = ap (λ (e : Entry). e.act) c.entry_of.ensures in
    let book = committed_book s.journal c.push.new.self s.documents.items c.settle-outcome.new.self.items s.moment s.tokens s.owed s.drivers c.args.by.seat look c.args.prepared.decision c.entry_of.result c.self.invariant.book c.settle-outcome.ensures.names c.push.ensures.entries c.push.ensures.spare
    (ap (λ (e : Entry). e.seat) c.entry_of.ensures) c.requires.seat (ap (λ (e : Entry). e.act) c.entry_of.ensures ∙ ap (λ o. Committed look.doc look.token look.ticket o) c.settle-outcome.ensures.outcome) of none c.requires.decided c.settle-outcome.ensures.settled in
    record {
      book = book;
      roomed = roomed_committed j c.entry_of.result look.doc look.token look.ticket c.settle-outcome.result u _ c.self.invariant.book.stands.legal act (first look j c.self.invariant.book.stands.legal of none) named own s.rooms c.post.new.rooms (entries c.push.new.self) c.push.ensures.entries book.stands.legal
          (λ k. c.post.ensures k ∙ ap (λ n. option_map (posted_by k u n c.settle-outcome.result) (member k s.rooms)) c.len-length.ensures.value) c.self.invariant.roomed;
      keeps = keeps_by j j (entries c.push.new.self) c.args.by.seat c.args.by.line (Committed look.doc look.token look.ticket c.settle-outcome.result) c.entry_of.result c.entry_of.ensures refl c.push.ensures.entries (λ d o. refl) refl tt c.self.invariant.keeps;
      histories = histories_same c.put_item.new.projects (j ++ c.entry_of.result ∷ []) (entries c.push.new.self) c.push.ensures.entries
          (committed_histories c.reserve_item.new.self c.put_item.new.projects j c.entry_of.result look c.args.prepared.decision c.in-Ok-Ok.item c.self.invariant.book.stands.legal of none (act ∙ ap (λ o. Committed look.doc look.token look.ticket o) c.settle-outcome.ensures.outcome)
          c.in-Ok-Ok.ensures' c.put_item.ensures (histories_roomier s.projects c.reserve_item.new.self j look.doc c.reserve_item.ensures.same c.self.invariant.histories));
      owned = owned_by j j (entries c.push.new.self) c.args.by.seat c.args.by.line (Committed look.doc look.token look.ticket c.settle-outcome.result) c.entry_of.result c.entry_of.ensures refl c.push.ensures.entries (own_other j c.args.by.seat (Committed look.doc look.token look.ticket c.settle-outcome.result) refl refl) c.self.invariant.owned;
    }

pub returns-clause-ok : goal.returns-clause-ok
returns-clause-ok g c =
    let s = c.self.inside in
    let len = c.len.ensures in
    let low = c.if-at-len.false in
    let look = c.args.prepared.look in
    let none = told_by s.journal s.documents.items s.moment s.tokens s.owed s.drivers look.doc look.token c.self.invariant.book None (omega (arith, len, low)) (λ d at. c.check.ensures d at ∙ c.in_default.is) in
    let of = subst (λ (v : Shown). IsOf look v.journal) (sym c.self.view_is) c.requires.looked in
    let t = c.settle-outcome.ensures.settled in
    let is = c.settle-outcome.ensures.outcome ∙ decided_now (entries s.journal) s.documents.items t.was look c.args.prepared.decision c.self.invariant.book.stands t.at of none c.requires.decided in
    let e = c.entry_of.ensures ∙ ap (λ o. record { seat = c.args.by.seat; line = c.args.by.line; act = Committed look.doc look.token look.ticket o }) is in
    rw (← c.self.view_is) (none, ap (λ l. record { journal = l; drivers = s.drivers; documents = g.K.Keeper.documents s.keeper; faults = g.K.Keeper.count s.keeper; start = record { faults = g.K.Keeper.count s.first.value; documents = g.K.Keeper.documents s.first.value } }) (c.push.ensures.entries ∙ ap (λ (x : Entry). entries s.journal ++ x ∷ []) e))

pub unreachable-requires : goal.unreachable-requires
unreachable-requires g c =
    let s = c.self.inside in
    let j = entries s.journal in
    let len = c.len.ensures in
    let low = c.if-at-len.false in
    let look = c.args.prepared.look in
    let none = told_by s.journal s.documents.items s.moment s.tokens s.owed s.drivers look.doc look.token c.self.invariant.book None (omega (arith, len, low)) (λ d at. c.check.ensures d at ∙ c.in_default.is) in
    let of = subst (λ (v : Shown). IsOf look v.journal) (sym c.self.view_is) c.requires.looked in
    let sent = waits_sent look.doc look.ticket j _ (first look j c.self.invariant.book.stands.legal of none) in
    let f : None ≡ Some sent.0 = sym (ap option_copied c.in_default-update_at.is) ∙ c.update_at.ensures ∙ ap (λ l. update_at l look.ticket) c.as_slice.ensures ∙ sent.1 in
    absurd (cc)

pub post-requires-clause-room : goal.post-requires-clause-room
post-requires-clause-room g c =
    let s = c.self.inside in
    let j = entries s.journal in
    let len = c.len.ensures in
    let low = c.if-at-len.false in
    let look = c.args.prepared.look in
    let none = told_by s.journal s.documents.items s.moment s.tokens s.owed s.drivers look.doc look.token c.self.invariant.book None (omega (arith, len, low)) (λ d at. c.check.ensures d at ∙ c.in_default.is) in
    let of = subst (λ (v : Shown). IsOf look v.journal) (sym c.self.view_is) c.requires.looked in
    let u = c.in-Some-update_at.update.now in
    let named : update_at j look.ticket ≡ Some u = sym (ap (λ l. update_at l look.ticket) c.as_slice.ensures) ∙ sym c.update_at.ensures ∙ ap option_copied c.in-Some-update_at.is in
    let sent = waits_sent look.doc look.ticket j _ (first look j c.self.invariant.book.stands.legal of none) in
    let own : u.doc ≡ look.doc = ap (λ (x : Update). x.doc) (same_item u sent.0 (sym named ∙ sent.1)) ∙ sent.2 in
    subst (λ n. HaveRoom n 1 s.rooms) (sym own) (room_for_one s.rooms j look.doc look.ticket _ (first look j c.self.invariant.book.stands.legal of none) c.self.invariant.roomed)

pub post-requires-clause-sourced : goal.post-requires-clause-sourced
post-requires-clause-sourced g c =
    let s = c.self.inside in
    let j = entries s.journal in
    let len = c.len.ensures in
    let low = c.if-at-len.false in
    let look = c.args.prepared.look in
    let none = told_by s.journal s.documents.items s.moment s.tokens s.owed s.drivers look.doc look.token c.self.invariant.book None (omega (arith, len, low)) (λ d at. c.check.ensures d at ∙ c.in_default.is) in
    let of = subst (λ (v : Shown). IsOf look v.journal) (sym c.self.view_is) c.requires.looked in
    let u = c.in-Some-update_at.update.now in
    let named : update_at j look.ticket ≡ Some u = sym (ap (λ l. update_at l look.ticket) c.as_slice.ensures) ∙ sym c.update_at.ensures ∙ ap option_copied c.in-Some-update_at.is in
    let sent = waits_sent look.doc look.ticket j _ (first look j c.self.invariant.book.stands.legal of none) in
    let own : u.doc ≡ look.doc = ap (λ (x : Update). x.doc) (same_item u sent.0 (sym named ∙ sent.1)) ∙ sent.2 in
    sourced s.rooms j look.ticket u c.self.invariant.book.stands.legal named c.self.invariant.roomed

pub returns-clause-cached : goal.returns-clause-cached
returns-clause-cached g c =
    let t = c.settle-outcome.ensures.settled in
    rw (← c.self.view_is) (c.self.invariant.book.stands.each c.args.prepared.look.doc t.was t.at).cached_is
