use Rattle.std.proofs.Common.{◌≡◌, ◌∙◌, ◌++◌, List, [], ◌∷◌, length, min, refl, sym, ap, ap₂, arith}
use Rattle.std.specs.Prelude.{take}
use Rattle.std.proofs.lemmas.List.{length-map, length-take, take-map}
use Rattle.std.proofs.lemmas.Option.{slice_get_within}
use Rattle.journal_entries.specs.Journals.{entries}
use Rattle.journal_entries.specs.declared.act.Act.TheVariants.{Handed}
use Rattle.journal_entries.specs.declared.act.Entry.{Entry}
use Rattle.journal_rules.specs.History.{history}
use Rattle.turn_rules.specs.Turns.{entry_by}
use Rattle.project_histories.specs.Handing.{left_of, shown_item}
use Rattle.project_histories.proofs.Histories.{few_items, histories_handed, histories_same, placed_known, place_there, unplaced_unknown}
use Rattle.book.proofs.Booking.{quiet_by}
use Rattle.book.proofs.Handing.{left_here, may_hand}
use Rattle.book.proofs.Roomed.{roomed_quiet_by}
use Rattle.book.proofs.Stored.{keeps_by}
use Rattle.turn_rules.proofs.Owning.{own_other, owned_by}
use Rattle.book.proofs.book.Book.hand_history.Goals as goal

pub returns-in_default-clause-refused : goal.returns-in_default-clause-refused
returns-in_default-clause-refused g c =
    let s = c.self.inside in
    rw (← c.self.view_is) (unplaced_unknown c.args.project.now s.projects (entries s.journal) c.self.invariant.histories (sym c.find.ensures ∙ c.in_default.is))

pub returns-in_default-copy-clause-refused : goal.returns-in_default-copy-clause-refused
returns-in_default-copy-clause-refused g c =
    let s = c.self.inside in
    rw (← c.self.view_is) (placed_known c.args.project.now s.projects (entries s.journal) c.in-Some.place c.self.invariant.histories (sym c.find.ensures ∙ c.in-Some.is))

pub returns-in_default-make_room-clause-refused : goal.returns-in_default-make_room-clause-refused
returns-in_default-make_room-clause-refused g c =
    let s = c.self.inside in
    rw (← c.self.view_is) (placed_known c.args.project.now s.projects (entries s.journal) c.in-Some.place c.self.invariant.histories (sym c.find.ensures ∙ c.in-Some.is))

pub returns-in_default-take-clause-refused : goal.returns-in_default-take-clause-refused
returns-in_default-take-clause-refused g c =
    let s = c.self.inside in
    rw (← c.self.view_is) (placed_known c.args.project.now s.projects (entries s.journal) c.in-Some.place c.self.invariant.histories (sym c.find.ensures ∙ c.in-Some.is))

pub take-requires-clause-within : goal.take-requires-clause-within
take-requires-clause-within g c =
    let s = c.self.inside in
    let x = place_there c.args.project.now s.projects.projects c.in-Some.place (sym c.find.ensures ∙ c.in-Some.is) in
    slice_get_within s.projects.projects c.in-Some.place x.0 x.1

pub take-requires-clause-few : goal.take-requires-clause-few
take-requires-clause-few g c = λ x at.
    let s = c.self.inside in
    let few = few_items s.projects (entries s.journal) c.in-Some.place x c.self.invariant.book.stands.legal c.self.invariant.histories at in
    let value = c.len-length.ensures.value in
    let short = c.len-length.ensures.short in
    let same = ap length c.make_room.ensures.entries in
    omega (arith, few, value, short, same)

pub invariant_of-self-2 : goal.invariant_of-self-2
invariant_of-self-2 g c =
    let s = c.self.inside in
    let j = entries s.journal in
    let p = c.args.project.now in
    let at = sym c.find.ensures ∙ c.in-Some.is in
    let x = place_there p s.projects.projects c.in-Some.place at in
    let t = c.in-Ok-take.ensures.rest in
    let items = c.in-Ok-take.ensures.taken x.0 x.1 in
    let count = c.len-count.ensures ∙ c.in-Ok-take.items.ok.0 ∙ ap length items in
    let left = left_here p s.projects j c.in-Some.place x.0 c.self.invariant.histories x.1 x.2 in
    let entry : c.entry_of.result ≡ entry_by c.args.by.seat c.args.by.line (Handed p c.len-count.result) = c.entry_of.ensures ∙ ap (λ n. entry_by c.args.by.seat c.args.by.line (Handed n c.len-count.result)) c.in-Ok.ensures in
    record {
      book = quiet_by s.journal c.make_room.new.journal c.push.new.self s.documents.items s.moment s.moment s.tokens s.owed s.drivers c.in-Ok-make_room._sum c.args.by.seat c.args.by.line (Handed p c.len-count.result) c.entry_of.result entry
          c.self.invariant.book c.make_room.ensures.entries c.in-Ok-make_room.ensures.room c.push.ensures.entries c.push.ensures.spare
          (may_hand p s.projects j c.in-Some.place c.args.n c.len-count.result c.self.invariant.histories at (count ∙ ap (λ l. length (take c.args.n l)) left)) tt refl refl c.self.invariant.book.now_low;
      roomed = roomed_quiet_by s.rooms j (entries c.make_room.new.journal) (entries c.push.new.self) c.args.by.seat c.args.by.line (Handed p c.len-count.result) c.entry_of.result entry c.make_room.ensures.entries c.push.ensures.entries c.self.invariant.book.stands.legal tt refl (λ d. refl) c.self.invariant.roomed;
      keeps = keeps_by j (entries c.make_room.new.journal) (entries c.push.new.self) c.args.by.seat c.args.by.line (Handed p c.len-count.result) c.entry_of.result entry c.make_room.ensures.entries c.push.ensures.entries (λ d o. refl) refl tt c.self.invariant.keeps;
      histories = histories_same c.take.new.self (j ++ c.entry_of.result ∷ []) (entries c.push.new.self) (c.push.ensures.entries ∙ ap (λ l. l ++ c.entry_of.result ∷ []) c.make_room.ensures.entries)
          (histories_handed s.projects c.take.new.self j c.entry_of.result p c.args.n c.len-count.result c.in-Some.place c.self.invariant.book.stands.legal (ap (λ (e : Entry). e.act) entry) at t (c.len-count.ensures ∙ c.in-Ok-take.items.ok.0 ∙ ap length (c.in-Ok-take.ensures.taken t.was t.at)) c.self.invariant.histories);
      owned = owned_by j (entries c.make_room.new.journal) (entries c.push.new.self) c.args.by.seat c.args.by.line (Handed p c.len-count.result) c.entry_of.result entry c.make_room.ensures.entries c.push.ensures.entries (own_other j c.args.by.seat (Handed p c.len-count.result) refl refl) c.self.invariant.owned;
    }

pub returns-clause-items : goal.returns-clause-items
returns-clause-items g c =
    let s = c.self.inside in
    let j = entries s.journal in
    let p = c.args.project.now in
    let x = place_there p s.projects.projects c.in-Some.place (sym c.find.ensures ∙ c.in-Some.is) in
    let left = left_here p s.projects j c.in-Some.place x.0 c.self.invariant.histories x.1 x.2 in
    rw (← c.self.view_is) (c.in-Ok-take.ensures.taken x.0 x.1 ∙ ap (take c.args.n) left ∙ take-map shown_item c.args.n (history p j))

pub returns-clause-ok : goal.returns-clause-ok
returns-clause-ok g c =
    let s = c.self.inside in
    let j = entries s.journal in
    let p = c.args.project.now in
    let at = sym c.find.ensures ∙ c.in-Some.is in
    let x = place_there p s.projects.projects c.in-Some.place at in
    let left = left_here p s.projects j c.in-Some.place x.0 c.self.invariant.histories x.1 x.2 in
    let count : c.len-count.result ≡ min c.args.n (length (history p j)) =
    c.len-count.ensures ∙ c.in-Ok-take.items.ok.0 ∙ ap length (c.in-Ok-take.ensures.taken x.0 x.1 ∙ ap (take c.args.n) left) ∙ length-take c.args.n (left_of p j) ∙ ap (min c.args.n) (length-map (history p j) shown_item) in
    let entry = c.entry_of.ensures ∙ ap₂ (λ n k. entry_by c.args.by.seat c.args.by.line (Handed n k)) c.in-Ok.ensures count in
    rw (← c.self.view_is) (
      placed_known p s.projects j c.in-Some.place c.self.invariant.histories at,
      ap (λ l. record { journal = l; drivers = s.drivers; documents = g.K.Keeper.documents s.keeper; faults = g.K.Keeper.count s.keeper; start = record { faults = g.K.Keeper.count s.first.value; documents = g.K.Keeper.documents s.first.value } }) (c.push.ensures.entries ∙ ap₂ (λ (l : List Entry) (e : Entry). l ++ e ∷ []) c.make_room.ensures.entries entry),
    )
