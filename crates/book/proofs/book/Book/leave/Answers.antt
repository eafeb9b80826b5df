use Rattle.std.proofs.Common.{◌≡◌, ◌∙◌, [], ◌∷◌, ◌++◌, refl, sym, ap, subst}
use Rattle.std.specs.Prelude.{Some, true}
use Rattle.journal_entries.specs.Journals.{entries}
use Rattle.journal_entries.specs.declared.act.Act.TheVariants.{Left}
use Rattle.journal_entries.specs.declared.act.Entry.{Entry}
use Rattle.journal_rules.specs.Legal.{IsAllowed}
use Rattle.turn_rules.specs.Clients.{is_present}
use Rattle.book.specs.Roomed.{IsClientOf}
use Rattle.book.specs.Shown.{Shown}
use Rattle.book.proofs.Booking.{quiet_by}
use Rattle.book.proofs.Roomed.{roomed_left, roomed_same}
use Rattle.book.proofs.Serving.{left_client, may_leave}
use Rattle.project_histories.proofs.Histories.{histories_by}
use Rattle.book.proofs.Stored.{keeps_by}
use Rattle.turn_rules.proofs.Owning.{own_client, owned_by}
use Rattle.turn_rules.specs.Owning.{MayWriteFor}
use Rattle.book.proofs.book.Book.leave.Goals as goal

pub invariant_of-self-2 : goal.invariant_of-self-2
invariant_of-self-2 g c =
    let s = c.self.inside in
    let j = entries s.journal in
    let own : IsClientOf j c.args.client.now = subst (λ (v : Shown). IsClientOf v.journal c.args.client.now) (sym c.self.view_is) c.requires.client in
    let there : is_present c.args.client.now.now.state ≡ true = ap is_present (sym c.state.ensures) ∙ sym c.present.ensures ∙ c.if-not-present.false in
    let writes : MayWriteFor s.drivers j c.args.by.seat c.args.client.now.client = subst (λ (v : Shown). MayWriteFor v.drivers v.journal c.args.by.seat c.args.client.now.client) (sym c.self.view_is) c.requires.owner in
    record {
      book = quiet_by s.journal c.make_room.new.journal c.push.new.self s.documents.items s.moment s.moment s.tokens s.owed s.drivers c.in-Ok._sum c.args.by.seat c.args.by.line (Left c.client-number.result) c.entry_of.result c.entry_of.ensures
          c.self.invariant.book c.make_room.ensures.entries c.in-Ok.ensures.room c.push.ensures.entries c.push.ensures.spare (subst (λ n. IsAllowed j c.args.by.seat (Left n)) (sym c.client-number.ensures) (may_leave j c.args.by.seat c.args.client.now own there)) tt refl refl c.self.invariant.book.now_low;
      roomed = roomed_same c.leave.new.self (j ++ c.entry_of.result ∷ []) (entries c.push.new.self) (c.push.ensures.entries ∙ ap (λ l. l ++ c.entry_of.result ∷ []) c.make_room.ensures.entries)
          (roomed_left s.rooms c.leave.new.self j c.entry_of.result c.client-number.result c.self.invariant.book.stands.legal (ap (λ (e : Entry). e.act) c.entry_of.ensures) c.leave.ensures c.self.invariant.roomed);
      keeps = keeps_by j (entries c.make_room.new.journal) (entries c.push.new.self) c.args.by.seat c.args.by.line (Left c.client-number.result) c.entry_of.result c.entry_of.ensures c.make_room.ensures.entries c.push.ensures.entries (λ d o. refl) refl tt c.self.invariant.keeps;
      histories = histories_by s.projects j (entries c.make_room.new.journal) (entries c.push.new.self) c.args.by.seat c.args.by.line (Left c.client-number.result) c.entry_of.result c.entry_of.ensures c.make_room.ensures.entries c.push.ensures.entries c.self.invariant.book.stands.legal refl (λ p. refl) (λ p. refl) c.self.invariant.histories;
      owned = owned_by j (entries c.make_room.new.journal) (entries c.push.new.self) c.args.by.seat c.args.by.line (Left c.client-number.result) c.entry_of.result c.entry_of.ensures c.make_room.ensures.entries c.push.ensures.entries (own_client j c.args.by.seat c.args.client.now.client (Left c.client-number.result) (ap (λ n. Some n) c.client-number.ensures) refl writes) c.self.invariant.owned;
    }

pub returns-clause-client : goal.returns-clause-client
returns-clause-client g c =
    let s = c.self.inside in
    let j = entries s.journal in
    let own : IsClientOf j c.args.client.now = subst (λ (v : Shown). IsClientOf v.journal c.args.client.now) (sym c.self.view_is) c.requires.client in
    left_client j (entries c.push.new.self) c.entry_of.result c.args.client.now c.left.new.self (c.push.ensures.entries ∙ ap (λ l. l ++ c.entry_of.result ∷ []) c.make_room.ensures.entries)
    (ap (λ (e : Entry). e.act) c.entry_of.ensures ∙ ap (λ n. Left n) c.client-number.ensures) own c.left.ensures
