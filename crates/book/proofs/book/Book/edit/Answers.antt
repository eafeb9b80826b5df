use Rattle.std.proofs.Common.{◌≡◌, ◌∙◌, [], ◌∷◌, ◌++◌, refl, sym, ap, subst}
use Rattle.std.specs.Prelude.{Some}
use Rattle.journal_entries.specs.Journals.{entries}
use Rattle.journal_entries.specs.declared.act.Act.TheVariants.{Edited}
use Rattle.journal_entries.specs.declared.act.Entry.{Entry}
use Rattle.journal_rules.specs.Legal.{IsAllowed}
use Rattle.share_client.specs.Clients.{Numbered}
use Rattle.book.specs.Roomed.{IsClientOf}
use Rattle.book.specs.Shown.{Shown}
use Rattle.book.proofs.Booking.{quiet_by}
use Rattle.book.proofs.Roomed.{roomed_quiet_by}
use Rattle.book.proofs.Serving.{edited_client, may_edit}
use Rattle.project_histories.proofs.Histories.{histories_by}
use Rattle.book.proofs.Stored.{keeps_by}
use Rattle.turn_rules.proofs.Owning.{own_client, owned_by}
use Rattle.turn_rules.specs.Owning.{MayWriteFor}
use Rattle.book.proofs.book.Book.edit.Goals as goal

pub invariant_of-self-2 : goal.invariant_of-self-2
invariant_of-self-2 g c =
    let s = c.self.inside in
    let j = entries s.journal in
    let own : IsClientOf j c.args.client.now = subst (λ (v : Shown). IsClientOf v.journal c.args.client.now) (sym c.self.view_is) c.requires.client in
    let ok = c.in_ok-comp.ensures.ok in
    let number : c.args.client.now.client ≡ c.client-client.result = sym (c.client-client.ensures ∙ ap (λ (x : Numbered). x.client) ok.2) in
    let writes : MayWriteFor s.drivers j c.args.by.seat c.args.client.now.client = subst (λ (v : Shown). MayWriteFor v.drivers v.journal c.args.by.seat c.args.client.now.client) (sym c.self.view_is) c.requires.owner in
    record {
      book = quiet_by s.journal c.make_room.new.journal c.push.new.self s.documents.items s.moment s.moment s.tokens s.owed s.drivers c.in-Ok._sum c.args.by.seat c.args.by.line (Edited c.client-client.result c.in_ok-comp.comp) c.entry_of.result c.entry_of.ensures
          c.self.invariant.book c.make_room.ensures.entries c.in-Ok.ensures.room c.push.ensures.entries c.push.ensures.spare (subst (λ n. IsAllowed j c.args.by.seat (Edited n c.in_ok-comp.comp)) number (subst (λ x. IsAllowed j c.args.by.seat (Edited c.args.client.now.client x)) (sym ok.0) (may_edit j c.args.by.seat c.args.client.now c.args.edit.now own c.requires.edit ok.1))) tt refl refl c.self.invariant.book.now_low;
      roomed = roomed_quiet_by s.rooms j (entries c.make_room.new.journal) (entries c.push.new.self) c.args.by.seat c.args.by.line (Edited c.client-client.result c.in_ok-comp.comp) c.entry_of.result c.entry_of.ensures c.make_room.ensures.entries c.push.ensures.entries c.self.invariant.book.stands.legal tt refl (λ d. refl) c.self.invariant.roomed;
      keeps = keeps_by j (entries c.make_room.new.journal) (entries c.push.new.self) c.args.by.seat c.args.by.line (Edited c.client-client.result c.in_ok-comp.comp) c.entry_of.result c.entry_of.ensures c.make_room.ensures.entries c.push.ensures.entries (λ d o. refl) refl tt c.self.invariant.keeps;
      histories = histories_by s.projects j (entries c.make_room.new.journal) (entries c.push.new.self) c.args.by.seat c.args.by.line (Edited c.client-client.result c.in_ok-comp.comp) c.entry_of.result c.entry_of.ensures c.make_room.ensures.entries c.push.ensures.entries c.self.invariant.book.stands.legal refl (λ p. refl) (λ p. refl) c.self.invariant.histories;
      owned = owned_by j (entries c.make_room.new.journal) (entries c.push.new.self) c.args.by.seat c.args.by.line (Edited c.client-client.result c.in_ok-comp.comp) c.entry_of.result c.entry_of.ensures c.make_room.ensures.entries c.push.ensures.entries (own_client j c.args.by.seat c.args.client.now.client (Edited c.client-client.result c.in_ok-comp.comp) (ap (λ n. Some n) (sym number)) refl writes) c.self.invariant.owned;
    }

pub returns-clause-client : goal.returns-clause-client
returns-clause-client g c =
    let s = c.self.inside in
    let j = entries s.journal in
    let own : IsClientOf j c.args.client.now = subst (λ (v : Shown). IsClientOf v.journal c.args.client.now) (sym c.self.view_is) c.requires.client in
    edited_client j (entries c.push.new.self) c.entry_of.result c.args.client.now c.edit.new.self c.in_ok-comp.comp (c.push.ensures.entries ∙ ap (λ l. l ++ c.entry_of.result ∷ []) c.make_room.ensures.entries) (ap (λ (x : Entry). x.act) c.entry_of.ensures ∙ ap (λ n. Edited n c.in_ok-comp.comp) (c.client-client.ensures ∙ ap (λ (x : Numbered). x.client) c.in_ok-comp.ensures.ok.2)) own c.in_ok-comp.ensures.ok.2
