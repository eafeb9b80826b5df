use Rattle.std.proofs.Common.{◌≡◌, ◌∙◌, List, [], ◌∷◌, ◌++◌, refl, sym, ap, ap₂, subst, arith}
use Rattle.std.specs.Prelude.{slice_get, Some, None}
use Rattle.journal_entries.specs.Journals.{entries}
use Rattle.journal_entries.specs.declared.message.Msg.{Msg}
use Rattle.journal_entries.specs.declared.act.Act.TheVariants.{Got}
use Rattle.journal_entries.specs.declared.act.Entry.{Entry}
use Rattle.journal_rules.specs.Client as rules
use Rattle.journal_rules.specs.Mail.{mail}
use Rattle.journal_rules.specs.Legal.{brief_of}
use Rattle.journal_sizes.proofs.Mail.{mail_sized}
use Rattle.mail_places.specs.Places.{told_at}
use Rattle.book.specs.Roomed.{IsClientOf}
use Rattle.book.specs.Shown.{Shown}
use Rattle.book.proofs.Booking.{quiet_by}
use Rattle.project_histories.proofs.Lists.{same_item}
use Rattle.book.proofs.Roomed.{first_told, none_told, roomed_got, roomed_same, sourced_if_told}
use Rattle.book.proofs.Serving.{got_client, may_get}
use Rattle.project_histories.proofs.Histories.{histories_by}
use Rattle.book.proofs.Stored.{keeps_by}
use Rattle.turn_rules.proofs.Owning.{own_client, owned_by}
use Rattle.turn_rules.specs.Owning.{MayWriteFor}
use Rattle.book.proofs.book.Book.receive.Goals as goal

pub returns-in_default-clause-first : goal.returns-in_default-clause-first
returns-in_default-clause-first g c =
    let none = none_told c.self.inside.rooms (entries c.self.inside.journal) c.client-number.result c.self.invariant.book.stands.legal c.self.invariant.roomed (sym c.next.ensures ∙ c.in_default.is) in
    rw (← c.self.view_is) (sym (ap (λ (l : List Msg). slice_get l 0) (ap (λ n. mail n (entries c.self.inside.journal)) (sym c.client-number.ensures) ∙ none)))

pub unreachable-requires : goal.unreachable-requires
unreachable-requires g c = sourced_if_told c.self.inside.rooms c.client-number.result c.in-Some.place (sym c.next.ensures ∙ c.in-Some.is) (sym c.source.ensures ∙ c.in_default-source.is)

pub unreachable-requires-in_default-2 : goal.unreachable-requires-in_default-2
unreachable-requires-in_default-2 g c =
    let j = entries c.self.inside.journal in
    let told = first_told c.self.inside.rooms j c.client-number.result c.in-Some.place c.in-Some-source.source c.self.invariant.book.stands.legal c.self.invariant.roomed (sym c.next.ensures ∙ c.in-Some.is) (sym c.source.ensures ∙ c.in-Some-source.is) in
    let f : None ≡ Some told.0 = sym c.in_default-2.is ∙ c.in_ok-message.ensures ∙ ap (λ l. told_at l c.in-Some-source.source c.in-Some.place) c.as_slice-entries.ensures ∙ told.2 in
    absurd (cc)

pub on_message-requires : goal.on_message-requires
on_message-requires g c = record {
  sized = λ alive. (
      let j = entries c.self.inside.journal in
      let own : IsClientOf j c.args.client.now = subst (λ (v : Shown). IsClientOf v.journal c.args.client.now) (sym c.self.view_is) c.requires.client in
      let told = first_told c.self.inside.rooms j c.client-number.result c.in-Some.place c.in-Some-source.source c.self.invariant.book.stands.legal c.self.invariant.roomed (sym c.next.ensures ∙ c.in-Some.is) (sym c.source.ensures ∙ c.in-Some-source.is) in
      let message : told.0 ≡ c.in-Some-2.message = same_item told.0 c.in-Some-2.message (sym told.2 ∙ sym (ap (λ l. told_at l c.in-Some-source.source c.in-Some.place) c.as_slice-entries.ensures) ∙ sym c.in_ok-message.ensures ∙ c.in-Some-2.is) in
      let first : mail c.client-number.result j ≡ c.in-Some-2.message ∷ told.1 = told.3 ∙ ap (λ m. m ∷ told.1) message in
      let few = c.len-length.ensures.short in
      let len = c.len-length.ensures.value in
      mail_sized c.args.client.now.client j c.in-Some-2.message told.1 c.self.invariant.book.stands.legal (omega (arith, few, len)) (ap (λ (s : rules.Client). rules.is_alive s.state) (sym own) ∙ alive) (ap (λ n. mail n j) (sym c.client-number.ensures) ∙ first)
      );
}

pub invariant_of-self-2 : goal.invariant_of-self-2
invariant_of-self-2 g c =
    let s = c.self.inside in
    let j = entries s.journal in
    let told = first_told c.self.inside.rooms j c.client-number.result c.in-Some.place c.in-Some-source.source c.self.invariant.book.stands.legal c.self.invariant.roomed (sym c.next.ensures ∙ c.in-Some.is) (sym c.source.ensures ∙ c.in-Some-source.is) in
    let message : told.0 ≡ c.in-Some-2.message = same_item told.0 c.in-Some-2.message (sym told.2 ∙ sym (ap (λ l. told_at l c.in-Some-source.source c.in-Some.place) c.as_slice-entries.ensures) ∙ sym c.in_ok-message.ensures ∙ c.in-Some-2.is) in
    let first : mail c.client-number.result j ≡ c.in-Some-2.message ∷ told.1 = told.3 ∙ ap (λ m. m ∷ told.1) message in
    let act : c.entry_of.result ≡ record { seat = c.args.by.seat; line = c.args.by.line; act = Got c.client-number.result (brief_of c.in-Some-2.message) } = c.entry_of.ensures ∙ ap (λ b. record { seat = c.args.by.seat; line = c.args.by.line; act = Got c.client-number.result b }) c.brief-brief.ensures in
    let writes : MayWriteFor s.drivers j c.args.by.seat c.args.client.now.client = subst (λ (v : Shown). MayWriteFor v.drivers v.journal c.args.by.seat c.args.client.now.client) (sym c.self.view_is) c.requires.owner in
    record {
      book = quiet_by s.journal c.make_room.new.journal c.push.new.self s.documents.items s.moment s.moment s.tokens s.owed s.drivers c.in_ok-_sum._sum c.args.by.seat c.args.by.line (Got c.client-number.result (brief_of c.in-Some-2.message)) c.entry_of.result act
          c.self.invariant.book c.make_room.ensures.entries c.in_ok-_sum.ensures.room c.push.ensures.entries c.push.ensures.spare (may_get j c.args.by.seat c.client-number.result c.in-Some-2.message told.1 first) tt refl refl c.self.invariant.book.now_low;
      roomed = roomed_same c.pop-place.new.self (j ++ c.entry_of.result ∷ []) (entries c.push.new.self) (c.push.ensures.entries ∙ ap (λ l. l ++ c.entry_of.result ∷ []) c.make_room.ensures.entries)
          (roomed_got s.rooms c.pop-place.new.self j c.entry_of.result c.client-number.result (brief_of c.in-Some-2.message) c.self.invariant.book.stands.legal (ap (λ (e : Entry). e.act) act) c.pop-place.ensures.rest c.self.invariant.roomed);
      keeps = keeps_by j (entries c.make_room.new.journal) (entries c.push.new.self) c.args.by.seat c.args.by.line (Got c.client-number.result (brief_of c.in-Some-2.message)) c.entry_of.result act c.make_room.ensures.entries c.push.ensures.entries (λ d o. refl) refl tt c.self.invariant.keeps;
      histories = histories_by s.projects j (entries c.make_room.new.journal) (entries c.push.new.self) c.args.by.seat c.args.by.line (Got c.client-number.result (brief_of c.in-Some-2.message)) c.entry_of.result act c.make_room.ensures.entries c.push.ensures.entries c.self.invariant.book.stands.legal refl (λ p. refl) (λ p. refl) c.self.invariant.histories;
      owned = owned_by j (entries c.make_room.new.journal) (entries c.push.new.self) c.args.by.seat c.args.by.line (Got c.client-number.result (brief_of c.in-Some-2.message)) c.entry_of.result act c.make_room.ensures.entries c.push.ensures.entries (own_client j c.args.by.seat c.args.client.now.client (Got c.client-number.result (brief_of c.in-Some-2.message)) (ap (λ n. Some n) c.client-number.ensures) refl writes) c.self.invariant.owned;
    }

pub returns-clause-first : goal.returns-clause-first
returns-clause-first g c =
    let j = entries c.self.inside.journal in
    let told = first_told c.self.inside.rooms j c.client-number.result c.in-Some.place c.in-Some-source.source c.self.invariant.book.stands.legal c.self.invariant.roomed (sym c.next.ensures ∙ c.in-Some.is) (sym c.source.ensures ∙ c.in-Some-source.is) in
    let message : told.0 ≡ c.in-Some-2.message = same_item told.0 c.in-Some-2.message (sym told.2 ∙ sym (ap (λ l. told_at l c.in-Some-source.source c.in-Some.place) c.as_slice-entries.ensures) ∙ sym c.in_ok-message.ensures ∙ c.in-Some-2.is) in
    let first : mail c.client-number.result j ≡ c.in-Some-2.message ∷ told.1 = told.3 ∙ ap (λ m. m ∷ told.1) message in
    rw (← c.self.view_is) (sym (ap (λ (l : List Msg). slice_get l 0) (ap (λ n. mail n j) (sym c.client-number.ensures) ∙ first)))

pub returns-clause-client : goal.returns-clause-client
returns-clause-client g c =
    let j = entries c.self.inside.journal in
    let own : IsClientOf j c.args.client.now = subst (λ (v : Shown). IsClientOf v.journal c.args.client.now) (sym c.self.view_is) c.requires.client in
    let told = first_told c.self.inside.rooms j c.client-number.result c.in-Some.place c.in-Some-source.source c.self.invariant.book.stands.legal c.self.invariant.roomed (sym c.next.ensures ∙ c.in-Some.is) (sym c.source.ensures ∙ c.in-Some-source.is) in
    let message : told.0 ≡ c.in-Some-2.message = same_item told.0 c.in-Some-2.message (sym told.2 ∙ sym (ap (λ l. told_at l c.in-Some-source.source c.in-Some.place) c.as_slice-entries.ensures) ∙ sym c.in_ok-message.ensures ∙ c.in-Some-2.is) in
    let first : mail c.client-number.result j ≡ c.in-Some-2.message ∷ told.1 = told.3 ∙ ap (λ m. m ∷ told.1) message in
    got_client j (entries c.push.new.self) c.entry_of.result c.args.client.now c.on_message.new.self c.in-Some-2.message told.1 (c.push.ensures.entries ∙ ap (λ l. l ++ c.entry_of.result ∷ []) c.make_room.ensures.entries)
    (ap (λ (e : Entry). e.act) c.entry_of.ensures ∙ ap₂ (λ n b. Got n b) c.client-number.ensures c.brief-brief.ensures) (ap (λ n. mail n j) (sym c.client-number.ensures) ∙ first) own c.in_ok-on_message.ensures.ok
