use Rattle.std.proofs.Common.{rules, ◌≡◌, ◌+◌, ◌∙◌, List, [], ◌∷◌, ◌++◌, length, refl, sym, ap, ap₂, subst, arith}
use Rattle.std.specs.Prelude.{All, slice_get, Some, None}
use Rattle.std.specs.Option.{option_copied}
use Rattle.journal_entries.specs.Journals.{entries}
use Rattle.journal_entries.specs.declared.act.Act.TheVariants.{Joined}
use Rattle.journal_entries.specs.declared.limits.TheConstants.{FIRST_SOURCE}
use Rattle.turn_rules.specs.Turns.{entry_by}
use Rattle.turn_rules.specs.Clients.{back_act}
use Rattle.journal_entries.specs.declared.act.Entry.{Entry}
use Rattle.journal_rules.specs.declared.state.ClientState.TheVariants.{Left}
use Rattle.journal_rules.specs.Client.{Client, back_under}
use Rattle.journal_rules.specs.Documents.{version}
use Rattle.journal_rules.specs.Legal.{IsReturning, source_at}
use Rattle.journal_sizes.specs.Sizes.{IsSized}
use Rattle.mail_places.specs.Places.{placed}
use Rattle.mail_places.proofs.Rooming.{roomed}
use Rattle.share_client.specs.declared.returning.Missed.{Missed}
use Rattle.share_client.specs.Returning.{with_all}
use Rattle.book.specs.Calls.{MayReturn}
use Rattle.book.specs.Roomed.{IsClientOf}
use Rattle.book.specs.Shown.{Shown}
use Rattle.book.specs.Passing.{missed_by}
use Rattle.book.specs.Standing.{IsDocument, IsWindowOf}
use Rattle.book.proofs.Booking.{quiet_by, same_book}
use Rattle.book.proofs.Lists.{none_within}
use Rattle.book.proofs.Rejoining.{left_doc, left_high, left_told, may_return, missed_caught, missed_sized}
use Rattle.book.proofs.Roomed.{roomed_again, roomed_joined, roomed_same}
use Rattle.book.proofs.Serving.{returned_client}
use Rattle.project_histories.proofs.Histories.{histories_by, histories_same}
use Rattle.book.proofs.Stored.{keeps_by, keeps_same}
use Rattle.turn_rules.proofs.Owning.{own_client, owned_by, owned_same}
use Rattle.turn_rules.specs.Owning.{MayWriteFor}
use Rattle.book.proofs.book.Book.rejoin.Goals as goal

pub unreachable-requires-in_default-get : goal.unreachable-requires-in_default-get
unreachable-requires-in_default-get g c =
    let s = c.self.inside in
    let j = entries s.journal in
    let was = c.args.client.now in
    let own : IsClientOf j was = subst (λ (v : Shown). IsClientOf v.journal was) (sym c.self.view_is) c.requires.client in
    let left : was.now.state ≡ Left = search (rules, c.state.ensures, c.ne.ensures, c.if-ne.false) in
    let doc : c.in-Some-Some-Some.doc ≡ was.now.doc = left_told was.now.state was.now.doc c.in-Some-Some-Some.doc c.doc.result left c.doc.ensures c.in-Some-Some-Some.is-0 in
    let made = left_doc j was c.self.invariant.book.stands.legal own left in
    let count = c.self.invariant.book.stands.count in
    let none : slice_get s.documents.items c.in-Some-Some-Some.doc ≡ None = sym c.get.ensures ∙ ap option_copied c.in_default-get.is in
    let high = none_within s.documents.items c.in-Some-Some-Some.doc none in
    absurd (omega (arith, made, count, doc, high))

pub overflow_sub-version : goal.overflow_sub-version
overflow_sub-version g c =
    let s = c.self.inside in
    let j = entries s.journal in
    let was = c.args.client.now in
    let own : IsClientOf j was = subst (λ (v : Shown). IsClientOf v.journal was) (sym c.self.view_is) c.requires.client in
    let left : was.now.state ≡ Left = search (rules, c.state.ensures, c.ne.ensures, c.if-ne.false) in
    let doc : c.in-Some-Some-Some.doc ≡ was.now.doc = left_told was.now.state was.now.doc c.in-Some-Some-Some.doc c.doc.result left c.doc.ensures c.in-Some-Some-Some.is-0 in
    let x = c.in-Some.document.now in
    let at : slice_get s.documents.items c.in-Some-Some-Some.doc ≡ Some x = sym c.get.ensures ∙ ap option_copied c.in-Some.is in
    let here : IsDocument c.in-Some-Some-Some.doc x j = c.self.invariant.book.stands.each c.in-Some-Some-Some.doc x at in
    let v : c.version-version.result ≡ version was.now.doc j = c.version-version.ensures ∙ here.window_is.version_is ∙ ap (λ d. version d j) doc in
    let since = c.version-since.ensures in
    let high = left_high j was c.self.invariant.book.stands.legal own left in
    omega (arith, v, since, high)

pub returns-then-version-since-gt-MAX_AGE-clause-refused : goal.returns-then-version-since-gt-MAX_AGE-clause-refused
returns-then-version-since-gt-MAX_AGE-clause-refused g c =
    let s = c.self.inside in
    let j = entries s.journal in
    let was = c.args.client.now in
    let own : IsClientOf j was = subst (λ (v : Shown). IsClientOf v.journal was) (sym c.self.view_is) c.requires.client in
    let left : was.now.state ≡ Left = search (rules, c.state.ensures, c.ne.ensures, c.if-ne.false) in
    let doc : c.in-Some-Some-Some.doc ≡ was.now.doc = left_told was.now.state was.now.doc c.in-Some-Some-Some.doc c.doc.result left c.doc.ensures c.in-Some-Some-Some.is-0 in
    let x = c.in-Some.document.now in
    let at : slice_get s.documents.items c.in-Some-Some-Some.doc ≡ Some x = sym c.get.ensures ∙ ap option_copied c.in-Some.is in
    let here : IsDocument c.in-Some-Some-Some.doc x j = c.self.invariant.book.stands.each c.in-Some-Some-Some.doc x at in
    let v : c.version-version.result ≡ version was.now.doc j = c.version-version.ensures ∙ here.window_is.version_is ∙ ap (λ d. version d j) doc in
    let since = c.version-since.ensures in
    let test = c.if-version-since-gt-MAX_AGE.true in
    rw (← c.self.view_is) (left, omega (arith, since, test), v)

pub returns-in_default-2-clause-refused : goal.returns-in_default-2-clause-refused
returns-in_default-2-clause-refused g c =
    let s = c.self.inside in
    let j = entries s.journal in
    let was = c.args.client.now in
    let own : IsClientOf j was = subst (λ (v : Shown). IsClientOf v.journal was) (sym c.self.view_is) c.requires.client in
    let left : was.now.state ≡ Left = search (rules, c.state.ensures, c.ne.ensures, c.if-ne.false) in
    let doc : c.in-Some-Some-Some.doc ≡ was.now.doc = left_told was.now.state was.now.doc c.in-Some-Some-Some.doc c.doc.result left c.doc.ensures c.in-Some-Some-Some.is-0 in
    let x = c.in-Some.document.now in
    let at : slice_get s.documents.items c.in-Some-Some-Some.doc ≡ Some x = sym c.get.ensures ∙ ap option_copied c.in-Some.is in
    let here : IsDocument c.in-Some-Some-Some.doc x j = c.self.invariant.book.stands.each c.in-Some-Some-Some.doc x at in
    let v : c.version-version.result ≡ version was.now.doc j = c.version-version.ensures ∙ here.window_is.version_is ∙ ap (λ d. version d j) doc in
    let since = c.version-since.ensures in
    let test = c.if-version-since-gt-MAX_AGE.false in
    let may : MayReturn was.now j = (left, omega (arith, v, since, test)) in
    rw (← c.self.view_is) may

pub returns-in_default-make_room-clause-refused : goal.returns-in_default-make_room-clause-refused
returns-in_default-make_room-clause-refused g c =
    let s = c.self.inside in
    let j = entries s.journal in
    let was = c.args.client.now in
    let own : IsClientOf j was = subst (λ (v : Shown). IsClientOf v.journal was) (sym c.self.view_is) c.requires.client in
    let left : was.now.state ≡ Left = search (rules, c.state.ensures, c.ne.ensures, c.if-ne.false) in
    let doc : c.in-Some-Some-Some.doc ≡ was.now.doc = left_told was.now.state was.now.doc c.in-Some-Some-Some.doc c.doc.result left c.doc.ensures c.in-Some-Some-Some.is-0 in
    let x = c.in-Some.document.now in
    let at : slice_get s.documents.items c.in-Some-Some-Some.doc ≡ Some x = sym c.get.ensures ∙ ap option_copied c.in-Some.is in
    let here : IsDocument c.in-Some-Some-Some.doc x j = c.self.invariant.book.stands.each c.in-Some-Some-Some.doc x at in
    let v : c.version-version.result ≡ version was.now.doc j = c.version-version.ensures ∙ here.window_is.version_is ∙ ap (λ d. version d j) doc in
    let since = c.version-since.ensures in
    let test = c.if-version-since-gt-MAX_AGE.false in
    let may : MayReturn was.now j = (left, omega (arith, v, since, test)) in
    rw (← c.self.view_is) may

pub returns-in_default-join_with_room-clause-refused : goal.returns-in_default-join_with_room-clause-refused
returns-in_default-join_with_room-clause-refused g c =
    let s = c.self.inside in
    let j = entries s.journal in
    let was = c.args.client.now in
    let own : IsClientOf j was = subst (λ (v : Shown). IsClientOf v.journal was) (sym c.self.view_is) c.requires.client in
    let left : was.now.state ≡ Left = search (rules, c.state.ensures, c.ne.ensures, c.if-ne.false) in
    let doc : c.in-Some-Some-Some.doc ≡ was.now.doc = left_told was.now.state was.now.doc c.in-Some-Some-Some.doc c.doc.result left c.doc.ensures c.in-Some-Some-Some.is-0 in
    let x = c.in-Some.document.now in
    let at : slice_get s.documents.items c.in-Some-Some-Some.doc ≡ Some x = sym c.get.ensures ∙ ap option_copied c.in-Some.is in
    let here : IsDocument c.in-Some-Some-Some.doc x j = c.self.invariant.book.stands.each c.in-Some-Some-Some.doc x at in
    let v : c.version-version.result ≡ version was.now.doc j = c.version-version.ensures ∙ here.window_is.version_is ∙ ap (λ d. version d j) doc in
    let since = c.version-since.ensures in
    let test = c.if-version-since-gt-MAX_AGE.false in
    let may : MayReturn was.now j = (left, omega (arith, v, since, test)) in
    rw (← c.self.view_is) may

pub returns-in_default-caught_up-clause-refused : goal.returns-in_default-caught_up-clause-refused
returns-in_default-caught_up-clause-refused g c =
    let s = c.self.inside in
    let j = entries s.journal in
    let was = c.args.client.now in
    let own : IsClientOf j was = subst (λ (v : Shown). IsClientOf v.journal was) (sym c.self.view_is) c.requires.client in
    let left : was.now.state ≡ Left = search (rules, c.state.ensures, c.ne.ensures, c.if-ne.false) in
    let doc : c.in-Some-Some-Some.doc ≡ was.now.doc = left_told was.now.state was.now.doc c.in-Some-Some-Some.doc c.doc.result left c.doc.ensures c.in-Some-Some-Some.is-0 in
    let x = c.in-Some.document.now in
    let at : slice_get s.documents.items c.in-Some-Some-Some.doc ≡ Some x = sym c.get.ensures ∙ ap option_copied c.in-Some.is in
    let here : IsDocument c.in-Some-Some-Some.doc x j = c.self.invariant.book.stands.each c.in-Some-Some-Some.doc x at in
    let v : c.version-version.result ≡ version was.now.doc j = c.version-version.ensures ∙ here.window_is.version_is ∙ ap (λ d. version d j) doc in
    let since = c.version-since.ensures in
    let test = c.if-version-since-gt-MAX_AGE.false in
    let may : MayReturn was.now j = (left, omega (arith, v, since, test)) in
    rw (← c.self.view_is) may

pub caught_up-requires-clause-sized : goal.caught_up-requires-clause-sized
caught_up-requires-clause-sized g c =
    let s = c.self.inside in
    let j = entries s.journal in
    let was = c.args.client.now in
    let own : IsClientOf j was = subst (λ (v : Shown). IsClientOf v.journal was) (sym c.self.view_is) c.requires.client in
    let left : was.now.state ≡ Left = search (rules, c.state.ensures, c.ne.ensures, c.if-ne.false) in
    let doc : c.in-Some-Some-Some.doc ≡ was.now.doc = left_told was.now.state was.now.doc c.in-Some-Some-Some.doc c.doc.result left c.doc.ensures c.in-Some-Some-Some.is-0 in
    let x = c.in-Some.document.now in
    let at : slice_get s.documents.items c.in-Some-Some-Some.doc ≡ Some x = sym c.get.ensures ∙ ap option_copied c.in-Some.is in
    let here : IsDocument c.in-Some-Some-Some.doc x j = c.self.invariant.book.stands.each c.in-Some-Some-Some.doc x at in
    let v : c.version-version.result ≡ version was.now.doc j = c.version-version.ensures ∙ here.window_is.version_is ∙ ap (λ d. version d j) doc in
    let since = c.version-since.ensures in
    let test = c.if-version-since-gt-MAX_AGE.false in
    let may : MayReturn was.now j = (left, omega (arith, v, since, test)) in
    let window : IsWindowOf was.now.doc x.window j = subst (λ d. IsWindowOf d x.window j) doc here.window_is in
    let items : c.in-Ok-Ok.missed.items ≡ missed_by x.window c.version-since.result = rw c.in-Ok-Ok.is-0 at c.missed_since-missed.ensures in
    let past : c.deref.result.now ≡ missed_by x.window was.now.version = c.deref.ensures.value ∙ items ∙ ap (missed_by x.window) since in
    subst (λ (ms : List Missed). All (λ (m : Missed). IsSized m.op) ms) (sym past) (missed_sized j was c.self.invariant.book.stands.legal own left x.window window may.1)

pub invariant_of-self-in_default-caught_up : goal.invariant_of-self-in_default-caught_up
invariant_of-self-in_default-caught_up g c =
    let s = c.self.inside in
    let j = entries s.journal in
    let was = c.args.client.now in
    let own : IsClientOf j was = subst (λ (v : Shown). IsClientOf v.journal was) (sym c.self.view_is) c.requires.client in
    let left : was.now.state ≡ Left = search (rules, c.state.ensures, c.ne.ensures, c.if-ne.false) in
    let gone : placed c.client-number.result j ≡ None = ap (λ n. placed n j) c.client-number.ensures ∙ (roomed was.client j c.self.invariant.book.stands.legal).left (ap (λ (x : Client). x.state) (sym own) ∙ left) in
    record {
      book = same_book s.journal c.make_room.new.journal s.documents.items s.documents.items s.moment s.tokens s.owed s.drivers c.self.invariant.book refl c.make_room.ensures.entries c.make_room.ensures.kept c.self.invariant.book.stands refl;
      roomed = roomed_same c.leave.new.self j (entries c.make_room.new.journal) c.make_room.ensures.entries
          (roomed_again s.rooms c.join_with_room.new.self c.leave.new.self j c.client-number.result c.in-Some-Some-Some.doc _ _ gone c.in-Ok-join_with_room.ensures.joined c.leave.ensures c.self.invariant.roomed);
      keeps = keeps_same j (entries c.make_room.new.journal) c.make_room.ensures.entries c.self.invariant.keeps;
      histories = histories_same s.projects j (entries c.make_room.new.journal) c.make_room.ensures.entries c.self.invariant.histories;
      owned = owned_same j (entries c.make_room.new.journal) c.make_room.ensures.entries c.self.invariant.owned;
    }

pub invariant_of-self-2 : goal.invariant_of-self-2
invariant_of-self-2 g c =
    let s = c.self.inside in
    let j = entries s.journal in
    let was = c.args.client.now in
    let own : IsClientOf j was = subst (λ (v : Shown). IsClientOf v.journal was) (sym c.self.view_is) c.requires.client in
    let left : was.now.state ≡ Left = search (rules, c.state.ensures, c.ne.ensures, c.if-ne.false) in
    let doc : c.in-Some-Some-Some.doc ≡ was.now.doc = left_told was.now.state was.now.doc c.in-Some-Some-Some.doc c.doc.result left c.doc.ensures c.in-Some-Some-Some.is-0 in
    let x = c.in-Some.document.now in
    let at : slice_get s.documents.items c.in-Some-Some-Some.doc ≡ Some x = sym c.get.ensures ∙ ap option_copied c.in-Some.is in
    let here : IsDocument c.in-Some-Some-Some.doc x j = c.self.invariant.book.stands.each c.in-Some-Some-Some.doc x at in
    let v : c.version-version.result ≡ version was.now.doc j = c.version-version.ensures ∙ here.window_is.version_is ∙ ap (λ d. version d j) doc in
    let since = c.version-since.ensures in
    let test = c.if-version-since-gt-MAX_AGE.false in
    let may : MayReturn was.now j = (left, omega (arith, v, since, test)) in
    let len = c.len-source.ensures.value in
    let same = ap length c.make_room.ensures.entries in
    let number = c.client-number.ensures in
    let source : FIRST_SOURCE + c.len-source.result ≡ source_at j = omega (arith, len, same) in
    let user : c.in-Ok-Ok.user ≡ was.now.user = c.in-Ok-Ok.ensures ∙ left_told was.now.state was.now.user c.in-Some-Some-Some.user.now (option_copied c.user.result) left c.user.ensures (ap option_copied c.in-Some-Some-Some.is-1) in
    let track : c.in-Some-Some-Some.track ≡ was.now.track = left_told was.now.state was.now.track c.in-Some-Some-Some.track c.track.result left c.track.ensures c.in-Some-Some-Some.is-2 in
    let entry : c.entry_of.result ≡ entry_by c.args.by.seat c.args.by.line (back_act was.client was.now j) = c.entry_of.ensures
    ∙ ap₂ (λ n d. entry_by c.args.by.seat c.args.by.line (Joined n d c.in-Ok-Ok.user c.in-Some-Some-Some.track (Some c.version-since.result) (FIRST_SOURCE + c.len-source.result) c.version-version.result)) number doc
    ∙ ap₂ (λ u t. entry_by c.args.by.seat c.args.by.line (Joined was.client was.now.doc u t (Some c.version-since.result) (FIRST_SOURCE + c.len-source.result) c.version-version.result)) user track
    ∙ ap₂ (λ n m. entry_by c.args.by.seat c.args.by.line (Joined was.client was.now.doc was.now.user was.now.track (Some n) m c.version-version.result)) since source
    ∙ ap (λ n. entry_by c.args.by.seat c.args.by.line (Joined was.client was.now.doc was.now.user was.now.track (Some was.now.version) (source_at j) n)) v in
    let row : IsReturning j was.client was.now.doc was.now.user was.now.track was.now.version (source_at j) (version was.now.doc j) = may_return j was c.self.invariant.book.stands.legal own left (source_at j) (version was.now.doc j) may refl refl in
    let waits = c.len-waits.ensures ∙ ap length here.waiting_is in
    let writes : MayWriteFor s.drivers j c.args.by.seat c.args.client.now.client = subst (λ (v : Shown). MayWriteFor v.drivers v.journal c.args.by.seat c.args.client.now.client) (sym c.self.view_is) c.requires.owner in
    record {
      book = quiet_by s.journal c.make_room.new.journal c.push.new.self s.documents.items s.moment s.moment s.tokens s.owed s.drivers c.in-Ok._sum c.args.by.seat c.args.by.line (back_act was.client was.now j) c.entry_of.result entry
          c.self.invariant.book c.make_room.ensures.entries c.in-Ok.ensures.room c.push.ensures.entries c.push.ensures.spare row tt refl refl c.self.invariant.book.now_low;
      roomed = roomed_same c.join_with_room.new.self (j ++ c.entry_of.result ∷ []) (entries c.push.new.self) (c.push.ensures.entries ∙ ap (λ l. l ++ c.entry_of.result ∷ []) c.make_room.ensures.entries)
          (roomed_joined s.rooms c.join_with_room.new.self j c.entry_of.result c.client-number.result c.in-Some-Some-Some.doc c.version-version.result (FIRST_SOURCE + c.len-source.result) c.len-waits.result c.in-Ok-Ok.user c.in-Some-Some-Some.track (Some c.version-since.result) c.self.invariant.book.stands.legal (ap (λ (e : Entry). e.act) c.entry_of.ensures) (omega (arith, waits)) c.in-Ok-join_with_room.ensures.joined c.self.invariant.roomed);
      keeps = keeps_by j (entries c.make_room.new.journal) (entries c.push.new.self) c.args.by.seat c.args.by.line (back_act was.client was.now j) c.entry_of.result entry c.make_room.ensures.entries c.push.ensures.entries (λ d o. refl) refl tt c.self.invariant.keeps;
      histories = histories_by s.projects j (entries c.make_room.new.journal) (entries c.push.new.self) c.args.by.seat c.args.by.line (back_act was.client was.now j) c.entry_of.result entry c.make_room.ensures.entries c.push.ensures.entries c.self.invariant.book.stands.legal refl (λ p. refl) (λ p. refl) c.self.invariant.histories;
      owned = owned_by j (entries c.make_room.new.journal) (entries c.push.new.self) c.args.by.seat c.args.by.line (back_act was.client was.now j) c.entry_of.result entry c.make_room.ensures.entries c.push.ensures.entries (own_client j c.args.by.seat c.args.client.now.client (back_act was.client was.now j) refl refl writes) c.self.invariant.owned;
    }

pub returns-clause-ok : goal.returns-clause-ok
returns-clause-ok g c =
    let s = c.self.inside in
    let j = entries s.journal in
    let was = c.args.client.now in
    let own : IsClientOf j was = subst (λ (v : Shown). IsClientOf v.journal was) (sym c.self.view_is) c.requires.client in
    let left : was.now.state ≡ Left = search (rules, c.state.ensures, c.ne.ensures, c.if-ne.false) in
    let doc : c.in-Some-Some-Some.doc ≡ was.now.doc = left_told was.now.state was.now.doc c.in-Some-Some-Some.doc c.doc.result left c.doc.ensures c.in-Some-Some-Some.is-0 in
    let x = c.in-Some.document.now in
    let at : slice_get s.documents.items c.in-Some-Some-Some.doc ≡ Some x = sym c.get.ensures ∙ ap option_copied c.in-Some.is in
    let here : IsDocument c.in-Some-Some-Some.doc x j = c.self.invariant.book.stands.each c.in-Some-Some-Some.doc x at in
    let v : c.version-version.result ≡ version was.now.doc j = c.version-version.ensures ∙ here.window_is.version_is ∙ ap (λ d. version d j) doc in
    let since = c.version-since.ensures in
    let test = c.if-version-since-gt-MAX_AGE.false in
    let may : MayReturn was.now j = (left, omega (arith, v, since, test)) in
    let len = c.len-source.ensures.value in
    let same = ap length c.make_room.ensures.entries in
    let number = c.client-number.ensures in
    let source : FIRST_SOURCE + c.len-source.result ≡ source_at j = omega (arith, len, same) in
    let user : c.in-Ok-Ok.user ≡ was.now.user = c.in-Ok-Ok.ensures ∙ left_told was.now.state was.now.user c.in-Some-Some-Some.user.now (option_copied c.user.result) left c.user.ensures (ap option_copied c.in-Some-Some-Some.is-1) in
    let track : c.in-Some-Some-Some.track ≡ was.now.track = left_told was.now.state was.now.track c.in-Some-Some-Some.track c.track.result left c.track.ensures c.in-Some-Some-Some.is-2 in
    let entry : c.entry_of.result ≡ entry_by c.args.by.seat c.args.by.line (back_act was.client was.now j) = c.entry_of.ensures
    ∙ ap₂ (λ n d. entry_by c.args.by.seat c.args.by.line (Joined n d c.in-Ok-Ok.user c.in-Some-Some-Some.track (Some c.version-since.result) (FIRST_SOURCE + c.len-source.result) c.version-version.result)) number doc
    ∙ ap₂ (λ u t. entry_by c.args.by.seat c.args.by.line (Joined was.client was.now.doc u t (Some c.version-since.result) (FIRST_SOURCE + c.len-source.result) c.version-version.result)) user track
    ∙ ap₂ (λ n m. entry_by c.args.by.seat c.args.by.line (Joined was.client was.now.doc was.now.user was.now.track (Some n) m c.version-version.result)) since source
    ∙ ap (λ n. entry_by c.args.by.seat c.args.by.line (Joined was.client was.now.doc was.now.user was.now.track (Some was.now.version) (source_at j) n)) v in
    rw (← c.self.view_is) (may, ap (λ l. record { journal = l; drivers = s.drivers; documents = g.K.Keeper.documents s.keeper; faults = g.K.Keeper.count s.keeper; start = record { faults = g.K.Keeper.count s.first.value; documents = g.K.Keeper.documents s.first.value } }) (c.push.ensures.entries ∙ ap₂ (λ (l : List Entry) (e : Entry). l ++ e ∷ []) c.make_room.ensures.entries entry))

pub returns-clause-client : goal.returns-clause-client
returns-clause-client g c =
    let s = c.self.inside in
    let j = entries s.journal in
    let was = c.args.client.now in
    let own : IsClientOf j was = subst (λ (v : Shown). IsClientOf v.journal was) (sym c.self.view_is) c.requires.client in
    let left : was.now.state ≡ Left = search (rules, c.state.ensures, c.ne.ensures, c.if-ne.false) in
    let doc : c.in-Some-Some-Some.doc ≡ was.now.doc = left_told was.now.state was.now.doc c.in-Some-Some-Some.doc c.doc.result left c.doc.ensures c.in-Some-Some-Some.is-0 in
    let x = c.in-Some.document.now in
    let at : slice_get s.documents.items c.in-Some-Some-Some.doc ≡ Some x = sym c.get.ensures ∙ ap option_copied c.in-Some.is in
    let here : IsDocument c.in-Some-Some-Some.doc x j = c.self.invariant.book.stands.each c.in-Some-Some-Some.doc x at in
    let v : c.version-version.result ≡ version was.now.doc j = c.version-version.ensures ∙ here.window_is.version_is ∙ ap (λ d. version d j) doc in
    let since = c.version-since.ensures in
    let test = c.if-version-since-gt-MAX_AGE.false in
    let may : MayReturn was.now j = (left, omega (arith, v, since, test)) in
    let len = c.len-source.ensures.value in
    let same = ap length c.make_room.ensures.entries in
    let number = c.client-number.ensures in
    let source : FIRST_SOURCE + c.len-source.result ≡ source_at j = omega (arith, len, same) in
    let user : c.in-Ok-Ok.user ≡ was.now.user = c.in-Ok-Ok.ensures ∙ left_told was.now.state was.now.user c.in-Some-Some-Some.user.now (option_copied c.user.result) left c.user.ensures (ap option_copied c.in-Some-Some-Some.is-1) in
    let track : c.in-Some-Some-Some.track ≡ was.now.track = left_told was.now.state was.now.track c.in-Some-Some-Some.track c.track.result left c.track.ensures c.in-Some-Some-Some.is-2 in
    let entry : c.entry_of.result ≡ entry_by c.args.by.seat c.args.by.line (back_act was.client was.now j) = c.entry_of.ensures
    ∙ ap₂ (λ n d. entry_by c.args.by.seat c.args.by.line (Joined n d c.in-Ok-Ok.user c.in-Some-Some-Some.track (Some c.version-since.result) (FIRST_SOURCE + c.len-source.result) c.version-version.result)) number doc
    ∙ ap₂ (λ u t. entry_by c.args.by.seat c.args.by.line (Joined was.client was.now.doc u t (Some c.version-since.result) (FIRST_SOURCE + c.len-source.result) c.version-version.result)) user track
    ∙ ap₂ (λ n m. entry_by c.args.by.seat c.args.by.line (Joined was.client was.now.doc was.now.user was.now.track (Some n) m c.version-version.result)) since source
    ∙ ap (λ n. entry_by c.args.by.seat c.args.by.line (Joined was.client was.now.doc was.now.user was.now.track (Some was.now.version) (source_at j) n)) v in
    let window : IsWindowOf was.now.doc x.window j = subst (λ d. IsWindowOf d x.window j) doc here.window_is in
    let items : c.in-Ok-Ok.missed.items ≡ missed_by x.window c.version-since.result = rw c.in-Ok-Ok.is-0 at c.missed_since-missed.ensures in
    let past : c.deref.result.now ≡ missed_by x.window was.now.version = c.deref.ensures.value ∙ items ∙ ap (missed_by x.window) since in
    returned_client j (entries c.push.new.self) c.entry_of.result was c.caught_up.new.self (source_at j) (version was.now.doc j) (missed_by x.window was.now.version)
    (c.push.ensures.entries ∙ ap (λ l. l ++ c.entry_of.result ∷ []) c.make_room.ensures.entries) (ap (λ (e : Entry). e.act) entry)
    (missed_caught j was c.self.invariant.book.stands.legal own left x.window window may.1) own
    (c.in-Ok-caught_up.ensures.ok ∙ ap₂ (λ n (ms : List Missed). record was { now = back_under n (with_all was.now ms) }) source past)
