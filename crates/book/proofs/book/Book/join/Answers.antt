use Rattle.std.proofs.Common.{◌≡◌, ◌+◌, ◌∙◌, List, [], ◌∷◌, ◌++◌, length, refl, sym, ap, ap₂, subst, arith}
use Rattle.std.specs.Prelude.{slice_get, Some, None}
use Rattle.std.specs.Option.{option_copied}
use Rattle.std.proofs.lemmas.Option.{slice_get_within}
use Rattle.journal_entries.specs.Journals.{entries}
use Rattle.journal_entries.specs.declared.act.Act.TheVariants.{Joined}
use Rattle.journal_entries.specs.declared.limits.TheConstants.{FIRST_SOURCE}
use Rattle.turn_rules.specs.Turns.{entry_by}
use Rattle.journal_entries.specs.declared.act.Entry.{Entry}
use Rattle.journal_rules.specs.Documents.{IsMade, version}
use Rattle.journal_rules.specs.Legal.{IsJoining, source_at}
use Rattle.book.specs.Roomed.{IsClientOf}
use Rattle.book.specs.Shown.{Shown}
use Rattle.book.specs.Standing.{IsDocument}
use Rattle.book.proofs.Booking.{quiet_by}
use Rattle.book.proofs.Roomed.{roomed_joined, roomed_same}
use Rattle.book.proofs.Serving.{joined_client}
use Rattle.project_histories.proofs.Histories.{histories_by}
use Rattle.book.proofs.Stored.{keeps_by}
use Rattle.turn_rules.proofs.Owning.{own_client, owned_by}
use Rattle.turn_rules.specs.Owning.{MayWriteFor}
use Rattle.book.proofs.book.Book.join.Goals as goal

pub joined-requires : goal.joined-requires
joined-requires g c =
    let s = c.self.inside in
    let x = c.in-Some.document.now in
    let at : slice_get s.documents.items c.args.doc ≡ Some x = sym c.get.ensures ∙ ap option_copied c.in-Some.is in
    let short = (c.self.invariant.book.stands.each c.args.doc x at).short in
    let n = ap length c.in-Ok.ensures in
    omega (arith, short, n)

pub invariant_of-self-2 : goal.invariant_of-self-2
invariant_of-self-2 g c =
    let s = c.self.inside in
    let j = entries s.journal in
    let x = c.in-Some.document.now in
    let at : slice_get s.documents.items c.args.doc ≡ Some x = sym c.get.ensures ∙ ap option_copied c.in-Some.is in
    let here : IsDocument c.args.doc x j = c.self.invariant.book.stands.each c.args.doc x at in
    let count = c.self.invariant.book.stands.count in
    let within = slice_get_within s.documents.items c.args.doc x at in
    let made : IsMade c.args.doc j = omega (arith, count, within) in
    let v_is : c.version-version.result ≡ version c.args.doc j = c.version-version.ensures ∙ here.window_is.version_is in
    let len = c.len-source.ensures.value in
    let same = ap length c.make_room.ensures.entries in
    let source : FIRST_SOURCE + c.len-source.result ≡ source_at j = omega (arith, len, same) in
    let row : IsJoining j c.args.doc (FIRST_SOURCE + c.len-source.result) c.version-version.result = record { made = made; cached_is = here.cached_is; v_is = v_is; source_is = source } in
    let waits = c.len-waits.ensures ∙ ap length here.waiting_is in
    let writes : MayWriteFor s.drivers j c.args.by.seat c.args.client.now.client = subst (λ (v : Shown). MayWriteFor v.drivers v.journal c.args.by.seat c.args.client.now.client) (sym c.self.view_is) c.requires.owner in
    record {
      book = quiet_by s.journal c.make_room.new.journal c.push.new.self s.documents.items s.moment s.moment s.tokens s.owed s.drivers c.in-Ok-make_room._sum c.args.by.seat c.args.by.line (Joined c.client-number.result c.args.doc c.in-Ok-Ok.named c.args.track None (FIRST_SOURCE + c.len-source.result) c.version-version.result) c.entry_of.result c.entry_of.ensures
          c.self.invariant.book c.make_room.ensures.entries c.in-Ok-make_room.ensures.room c.push.ensures.entries c.push.ensures.spare row tt refl refl c.self.invariant.book.now_low;
      roomed = roomed_same c.join_with_room.new.self (j ++ c.entry_of.result ∷ []) (entries c.push.new.self) (c.push.ensures.entries ∙ ap (λ l. l ++ c.entry_of.result ∷ []) c.make_room.ensures.entries)
          (roomed_joined s.rooms c.join_with_room.new.self j c.entry_of.result c.client-number.result c.args.doc c.version-version.result (FIRST_SOURCE + c.len-source.result) c.len-waits.result c.in-Ok-Ok.named c.args.track None c.self.invariant.book.stands.legal (ap (λ (e : Entry). e.act) c.entry_of.ensures) (omega (arith, waits)) c.in-Ok-join_with_room.ensures.joined c.self.invariant.roomed);
      keeps = keeps_by j (entries c.make_room.new.journal) (entries c.push.new.self) c.args.by.seat c.args.by.line (Joined c.client-number.result c.args.doc c.in-Ok-Ok.named c.args.track None (FIRST_SOURCE + c.len-source.result) c.version-version.result) c.entry_of.result c.entry_of.ensures c.make_room.ensures.entries c.push.ensures.entries (λ d o. refl) refl tt c.self.invariant.keeps;
      histories = histories_by s.projects j (entries c.make_room.new.journal) (entries c.push.new.self) c.args.by.seat c.args.by.line (Joined c.client-number.result c.args.doc c.in-Ok-Ok.named c.args.track None (FIRST_SOURCE + c.len-source.result) c.version-version.result) c.entry_of.result c.entry_of.ensures c.make_room.ensures.entries c.push.ensures.entries c.self.invariant.book.stands.legal refl (λ p. refl) (λ p. refl) c.self.invariant.histories;
      owned = owned_by j (entries c.make_room.new.journal) (entries c.push.new.self) c.args.by.seat c.args.by.line (Joined c.client-number.result c.args.doc c.in-Ok-Ok.named c.args.track None (FIRST_SOURCE + c.len-source.result) c.version-version.result) c.entry_of.result c.entry_of.ensures c.make_room.ensures.entries c.push.ensures.entries (own_client j c.args.by.seat c.args.client.now.client (Joined c.client-number.result c.args.doc c.in-Ok-Ok.named c.args.track None (FIRST_SOURCE + c.len-source.result) c.version-version.result) (ap (λ n. Some n) c.client-number.ensures) refl writes) c.self.invariant.owned;
    }

pub returns-clause-ok : goal.returns-clause-ok
returns-clause-ok g c =
    let s = c.self.inside in
    let j = entries s.journal in
    let x = c.in-Some.document.now in
    let at : slice_get s.documents.items c.args.doc ≡ Some x = sym c.get.ensures ∙ ap option_copied c.in-Some.is in
    let here : IsDocument c.args.doc x j = c.self.invariant.book.stands.each c.args.doc x at in
    let count = c.self.invariant.book.stands.count in
    let within = slice_get_within s.documents.items c.args.doc x at in
    let made : IsMade c.args.doc j = omega (arith, count, within) in
    let v_is : c.version-version.result ≡ version c.args.doc j = c.version-version.ensures ∙ here.window_is.version_is in
    let len = c.len-source.ensures.value in
    let same = ap length c.make_room.ensures.entries in
    let source : FIRST_SOURCE + c.len-source.result ≡ source_at j = omega (arith, len, same) in
    let entry : c.entry_of.result ≡ entry_by c.args.by.seat c.args.by.line (Joined c.args.client.now.client c.args.doc c.args.user.now c.args.track None (source_at j) (version c.args.doc j)) = c.entry_of.ensures
    ∙ ap₂ (λ n u. entry_by c.args.by.seat c.args.by.line (Joined n c.args.doc u c.args.track None (FIRST_SOURCE + c.len-source.result) c.version-version.result)) c.client-number.ensures c.in-Ok-Ok.ensures'
    ∙ ap₂ (λ n v. entry_by c.args.by.seat c.args.by.line (Joined c.args.client.now.client c.args.doc c.args.user.now c.args.track None n v)) source v_is in
    rw (← c.self.view_is) (made, ap (λ l. record { journal = l; drivers = s.drivers; documents = g.K.Keeper.documents s.keeper; faults = g.K.Keeper.count s.keeper; start = record { faults = g.K.Keeper.count s.first.value; documents = g.K.Keeper.documents s.first.value } }) (c.push.ensures.entries ∙ ap₂ (λ (l : List Entry) (e : Entry). l ++ e ∷ []) c.make_room.ensures.entries entry))

pub returns-clause-client : goal.returns-clause-client
returns-clause-client g c =
    let s = c.self.inside in
    let j = entries s.journal in
    let x = c.in-Some.document.now in
    let at : slice_get s.documents.items c.args.doc ≡ Some x = sym c.get.ensures ∙ ap option_copied c.in-Some.is in
    let here : IsDocument c.args.doc x j = c.self.invariant.book.stands.each c.args.doc x at in
    let count = c.self.invariant.book.stands.count in
    let within = slice_get_within s.documents.items c.args.doc x at in
    let made : IsMade c.args.doc j = omega (arith, count, within) in
    let v_is : c.version-version.result ≡ version c.args.doc j = c.version-version.ensures ∙ here.window_is.version_is in
    let len = c.len-source.ensures.value in
    let same = ap length c.make_room.ensures.entries in
    let own : IsClientOf j c.args.client.now = subst (λ (v : Shown). IsClientOf v.journal c.args.client.now) (sym c.self.view_is) c.requires.client in
    joined_client j (entries c.push.new.self) c.entry_of.result c.args.client.now c.joined.new.self c.args.doc c.in-Ok-Ok.own c.args.track (FIRST_SOURCE + c.len-source.result) c.version-version.result c.in-Ok.text
    (c.push.ensures.entries ∙ ap (λ l. l ++ c.entry_of.result ∷ []) c.make_room.ensures.entries)
    (ap (λ (e : Entry). e.act) c.entry_of.ensures ∙ ap₂ (λ n u. Joined n c.args.doc u c.args.track None (FIRST_SOURCE + c.len-source.result) c.version-version.result) c.client-number.ensures (c.in-Ok-Ok.ensures' ∙ sym c.in-Ok-Ok.ensures))
    v_is (here.text_is ∙ ap (λ t. Some t) (sym c.in-Ok.ensures)) own c.joined.ensures
