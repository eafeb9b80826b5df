-- A client that is given the first of its mail stays as it joined last.
use Rattle.std.proofs.Common.{◌≡◌, ℕ, List, [], ◌∷◌, ◌++◌, refl, sym, ap, ◌∙◌, subst}
use Rattle.std.specs.Prelude.{Option, Some, None}
use Rattle.journal_entries.specs.declared.message.Msg.{Msg}
use Rattle.journal_entries.specs.declared.message.Msg.TheVariants.{Op, Ack, Error}
use Rattle.journal_entries.specs.declared.message.Brief.{Brief}
use Rattle.journal_entries.specs.declared.act.Act.TheVariants.{Got}
use Rattle.journal_entries.specs.declared.act.Entry.{Entry}
use Rattle.journal_rules.specs.Documents.{version}
use Rattle.journal_rules.specs.Mail.{Outbox, outbox, mail}
use Rattle.journal_rules.specs.Client.{Client, delivered}
use Rattle.journal_rules.proofs.Lists.{some_same}
use Rattle.journal_laws.proofs.ClientsOn.{delivered_alive}
use Rattle.loading_rules.specs.Joinings.{Joining, joining_by, last_joining, IsPlaced}
use Rattle.loading_rules.specs.LegalBut.{IsLegalBut}
use Rattle.loading_rules.proofs.Placing.{IsBelow, put_delivered, as_joined_on, as_joined_put}
use Rattle.loading_rules.proofs.Posted.{FitsBelow, first_fits}
use Rattle.mail_places.specs.Places.{Placed, placed, IsMailIn}
use Rattle.mail_places.proofs.Sources.{member_joining}
use Rattle.mail_places.proofs.Telling.{mail_at_places}

-- a message is of the document that the client joined last
below_of : (n : ℕ) (m : Msg) → FitsBelow n m → IsBelow n m
below_of n (Op v op source) fits = fits.0
below_of n (Ack v number) fits = fits
below_of n (Error number cause) fits = tt

pub first_below : (c : ℕ) (j : List Entry) (m : Msg) (rest : List Msg) (x : Joining) → IsLegalBut j → mail c j ≡ m ∷ rest → last_joining c j ≡ Some x → IsBelow (version x.doc j) m
first_below c j m rest x legal first last = go (placed c j) refl (mail_at_places c j legal)
  where
    f : (box : Outbox) × (outbox c j ≡ Some box) × FitsBelow (version box.doc j) m
    f = first_fits c j m rest legal first

    go : (o : Option Placed) → placed c j ≡ o → IsMailIn c j o → IsBelow (version x.doc j) m
    go None at is = let none : None ≡ Some f.0 = sym is.0 ∙ f.1 in absurd (cc)
    go (Some p) at is =
        let it = member_joining c j p at in
        let same : it.0 ≡ x = some_same it.0 x (sym it.1 ∙ last) in
        let box : is.outbox_of ≡ f.0 = some_same is.outbox_of f.0 (sym is.outbox_is ∙ f.1) in
        let doc : f.0.doc ≡ x.doc = ap (λ (b : Outbox). b.doc) (sym box) ∙ is.doc_is ∙ sym it.2 ∙ ap (λ (y : Joining). y.doc) same in
        subst (λ d. IsBelow (version d j) m) doc (below_of (version f.0.doc j) m f.2)

pub placed_got : (j : List Entry) (e : Entry) (c : ℕ) (brief : Brief) (s : Client) (m : Msg) (rest : List Msg) → IsLegalBut j → e.act ≡ Got c brief → mail c j ≡ m ∷ rest → IsPlaced j c s → IsPlaced (j ++ e ∷ []) c (delivered s m)
placed_got j e c brief s m rest legal is first placed lives =
    let from = placed (delivered_alive s m lives) in
    let below : IsBelow (version s.doc j) m = subst (λ d. IsBelow (version d j) m) from.doc_is (first_below c j m rest from.joining legal first from.last) in
    let t = delivered s m in
    as_joined_on j e c t.doc t.user t.track t.source t.version legal (ap (λ a. joining_by c a (last_joining c j)) is) (as_joined_put j c s t (put_delivered (version s.doc j) s m below) from)
