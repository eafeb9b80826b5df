-- What a client shows, and what makes it stale.
use Rattle.std.specs.Prelude.{◌≡◌, ◌⊎◌, ℕ, ◌+◌, ◌-◌, ◌<◌, ◌≤◌, true, List, [], ◌∷◌, ◌++◌, drop, Option, Some, None}
use Rattle.ot_op.specs.declared.comp.Comp.{Comp}
use Rattle.ot_op.specs.Apply.{applied_all}
use Rattle.journal_entries.specs.declared.update.Cause.{Cause}
use Rattle.journal_entries.specs.declared.message.Msg.{Msg}
use Rattle.journal_entries.specs.declared.message.Msg.TheVariants.{Op, Ack, Error}
use Rattle.journal_entries.specs.declared.message.Brief.{Brief}
use Rattle.journal_entries.specs.declared.act.Act.TheVariants.{Got}
use Rattle.journal_entries.specs.declared.act.Entry.{Entry}
use Rattle.journal_rules.specs.declared.state.ClientState.TheVariants.{Joined}
use Rattle.journal_rules.specs.Documents.{IsMade, Item, applied_list, base, version, text_at, is_in}
use Rattle.journal_rules.specs.Mail.{mail}
use Rattle.journal_rules.specs.Client.{Client, client, has_flight, is_alive}

-- a text with the flight applied
abbrev pub flown : List ℕ → Option (List Comp) → Option (List ℕ)
flown here None = Some here
flown here (Some flight) = applied_all here flight

-- the items of a document from a version on
abbrev pub items_from : ℕ → ℕ → List Entry → List Item
items_from d n journal = drop (n - base d journal) (applied_list d journal)

-- messages deliver items to a client that joined under a source and is at version n: those that stand for items do so in order, at their versions, with no item left; an Ack of a duplicate is older
abbrev pub Delivers : ℕ → ℕ → List Item → List Msg → Type 0
Delivers source n items [] = items ≡ []
Delivers source n items (Op v op from ∷ ms) = (x : Item) × (rest : List Item) × (items ≡ x ∷ rest) × (v ≡ n) × (op ≡ x.op) × (from ≡ x.update.source) × Delivers source (n + 1) rest ms
Delivers source n items (Ack v number ∷ ms) =
    ((x : Item) × (rest : List Item) × (items ≡ x ∷ rest) × (v ≡ n) × (number ≡ x.update.number) × (x.update.source ≡ source) × Delivers source (n + 1) rest ms)
    ⊎ ((v < n) × Delivers source n items ms)
Delivers source n items (Error number cause ∷ ms) = Delivers source n items ms

-- the client law, of a client that is joined or left
pub record Shows (c : ℕ) (j : List Entry) (s : Client) : Type 0 where
  pub made : IsMade s.doc j
  pub low : base s.doc j ≤ s.version
  pub high : s.version ≤ version s.doc j
  -- its text is that of its version with the flight, then pending, applied
  pub here : List ℕ
  pub there : List ℕ
  pub here_is : text_at s.doc s.version j ≡ Some here
  pub flight_is : flown here s.flight ≡ Some there
  pub text_is : applied_all there s.pending ≡ Some s.text
  -- its mail delivers what is ahead of it
  pub mail_is : s.state ≡ Joined → Delivers s.source s.version (items_from s.doc s.version j) (mail c j)
  -- the next item ends its flight, as an Op under one of the flight's sources or as an Ack under the client's own: it has the flight as its operation
  pub lands : (x : Item) (rest : List Item) → items_from s.doc s.version j ≡ x ∷ rest → (is_in x.update.source s.sources ≡ true) ⊎ (x.update.source ≡ s.source) → s.flight ≡ Some x.op

-- a client that is joined or left is so behind one entry more, or that entry gave it the refusal of its operation in flight
abbrev pub StaysUnlessRefused : ℕ → List Entry → Entry → Type 0
StaysUnlessRefused c j e =
    (is_alive (client c (j ++ e ∷ [])).state ≡ true)
    ⊎ ((brief : Brief) × (cause : Cause) × (rest : List Msg) × (e.act ≡ Got c brief) × (mail c j ≡ Error (client c j).number cause ∷ rest) × (has_flight (client c j).flight ≡ true))
