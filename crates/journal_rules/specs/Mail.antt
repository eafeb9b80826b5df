-- What was posted to a client since it joined, and what of it is still to be got.
use Rattle.std.specs.Prelude.{ℕ, ◌+◌, ◌==◌, List, [], ◌∷◌, ◌++◌, drop, Option, Some, None, option_map, if◌then◌else◌}
use Rattle.journal_entries.specs.declared.update.Update.{Update}
use Rattle.journal_entries.specs.declared.update.Outcome.{Outcome}
use Rattle.journal_entries.specs.declared.update.Outcome.TheVariants.{Applied, Dup, Refused}
use Rattle.journal_entries.specs.declared.message.Msg.{Msg}
use Rattle.journal_entries.specs.declared.message.Msg.TheVariants.{Op, Ack, Error}
use Rattle.journal_entries.specs.declared.act.Act.{Act}
use Rattle.journal_entries.specs.declared.act.Act.TheVariants.{Joined, Committed, Got, Left}
use Rattle.journal_entries.specs.declared.act.Entry.{Entry}
use Rattle.journal_rules.specs.Folds.{folded}
use Rattle.journal_rules.specs.Documents.{update_at}

-- what a client that joined under a source is told of an outcome
abbrev pub told : ℕ → Update → Outcome → List Msg
told source u (Applied v op) = if u.source == source then Ack v u.number ∷ [] else Op v op u.source ∷ []
told source u (Dup v) = if u.source == source then Ack v u.number ∷ [] else []
told source u (Refused cause) = if u.source == source then Error u.number cause ∷ [] else []

abbrev pub told_of : ℕ → Option Update → Outcome → List Msg
told_of source (Some u) outcome = told source u outcome
told_of source None outcome = []

-- since a client joined: its document and source, what was posted to it, and how much of that it got
pub record Outbox : Type 0 where
  pub doc : ℕ
  pub source : ℕ
  pub posted : List Msg
  pub got : ℕ

abbrev pub posted_to : ℕ → List Entry → ℕ → Outcome → Outbox → Outbox
posted_to doc before ticket outcome box = if doc == box.doc then record box { posted = box.posted ++ told_of box.source (update_at before ticket) outcome } else box

abbrev pub one_got : Outbox → Outbox
one_got box = record box { got = box.got + 1 }

abbrev pub outbox_by : ℕ → List Entry → Act → Option Outbox → Option Outbox
outbox_by c before (Joined client doc user track since source v) now = if client == c then Some (record { doc = doc; source = source; posted = []; got = 0 }) else now
outbox_by c before (Left client) now = if client == c then None else now
outbox_by c before (Committed doc token ticket outcome) now = option_map (posted_to doc before ticket outcome) now
outbox_by c before (Got client brief) now = if client == c then option_map one_got now else now
outbox_by c before _ now = now

-- none where the client did not join, or left behind its last joining
unfoldable pub outbox : ℕ → List Entry → Option Outbox
outbox c journal = folded (λ before e now. outbox_by c before e.act now) None journal

abbrev pub mail_in : Option Outbox → List Msg
mail_in (Some box) = drop box.got box.posted
mail_in None = []

-- the mail of a client: what was posted to it and not got, in order
abbrev pub mail : ℕ → List Entry → List Msg
mail c journal = mail_in (outbox c journal)
