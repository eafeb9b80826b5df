-- What the calls answer, as the definitions name it.
use Rattle.std.specs.Prelude.{List, [], ◌∷◌, map, Option, Some, None, ℕ}
use Rattle.ot_op.specs.declared.comp.Comp.{Comp}
use Rattle.journal_rules.specs.Client.{user_in}
use Rattle.journal_rules.specs.Documents as rules
use Rattle.journal_rules.specs.Locks as locks
use Rattle.journal_rules.specs.Keeping as keeping
use Rattle.journal_rules.specs.Mail as mail
use Rattle.journal_rules.specs.Deciding as deciding
use Rattle.journal_rules.specs.Client as client
use Rattle.plain_journal.specs.declared.locks.Acquiring.{Acquiring}
use Rattle.plain_journal.specs.declared.keeping.Loading.{Loading}
use Rattle.plain_journal.specs.declared.keeping.Loading.TheVariants as went
use Rattle.plain_journal.specs.declared.documents.Making.{Making}
use Rattle.plain_journal.specs.declared.documents.Item.{Item}
use Rattle.plain_journal.specs.declared.mail.Outbox.{Outbox}
use Rattle.plain_journal.specs.declared.deciding.Scanned.{Scanned}
use Rattle.plain_journal.specs.declared.deciding.Scanned.TheVariants as scanned
use Rattle.plain_journal.specs.declared.crossing.Shift.{Shift}
use Rattle.plain_journal.specs.declared.clients.Client.{Client}

-- what was found, as a list
abbrev pub listed : {X : Type 0} → Option X → List X
listed None = []
listed (Some x) = x ∷ []

abbrev pub acquiring_as : Acquiring → locks.Acquiring
acquiring_as a = record { seat = a.seat; doc = a.doc; token = a.token; until = a.until }

abbrev pub loading_as : Loading → keeping.Loading
loading_as went.NeverTried = keeping.NeverTried
loading_as went.Succeeded = keeping.Succeeded
loading_as (went.FailedUnder token) = keeping.FailedUnder token

abbrev pub making_as : Making → rules.Making
making_as m = record { name = m.name.now; project = m.project.now; first = m.first.now; base = m.base }

abbrev pub item_as : Item → rules.Item
item_as x = record { op = x.op.now; v = x.v; ticket = x.ticket; update = x.update.now }

abbrev pub operations : List Item → List (List Comp)
operations items = map (λ (x : Item). x.op.now) items

abbrev pub outbox_as : Outbox → mail.Outbox
outbox_as b = record { doc = b.doc; source = b.source; posted = b.posted.items; got = b.got }

abbrev pub passed_as : Item → deciding.Passed
passed_as x = deciding.passed_of (item_as x)

abbrev pub scan_as : Scanned → deciding.Scan
scan_as (scanned.Twin v) = deciding.Twin v
scan_as scanned.Stuck = deciding.Stuck
scan_as (scanned.Moved op) = deciding.Moved op

abbrev pub shift_as : Shift → client.Shift
shift_as x = record { flight = x.flight; pending = x.pending; text = x.text }

abbrev pub client_as : Client → client.Client
client_as s = record { state = s.state; doc = s.doc; user = user_in s.user; track = s.track; source = s.source; version = s.version; text = s.text; flight = s.flight; pending = s.pending; number = s.number; sources = s.sources }
