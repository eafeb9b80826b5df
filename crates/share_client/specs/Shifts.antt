-- What an operation of another leaves of what a client has of its own.
use Rattle.share_client.specs.declared.shift.Shift.{Shift}
use Rattle.journal_rules.specs.Client as rules

-- as the definitions name it
abbrev pub shift_of : Shift → rules.Shift
shift_of x = record { flight = x.flight; pending = x.pending; text = x.text }
