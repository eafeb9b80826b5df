-- Why a line of a session's client is declined, by what its client refused. Want of memory declines nothing.
use Rattle.std.specs.Prelude.{Option, Some, None}
use Rattle.journal_entries.specs.declared.why.Why.{Why}
use Rattle.journal_entries.specs.declared.why.Why.TheVariants as why
use Rattle.share_client.specs.declared.edit.EditFault.{EditFault}
use Rattle.share_client.specs.declared.edit.EditFault.TheVariants as edit
use Rattle.share_client.specs.declared.send.SendFault.{SendFault}
use Rattle.share_client.specs.declared.send.SendFault.TheVariants as send

abbrev pub edit_why : EditFault → Option Why
edit_why edit.NotJoined = Some why.NotJoined
edit_why (edit.PastEnd len) = Some (why.PastEnd len)
edit_why (edit.Full comps units) = Some (why.Full comps units)
edit_why edit.Memory = None

abbrev pub send_why : SendFault → Option Why
send_why send.NotJoined = Some why.NotJoined
send_why send.InFlight = Some why.InFlight
send_why send.Nothing = Some why.Nothing
send_why send.Memory = None
