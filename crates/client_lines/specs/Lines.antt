-- What a line makes that tells a session's client to do something.
use Rattle.std.specs.Prelude.{ℕ, List, ⊤}
use Rattle.journal_entries.specs.declared.act.Act.{Act}
use Rattle.journal_entries.specs.declared.act.Entry.{Entry}
use Rattle.journal_rules.specs.Client as rules
use Rattle.share_client.specs.Edits.{IsEdit, edit_comp, edit_end}
use Rattle.turn_rules.specs.Clients.{edit_act, leave_act, recv_act, rejoin_act, resend_act, send_act}
use Rattle.client_lines.specs.declared.line.ClientLine.{ClientLine}
use Rattle.client_lines.specs.declared.line.ClientLine.TheVariants.{Edit, Send, Resend, Receive, Leave, Rejoin}

-- an edit puts something in, or takes something out
abbrev pub IsDoable : ClientLine → Type 0
IsDoable (Edit edit) = IsEdit edit
IsDoable _ = ⊤

-- the act that it asks for, or why it is declined
abbrev pub client_act : ℕ → List Entry → ClientLine → Act
client_act session look (Edit edit) = edit_act session look (edit_end edit) (edit_comp (rules.client session look).text edit)
client_act session look Send = send_act session look
client_act session look Resend = resend_act session look
client_act session look Receive = recv_act session look
client_act session look Leave = leave_act session look
client_act session look Rejoin = rejoin_act session look
