-- What contracts see of a client.
use Rattle.std.specs.Prelude.{ℕ, not, List, [], ◌∷◌, Option, Some, None, if◌then◌else◌}
use Rattle.ot_op.specs.declared.comp.Comp.{Comp}
use Rattle.journal_rules.specs.declared.state.ClientState.{ClientState}
use Rattle.journal_rules.specs.declared.state.ClientState.TheVariants.{Away}
use Rattle.journal_rules.specs.Client.{Client, has_flight}
use Rattle.share_client.specs.declared.send.SendFault.{SendFault}
use Rattle.share_client.specs.declared.send.SendFault.TheVariants.{NotJoined, InFlight, Nothing, Memory}
use Rattle.turn_rules.specs.Clients.{is_joined}

-- its number, and what it is
pub record Numbered : Type 0 where
  pub client : ℕ
  pub now : Client

-- what stands for a client that was joined once
abbrev pub unless_away : {X : Type 0} → ClientState → X → Option X
unless_away Away x = None
unless_away _ x = Some x

-- the first refusal of a sending of what is pending
abbrev pub pending_fault : List Comp → Option SendFault
pending_fault [] = Some Nothing
pending_fault (c ∷ cs) = None

abbrev pub send_fault : Client → Option SendFault
send_fault c = if not (is_joined c.state) then Some NotJoined else if has_flight c.flight then Some InFlight else pending_fault c.pending

-- and of a sending again of what is in flight
abbrev pub flight_fault : Option (List Comp) → Option SendFault
flight_fault None = Some Nothing
flight_fault (Some op) = pending_fault op

abbrev pub again_fault : Client → Option SendFault
again_fault c = if not (is_joined c.state) then Some NotJoined else flight_fault c.flight

-- want of memory alone isn't told by the client
abbrev pub told_send : SendFault → Option SendFault
told_send Memory = None
told_send fault = Some fault
