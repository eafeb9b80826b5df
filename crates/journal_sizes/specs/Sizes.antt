-- How large operations are that a legal journal has, and those that its clients have and are told of.
use Rattle.std.specs.Prelude.{◌≡◌, ◌<◌, ◌≤◌, ◌^◌, ◌-◌, true, ⊤, List, Option, Some}
use Rattle.ot_op.specs.declared.comp.Comp.{Comp}
use Rattle.ot_op.specs.declared.limits.TheConstants.{MAX_COMPONENTS, MAX_OPERATION_UNITS}
use Rattle.ot_transform.specs.Size.{edit_units_in, comments_in, Within}
use Rattle.journal_entries.specs.declared.message.Msg.{Msg}
use Rattle.journal_entries.specs.declared.message.Msg.TheVariants.{Op, Ack, Error}
use Rattle.journal_rules.specs.Client.{Client, is_alive, places_fit}

-- an operation with few units to edit and few comments
pub record IsLight (op : List Comp) : Type 0 where
  pub units : edit_units_in op ≤ MAX_OPERATION_UNITS
  pub comments : comments_in op ≤ MAX_COMPONENTS

-- and with low places
pub record IsSized (op : List Comp) : Type 0 where
  pub light : IsLight op
  pub low : places_fit op ≡ true

-- or with places that were low before so many units came in
pub record IsNear (op : List Comp) : Type 0 where
  pub light : IsLight op
  pub near : Within 1000065536 op

-- the operations of a client
pub record AreSized (flight : Option (List Comp)) (pending : List Comp) : Type 0 where
  pub flies : (f : List Comp) → flight ≡ Some f → IsSized f
  pub waits : IsSized pending

-- a flight past an operation stays light, and what the operation became past the flight has places near its own
pub record IsFlown (both : Option (List Comp) × List Comp) : Type 0 where
  pub flies : (f : List Comp) → both.0 ≡ Some f → IsLight f
  pub past : IsNear both.1

-- the operations of a client that is joined or left are sized
abbrev pub IsAtEase : Client → Type 0
IsAtEase s = is_alive s.state ≡ true → AreSized s.flight s.pending

-- and so is an operation that it is told of, whose version may go on by one
abbrev pub IsSizedMsg : Msg → Type 0
IsSizedMsg (Op v op source) = IsSized op × (v < 2 ^ 64 - 1)
IsSizedMsg (Ack v number) = v < 2 ^ 64 - 1
IsSizedMsg (Error number cause) = ⊤
