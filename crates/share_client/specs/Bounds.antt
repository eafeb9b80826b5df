-- What a client keeps of itself, whatever it is given: its operations are sized, and its text is no longer than a message leaves it and its own operations may have made it since.
use Rattle.std.specs.Prelude.{◌≡◌, ℕ, ◌+◌, ◌≤◌, true, List, length, Option, Some, None}
use Rattle.ot_op.specs.declared.comp.Comp.{Comp}
use Rattle.ot_transform.specs.Size.{edit_units_in}
use Rattle.journal_rules.specs.Client.{Client, is_alive, longest_text}
use Rattle.journal_sizes.specs.Sizes.{AreSized}
use Rattle.share_client.specs.Clients.{unless_away}

-- the units that an operation in flight puts in and takes out
abbrev pub units_in_flight : Option (List Comp) → ℕ
units_in_flight (Some op) = edit_units_in op
units_in_flight None = 0

-- of a client that is joined or left
pub record IsBounded (s : Client) : Type 0 where
  pub sized : AreSized s.flight s.pending
  pub long : length s.text ≤ longest_text + units_in_flight s.flight + edit_units_in s.pending

abbrev pub IsBoundedIfAlive : Client → Type 0
IsBoundedIfAlive s = is_alive s.state ≡ true → IsBounded s

-- and it has a user unless it is away
pub record IsKept (user : Option (List ℕ)) (s : Client) : Type 0 where
  pub user_is : unless_away s.state s.user ≡ user
  pub bounded : IsBoundedIfAlive s
