-- What crossing leaves of the operations of a client.
use Rattle.std.specs.Prelude.{◌≡◌, ◌<◌, ◌^◌, ◌-◌, ℕ, true, ◌∷◌, List, Some}
use Rattle.ot_op.specs.declared.comp.Comp.{Comp}
use Rattle.plain_journal.specs.declared.crossing.Shift.{Shift}
use Rattle.journal_entries.specs.declared.message.Msg.{Msg}
use Rattle.journal_rules.specs.declared.state.ClientState.{ClientState}
use Rattle.journal_rules.specs.Client.{is_alive}
use Rattle.journal_sizes.specs.Sizes.{IsLight, IsSizedMsg}

-- flight and pending stay light
pub record AreLight (shift : Shift) : Type 0 where
  pub flies : (f : List Comp) → shift.flight ≡ Some f → IsLight f
  pub waits : IsLight shift.pending

-- the version of a client that is joined or left may go on by one
abbrev pub IsLow : ClientState → ℕ → Type 0
IsLow state version = is_alive state ≡ true → version < 2 ^ 64 - 1

-- and the first message of its mail is sized
abbrev pub IsFirstSized : ClientState → List Msg → Type 0
IsFirstSized state mail = (msg : Msg) (rest : List Msg) → mail ≡ msg ∷ rest → is_alive state ≡ true → IsSizedMsg msg
