-- What an edit of a client is, and why it is refused.
use Rattle.std.specs.Prelude.{◌≡◌, ℕ, ◌+◌, ◌<◌, nat_lt, ◌||◌, not, List, [], length, take, drop, Option, Some, None, if◌then◌else◌, ◌≢◌, ⊤}
use Rattle.ot_op.specs.declared.comp.Comp.{Comp}
use Rattle.ot_op.specs.declared.comp.Comp.TheVariants as comp
use Rattle.ot_op.specs.Compose.{appended}
use Rattle.journal_rules.specs.Client.{Client}
use Rattle.turn_rules.specs.Clients.{is_joined}
use Rattle.ot_op.specs.declared.limits.TheConstants.{MAX_COMPONENTS, MAX_OPERATION_UNITS}
use Rattle.ot_op.specs.Operation.{total_units}
use Rattle.share_client.specs.declared.edit.Edit.{Edit}
use Rattle.share_client.specs.declared.edit.Edit.TheVariants.{Insert, Delete, Comment}
use Rattle.share_client.specs.declared.edit.EditFault.{EditFault}
use Rattle.share_client.specs.declared.edit.EditFault.TheVariants.{NotJoined, PastEnd, Full, Memory}

-- an insert has a text, and a delete a length
abbrev pub IsEdit : Edit → Type 0
IsEdit (Insert at text) = text ≢ []
IsEdit (Delete at len) = 0 < len
IsEdit (Comment at len thread) = ⊤

-- how far it reaches into the text
abbrev pub edit_end : Edit → ℕ
edit_end (Insert at text) = at
edit_end (Delete at len) = at + len
edit_end (Comment at len thread) = at + len

-- how many units it puts in, takes out or speaks of
abbrev pub edit_length : Edit → ℕ
edit_length (Insert at text) = length text
edit_length (Delete at len) = len
edit_length (Comment at len thread) = len

-- its component, whose text is that of the client's text
abbrev pub edit_comp : List ℕ → Edit → Comp
edit_comp text (Insert at part) = comp.Ins at part
edit_comp text (Delete at len) = comp.Del at (take len (drop at text))
edit_comp text (Comment at len thread) = comp.Com at (take len (drop at text)) thread

-- the first refusal that holds
abbrev pub full_fault : List Comp → Option EditFault
full_fault pending = if nat_lt MAX_COMPONENTS (length pending) || nat_lt MAX_OPERATION_UNITS (total_units pending) then Some (Full (length pending) (total_units pending)) else None

-- what the size of what is pending refuses; want of memory may come with anything
abbrev pub IsSizeRefusal : List Comp → EditFault → Type 0
IsSizeRefusal pending Memory = ⊤
IsSizeRefusal pending fault = full_fault pending ≡ Some fault

abbrev pub edit_fault : Client → Edit → Option EditFault
edit_fault c edit =
    if not (is_joined c.state) then Some NotJoined
    else if nat_lt (length c.text) (edit_end edit) then Some (PastEnd (length c.text))
    else full_fault (appended c.pending (edit_comp c.text edit))

-- what a refusal says; want of memory may come with anything here too
abbrev pub IsRefusal : Client → Edit → EditFault → Type 0
IsRefusal c edit Memory = ⊤
IsRefusal c edit fault = edit_fault c edit ≡ Some fault
