-- An edit that nothing refuses: its component isn't void and applies, and what is pending with it is small enough to be sent.
use Rattle.std.proofs.Common.{◌≡◌, ℕ, ◌+◌, ◌≤◌, List, [], ◌∷◌, length, take, drop, Bool, true, false, not, ◌||◌, refl, sym, ap, ◌∙◌, arith, eqb, ne_eqb}
use Rattle.std.specs.Prelude.{Option, Some, None, is_some, nat_lt, if◌then◌else◌}
use Rattle.std.proofs.lemmas.Bool.{le-leb, ltb-false, or_parts}
use Rattle.std.proofs.lemmas.List.{length-drop, length-take}
use Rattle.std.proofs.lemmas.Slice.Eq.{bytes_eq-Decides}
use Rattle.ot_units.specs.Text.{part_at}
use Rattle.ot_op.specs.declared.comp.Comp.{Comp}
use Rattle.ot_op.specs.Apply.{applied, stands}
use Rattle.ot_op.specs.Compose.{appended}
use Rattle.ot_op.specs.Operation.{is_void, total_units}
use Rattle.ot_op.specs.declared.limits.TheConstants.{MAX_COMPONENTS, MAX_OPERATION_UNITS}
use Rattle.ot_op.proofs.Pieces.{stands_there}
use Rattle.journal_rules.specs.declared.state.ClientState.{ClientState}
use Rattle.journal_rules.specs.declared.state.ClientState.TheVariants.{Away, Joined, Left, Stale}
use Rattle.journal_rules.specs.Client.{Client}
use Rattle.turn_rules.specs.Clients.{is_joined}
use Rattle.share_client.specs.declared.edit.Edit.{Edit}
use Rattle.share_client.specs.declared.edit.Edit.TheVariants.{Insert, Delete, Comment}
use Rattle.share_client.specs.declared.edit.EditFault.TheVariants.{NotJoined, PastEnd, Full}
use Rattle.share_client.specs.Edits.{IsEdit, edit_comp, edit_end, edit_fault, full_fault}

pub joined_if : (st : ClientState) → not (is_joined st) ≡ false → st ≡ Joined
joined_if Joined e = refl
joined_if Away e = absurd (cc)
joined_if Left e = absurd (cc)
joined_if Stale e = absurd (cc)

pub record Unrefused (s : Client) (edit : Edit) : Type 0 where
  pub joined : s.state ≡ Joined
  pub within : edit_end edit ≤ length s.text
  pub few : length (appended s.pending (edit_comp s.text edit)) ≤ MAX_COMPONENTS
  pub short : total_units (appended s.pending (edit_comp s.text edit)) ≤ MAX_OPERATION_UNITS

pub first_none : {F : Type 0} (b : Bool) (f : F) (rest : Option F) → (if b then Some f else rest) ≡ None → (b ≡ false) × (rest ≡ None)
first_none true f rest e = absurd (cc)
first_none false f rest e = (refl, e)

pub small_enough : (pending : List Comp) → full_fault pending ≡ None → (length pending ≤ MAX_COMPONENTS) × (total_units pending ≤ MAX_OPERATION_UNITS)
small_enough pending none =
    let a = first_none (nat_lt MAX_COMPONENTS (length pending) || nat_lt MAX_OPERATION_UNITS (total_units pending)) (Full (length pending) (total_units pending)) None none in
    let b = or_parts (nat_lt MAX_COMPONENTS (length pending)) (nat_lt MAX_OPERATION_UNITS (total_units pending)) a.0 in
    (ltb-false MAX_COMPONENTS (length pending) b.0, ltb-false MAX_OPERATION_UNITS (total_units pending) b.1)

pub unrefused : (s : Client) (edit : Edit) → edit_fault s edit ≡ None → Unrefused s edit
unrefused s edit none =
    let p = appended s.pending (edit_comp s.text edit) in
    let a = first_none (not (is_joined s.state)) NotJoined (if nat_lt (length s.text) (edit_end edit) then Some (PastEnd (length s.text)) else full_fault p) none in
    let b = first_none (nat_lt (length s.text) (edit_end edit)) (PastEnd (length s.text)) (full_fault p) a.1 in
    let small = small_enough p b.1 in
    record { joined = joined_if s.state a.0; within = ltb-false (length s.text) (edit_end edit) b.0; few = small.0; short = small.1 }

part_stands : (text : List ℕ) (at len : ℕ) → at + len ≤ length text → stands text at (take len (drop at text)) ≡ true
part_stands text at len within =
    let part = take len (drop at text) in
    let n : length part ≡ len = length-take len (drop at text) ∙ (let d = length-drop at text in omega (arith, d, within)) in
    stands_there text at part part (omega (arith, n, within)) (ap (λ l. part_at text at l) (sym n)) ∙ (bytes_eq-Decides part part).1 refl

pub edit_applies : (text : List ℕ) (edit : Edit) → edit_end edit ≤ length text → is_some (applied text (edit_comp text edit)) ≡ true
edit_applies text (Insert at part) within = rw (le-leb at (length text) within) refl
edit_applies text (Delete at len) within = rw (part_stands text at len within) refl
edit_applies text (Comment at len thread) within = rw (part_stands text at len within) refl

pub edit_solid : (text : List ℕ) (edit : Edit) → IsEdit edit → edit_end edit ≤ length text → is_void (edit_comp text edit) ≡ false
edit_solid text (Insert at []) some within = absurd (some refl)
edit_solid text (Insert at (x ∷ part)) some within = ne_eqb (length (x ∷ part)) 0 (λ h. absurd (omega (arith, h)))
edit_solid text (Delete at len) some within = by (take len (drop at text)) (length-take len (drop at text) ∙ (let d = length-drop at text in omega (arith, d, within)))
  where
    by : (part : List ℕ) → length part ≡ len → eqb (length part) 0 ≡ false
    by [] is = absurd (omega (arith, is, some))
    by (x ∷ part) is = ne_eqb (length (x ∷ part)) 0 (λ h. absurd (omega (arith, h)))
edit_solid text (Comment at len thread) some within = refl
