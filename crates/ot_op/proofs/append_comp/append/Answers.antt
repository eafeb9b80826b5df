use Rattle.std.proofs.Common.{◌≡◌, suc, ◌<◌, refl, [], ◌∷◌, ◌++◌, length, arith, sym, false}
use Rattle.std.specs.Prelude.{slice_set}
use Rattle.ot_op.specs.Operation.{is_void}
use Rattle.ot_op.specs.Compose.{behind}
use Rattle.ot_op.proofs.Appending.{behind_joined, behind_apart, joined_solid_on, set_same_item}
use Rattle.ot_op.proofs.Merging.{does_as, does_on}
use Rattle.ot_op.proofs.append_comp.append.Goals as goal

pub invariant_of-op-2 : goal.invariant_of-op-2
invariant_of-op-2 c =
    let below : c.saturating_sub-last.result < length c.op.inside.comps.items = c.in-Some.ensures.variant.0 refl in
    let n : length c.op.inside.comps.items ≡ suc c.saturating_sub-last.result = omega (arith, c.len.ensures.value, c.saturating_sub-last.ensures, below) in
    let is = rw c.in-Some.is at c.get_mut.ensures.value in
    let b : is_void c.args.comp ≡ false = cc in
    joined_solid_on c.join_into.result _ _ _ _ c.args.comp n is c.op.invariant b c.join_into.ensures.ok c.join_into.ensures.err

pub returns-in-None-clause-ok : goal.returns-in-None-clause-ok
returns-in-None-clause-ok c =
    let below : c.saturating_sub-last.result < length c.op.inside.comps.items = c.in-Some.ensures.variant.0 refl in
    let n : length c.op.inside.comps.items ≡ suc c.saturating_sub-last.result = omega (arith, c.len.ensures.value, c.saturating_sub-last.ensures, below) in
    let j = rw c.in-None.is at c.in_ok-join_into.ensures.ok in
    let is = rw c.in-Some.is at c.get_mut.ensures.value in
    let b : is_void c.args.comp ≡ false = cc in
    rw (b, ← c.op.view_is) (sym (behind_joined _ _ _ _ c.args.comp n is j))

pub returns-in-Some-2-clause-ok : goal.returns-in-Some-2-clause-ok
returns-in-Some-2-clause-ok c =
    let below : c.saturating_sub-last.result < length c.op.inside.comps.items = c.in-Some.ensures.variant.0 refl in
    let n : length c.op.inside.comps.items ≡ suc c.saturating_sub-last.result = omega (arith, c.len.ensures.value, c.saturating_sub-last.ensures, below) in
    let j = rw c.in-Some-2.is at c.in_ok-join_into.ensures.ok in
    let is = rw c.in-Some.is at c.get_mut.ensures.value in
    let b : is_void c.args.comp ≡ false = cc in
    let e : behind c.op.inside.comps.items c.args.comp ≡ c.op.inside.comps.items ++ c.args.comp ∷ [] = behind_apart _ _ _ c.args.comp n is j.2 in
    let same : slice_set c.op.inside.comps.items c.saturating_sub-last.result c.in-Some.last.now ≡ c.op.inside.comps.items = set_same_item _ _ _ is in
    rw (b, ← c.op.view_is, e) (rw (j.0, j.1, same) at c.push-in-Some-2.ensures.ok)

pub returns-in-None-clause-does : goal.returns-in-None-clause-does
returns-in-None-clause-does c = does_as _ _ _ (returns-in-None-clause-ok c)

pub returns-in-Some-2-clause-does : goal.returns-in-Some-2-clause-does
returns-in-Some-2-clause-does c = does_on _ _ _ _ (returns-in-Some-2-clause-ok c)
