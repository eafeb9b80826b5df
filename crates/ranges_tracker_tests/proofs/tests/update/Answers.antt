use Rattle.std.proofs.Common.{◌≡◌, ◌∙◌, ◌∷◌, [], List, ℕ, refl, ap, sym, subst, get_or, Some}
use Rattle.ot_op.specs.Apply.{applied, applied_all}
use Rattle.ot_op.specs.declared.comp.Comp.{Comp}
use Rattle.ranges_tracker.specs.Trackable.{IsFitStep, StaysInStep}
use Rattle.ranges_tracker.proofs.Versions.{at_in, fit_of, in_next}
use Rattle.ranges_tracker_tests.proofs.tests.update.Goals as goal
use Rattle.ot_op.proofs.Applying.{First, first_of_all}

-- an operation of one component
applied_one : (text : List ℕ) (op : List Comp) (comp : Comp) (next : List ℕ) → op ≡ comp ∷ [] → applied_all text op ≡ Some next → applied text comp ≡ Some next
applied_one text op comp next is e =
    let f : First text comp [] next = first_of_all text comp [] next (sym (ap (applied_all text) is) ∙ e) in
    f.here ∙ f.rest

first_is : (comps op : List Comp) (comp first : Comp) → comps ≡ op → op ≡ comp ∷ [] → first ≡ get_or comps 0 first → first ≡ comp
first_is comps op comp first v o i = i ∙ ap (λ (x : List Comp). get_or x 0 first) (v ∙ o)

pub track-requires : goal.track-requires
track-requires c =
    let first = first_is c.comps.result.now c.in_ok-op.op c.args.comp c.index-comps-0.result c.comps.ensures.value c.in_ok-op.ensures c.index-comps-0.is in
    subst (λ (x : Comp). IsFitStep c.args.ranges x c.args.stamp.now 0) (sym first)
    (fit_of c.args.ranges c.args.text.now c.apply.new.text c.args.comp c.args.stamp.now c.requires (applied_one c.args.text.now c.in_ok-op.op c.args.comp c.apply.new.text c.in_ok-op.ensures c.in-Ok.ensures.ok) (c.if-not-is_small.ensures.room refl))

pub returns-in-Ok-track : goal.returns-in-Ok-track
returns-in-Ok-track c =
    let first = first_is c.comps.result.now c.in_ok-op.op c.args.comp c.index-comps-0.result c.comps.ensures.value c.in_ok-op.ensures c.index-comps-0.is in
    in_next c.in-Ok-track.made c.apply.new.text c.args.stamp.now c.track.new.marks
    (subst (λ (x : Comp). StaysInStep c.args.ranges x c.args.stamp.now 0 c.in-Ok-track.made c.track.new.marks) first c.in-Ok-track.ensures.stays c.args.text.now c.apply.new.text
    (at_in c.args.ranges c.args.text.now c.args.stamp.now c.requires)
    (applied_one c.args.text.now c.in_ok-op.op c.args.comp c.apply.new.text c.in_ok-op.ensures c.in-Ok.ensures.ok))
