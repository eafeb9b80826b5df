use Rattle.std.proofs.Common.{arith, ap, subst, length, List}
use Rattle.ot_op.specs.declared.comp.Comp.{Comp}
use Rattle.ot_op.specs.Operation.{IsOp}
use Rattle.ot_op.specs.Apply.{applied_all}
use Rattle.dup_check.proofs.Fitting.{components_few, fit, is_given}
use Rattle.dup_check.proofs.deciding.track_all.Goals as goal

pub prove-unreachable-requires : goal.prove-unreachable-requires
prove-unreachable-requires c =
    let same = ap length c.comps-comps.ensures.value in
    let solid : IsOp c.args.op.now = subst (λ (comps : List Comp). IsOp comps) c.comps-comps.ensures.value c.comps-comps.ensures.solid in
    omega (arith, same, components_few c.args.op.now solid, c.requires.small.units, c.requires.small.comments, c.if-prove.true)

pub track_op-requires : goal.track_op-requires
track_op-requires c =
    let solid : IsOp c.args.op.now = subst (λ (comps : List Comp). IsOp comps) c.comps-comps.ensures.value c.comps-comps.ensures.solid in
    let given = is_given (applied_all c.args.look.now.text c.args.op.now) c.requires.applies in
    rw c.in_ok-copy.ensures (fit c.args.look.now c.args.op.now given.0 c.requires.agrees c.requires.short c.requires.small solid given.1)
