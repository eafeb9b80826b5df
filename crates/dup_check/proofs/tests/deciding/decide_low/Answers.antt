use Rattle.std.proofs.Common.{List, refl, subst, arith}
use Rattle.std.specs.List.{All}
use Rattle.dup_check.specs.declared.past.Past.{Past}
use Rattle.dup_check.proofs.Plain.{plain_agrees}
use Rattle.dup_check.proofs.Low.{IsLow, low_ready}
use Rattle.dup_check.proofs.tests.deciding.decide_low.Goals as goal

pub decide-requires-clause-agrees : goal.decide-requires-clause-agrees
decide-requires-clause-agrees c = plain_agrees c.args.look.now c.requires

pub decide-requires-clause-ready : goal.decide-requires-clause-ready
decide-requires-clause-ready c =
    let past : All (λ x. IsLow x.op) c.args.look.now.past.items = subst (λ (xs : List Past). All (λ x. IsLow x.op) xs) c.as_slice.ensures.value (c.if-not-are_low.ensures refl) in
    low_ready c.args.look.now (c.if-not-is_low.ensures.few refl, c.if-not-is_low.ensures.low refl) past (omega arith) (c.if-not-is_whole.ensures refl)
