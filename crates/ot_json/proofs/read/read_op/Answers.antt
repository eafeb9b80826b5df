use Rattle.std.proofs.Common.{rules, ◌≡◌}
use Rattle.std.specs.Prelude.{Ok}
use Rattle.serde_json.specs.View.{view}
use Rattle.ot_json.specs.Grammar.{operation_of}
use Rattle.ot_json.proofs.Limits.{read_within}
use Rattle.ot_json.proofs.read.read_op.Goals as goal

pub returns-clause-within : goal.returns-clause-within
returns-clause-within c =
    let is : operation_of (view c.args.value.now) ≡ Ok c.in_ok-op.op = search rules in
    read_within (view c.args.value.now) c.in_ok-op.op is
