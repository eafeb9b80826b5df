use Rattle.std.proofs.Common.{◌∙◌, length, sym, ap}
use Rattle.std.specs.Prelude.{nat_le}
use Rattle.std.proofs.lemmas.Bool.{le-ltb}
use Rattle.ranges_tracker.specs.declared.change.Change.{Change}
use Rattle.ranges_tracker.proofs.Walking.{over_at, over_end}
use Rattle.ranges_tracker.proofs.covers.is_over.Goals as goal

pub returns-then-first-inserts-clause-over : goal.returns-then-first-inserts-clause-over
returns-then-first-inserts-clause-over c =
    ap (λ (x : Change). nat_le x.at c.args.i) (sym c.index-inserts-first.is)
    ∙ over_at c.args.i 0 c.args.from c.first_past-first.result c.args.inserts.now c.index-inserts-first.result c.requires.lined c.if-first-inserts.true c.index-inserts-first.is c.first_past-first.ensures.rest

pub returns-else-first-inserts-clause-over : goal.returns-else-first-inserts-clause-over
returns-else-first-inserts-clause-over c =
    le-ltb c.first_past-first.result (length c.args.inserts.now) c.if-first-inserts.false
    ∙ sym (over_end c.args.i c.args.from c.first_past-first.result c.args.inserts.now c.if-first-inserts.false c.first_past-first.ensures.rest)
