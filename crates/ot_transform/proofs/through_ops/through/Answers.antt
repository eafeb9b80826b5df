use Rattle.ot_transform.proofs.Following.{follows_on, through_no_larger_on}
use Rattle.ot_transform.proofs.through_ops.through.Goals as goal

pub returns-clause-follows : goal.returns-clause-follows
returns-clause-follows c = follows_on _ _ _ c.fold_through.ensures

pub returns-clause-no_larger : goal.returns-clause-no_larger
returns-clause-no_larger c = through_no_larger_on _ _ _ c.fold_through.ensures
