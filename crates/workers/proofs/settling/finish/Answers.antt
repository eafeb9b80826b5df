use Rattle.workers.proofs.Settled.{holds_on, settled_by, unsettled}
use Rattle.workers.proofs.settling.finish.Goals as goal

pub release-requires : goal.release-requires
release-requires g c =
    let m = c.if-commit_or_refuse.ensures in
    record { may = λ stands. holds_on c.args.by.seat c.args.by.line c.args.look _ _ m.1.0 m.1.1 c.legal.ensures c.requires.taken m.0 }

pub returns-then-commit_or_refuse-clause-settles : goal.returns-then-commit_or_refuse-clause-settles
returns-then-commit_or_refuse-clause-settles g c =
    let m = c.if-commit_or_refuse.ensures in
    settled_by c.args.by.seat c.args.by.line c.args.look _ _ m.1.0 m.1.1 _ c.release.result _ m.0 c.release.ensures.ok c.release.ensures.stale

pub returns-else-commit_or_refuse-clause-settles : goal.returns-else-commit_or_refuse-clause-settles
returns-else-commit_or_refuse-clause-settles g c =
    let m = c.if-commit_or_refuse.ensures in
    unsettled c.args.by.seat c.args.by.line c.args.look.doc c.args.look.token _ _ m.0 m.1
