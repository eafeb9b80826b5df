use Rattle.std.proofs.Common.{sym, ◌∙◌}
use Rattle.std.proofs.lemmas.Result.{IfOk-weaker}
use Rattle.script_driver.specs.Holding.{kept_in}
use Rattle.drivers.proofs.Follows.{drives_none, drives_session}
use Rattle.drivers.proofs.stepping.do_where_driven.Goals as goal

pub do_turn-requires-clause-session : goal.do_turn-requires-clause-session
do_turn-requires-clause-session g c = (c.in-Some.field-0, sym c.session.ensures ∙ c.in-Some.is)

pub do_turn-requires-clause-fit : goal.do_turn-requires-clause-fit
do_turn-requires-clause-fit g c = c.requires.fit c.in-Some.field-0 (sym c.session.ensures ∙ c.in-Some.is)

pub returns-in-None-clause-goes : goal.returns-in-None-clause-goes
returns-in-None-clause-goes g c = λ rest last drives.
    drives_none c.args.number c.args.line rest (kept_in c.args.kept.holds.items) c.args.seat.now.view.seen last (sym c.session.ensures ∙ c.in-None.is) drives

pub returns-in-Some-clause-goes : goal.returns-in-Some-clause-goes
returns-in-Some-clause-goes g c =
    IfOk-weaker c.do_turn.result _ _
    (λ after does rest last drives. drives_session c.args.number c.args.line rest (kept_in c.args.kept.holds.items) c.args.seat.now.view.seen last c.in-Some.field-0 (sym c.session.ensures ∙ c.in-Some.is) (kept_in after.holds.items) c.do_turn.new.seat.view.seen does drives)
    c.do_turn.ensures.does
