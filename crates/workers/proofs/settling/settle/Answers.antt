use Rattle.std.proofs.Common.{ℕ, sym, ◌∙◌, subst}
use Rattle.workers.specs.Taking.{IsTakenUp}
use Rattle.workers.proofs.Standing.{taken_among}
use Rattle.seat_turns.proofs.Turning.{longer_at}
use Rattle.workers.proofs.Turning.{longer_by_settling, settles_at}
use Rattle.workers.proofs.settling.settle.Goals as goal

pub finish-requires-clause-taken : goal.finish-requires-clause-taken
finish-requires-clause-taken g c =
    subst (λ (n : ℕ). IsTakenUp n c.args.look c.take-book.result.journal) (sym c.number.ensures)
    (taken_among c.args.seat.now.view.number c.args.look c.args.seat.now.view.seen c.take-book.result.journal c.legal.ensures c.take-book.ensures.among c.requires.taken)

pub give-requires-clause-own : goal.give-requires-clause-own
give-requires-clause-own g c =
    longer_at _ _ _ _ _ (c.number.ensures ∙ sym c.take-book.ensures.same.0) (sym c.take-book.ensures.turn.2)
    (longer_by_settling _ _ _ _ _ _ c.finish.ensures.settles)

pub returns-clause-settles : goal.returns-clause-settles
returns-clause-settles g c =
    settles_at _ _ _ _ _ _ _ _ c.number.ensures c.take-book.ensures.among c.finish.ensures.settles c.give.ensures.seen
