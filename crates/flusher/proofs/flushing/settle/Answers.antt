use Rattle.std.proofs.Common.{ℕ, sym, ◌∙◌, subst}
use Rattle.seat_turns.proofs.Turning.{longer_at}
use Rattle.flusher.specs.Taking.{IsTakenUp}
use Rattle.flusher.proofs.Ends.{ends_at, longer_by_end}
use Rattle.flusher.proofs.Taking.{taken_among}
use Rattle.flusher.proofs.flushing.settle.Goals as goal

pub put_and_release-put-requires-clause-taken : goal.put_and_release-put-requires-clause-taken
put_and_release-put-requires-clause-taken g c =
    subst (λ (n : ℕ). IsTakenUp n c.args.look c.take-book.result.journal) (sym c.number.ensures)
    (taken_among c.args.seat.now.view.number c.args.look c.args.seat.now.view.seen c.take-book.result.journal c.legal.ensures c.take-book.ensures.among c.requires.taken)

pub give-requires-clause-own : goal.give-requires-clause-own
give-requires-clause-own g c =
    longer_at _ _ _ _ _ (c.number.ensures ∙ sym c.take-book.ensures.same.0) (sym c.take-book.ensures.turn.2)
    (longer_by_end c.number.result c.args.look.doc c.args.look.token _ _ c.put_and_release-put.result c.put_and_release-put.ensures.puts)

pub returns-clause-puts : goal.returns-clause-puts
returns-clause-puts g c =
    ends_at _ _ c.args.look.doc c.args.look.token c.number.ensures _ _ c.put_and_release-put.result c.put_and_release-put.ensures.puts _ _ c.take-book.ensures.among c.give.ensures.seen
