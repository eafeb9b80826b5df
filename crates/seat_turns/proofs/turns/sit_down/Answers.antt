use Rattle.std.proofs.Common.{List, ap, subst, sym}
use Rattle.journal_entries.specs.declared.act.Entry.{Entry}
use Rattle.board.specs.declared.view.View.{View}
use Rattle.turn_rules.specs.Turns.{Among}
use Rattle.run_rules.specs.Threads.{is_by}
use Rattle.seat_turns.proofs.Boards.{sees_others}
use Rattle.seat_turns.proofs.turns.sit_down.Goals as goal

pub returns-clause-among : goal.returns-clause-among
returns-clause-among g c = λ other.
    subst (λ (j : List Entry). Among (is_by c.args.seat.now.view.number) c.args.seat.now.view.seen j) (sym (ap (λ (v : View). v.seen) c.give.ensures.seat.1))
    (sees_others _ _ _ _ _ _ other c.take-book.ensures.taken)
