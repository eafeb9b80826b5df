use Rattle.std.proofs.Common.{rules, ◌≡◌, ◌<◌, ◌+◌, [], ◌∷◌, ◌++◌, length}
use Rattle.journal_entries.specs.Journals.{entries}
use Rattle.report_reader.proofs.Placed.{put_here, put_next, put_nowhere}
use Rattle.report_reader.proofs.boards.Boards.with.Goals as goal
use Rattle.report_reader.proofs.boards.Boards.with.Goals.{else-b-board-via-then-b-board+else-n-len, else-b-board-via-else-b-board, else-b-board-2-via-then-b-board-2+then-n-eq0+else-len-gt0, else-b-board-2-via-then-b-board-2+else-n-eq0, else-b-board-2-via-else-b-board-2}

pub returns-then-n-len-clause-ok : goal.returns-then-n-len-clause-ok
returns-then-n-len-clause-ok c =
    let js = c.self.inside.done.items in
    let last = c.self.inside.last in
    let board : c.args.b ≡ length js = search rules in
    let number : c.args.n ≡ length (entries last) = search rules in
    let pushed : entries c.push.new.self ≡ entries last ++ c.args.entry ∷ [] = search rules in
    put_here js last c.push.new.self c.args.b c.args.n c.args.entry c.args.self c.self.view_is c.self.invariant board number pushed

pub returns-then-len-gt0-clause-ok : goal.returns-then-len-gt0-clause-ok
returns-then-len-gt0-clause-ok c =
    let js = c.self.inside.done.items in
    let last = c.self.inside.last in
    let some : 0 < length (entries last) = search rules in
    let board : c.args.b ≡ length js + 1 = search rules in
    let begun : entries c.push-then-len-gt0.new.self ≡ c.args.entry ∷ [] = search rules in
    put_next js c.push-then-len-gt0-2.new.self.items last c.push-then-len-gt0.new.self c.args.b c.args.n c.args.entry c.args.self c.self.view_is some board c.if-n-eq0.true c.in_ok-push.ensures.items begun

pub returns-clause-outside : goal.returns-clause-outside
returns-clause-outside c = λ _.
    let js = c.self.inside.done.items in
    let last = c.self.inside.last in
    put_nowhere js last c.args.b c.args.n c.args.entry c.args.self c.self.view_is c.self.invariant
    (λ p q. elim c.else-b-board.branch [
      | else-b-board-via-then-b-board+else-n-len w ↦ absurd (search rules)
      | else-b-board-via-else-b-board w ↦ absurd (search rules)
    ])
    (λ s p q. elim c.else-b-board-2.branch [
      | else-b-board-2-via-then-b-board-2+then-n-eq0+else-len-gt0 w ↦ absurd (search rules)
      | else-b-board-2-via-then-b-board-2+else-n-eq0 w ↦ absurd (search rules)
      | else-b-board-2-via-else-b-board-2 w ↦ absurd (search rules)
    ])
