use Rattle.std.proofs.Common.{arith, ◌<◌, ◌≤◌, ◌+◌, ◌≡◌, ap, length}
use Rattle.ot_text.specs.Lists.{joined}
use Rattle.ot_text.proofs.Lining.{feed, feed_in_front, feed_behind, feed_within, feed_least}
use Rattle.ot_text.proofs.lines.line_length.Goals as goal

pub overflow_add-before : goal.overflow_add-before
overflow_add-before c =
    let whole = ap (λ x. feed (joined x)) c.in-Some.ensures.steps in
    let least = feed_least c.in-Some.part.now (joined c.next.new.self) in
    let within = feed_within (joined c.args.parts) in
    omega (arith, whole, least, within, c.loop-part.invariant, c.feed_place-len.ensures, c.requires)

pub returns-then-len-part : goal.returns-then-len-part
returns-then-len-part c =
    let whole = ap (λ x. feed (joined x)) c.in-Some.ensures.steps in
    let here = feed_in_front c.in-Some.part.now (joined c.next.new.self) (omega (arith, c.feed_place-len.ensures)) in
    omega (arith, whole, here, c.loop-part.invariant, c.feed_place-len.ensures)

pub loop-part-preserved : goal.loop-part-preserved
loop-part-preserved c =
    let whole = ap (λ x. feed (joined x)) c.in-Some.ensures.steps in
    let behind = feed_behind c.in-Some.part.now (joined c.next.new.self) (omega (arith, c.feed_place-len.ensures)) in
    let within = feed_within c.in-Some.part.now in
    omega (arith, whole, behind, within, c.loop-part.invariant, c.feed_place-len.ensures)
