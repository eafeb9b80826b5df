use Rattle.std.proofs.Common.{ℕ, subst, ◌∙◌}
use Rattle.turn_rules.specs.Turns.{Among, is_by}
use Rattle.drivers.proofs.Follows.{drive_follows}
use Rattle.drivers.proofs.Keeps.{clients_closed, handed_closed, not_first, starts_with}
use Rattle.drivers.proofs.driving.drive.Goals as goal

pub do_lines-done-requires-clause-starts : goal.do_lines-done-requires-clause-starts
do_lines-done-requires-clause-starts g c =
    let first = c.requires.first.0 in
    starts_with c.args.seat.view.seen c.sit_down.new.seat.view.seen c.requires.made
    (subst (λ (n : ℕ). Among (is_by n) c.args.seat.view.seen c.sit_down.new.seat.view.seen) first (c.sit_down.ensures.among (not_first _ first)))

pub returns-in-Ok-clause-follows : goal.returns-in-Ok-clause-follows
returns-in-Ok-clause-follows g c =
    let first = c.requires.first.0 in
    let end = c.close.ensures.closes in
    drive_follows c.args.lines.items c.args.seat.view.seen c.sit_down.new.seat.view.seen c.do_lines-done.new.seat.view.seen end.0 c.close.new.seat.view.seen
    (subst (λ (n : ℕ). Among (is_by n) c.args.seat.view.seen c.sit_down.new.seat.view.seen) first (c.sit_down.ensures.among (not_first _ first)))
    c.in-Ok.ensures.drives end.1.among end.2

pub returns-in-Ok-clause-clients : goal.returns-in-Ok-clause-clients
returns-in-Ok-clause-clients g c =
    let end = c.close.ensures.closes in
    let kept = c.in-Ok.ensures.kept in
    (clients_closed _ c.do_lines-done.new.seat.view.seen end.0 kept end.1 c.close.new.seat.view.seen end.2, kept.many ∙ c.in-Ok.ensures.many)

pub returns-in-Ok-clause-handed : goal.returns-in-Ok-clause-handed
returns-in-Ok-clause-handed g c =
    let end = c.close.ensures.closes in
    handed_closed _ c.do_lines-done.new.seat.view.seen end.0 c.in-Ok.ensures.kept end.1 c.close.new.seat.view.seen end.2
