use Rattle.plain_journal.proofs.Shown.{told_locked, told_behind}
use Rattle.plain_journal.proofs.declined.is_why.Goals as goal

pub returns-in-Busy : goal.returns-in-Busy
returns-in-Busy c = told_locked c.args.before.now c.requires c.args.seat c.args.session c.is_shown_by_some-in-Busy.result c.args.why c.in-Busy.is c.is_shown_by_some-in-Busy.ensures

pub returns-in-Unflushed : goal.returns-in-Unflushed
returns-in-Unflushed c = told_behind c.args.before.now c.requires c.args.seat c.args.session c.is_shown_by_some-in-Unflushed.result c.args.why c.in-Unflushed.is c.is_shown_by_some-in-Unflushed.ensures
