use Rattle.std.proofs.Common.{sym}
use Rattle.journal_sizes.proofs.Updates.{has_room}
use Rattle.plain_journal.proofs.deciding.decided_on.Goals as goal

pub decided-requires-clause-room : goal.decided-requires-clause-room
decided-requires-clause-room c = λ low high young. has_room c.args.doc c.in-Some.update.now c.args.journal.now c.args.ticket c.requires (sym c.in-Some.ensures) low young
