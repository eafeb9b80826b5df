use Rattle.std.proofs.Common.{ap}
use Rattle.book.specs.Shown.{Shown}
use Rattle.flusher.proofs.Ends.{stale_of}
use Rattle.flusher.proofs.Taking.{prepared_up, taken_over}
use Rattle.flusher.proofs.putting.put.Goals as goal

pub returns-in-Err-Stale-clause-ends : goal.returns-in-Err-Stale-clause-ends
returns-in-Err-Stale-clause-ends g c =
    let stale = stale_of _ _ _ _ (record { token = c.args.look.token; doc = c.args.look.doc; kept = c.in-Ok.kept }) _ _ c.in-Err-Stale.field-0-is c.in-Err-Stale.ensures.refused in
    (taken_over c.args.by.seat c.args.look c.args.book.now.journal _ c.legal.ensures c.requires.taken stale.0, ap (λ (b : Shown). b.journal) stale.1)
