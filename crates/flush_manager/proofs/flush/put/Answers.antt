use Rattle.std.proofs.Common.{◌≡◌, ◌∙◌, refl, sym}
use Rattle.std.specs.Prelude.{Some, None}
use Rattle.book.proofs.Going.{goes_putting, goes_refused, goes_same}
use Rattle.book.proofs.Putting.{prepared_at_once}
use Rattle.flush_manager.proofs.flush.put.Goals as goal

pub flush-requires : goal.flush-requires
flush-requires g c = prepared_at_once c.args.look _ c.args.by.seat c.args.book.now.journal c.requires.looked (record { doc_is = refl; token_is = refl; kept_is = c.in-Ok.ensures })

pub returns-in_default-clause-goes : goal.returns-in_default-clause-goes
returns-in_default-clause-goes g c = goes_same c.args.book.now c.args.book.now refl

pub returns-in-Ok-flush-clause-goes : goal.returns-in-Ok-flush-clause-goes
returns-in-Ok-flush-clause-goes g c = goes_putting c.args.book.now c.flush.new.self c.args.by.seat c.args.by.line _ _ _ _ c.in-Ok-flush.ensures.ok.1 c.in-Ok-flush.ensures.put

pub returns-in-Err-StoreFault-clause-goes : goal.returns-in-Err-StoreFault-clause-goes
returns-in-Err-StoreFault-clause-goes g c = goes_refused c.args.book.now c.flush.new.self _ _ (record { token = c.args.look.token; doc = c.args.look.doc; kept = c.in-Ok.kept }) _ c.in-Err-StoreFault.ensures.refused c.in-Err-StoreFault.ensures.kept

pub returns-in-Err-Memory-clause-goes : goal.returns-in-Err-Memory-clause-goes
returns-in-Err-Memory-clause-goes g c = goes_refused c.args.book.now c.flush.new.self _ _ (record { token = c.args.look.token; doc = c.args.look.doc; kept = c.in-Ok.kept }) _ c.in-Err-Memory.ensures.refused c.in-Err-Memory.ensures.kept
