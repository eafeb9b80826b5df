use Rattle.std.proofs.Common.{length, refl, arith}
use Rattle.journal_rules.specs.Documents.{makings}
use Rattle.journal_rules.specs.Locks.{next_token}
use Rattle.script_driver.proofs.Apart.{same_clients}
use Rattle.script_driver.proofs.Flushes.{flushes_in_order}
use Rattle.run_end.proofs.closing.flush_needed.Goals as goal

pub returns-in-Done : goal.returns-in-Done
returns-in-Done g c =
    let old = c.args.book.now.journal in let new = c.flush_all-end.new.book.journal in
    let f = flushes_in_order (length (makings old)) old new _ c.legal.ensures c.requires.free (omega arith) c.in-Done.ensures.flushes in
    record { flushes = f.flushes; stay = same_clients (next_token old) old new f.apart; goes_on = c.flush_all-end.ensures.goes }

pub returns-in-Refused : goal.returns-in-Refused
returns-in-Refused g c =
    let old = c.args.book.now.journal in let new = c.flush_all-end.new.book.journal in
    let f = flushes_in_order (length (makings old)) old new _ c.legal.ensures c.requires.free (omega arith) c.in-Refused.ensures.flushes in
    record { flushes = f.flushes; stay = same_clients (next_token old) old new f.apart; goes_on = c.flush_all-end.ensures.goes }

pub returns-in-Failed : goal.returns-in-Failed
returns-in-Failed g c =
    let old = c.args.book.now.journal in let new = c.flush_all-end.new.book.journal in
    let f = flushes_in_order (length (makings old)) old new _ c.legal.ensures c.requires.free (omega arith) c.in-Failed.ensures.flushes in
    record { flushes = f.flushes; stay = same_clients (next_token old) old new f.apart; goes_on = c.flush_all-end.ensures.goes }
