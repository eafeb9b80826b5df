use Rattle.std.proofs.Common.{None}
use Rattle.journal_rules.specs.Locks.{next_token}
use Rattle.script_driver.proofs.Apart.{many_drained, same_clients, same_makings}
use Rattle.run_end.proofs.Draining.{still_free, never_held}
use Rattle.run_end.proofs.Rounding.{dry}
use Rattle.run_end.proofs.closing.drain_dry.Goals as goal

pub unreachable-requires : goal.unreachable-requires
unreachable-requires g c =
    let old = c.args.book.now.journal in let new = c.drain-end.new.book.journal in
    let d = c.in-Busy.ensures.drained in
    never_held c.args.doc c.in-Busy.busy new (still_free None c.args.doc c.in-Busy.count old new c.legal.ensures d.0 c.args.doc (c.requires.free c.args.doc)) d.2

pub returns-in-Done-clause-dry : goal.returns-in-Done-clause-dry
returns-in-Done-clause-dry g c = dry c.args.doc c.waiting-most.result c.in-Done.count c.args.book.now.journal c.drain-end.new.book.journal c.legal.ensures c.waiting-most.ensures c.in-Done.ensures.drained

pub returns-in-Done-clause-free : goal.returns-in-Done-clause-free
returns-in-Done-clause-free g c = λ d. still_free None c.args.doc c.in-Done.count c.args.book.now.journal c.drain-end.new.book.journal c.legal.ensures c.in-Done.ensures.drained.0 d (c.requires.free d)

pub returns-in-Done-clause-stay : goal.returns-in-Done-clause-stay
returns-in-Done-clause-stay g c =
    let old = c.args.book.now.journal in let new = c.drain-end.new.book.journal in
    same_clients (next_token old) old new (many_drained 0 None c.args.doc c.in-Done.count old new c.in-Done.ensures.drained.0)

pub returns-in-Done-clause-makings : goal.returns-in-Done-clause-makings
returns-in-Done-clause-makings g c =
    let old = c.args.book.now.journal in let new = c.drain-end.new.book.journal in
    same_makings (next_token old) old new (many_drained 0 None c.args.doc c.in-Done.count old new c.in-Done.ensures.drained.0)
