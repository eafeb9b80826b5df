use Rattle.std.proofs.Common.{subst}
use Rattle.std.specs.Prelude.{None, Option, Ok}
use Rattle.book.specs.declared.faults.KeptLook.{KeptLook}
use Rattle.run_rules.specs.Threads.{is_by}
use Rattle.turn_rules.specs.Turns.{Among, entry_by}
use Rattle.flusher.specs.Taking.{AcquiresIfNeeded}
use Rattle.flusher.proofs.Ends.{ends_same}
use Rattle.flusher.proofs.Flushes.{flushed_by, short_by}
use Rattle.flusher.proofs.Visiting.{visited_alone, visited_by}
use Rattle.flusher.proofs.flushing.flush_if_needed.Goals as goal

pub returns-in-Some-clause-flushes : goal.returns-in-Some-clause-flushes
returns-in-Some-clause-flushes g c =
    let n = c.args.seat.now.view.number in
    let t = subst (λ (o : Option KeptLook). AcquiresIfNeeded (entry_by n None) (Among (is_by n)) n c.args.doc c.args.seat.now.view.seen c.take_up.new.seat.view.seen (Ok o)) c.in-Some.is c.in_ok-look.ensures.takes in
    flushed_by n c.args.doc _ t.0 c.take_up.new.seat.view.seen _ c.in-Some.look t.1 t.2 c.settle.result (ends_same _ n _ _ _ _ c.settle.result c.take_up.ensures.same.0 c.settle.ensures.puts)

pub returns-in-Some-clause-short : goal.returns-in-Some-clause-short
returns-in-Some-clause-short g c =
    let n = c.args.seat.now.view.number in
    let t = subst (λ (o : Option KeptLook). AcquiresIfNeeded (entry_by n None) (Among (is_by n)) n c.args.doc c.args.seat.now.view.seen c.take_up.new.seat.view.seen (Ok o)) c.in-Some.is c.in_ok-look.ensures.takes in
    short_by n c.args.doc _ t.0 c.take_up.new.seat.view.seen _ c.in-Some.look t.1 t.2 c.settle.result (ends_same _ n _ _ _ _ c.settle.result c.take_up.ensures.same.0 c.settle.ensures.puts)

pub returns-in-Some-clause-visited : goal.returns-in-Some-clause-visited
returns-in-Some-clause-visited g c =
    let n = c.args.seat.now.view.number in
    let t = subst (λ (o : Option KeptLook). AcquiresIfNeeded (entry_by n None) (Among (is_by n)) n c.args.doc c.args.seat.now.view.seen c.take_up.new.seat.view.seen (Ok o)) c.in-Some.is c.in_ok-look.ensures.takes in
    visited_by n c.args.doc _ t.0 c.take_up.new.seat.view.seen _ c.in-Some.look t.1 t.2 c.settle.result (ends_same _ n _ _ _ _ c.settle.result c.take_up.ensures.same.0 c.settle.ensures.puts)

pub returns-in-None-clause-visited : goal.returns-in-None-clause-visited
returns-in-None-clause-visited g c =
    let n = c.args.seat.now.view.number in
    let t = subst (λ (o : Option KeptLook). AcquiresIfNeeded (entry_by n None) (Among (is_by n)) n c.args.doc c.args.seat.now.view.seen c.take_up.new.seat.view.seen (Ok o)) c.in-None.is c.in_ok-look.ensures.takes in
    visited_alone n c.args.doc _ _ t.0 t.1
