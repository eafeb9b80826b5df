use Rattle.std.proofs.Common.{◌≡◌, ◌∙◌, List, length, Some, refl, sym, ap, subst, [], ◌∷◌}
use Rattle.std.proofs.lemmas.Result.{on_ok_weaker}
use Rattle.journal_entries.specs.declared.act.Act.TheVariants.{Declined}
use Rattle.journal_entries.specs.declared.why.Why.TheVariants.{NoDoc}
use Rattle.journal_rules.specs.Documents.{is_named, makings}
use Rattle.journal_rules.specs.Locks.{clock, next_token}
use Rattle.session_lines.specs.declared.line.Line.{Line}
use Rattle.book.specs.Shown.{Shown}
use Rattle.book.proofs.Going.{goes_rest}
use Rattle.script_driver.specs.Apart.{IsBehind}
use Rattle.script_driver.specs.Fitting.{IsFit}
use Rattle.script_driver.proofs.Apart.{wrote}
use Rattle.script_driver.proofs.Handing.{hand_behind}
use Rattle.script_driver.proofs.Resting.{goes_one}
use Rattle.script_driver.proofs.Lines.{apart_behind, apart_raw, behind_doc, behind_tick, both_ok, declined, drained, goes_synced, made, none_found, quiet_behind, sent, synced_behind, ticked}
use Rattle.script_driver.proofs.Failing.{failed_kept}
use Rattle.script_driver.proofs.driver.Driver.do_line.Goals as goal

pub make-requires-clause-new : goal.make-requires-clause-new
make-requires-clause-new g c =
    let fit = subst (λ (l : Line). IsFit (makings c.args.self.now.book.journal) l) c.in-Doc.is c.requires.fit in
    none_found (λ m. is_named c.in-Doc.doc m) (makings c.args.self.now.book.journal) fit.0

pub returns-in-Doc-clause-driver : goal.returns-in-Doc-clause-driver
returns-in-Doc-clause-driver g c =
    on_ok_weaker c.make.result (λ is. made c.args.self.now c.make.new.book (Some c.args.number) (length (makings c.args.self.now.book.journal)) c.in-Doc.doc c.in-Doc.project c.in-Doc.text c.in-Doc.v c.requires.driver is) c.make.ensures.ok

pub returns-in-Doc-clause-behind : goal.returns-in-Doc-clause-behind
returns-in-Doc-clause-behind g c =
    let old = c.args.self.now.book.journal in let new = c.make.new.book.journal in
    on_ok_weaker c.make.result (λ is. subst (λ (l : Line). IsBehind l old new) (sym c.in-Doc.is) (behind_doc c.args.self.now.seat (Some c.args.number) old new (length (makings old)) c.in-Doc.doc c.in-Doc.project c.in-Doc.text c.in-Doc.v (ap (λ (b : Shown). b.journal) is))) c.make.ensures.ok

pub returns-in-Tick-clause-driver : goal.returns-in-Tick-clause-driver
returns-in-Tick-clause-driver g c = on_ok_weaker c.tick.result (λ is. ticked c.args.self.now c.tick.new.book (Some c.args.number) c.in-Tick.ms c.requires.driver is) c.tick.ensures.ok

pub returns-in-Tick-clause-behind : goal.returns-in-Tick-clause-behind
returns-in-Tick-clause-behind g c =
    let old = c.args.self.now.book.journal in let new = c.tick.new.book.journal in
    on_ok_weaker c.tick.result (λ is. subst (λ (l : Line). IsBehind l old new) (sym c.in-Tick.is) (behind_tick c.args.self.now.seat (Some c.args.number) old new c.in-Tick.session c.in-Tick.ms (ap (λ (b : Shown). b.journal) is))) c.tick.ensures.ok

pub returns-in-Some-clause-driver : goal.returns-in-Some-clause-driver
returns-in-Some-clause-driver g c = on_ok_weaker c.send_raw.result (λ is. sent c.args.self.now c.send_raw.new.book (Some c.args.number) (clock c.args.self.now.book.journal) _ c.requires.driver is) c.send_raw.ensures.ok

pub returns-in-Some-clause-behind : goal.returns-in-Some-clause-behind
returns-in-Some-clause-behind g c =
    let old = c.args.self.now.book.journal in let new = c.send_raw.new.book.journal in
    on_ok_weaker c.send_raw.result (λ is. subst (λ (l : Line). IsBehind l old new) (sym c.in-Raw.is) (apart_behind _ (next_token old) old new (λ ms. refl) refl (apart_raw c.args.self.now.seat (Some c.args.number) old new (next_token old) (clock old) _ (ap (λ (b : Shown). b.journal) is)))) c.send_raw.ensures.ok

pub returns-in-Raw-clause-driver : goal.returns-in-Raw-clause-driver
returns-in-Raw-clause-driver g c = on_ok_weaker c.decline.result (λ is. declined c.args.self.now c.decline.new.self (Some c.args.number) c.in-Raw.session NoDoc c.requires.driver is) c.decline.ensures.ok

pub returns-in-Raw-clause-behind : goal.returns-in-Raw-clause-behind
returns-in-Raw-clause-behind g c =
    let old = c.args.self.now.book.journal in let new = c.decline.new.self.journal in
    on_ok_weaker c.decline.result (λ is. subst (λ (l : Line). IsBehind l old new) (sym c.in-Raw.is)
    (apart_behind _ (next_token old) old new (λ ms. refl) refl (wrote c.args.self.now.seat (Some c.args.number) (next_token old) (Declined c.in-Raw.session NoDoc) old new refl (ap (λ (b : Shown). b.journal) is)))) c.decline.ensures.ok

pub returns-in-Drain-clause-driver : goal.returns-in-Drain-clause-driver
returns-in-Drain-clause-driver g c = on_ok_weaker c.drain_named.result (λ g. drained c.args.self.now c.drain_named.new.book (Some c.args.number) (ap (λ (b : Shown). b.drivers) g.0) g.1 c.requires.driver) (both_ok _ _ c.drain_named.result c.drain_named.ensures.rest c.drain_named.ensures.apart)

pub returns-in-Drain-clause-behind : goal.returns-in-Drain-clause-behind
returns-in-Drain-clause-behind g c =
    let old = c.args.self.now.book.journal in let new = c.drain_named.new.book.journal in
    on_ok_weaker c.drain_named.result (λ g. subst (λ (l : Line). IsBehind l old new) (sym c.in-Drain.is) (apart_behind _ (next_token old) old new (λ ms. refl) refl g)) c.drain_named.ensures.apart

pub returns-in-Flush-clause-driver : goal.returns-in-Flush-clause-driver
returns-in-Flush-clause-driver g c = on_ok_weaker c.flush_named.result (λ g. drained c.args.self.now c.flush_named.new.book (Some c.args.number) g.0.drivers_are g.1 c.requires.driver) (both_ok _ _ c.flush_named.result c.flush_named.ensures.goes_on c.flush_named.ensures.apart)

pub returns-in-Flush-clause-behind : goal.returns-in-Flush-clause-behind
returns-in-Flush-clause-behind g c =
    let old = c.args.self.now.book.journal in let new = c.flush_named.new.book.journal in
    on_ok_weaker c.flush_named.result (λ g. subst (λ (l : Line). IsBehind l old new) (sym c.in-Flush.is) (apart_behind _ (next_token old) old new (λ ms. refl) refl g)) c.flush_named.ensures.apart

pub returns-in-Hold-clause-behind : goal.returns-in-Hold-clause-behind
returns-in-Hold-clause-behind g c =
    let old = c.args.self.now.book.journal in let new = c.hold.new.self.book.journal in
    on_ok_weaker c.hold.result (λ g. subst (λ (l : Line). IsBehind l old new) (sym c.in-Hold.is) (apart_behind _ (next_token old) old new (λ ms. refl) refl g)) c.hold.ensures.apart

pub returns-in-Finish-clause-behind : goal.returns-in-Finish-clause-behind
returns-in-Finish-clause-behind g c =
    let old = c.args.self.now.book.journal in let new = c.finish.new.self.book.journal in
    on_ok_weaker c.finish.result (λ g. subst (λ (l : Line). IsBehind l old new) (sym c.in-Finish.is) (apart_behind _ 0 old new (λ ms. refl) refl g)) c.finish.ensures.apart

pub returns-in-Join-clause-behind : goal.returns-in-Join-clause-behind
returns-in-Join-clause-behind g c =
    let old = c.args.self.now.book.journal in let new = c.join.new.self.book.journal in
    on_ok_weaker c.join.result (λ g. subst (λ (l : Line). IsBehind l old new) (sym c.in-Join.is) (quiet_behind _ c.in-Join.session old new (λ ms. refl) refl g)) c.join.ensures.quiet

pub returns-in-Ins-clause-behind : goal.returns-in-Ins-clause-behind
returns-in-Ins-clause-behind g c =
    let old = c.args.self.now.book.journal in let new = c.tell.new.self.book.journal in
    on_ok_weaker c.tell.result (λ g. subst (λ (l : Line). IsBehind l old new) (sym c.in-Ins.is) (quiet_behind _ c.in-Ins.session old new (λ ms. refl) refl g)) c.tell.ensures.quiet

pub returns-in-Del-clause-behind : goal.returns-in-Del-clause-behind
returns-in-Del-clause-behind g c =
    let old = c.args.self.now.book.journal in let new = c.tell-in-Del.new.self.book.journal in
    on_ok_weaker c.tell-in-Del.result (λ g. subst (λ (l : Line). IsBehind l old new) (sym c.in-Del.is) (quiet_behind _ c.in-Del.session old new (λ ms. refl) refl g)) c.tell-in-Del.ensures.quiet

pub returns-in-Com-clause-behind : goal.returns-in-Com-clause-behind
returns-in-Com-clause-behind g c =
    let old = c.args.self.now.book.journal in let new = c.tell-in-Com.new.self.book.journal in
    on_ok_weaker c.tell-in-Com.result (λ g. subst (λ (l : Line). IsBehind l old new) (sym c.in-Com.is) (quiet_behind _ c.in-Com.session old new (λ ms. refl) refl g)) c.tell-in-Com.ensures.quiet

pub returns-in-Send-clause-behind : goal.returns-in-Send-clause-behind
returns-in-Send-clause-behind g c =
    let old = c.args.self.now.book.journal in let new = c.tell-in-Send.new.self.book.journal in
    on_ok_weaker c.tell-in-Send.result (λ g. subst (λ (l : Line). IsBehind l old new) (sym c.in-Send.is) (quiet_behind _ c.in-Send.session old new (λ ms. refl) refl g)) c.tell-in-Send.ensures.quiet

pub returns-in-Resend-clause-behind : goal.returns-in-Resend-clause-behind
returns-in-Resend-clause-behind g c =
    let old = c.args.self.now.book.journal in let new = c.tell-in-Resend.new.self.book.journal in
    on_ok_weaker c.tell-in-Resend.result (λ g. subst (λ (l : Line). IsBehind l old new) (sym c.in-Resend.is) (quiet_behind _ c.in-Resend.session old new (λ ms. refl) refl g)) c.tell-in-Resend.ensures.quiet

pub returns-in-Recv-clause-behind : goal.returns-in-Recv-clause-behind
returns-in-Recv-clause-behind g c =
    let old = c.args.self.now.book.journal in let new = c.tell-in-Recv.new.self.book.journal in
    on_ok_weaker c.tell-in-Recv.result (λ g. subst (λ (l : Line). IsBehind l old new) (sym c.in-Recv.is) (quiet_behind _ c.in-Recv.session old new (λ ms. refl) refl g)) c.tell-in-Recv.ensures.quiet

pub returns-in-Leave-clause-behind : goal.returns-in-Leave-clause-behind
returns-in-Leave-clause-behind g c =
    let old = c.args.self.now.book.journal in let new = c.tell-in-Leave.new.self.book.journal in
    on_ok_weaker c.tell-in-Leave.result (λ g. subst (λ (l : Line). IsBehind l old new) (sym c.in-Leave.is) (quiet_behind _ c.in-Leave.session old new (λ ms. refl) refl g)) c.tell-in-Leave.ensures.quiet

pub returns-in-Rejoin-clause-behind : goal.returns-in-Rejoin-clause-behind
returns-in-Rejoin-clause-behind g c =
    let old = c.args.self.now.book.journal in let new = c.tell-in-Rejoin.new.self.book.journal in
    on_ok_weaker c.tell-in-Rejoin.result (λ g. subst (λ (l : Line). IsBehind l old new) (sym c.in-Rejoin.is) (quiet_behind _ c.in-Rejoin.session old new (λ ms. refl) refl g)) c.tell-in-Rejoin.ensures.quiet

pub returns-in-Sync-clause-behind : goal.returns-in-Sync-clause-behind
returns-in-Sync-clause-behind g c =
    let old = c.args.self.now.book.journal in let new = c.sync.new.self.book.journal in
    on_ok_weaker c.sync.result (λ g. subst (λ (l : Line). IsBehind l old new) (sym c.in-Sync.is) (synced_behind _ (next_token old) c.in-Sync.session old new (λ ms. refl) refl g)) c.sync.ensures.goes

pub returns-in-Hand-clause-behind : goal.returns-in-Hand-clause-behind
returns-in-Hand-clause-behind g c =
    let old = c.args.self.now.book.journal in let new = c.hand.new.self.book.journal in
    on_ok_weaker c.hand.result (λ is. subst (λ (l : Line). IsBehind l old new) (sym c.in-Hand.is) (hand_behind c.in-Hand.session c.in-Hand.n c.in-Hand.project old c.args.self.now.seat (Some c.args.number) new (ap (λ (b : Shown). b.journal) is))) c.hand.ensures.hands

-- ---- the book goes on
pub returns-in-Doc-clause-goes_on : goal.returns-in-Doc-clause-goes_on
returns-in-Doc-clause-goes_on g c = on_ok_weaker c.make.result (λ is. goes_one c.args.self.now.book c.make.new.book c.args.self.now.seat (Some c.args.number) _ is) c.make.ensures.ok

pub returns-in-Tick-clause-goes_on : goal.returns-in-Tick-clause-goes_on
returns-in-Tick-clause-goes_on g c = on_ok_weaker c.tick.result (λ is. goes_one c.args.self.now.book c.tick.new.book c.args.self.now.seat (Some c.args.number) _ is) c.tick.ensures.ok

pub returns-in-Some-clause-goes_on : goal.returns-in-Some-clause-goes_on
returns-in-Some-clause-goes_on g c = on_ok_weaker c.send_raw.result (λ is. goes_one c.args.self.now.book c.send_raw.new.book c.args.self.now.seat (Some c.args.number) _ is) c.send_raw.ensures.ok

pub returns-in-Raw-clause-goes_on : goal.returns-in-Raw-clause-goes_on
returns-in-Raw-clause-goes_on g c = on_ok_weaker c.decline.result (λ is. goes_one c.args.self.now.book c.decline.new.self c.args.self.now.seat (Some c.args.number) _ is) c.decline.ensures.ok

pub returns-in-Drain-clause-goes_on : goal.returns-in-Drain-clause-goes_on
returns-in-Drain-clause-goes_on g c = on_ok_weaker c.drain_named.result (λ b. goes_rest c.args.self.now.book c.drain_named.new.book b.1.more b.0 b.1.last_is) (both_ok _ _ c.drain_named.result c.drain_named.ensures.rest c.drain_named.ensures.apart)

pub returns-in-Hold-clause-goes_on : goal.returns-in-Hold-clause-goes_on
returns-in-Hold-clause-goes_on g c = on_ok_weaker c.hold.result (λ b. goes_rest c.args.self.now.book c.hold.new.self.book b.1.more b.0 b.1.last_is) (both_ok _ _ c.hold.result c.hold.ensures.rest c.hold.ensures.apart)

pub returns-in-Finish-clause-goes_on : goal.returns-in-Finish-clause-goes_on
returns-in-Finish-clause-goes_on g c = on_ok_weaker c.finish.result (λ b. goes_rest c.args.self.now.book c.finish.new.self.book b.1.more b.0 b.1.last_is) (both_ok _ _ c.finish.result c.finish.ensures.rest c.finish.ensures.apart)

pub returns-in-Sync-clause-goes_on : goal.returns-in-Sync-clause-goes_on
returns-in-Sync-clause-goes_on g c = on_ok_weaker c.sync.result (λ b. goes_synced c.args.self.now.book c.sync.new.self.book (next_token c.args.self.now.book.journal) c.in-Sync.session b.0 b.1) (both_ok _ _ c.sync.result c.sync.ensures.rest c.sync.ensures.goes)

pub returns-in-Join-clause-goes_on : goal.returns-in-Join-clause-goes_on
returns-in-Join-clause-goes_on g c = on_ok_weaker c.join.result (λ b. goes_rest c.args.self.now.book c.join.new.self.book b.1.more b.0 b.1.last_is) (both_ok _ _ c.join.result c.join.ensures.rest c.join.ensures.quiet)

pub returns-in-Ins-clause-goes_on : goal.returns-in-Ins-clause-goes_on
returns-in-Ins-clause-goes_on g c = on_ok_weaker c.tell.result (λ b. goes_rest c.args.self.now.book c.tell.new.self.book b.1.more b.0 b.1.last_is) (both_ok _ _ c.tell.result c.tell.ensures.rest c.tell.ensures.quiet)

pub returns-in-Del-clause-goes_on : goal.returns-in-Del-clause-goes_on
returns-in-Del-clause-goes_on g c = on_ok_weaker c.tell-in-Del.result (λ b. goes_rest c.args.self.now.book c.tell-in-Del.new.self.book b.1.more b.0 b.1.last_is) (both_ok _ _ c.tell-in-Del.result c.tell-in-Del.ensures.rest c.tell-in-Del.ensures.quiet)

pub returns-in-Com-clause-goes_on : goal.returns-in-Com-clause-goes_on
returns-in-Com-clause-goes_on g c = on_ok_weaker c.tell-in-Com.result (λ b. goes_rest c.args.self.now.book c.tell-in-Com.new.self.book b.1.more b.0 b.1.last_is) (both_ok _ _ c.tell-in-Com.result c.tell-in-Com.ensures.rest c.tell-in-Com.ensures.quiet)

pub returns-in-Send-clause-goes_on : goal.returns-in-Send-clause-goes_on
returns-in-Send-clause-goes_on g c = on_ok_weaker c.tell-in-Send.result (λ b. goes_rest c.args.self.now.book c.tell-in-Send.new.self.book b.1.more b.0 b.1.last_is) (both_ok _ _ c.tell-in-Send.result c.tell-in-Send.ensures.rest c.tell-in-Send.ensures.quiet)

pub returns-in-Resend-clause-goes_on : goal.returns-in-Resend-clause-goes_on
returns-in-Resend-clause-goes_on g c = on_ok_weaker c.tell-in-Resend.result (λ b. goes_rest c.args.self.now.book c.tell-in-Resend.new.self.book b.1.more b.0 b.1.last_is) (both_ok _ _ c.tell-in-Resend.result c.tell-in-Resend.ensures.rest c.tell-in-Resend.ensures.quiet)

pub returns-in-Recv-clause-goes_on : goal.returns-in-Recv-clause-goes_on
returns-in-Recv-clause-goes_on g c = on_ok_weaker c.tell-in-Recv.result (λ b. goes_rest c.args.self.now.book c.tell-in-Recv.new.self.book b.1.more b.0 b.1.last_is) (both_ok _ _ c.tell-in-Recv.result c.tell-in-Recv.ensures.rest c.tell-in-Recv.ensures.quiet)

pub returns-in-Leave-clause-goes_on : goal.returns-in-Leave-clause-goes_on
returns-in-Leave-clause-goes_on g c = on_ok_weaker c.tell-in-Leave.result (λ b. goes_rest c.args.self.now.book c.tell-in-Leave.new.self.book b.1.more b.0 b.1.last_is) (both_ok _ _ c.tell-in-Leave.result c.tell-in-Leave.ensures.rest c.tell-in-Leave.ensures.quiet)

pub returns-in-Rejoin-clause-goes_on : goal.returns-in-Rejoin-clause-goes_on
returns-in-Rejoin-clause-goes_on g c = on_ok_weaker c.tell-in-Rejoin.result (λ b. goes_rest c.args.self.now.book c.tell-in-Rejoin.new.self.book b.1.more b.0 b.1.last_is) (both_ok _ _ c.tell-in-Rejoin.result c.tell-in-Rejoin.ensures.rest c.tell-in-Rejoin.ensures.quiet)

pub returns-in-Hand-clause-goes_on : goal.returns-in-Hand-clause-goes_on
returns-in-Hand-clause-goes_on g c = on_ok_weaker c.hand.result (λ is. goes_one c.args.self.now.book c.hand.new.self.book c.args.self.now.seat (Some c.args.number) _ is) c.hand.ensures.hands

-- ---- a line that failed
pub returns-in-Doc-clause-failed : goal.returns-in-Doc-clause-failed
returns-in-Doc-clause-failed g c = failed_kept c.args.self.now.seat c.make.result c.args.self.now.book c.make.new.book c.make.ensures.kept

pub returns-in-Tick-clause-failed : goal.returns-in-Tick-clause-failed
returns-in-Tick-clause-failed g c = failed_kept c.args.self.now.seat c.tick.result c.args.self.now.book c.tick.new.book c.tick.ensures.kept

pub returns-in-Some-clause-failed : goal.returns-in-Some-clause-failed
returns-in-Some-clause-failed g c = failed_kept c.args.self.now.seat c.send_raw.result c.args.self.now.book c.send_raw.new.book c.send_raw.ensures.kept

pub returns-in-Raw-clause-failed : goal.returns-in-Raw-clause-failed
returns-in-Raw-clause-failed g c = failed_kept c.args.self.now.seat c.decline.result c.args.self.now.book c.decline.new.self c.decline.ensures.kept
