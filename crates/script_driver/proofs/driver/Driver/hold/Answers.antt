use Rattle.std.proofs.Common.{◌≡◌, ◌∙◌, ◌∷◌, ◌++◌, ℕ, List, length, [], Some, None, true, refl, sym, ap, subst}
use Rattle.std.specs.Prelude.{Option, option_and_then}
use Rattle.expiring_lock.specs.declared.refusal.Busy.{Busy as IsBusy}
use Rattle.dup_check.specs.declared.snapshot.Snapshot.{Snapshot}
use Rattle.journal_entries.specs.declared.why.Why.TheVariants.{NoDoc, Empty, Busy, Holding}
use Rattle.journal_rules.specs.Locks.{next_token}
use Rattle.turn_rules.specs.Locking.{acquired}
use Rattle.turn_rules.specs.Turns.{entry_by}
use Rattle.run_rules.specs.Keeping.{keeping}
use Rattle.book.specs.Calls.{told}
use Rattle.book.specs.Shown.{Shown, adds}
use Rattle.journal_entries.specs.declared.act.Act.TheVariants.{Declined}
use Rattle.book.specs.declared.faults.Prepared.{Prepared}
use Rattle.script_driver.specs.Holding.{AreHeld, kept, kept_in}
use Rattle.script_driver.proofs.Apart.{same_clients, wrote}
use Rattle.script_driver.specs.Clients.{AreOwnClientsOf}
use Rattle.script_driver.specs.Handing.{is_own, items_handed_by}
use Rattle.script_driver.proofs.Clients.{own_stay}
use Rattle.std.proofs.lemmas.List.{length-set}
use Rattle.std.proofs.lemmas.Result.{on_ok_weaker}
use Rattle.script_driver.proofs.Handing.{apart_hands_none}
use Rattle.script_driver.proofs.Holding.{kept_set, taken_up}
use Rattle.script_driver.proofs.Lines.{declined, holds_already, holds_taken, holds_unnamed, holds_why, keeps_none, keeps_some}
use Rattle.dispatcher.proofs.Taking.{takes, token_taken}
use Rattle.script_driver.proofs.Taking.{empty_why, held_up, holdable, none_waits, stands_taken}
use Rattle.script_driver.proofs.Failing.{added_own, failed_always, failed_behind, failed_kept, same_own}
use Rattle.script_driver.proofs.driver.Driver.hold.Goals as goal

pub returns-then-is_kept-clause-holds : goal.returns-then-is_kept-clause-holds
returns-then-is_kept-clause-holds g c =
    let holds = c.args.self.now.holds.items in
    on_ok_weaker c.decline.result
    (λ is. holds_already (entry_by c.args.self.now.seat (Some c.args.number)) c.args.session c.args.doc.now (kept_in holds c.args.session) (kept_in holds) c.args.self.now.book.journal c.decline.new.self.journal
    (keeps_some holds c.args.session c.is_kept.result c.requires.session c.is_kept.ensures c.if-is_kept.true) (ap (λ (b : Shown). b.journal) is))
    c.decline.ensures.ok

pub returns-then-is_kept-clause-driver : goal.returns-then-is_kept-clause-driver
returns-then-is_kept-clause-driver g c = on_ok_weaker c.decline.result (λ is. declined c.args.self.now c.decline.new.self (Some c.args.number) c.args.session Holding c.requires.driver is) c.decline.ensures.ok

pub returns-in_default-clause-holds : goal.returns-in_default-clause-holds
returns-in_default-clause-holds g c =
    let holds = c.args.self.now.holds.items in
    on_ok_weaker c.decline-in_default.result
    (λ is. holds_unnamed (entry_by c.args.self.now.seat (Some c.args.number)) c.args.session c.args.doc.now (kept_in holds c.args.session) (kept_in holds) c.args.self.now.book.journal c.decline-in_default.new.self.journal
    (ap (option_and_then kept) (keeps_none holds c.args.session c.is_kept.result c.requires.session c.is_kept.ensures c.if-is_kept.false)) (sym c.find.ensures ∙ c.in_default.is) (ap (λ (b : Shown). b.journal) is))
    c.decline-in_default.ensures.ok

pub returns-in_default-clause-driver : goal.returns-in_default-clause-driver
returns-in_default-clause-driver g c = on_ok_weaker c.decline-in_default.result (λ is. declined c.args.self.now c.decline-in_default.new.self (Some c.args.number) c.args.session NoDoc c.requires.driver is) c.decline-in_default.ensures.ok

pub returns-in_ok-prepare-in-Ok-clause-holds : goal.returns-in_ok-prepare-in-Ok-clause-holds
returns-in_ok-prepare-in-Ok-clause-holds g c =
    let holds = c.args.self.now.holds.items in let session = c.args.session in let line = Some c.args.number in
    let old = c.args.self.now.book.journal in let new = c.acquire.new.self.journal in
    let doc = c.in-Some.doc in let look = c.in-Ok.look in let was = c.in-Ok.ensures in let p = c.in_ok-prepare-in-Ok.field-0 in
    let is = ap (λ (b : Shown). b.journal) was.acquired in
    let keeps : kept_in c.keep.new.holds.items ≡ keeping session (Some (record { doc = doc; token = look.token })) (kept_in holds) =
    ap kept_in c.keep.ensures ∙ kept_set holds session (Some p) c.requires.session
    ∙ ap (λ (l : Snapshot). keeping session (Some (record { doc = l.doc; token = l.token })) (kept_in holds)) c.in_ok-prepare-in-Ok.ensures.look
    ∙ ap (λ (d : ℕ). keeping session (Some (record { doc = d; token = look.token })) (kept_in holds)) was.looks.2 in
    holds_taken (entry_by c.args.self.now.seat line) session c.args.doc.now (kept_in holds session) (kept_in holds) old new doc look.token (entry_by c.args.self.now.seat line (acquired doc old) ∷ []) (kept_in c.keep.new.holds.items)
    (ap (option_and_then kept) (keeps_none holds session c.is_kept.result c.requires.session c.is_kept.ensures c.if-is_kept.false)) (sym c.find.ensures ∙ c.in-Some.is) (holdable doc old was.free)
    (takes c.args.self.now.seat line doc old new look is was.looks.0 was.looks.2 was.free was.cached) is keeps

pub returns-in_ok-prepare-in-Ok-clause-apart : goal.returns-in_ok-prepare-in-Ok-clause-apart
returns-in_ok-prepare-in-Ok-clause-apart g c =
    let old = c.args.self.now.book.journal in
    wrote c.args.self.now.seat (Some c.args.number) (next_token old) (acquired c.in-Some.doc old) old c.acquire.new.self.journal refl (ap (λ (b : Shown). b.journal) c.in-Ok.ensures.acquired)

pub returns-in_ok-prepare-in-Ok-clause-driver : goal.returns-in_ok-prepare-in-Ok-clause-driver
returns-in_ok-prepare-in-Ok-clause-driver g c =
    let holds = c.args.self.now.holds.items in let session = c.args.session in let line = Some c.args.number in
    let old = c.args.self.now.book.journal in let new = c.acquire.new.self.journal in
    let doc = c.in-Some.doc in let look = c.in-Ok.look in let was = c.in-Ok.ensures in let p = c.in_ok-prepare-in-Ok.field-0 in
    let is = ap (λ (b : Shown). b.journal) was.acquired in
    let look_is = c.in_ok-prepare-in-Ok.ensures.look in
    let drivers = ap (λ (b : Shown). b.drivers) was.acquired in
    record {
      held = subst (λ (hs : List (Option Prepared)). AreHeld c.args.self.now.seat hs new) (sym c.keep.ensures)
          (taken_up holds old new session p c.requires.session (keeps_none holds session c.is_kept.result c.requires.session c.is_kept.ensures c.if-is_kept.false)
          (token_taken c.args.self.now.seat line doc old new look is was.looks.0 was.looks.2 ∙ ap (λ (l : Snapshot). l.token) (sym look_is)) c.requires.driver.held (returns-in_ok-prepare-in-Ok-clause-apart g c)
          (stands_taken c.args.self.now.seat line doc old new look is was.looks.0 was.looks.2 p look_is was.free c.in_ok-prepare-in-Ok.ensures.decided));
      clients = subst (λ d. AreOwnClientsOf d c.args.self.now.seat c.args.self.now.clients.items new) (sym drivers)
          (own_stay c.args.self.now.book.drivers c.args.self.now.seat c.args.self.now.clients.items old new (same_clients (next_token old) old new (returns-in_ok-prepare-in-Ok-clause-apart g c)) c.requires.driver.clients);
      many = c.requires.driver.many ∙ sym (ap length c.keep.ensures ∙ length-set holds session (Some p));
      handed = c.requires.driver.handed ∙ sym (ap (λ d. items_handed_by (is_own d c.args.self.now.seat) new) drivers ∙ apart_hands_none (is_own c.args.self.now.book.drivers c.args.self.now.seat) (next_token old) old new (returns-in_ok-prepare-in-Ok-clause-apart g c));
    }

pub returns-in-Err-Empty-clause-holds : goal.returns-in-Err-Empty-clause-holds
returns-in-Err-Empty-clause-holds g c =
    let holds = c.args.self.now.holds.items in let old = c.args.self.now.book.journal in let doc = c.in-Some.doc in
    on_ok_weaker c.decline-in-Err-Empty.result
    (λ is. holds_why (entry_by c.args.self.now.seat (Some c.args.number)) c.args.session c.args.doc.now (kept_in holds c.args.session) (kept_in holds) old c.decline-in-Err-Empty.new.self.journal doc Empty
    (ap (option_and_then kept) (keeps_none holds c.args.session c.is_kept.result c.requires.session c.is_kept.ensures c.if-is_kept.false)) (sym c.find.ensures ∙ c.in-Some.is)
    (empty_why doc old (none_waits doc old (sym (ap told c.in-Err-Empty.field-0-is) ∙ c.in-Err-Empty.ensures.refused)))
    (ap (λ (b : Shown). b.journal) is ∙ ap (λ (b : Shown). b.journal ++ entry_by c.args.self.now.seat (Some c.args.number) (Declined c.args.session Empty) ∷ []) c.in-Err-Empty.ensures.kept))
    c.decline-in-Err-Empty.ensures.ok

pub returns-in-Err-Empty-clause-driver : goal.returns-in-Err-Empty-clause-driver
returns-in-Err-Empty-clause-driver g c =
    on_ok_weaker c.decline-in-Err-Empty.result (λ is. declined c.args.self.now c.decline-in-Err-Empty.new.self (Some c.args.number) c.args.session Empty c.requires.driver
    (is ∙ ap (λ (b : Shown). adds b c.args.self.now.seat (Some c.args.number) (Declined c.args.session Empty ∷ [])) c.in-Err-Empty.ensures.kept)) c.decline-in-Err-Empty.ensures.ok

pub returns-in-Err-Busy-clause-holds : goal.returns-in-Err-Busy-clause-holds
returns-in-Err-Busy-clause-holds g c =
    let holds = c.args.self.now.holds.items in let old = c.args.self.now.book.journal in let doc = c.in-Some.doc in let b = c.in-Err-Busy.busy in
    on_ok_weaker c.decline-in-Err-Busy.result
    (λ is. holds_why (entry_by c.args.self.now.seat (Some c.args.number)) c.args.session c.args.doc.now (kept_in holds c.args.session) (kept_in holds) old c.decline-in-Err-Busy.new.self.journal doc (Busy b)
    (ap (option_and_then kept) (keeps_none holds c.args.session c.is_kept.result c.requires.session c.is_kept.ensures c.if-is_kept.false)) (sym c.find.ensures ∙ c.in-Some.is)
    (held_up doc old b (sym (ap told c.in-Err-Busy.field-0-is) ∙ c.in-Err-Busy.ensures.refused)).2
    (ap (λ (b : Shown). b.journal) (is ∙ ap (λ (b : IsBusy). adds c.acquire.new.self c.args.self.now.seat (Some c.args.number) (Declined c.args.session (Busy b) ∷ [])) c.in-Err-Busy.busy-is)
    ∙ ap (λ (x : Shown). x.journal ++ entry_by c.args.self.now.seat (Some c.args.number) (Declined c.args.session (Busy b)) ∷ []) c.in-Err-Busy.ensures.kept))
    c.decline-in-Err-Busy.ensures.ok

pub returns-in-Err-Busy-clause-driver : goal.returns-in-Err-Busy-clause-driver
returns-in-Err-Busy-clause-driver g c =
    on_ok_weaker c.decline-in-Err-Busy.result (λ is. declined c.args.self.now c.decline-in-Err-Busy.new.self (Some c.args.number) c.args.session (Busy c.in-Err-Busy.busy) c.requires.driver
    (is ∙ ap (λ (b : IsBusy). adds c.acquire.new.self c.args.self.now.seat (Some c.args.number) (Declined c.args.session (Busy b) ∷ [])) c.in-Err-Busy.busy-is
    ∙ ap (λ (b : Shown). adds b c.args.self.now.seat (Some c.args.number) (Declined c.args.session (Busy c.in-Err-Busy.busy) ∷ [])) c.in-Err-Busy.ensures.kept)) c.decline-in-Err-Busy.ensures.ok

pub returns-then-is_kept-clause-failed : goal.returns-then-is_kept-clause-failed
returns-then-is_kept-clause-failed g c = failed_kept c.args.self.now.seat c.decline.result c.args.self.now.book c.decline.new.self c.decline.ensures.kept

pub returns-in_default-clause-failed : goal.returns-in_default-clause-failed
returns-in_default-clause-failed g c = failed_kept c.args.self.now.seat c.decline-in_default.result c.args.self.now.book c.decline-in_default.new.self c.decline-in_default.ensures.kept

pub returns-in-Err-Empty-clause-failed : goal.returns-in-Err-Empty-clause-failed
returns-in-Err-Empty-clause-failed g c =
    failed_behind c.args.self.now.seat c.decline-in-Err-Empty.result c.args.self.now.book c.acquire.new.self c.decline-in-Err-Empty.new.self
    (same_own c.args.self.now.seat c.args.self.now.book c.acquire.new.self c.in-Err-Empty.ensures.kept) c.decline-in-Err-Empty.ensures.kept

pub returns-in-Err-Busy-clause-failed : goal.returns-in-Err-Busy-clause-failed
returns-in-Err-Busy-clause-failed g c =
    failed_behind c.args.self.now.seat c.decline-in-Err-Busy.result c.args.self.now.book c.acquire.new.self c.decline-in-Err-Busy.new.self
    (same_own c.args.self.now.seat c.args.self.now.book c.acquire.new.self c.in-Err-Busy.ensures.kept) c.decline-in-Err-Busy.ensures.kept

pub returns-in-Err-Memory-clause-failed : goal.returns-in-Err-Memory-clause-failed
returns-in-Err-Memory-clause-failed g c = same_own c.args.self.now.seat c.args.self.now.book c.acquire.new.self c.in-Err-Memory.ensures.kept

pub returns-in_err-prepare-in-Ok-clause-failed : goal.returns-in_err-prepare-in-Ok-clause-failed
returns-in_err-prepare-in-Ok-clause-failed g c =
    let old = c.args.self.now.book in
    failed_always c.args.self.now.seat c.from_residual.result old c.acquire.new.self
    (added_own c.args.self.now.seat old c.acquire.new.self (Some c.args.number) (acquired c.in-Some.doc old.journal) refl c.in-Ok.ensures.acquired)
