use Rattle.std.proofs.Common.{◌≡◌, ◌∙◌, ◌∷◌, ◌++◌, ℕ, List, length, [], Some, None, true, refl, sym, ap, subst}
use Rattle.std.specs.Prelude.{Option}
use Rattle.expiring_lock.specs.declared.refusal.Stale.{Stale}
use Rattle.journal_entries.specs.declared.act.Act.TheVariants.{Declined}
use Rattle.journal_entries.specs.declared.act.Entry.{Entry}
use Rattle.journal_entries.specs.declared.why.Why.TheVariants.{Nothing, Stale as IsStale}
use Rattle.journal_rules.specs.Whys.{IsWhy}
use Rattle.turn_rules.specs.Locking.{staleness}
use Rattle.turn_rules.specs.Turns.{entry_by}
use Rattle.book.specs.Calls.{MayNotCommit}
use Rattle.book.specs.Shown.{Shown, adds}
use Rattle.book.specs.declared.faults.CommitFault.{CommitFault}
use Rattle.book.specs.declared.faults.Prepared.{Prepared}
use Rattle.script_driver.specs.Holding.{AreHeld, IsDriver, kept_in}
use Rattle.script_driver.proofs.Finishing.{finished, finishes, may_release, not_stale, stale_finish, stands}
use Rattle.script_driver.proofs.Handing.{added_hands_none}
use Rattle.script_driver.proofs.Holding.{given_up, kept_set}
use Rattle.script_driver.specs.Clients.{AreOwnClientsOf}
use Rattle.script_driver.specs.Handing.{is_own, items_handed_by}
use Rattle.script_driver.proofs.Clients.{added_stays, own_stay, stays_on}
use Rattle.std.proofs.lemmas.List.{length-set}
use Rattle.std.proofs.lemmas.Result.{on_ok_weaker}
use Rattle.script_driver.proofs.Lines.{declined}
use Rattle.script_driver.proofs.Taking.{stale_why}
use Rattle.script_driver.proofs.Failing.{failed_behind, failed_kept, same_own}
use Rattle.script_driver.proofs.driver.Driver.finish.Goals as goal

pub returns-in_default-clause-driver : goal.returns-in_default-clause-driver
returns-in_default-clause-driver g c =
    let holds = c.args.self.now.holds.items in
    on_ok_weaker c.decline.result
    (λ is. let d = declined c.args.self.now c.decline.new.self (Some c.args.number) c.args.session Nothing c.requires.driver is in
    record { held = subst (λ (hs : List (Option Prepared)). AreHeld c.args.self.now.seat hs c.decline.new.self.journal) (sym c.in_default.ensures.now) (given_up holds c.decline.new.self.journal c.args.session c.requires.session d.held); clients = d.clients; many = d.many ∙ sym (ap length c.in_default.ensures.now ∙ length-set holds c.args.session None); handed = d.handed })
    c.decline.ensures.ok

pub returns-in_default-clause-gives : goal.returns-in_default-clause-gives
returns-in_default-clause-gives g c = on_ok_weaker c.decline.result (λ is. ap kept_in c.in_default.ensures.now ∙ kept_set c.args.self.now.holds.items c.args.session None c.requires.session) c.decline.ensures.ok

pub commit-requires-clause-seat : goal.commit-requires-clause-seat
commit-requires-clause-seat g c = sym (c.requires.driver.held.stands c.args.session c.in-Some.prepared c.in-Some.ensures.was).seat_is

pub commit-requires-clause-looked : goal.commit-requires-clause-looked
commit-requires-clause-looked g c = (c.requires.driver.held.stands c.args.session c.in-Some.prepared c.in-Some.ensures.was).looked

pub commit-requires-clause-decided : goal.commit-requires-clause-decided
commit-requires-clause-decided g c = (c.requires.driver.held.stands c.args.session c.in-Some.prepared c.in-Some.ensures.was).decided

pub release-requires : goal.release-requires
release-requires g c = record { may = λ none. may_release (Some c.args.number) c.args.session c.args.self.now c.in-Some.prepared c.requires.driver c.requires.session c.in-Some.ensures.was c.commit.new.self c.in-Ok.ensures.ok.0 c.in-Ok.ensures.ok.1 c.legal.ensures }

pub unreachable-requires : goal.unreachable-requires
unreachable-requires g c = not_stale (Some c.args.number) c.args.session c.args.self.now c.in-Some.prepared c.requires.driver c.requires.session c.in-Some.ensures.was c.commit.new.self c.in-Ok.ensures.ok.0 c.in-Ok.ensures.ok.1 c.in_default-release.field-0 c.in_default-release.ensures.stale

pub returns-in-Ok-clause-finishes : goal.returns-in-Ok-clause-finishes
returns-in-Ok-clause-finishes g c =
    finishes (Some c.args.number) c.args.session c.args.self.now c.in-Some.prepared c.requires.driver c.requires.session c.in-Some.ensures.was c.commit.new.self c.in-Ok.ensures.ok.0 c.in-Ok.ensures.ok.1 c.release.new.self c.in-Ok-release.ensures.ok.2 c.in-Ok.ensures.cached

pub returns-in-Ok-clause-gives : goal.returns-in-Ok-clause-gives
returns-in-Ok-clause-gives g c = ap kept_in c.in-Some.ensures.now ∙ kept_set c.args.self.now.holds.items c.args.session None c.requires.session

pub returns-in-Ok-clause-driver : goal.returns-in-Ok-clause-driver
returns-in-Ok-clause-driver g c =
    let drivers = ap (λ (b : Shown). b.drivers) c.in-Ok-release.ensures.ok.2 ∙ ap (λ (b : Shown). b.drivers) c.in-Ok.ensures.ok.1 in
    let own = is_own c.args.self.now.book.drivers c.args.self.now.seat in
    record {
      held = finished (Some c.args.number) c.args.session c.args.self.now c.in-Some.prepared c.requires.driver c.requires.session c.in-Some.ensures.was c.commit.new.self c.in-Ok.ensures.ok.0 c.in-Ok.ensures.ok.1 c.release.new.self c.in-Ok-release.ensures.ok.2
          c.give_up.new.holds.items c.in-Some.ensures.now;
      clients = subst (λ d. AreOwnClientsOf d c.args.self.now.seat c.args.self.now.clients.items c.release.new.self.journal) (sym drivers) (own_stay c.args.self.now.book.drivers c.args.self.now.seat c.args.self.now.clients.items c.args.self.now.book.journal c.release.new.self.journal (stays_on c.args.self.now.book.journal c.commit.new.self.journal c.release.new.self.journal (added_stays c.args.self.now.book c.commit.new.self c.args.self.now.seat (Some c.args.number) _ c.in-Ok.ensures.ok.1 refl) (added_stays c.commit.new.self c.release.new.self c.args.self.now.seat (Some c.args.number) _ c.in-Ok-release.ensures.ok.2 refl)) c.requires.driver.clients);
      many = c.requires.driver.many ∙ sym (ap length c.in-Some.ensures.now ∙ length-set c.args.self.now.holds.items c.args.session None);
      handed = c.requires.driver.handed ∙ sym (ap (λ d. items_handed_by (is_own d c.args.self.now.seat) c.release.new.self.journal) drivers ∙ added_hands_none own c.commit.new.self c.release.new.self c.args.self.now.seat (Some c.args.number) _ c.in-Ok-release.ensures.ok.2 refl ∙ added_hands_none own c.args.self.now.book c.commit.new.self c.args.self.now.seat (Some c.args.number) _ c.in-Ok.ensures.ok.1 refl);
    }

pub decline-requires-in-Err-Stale : goal.decline-requires-in-Err-Stale
decline-requires-in-Err-Stale g c =
    let s = c.requires.driver.held.stands c.args.session c.in-Some.prepared c.in-Some.ensures.was in
    let p = c.in-Some.prepared in let old = c.args.self.now.book.journal in
    let e = subst (λ (f : CommitFault). MayNotCommit old p f) c.in-Err-Stale.field-0-is c.in-Err-Stale.ensures.refused in
    subst (λ (b : Shown). IsWhy b.journal c.args.self.now.seat c.args.session (IsStale c.in-Err-Stale.stale)) (sym c.in-Err-Stale.ensures.kept) (stale_why p.look.doc p.look.token c.args.self.now.seat c.args.session old s.last c.in-Err-Stale.stale s.made s.last_is e)

pub returns-in-Err-Stale-clause-finishes : goal.returns-in-Err-Stale-clause-finishes
returns-in-Err-Stale-clause-finishes g c =
    let p = c.in-Some.prepared in let old = c.args.self.now.book.journal in
    let e = subst (λ (f : CommitFault). MayNotCommit old p f) c.in-Err-Stale.field-0-is c.in-Err-Stale.ensures.refused in
    on_ok_weaker c.decline-in-Err-Stale.result
    (λ is. stale_finish (Some c.args.number) c.args.session c.args.self.now p c.requires.driver c.requires.session c.in-Some.ensures.was c.in-Err-Stale.stale c.decline-in-Err-Stale.new.self.journal e
    (ap (λ (b : Shown). b.journal) is ∙ ap (λ (b : Shown). b.journal ++ entry_by c.args.self.now.seat (Some c.args.number) (Declined c.args.session (IsStale c.in-Err-Stale.stale)) ∷ []) c.in-Err-Stale.ensures.kept))
    c.decline-in-Err-Stale.ensures.ok

pub returns-in-Err-Stale-clause-gives : goal.returns-in-Err-Stale-clause-gives
returns-in-Err-Stale-clause-gives g c = on_ok_weaker c.decline-in-Err-Stale.result (λ is. ap kept_in c.in-Some.ensures.now ∙ kept_set c.args.self.now.holds.items c.args.session None c.requires.session) c.decline-in-Err-Stale.ensures.ok

pub returns-in-Err-Stale-clause-driver : goal.returns-in-Err-Stale-clause-driver
returns-in-Err-Stale-clause-driver g c =
    let holds = c.args.self.now.holds.items in let new = c.decline-in-Err-Stale.new.self in
    on_ok_weaker c.decline-in-Err-Stale.result
    (λ is. let d = declined c.args.self.now new (Some c.args.number) c.args.session (IsStale c.in-Err-Stale.stale) c.requires.driver
    (is ∙ ap (λ (b : Shown). adds b c.args.self.now.seat (Some c.args.number) (Declined c.args.session (IsStale c.in-Err-Stale.stale) ∷ [])) c.in-Err-Stale.ensures.kept) in
    record { held = subst (λ (hs : List (Option Prepared)). AreHeld c.args.self.now.seat hs new.journal) (sym c.in-Some.ensures.now) (given_up holds new.journal c.args.session c.requires.session d.held); clients = d.clients; many = d.many ∙ sym (ap length c.in-Some.ensures.now ∙ length-set holds c.args.session None); handed = d.handed })
    c.decline-in-Err-Stale.ensures.ok

pub returns-in_default-clause-failed : goal.returns-in_default-clause-failed
returns-in_default-clause-failed g c = failed_kept c.args.self.now.seat c.decline.result c.args.self.now.book c.decline.new.self c.decline.ensures.kept

pub returns-in-Err-Stale-clause-failed : goal.returns-in-Err-Stale-clause-failed
returns-in-Err-Stale-clause-failed g c =
    failed_behind c.args.self.now.seat c.decline-in-Err-Stale.result c.args.self.now.book c.commit.new.self c.decline-in-Err-Stale.new.self
    (same_own c.args.self.now.seat c.args.self.now.book c.commit.new.self c.in-Err-Stale.ensures.kept) c.decline-in-Err-Stale.ensures.kept
