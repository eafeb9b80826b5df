use Rattle.std.proofs.Common.{◌≡◌, ℕ, ◌+◌, ◌<◌, All, arith, sym, ap, ◌∙◌, subst}
use Rattle.journal_entries.specs.declared.act.Entry.{Entry}
use Rattle.board.specs.Views.{SawAll}
use Rattle.crew_rules.specs.Together.{GoesTogether}
use Rattle.crew_rules.proofs.Whole.{may_end}
use Rattle.run_rules.specs.Threads.{driver_seat, with_workers}
use Rattle.turn_rules.specs.Owning.{IsOwned}
use Rattle.crew.proofs.Courses.{clients_are, driver_saw, gone, handed_is}
use Rattle.crew.proofs.together.go_seated.Given.{Over}
use Rattle.crew.proofs.together.go_seated.Goals as goal

goes : (g : Over) (c : goal.After-drop-driven g) → GoesTogether (with_workers c.args.workers) c.args.lines.items c.args.seats.driver.view.seen c.close-book.result.0.journal
goes g c =
    let all = c.go_all-driven.result in
    let done = c.go_all-driven.ensures.done in
    let end = c.close-book.ensures in
    let journal = c.close-book.result.0.journal in
    let many : all.places.len + 3 ≡ c.args.workers + 3 = ap (λ (n : ℕ). n + 3) (done.0 ∙ c.requires.seats.many) in
    gone c.args.board c.args.wakes.now c.args.lines.items c.args.sessions c.args.seats.driver.view.seen journal c.args.workers c.args.seats c.requires.seats all.driven all.places all.flushed
    c.go_all-driven.ensures.driven done c.go_all-driven.ensures.flushed c.requires.some.0
    (sym c.is_closed-drove.ensures ∙ c.if-drove.true) (sym end.closed ∙ c.if-worked.true) (sym c.is_closed-let_go.ensures ∙ c.if-let_go.true)
    end.saw (subst (λ (n : ℕ). All (λ (e : Entry). e.seat < n) journal) many end.given) (end.made ∙ c.requires.made.1)

saw : (g : Over) (c : goal.After-drop-driven g) → SawAll c.close-book.result.0.journal (driver_seat 0, c.go_all-driven.result.driven.seat.view.seen)
saw g c =
    let all = c.go_all-driven.result in
    driver_saw c.args.board c.args.wakes.now c.args.lines.items c.args.sessions c.args.seats.driver.view.seen c.close-book.result.0.journal c.args.workers c.args.seats c.requires.seats all.driven _ c.go_all-driven.ensures.driven c.close-book.ensures.saw

pub returns-then-let_go-clause-goes : goal.returns-then-let_go-clause-goes
returns-then-let_go-clause-goes g c = goes g c

pub returns-then-let_go-clause-ends : goal.returns-then-let_go-clause-ends
returns-then-let_go-clause-ends g c = may_end (with_workers c.args.workers) c.args.lines.items c.args.seats.driver.view.seen c.close-book.result.0.journal (omega arith) (goes g c)

pub returns-then-let_go-clause-clients : goal.returns-then-let_go-clause-clients
returns-then-let_go-clause-clients g c =
    let all = c.go_all-driven.result in
    let journal = c.close-book.result.0.journal in
    let owned : IsOwned 1 journal = subst (λ (n : ℕ). IsOwned n journal) (c.close-book.ensures.same.0 ∙ c.requires.new.2) c.close-book.ensures.owned in
    clients_are c.args.board c.args.wakes.now c.args.lines.items c.args.sessions c.args.seats.driver.view.seen journal c.args.workers c.args.seats c.requires.seats all.driven
    c.go_all-driven.ensures.driven (sym c.is_closed-drove.ensures ∙ c.if-drove.true) (saw g c) owned (goes g c)

pub returns-then-let_go-clause-handed : goal.returns-then-let_go-clause-handed
returns-then-let_go-clause-handed g c =
    let all = c.go_all-driven.result in
    handed_is c.args.board c.args.wakes.now c.args.lines.items c.args.sessions c.args.seats.driver.view.seen c.close-book.result.0.journal c.args.workers c.args.seats c.requires.seats all.driven
    c.go_all-driven.ensures.driven (sym c.is_closed-drove.ensures ∙ c.if-drove.true) (saw g c) c.requires.made.0 c.requires.unhanded (goes g c)
