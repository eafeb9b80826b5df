use Rattle.std.proofs.Common.{rules, ◌≡◌, ◌∙◌, ◌+◌, ◌≤◌, ℕ, List, [], ◌∷◌, length, sum_by, true, refl, sym, ap, subst, arith}
use Rattle.std.proofs.lemmas.List.Elements.{All-nil}
use Rattle.std.proofs.lemmas.List.Sums.{sum_by-append}
use Rattle.journal_entries.specs.declared.act.Entry.{Entry}
use Rattle.journal_rules.specs.Documents.{Making, makings}
use Rattle.journal_rules.specs.Legal.{closed}
use Rattle.journal_rules.specs.Locks.{clock}
use Rattle.journal_rules.proofs.Pushing.{clock-none, closed-none, makings-none}
use Rattle.ending_rules.specs.Rounds.{joins_below}
use Rattle.session_lines.specs.Standing.{AreBySessions, moved_by}
use Rattle.session_lines.specs.declared.line.Line.{Line}
use Rattle.run_rules.specs.Keeping.{Preparations, nothing_kept}
use Rattle.run_rules.specs.Lines.{Does, Leads, numbered}
use Rattle.turn_rules.specs.Owning.{client_owner}
use Rattle.turn_rules.specs.Turns.{Alone}
use Rattle.book.specs.Shown.{Shown}
use Rattle.book.proofs.Going.{goes_further, goes_same}
use Rattle.script_driver.specs.Fitting.{AreBuilt, AreFit}
use Rattle.script_driver.specs.Holding.{IsDriver, kept_in}
use Rattle.script_driver.specs.Handing.{is_own, items_handed_by}
use Rattle.script_driver.proofs.Clients.{own_all}
use Rattle.script_driver.proofs.Lines.{by_parts, by_rest, empty_driver, kept_none}
use Rattle.script_driver.proofs.driver.do_lines.Goals as goal

pub loop-line-init : goal.loop-line-init
loop-line-init g c =
    let same : c.into_iter-line-iterator.result.rest.items ≡ c.args.lines.items = search rules in
    let new = c.in_ok-driver.ensures in
    let none : c.in_ok-driver.driver.book.journal ≡ [] = ap (λ (b : Shown). b.journal) new.book in
    let now = ap clock none ∙ clock-none in
    rw same (record {
      driver = empty_driver c.in_ok-driver.driver (none, new.handed) new.nothing new.away (new.many ∙ sym new.sessions);
      seat = new.seat;
      goes_on = goes_same _ c.in_ok-driver.driver.book new.book;
      sessions = new.sessions;
      fit = subst (λ (ms : List Making). AreFit ms c.args.lines.items) (sym (ap makings none ∙ makings-none)) c.requires.fit;
      built = c.requires.built;
      by = c.requires.numbered;
      clock = omega (arith, now);
      closed = ap closed none ∙ closed-none;
      count = refl;
      leads = λ last leads. subst (λ (j : List Entry). Leads 0 Alone (numbered 1 c.args.lines.items) nothing_kept j last) none
          (subst (λ (k : Preparations). Leads 0 Alone (numbered 1 c.args.lines.items) k c.in_ok-driver.driver.book.journal last) (kept_none c.in_ok-driver.driver.holds.items new.nothing) leads);
    })

pub do_line-requires-clause-fit : goal.do_line-requires-clause-fit
do_line-requires-clause-fit g c =
    let rest : c.loop-line.line-iterator.rest.items ≡ c.in-Some.line ∷ c.next.new.self.rest.items = search rules in
    (subst (λ (ls : List Line). AreFit (makings c.loop-line.driver.book.journal) ls) rest c.loop-line.invariant.fit).0

pub do_line-requires-clause-built : goal.do_line-requires-clause-built
do_line-requires-clause-built g c =
    let rest : c.loop-line.line-iterator.rest.items ≡ c.in-Some.line ∷ c.next.new.self.rest.items = search rules in
    (subst (λ (ls : List Line). AreBuilt ls) rest c.loop-line.invariant.built).0

pub do_line-requires-clause-numbered : goal.do_line-requires-clause-numbered
do_line-requires-clause-numbered g c =
    let rest : c.loop-line.line-iterator.rest.items ≡ c.in-Some.line ∷ c.next.new.self.rest.items = search rules in
    by_parts c.args.sessions (length c.loop-line.driver.holds.items) c.in-Some.line c.next.new.self.rest.items (sym c.loop-line.invariant.sessions) (subst (λ (ls : List Line). AreBySessions c.args.sessions ls) rest c.loop-line.invariant.by)

pub loop-line-preserved : goal.loop-line-preserved
loop-line-preserved g c =
    let rest : c.loop-line.line-iterator.rest.items ≡ c.in-Some.line ∷ c.next.new.self.rest.items = search rules in
    let was = c.loop-line.invariant in let done = c.in-Ok.ensures in let behind = done.behind in
    let fit = subst (λ (ls : List Line). AreFit (makings c.loop-line.driver.book.journal) ls) rest was.fit in
    let built = subst (λ (ls : List Line). AreBuilt ls) rest was.built in
    let by = subst (λ (ls : List Line). AreBySessions c.args.sessions ls) rest was.by in
    let now = was.clock in let cut = ap (λ (ls : List Line). sum_by moved_by ls) rest in let sum = sum_by-append moved_by (c.in-Some.line ∷ []) c.next.new.self.rest.items in let tick = behind.clock_is in
    let count = was.count in let shorter = ap length rest in
    record {
      driver = done.driver;
      seat = done.seat ∙ was.seat;
      goes_on = goes_further _ c.loop-line.driver.book c.do_line.new.self.book was.goes_on done.goes_on;
      sessions = done.sessions ∙ was.sessions;
      fit = subst (λ (ms : List Making). AreFit ms c.next.new.self.rest.items) (sym behind.makings_are) fit.1;
      built = built.1;
      by = (by_rest c.args.sessions c.in-Some.line c.next.new.self.rest.items by);
      clock = omega (arith, now, cut, sum, tick);
      closed = behind.closed_is ∙ was.closed;
      count = omega (arith, count, shorter);
      leads = λ last leads. was.leads last (subst (λ (ls : List Line). Leads 0 Alone (numbered c.loop-line.number ls) (kept_in c.loop-line.driver.holds.items) c.loop-line.driver.book.journal last) (sym rest)
          (c.do_line.new.self.book.journal, kept_in c.do_line.new.self.holds.items, subst (λ s. Does s Alone c.loop-line.number c.in-Some.line (kept_in c.loop-line.driver.holds.items) c.loop-line.driver.book.journal c.do_line.new.self.book.journal (kept_in c.do_line.new.self.holds.items)) was.seat done.does, leads));
    }

pub do_line-requires-clause-owned : goal.do_line-requires-clause-owned
do_line-requires-clause-owned g c = λ session is. ap (λ d. client_owner d session) c.loop-line.invariant.goes_on.drivers_are ∙ sym c.loop-line.invariant.seat

pub returns-clause-clients : goal.returns-clause-clients
returns-clause-clients g c =
    let was = c.loop-line.invariant in
    own_all c.loop-line.driver.book.drivers c.loop-line.driver.seat c.loop-line.driver.clients.items c.loop-line.driver.book.journal was.goes_on.drivers_are was.seat was.driver.clients

pub returns-clause-handed : goal.returns-clause-handed
returns-clause-handed g c =
    let was = c.loop-line.invariant in
    was.driver.handed ∙ ap (λ d. items_handed_by (is_own d c.loop-line.driver.seat) c.loop-line.driver.book.journal) was.goes_on.drivers_are
