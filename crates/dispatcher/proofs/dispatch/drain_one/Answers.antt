use Rattle.std.proofs.Common.{ℕ, ◌∷◌, [], true, refl, ap, subst}
use Rattle.turn_rules.specs.Draining.{Settles}
use Rattle.turn_rules.specs.Locking.{acquired}
use Rattle.turn_rules.specs.Turns.{Alone, entry_by}
use Rattle.book.specs.Shown.{Shown}
use Rattle.dispatcher.proofs.Draining.{made_behind}
use Rattle.dispatcher.proofs.Taking.{may_refuse, not_stale, takes}
use Rattle.dispatcher.proofs.dispatch.drain_one.Goals as goal

pub settle-requires-clause-may : goal.settle-requires-clause-may
settle-requires-clause-may g c =
    let was = c.in_ok-look.ensures in
    may_refuse c.args.by.seat c.args.by.line c.args.doc c.args.book.now.journal c.acquire.new.self.journal c.in_ok-look.look (ap (λ (b : Shown). b.journal) was.acquired) was.looks.0 was.looks.2 c.legal.ensures

pub settle-requires-clause-fresh : goal.settle-requires-clause-fresh
settle-requires-clause-fresh g c =
    let was = c.in_ok-look.ensures in
    not_stale c.args.by.seat c.args.by.line c.args.doc c.args.book.now.journal c.acquire.new.self.journal c.in_ok-look.look (ap (λ (b : Shown). b.journal) was.acquired) was.looks.0 was.looks.2 c.legal.ensures

pub returns-clause-drains : goal.returns-clause-drains
returns-clause-drains g c =
    let was = c.in_ok-look.ensures in
    let by = entry_by c.args.by.seat c.args.by.line in
    let old = c.args.book.now.journal in
    let look = c.in_ok-look.look in
    let is = ap (λ (b : Shown). b.journal) was.acquired in (
      look.token,
      true,
      c.acquire.new.self.journal,
      (old, by (acquired c.args.doc old) ∷ [], refl, takes c.args.by.seat c.args.by.line c.args.doc old c.acquire.new.self.journal look is was.looks.0 was.looks.2 was.free was.cached, is),
      subst (λ (d : ℕ). Settles by Alone true d look.token c.acquire.new.self.journal c.settle.new.book.journal) was.looks.2 c.settle.ensures.settles,
    )

pub returns-clause-made : goal.returns-clause-made
returns-clause-made g c = made_behind (entry_by c.args.by.seat c.args.by.line) c.args.doc c.args.book.now.journal c.settle.new.book.journal (returns-clause-drains g c) c.requires.made
