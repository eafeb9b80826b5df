use Rattle.std.proofs.Common.{rules, ◌≡◌, ◌∙◌, ◌+◌, List, [], ◌∷◌, length, refl, sym, ap, subst, arith}
use Rattle.session_lines.specs.Standing.{AreBySessions}
use Rattle.session_lines.specs.declared.line.Line.{Line}
use Rattle.run_rules.specs.Keeping.{Preparations}
use Rattle.run_rules.specs.Lines.{numbered}
use Rattle.script_driver.specs.Fitting.{AreBuilt, AreFit}
use Rattle.script_driver.specs.Holding.{kept_in}
use Rattle.script_driver.proofs.Lines.{by_parts, by_rest}
use Rattle.drivers.specs.Driving.{Drives}
use Rattle.drivers.proofs.Does.{fit_anywhere}
use Rattle.drivers.proofs.Keeps.{open_start}
use Rattle.drivers.proofs.driving.do_lines.Goals as goal

pub returns-in_err-kept-clause-unclosed : goal.returns-in_err-kept-clause-unclosed
returns-in_err-kept-clause-unclosed g c = open_start c.args.seat.now.view.seen c.requires.starts

pub loop-line-init : goal.loop-line-init
loop-line-init g c =
    let same : c.into_iter-line-iterator.result.rest.items ≡ c.args.lines.items = search rules in
    let new = c.in_ok-kept.ensures in
    let can = c.requires.lines in
    rw same (record {
      idle = c.requires.idle;
      same = (refl, refl, refl);
      pass = (c.requires.pass, refl);
      unclosed = open_start c.args.seat.now.view.seen c.requires.starts;
      kept = new.kept c.args.seat.now.view.seen c.requires.starts;
      many = new.many;
      fit = ([], can.fit);
      built = can.built;
      by = can.numbered;
      count = refl;
      goes = λ last drives. subst (λ (k : Preparations). Drives (numbered 1 c.args.lines.items) k c.args.seat.now.view.seen last) new.nothing drives;
    })

pub do_where_driven-requires-clause-fit : goal.do_where_driven-requires-clause-fit
do_where_driven-requires-clause-fit g c =
    let rest : c.loop-line.line-iterator.rest.items ≡ c.in-Some.line ∷ c.next.new.self.rest.items = search rules in
    let fit = c.loop-line.invariant.fit in
    λ s is. fit_anywhere fit.0 [] c.in-Some.line s is (subst (λ (ls : List Line). AreFit fit.0 ls) rest fit.1).0

pub do_where_driven-requires-clause-built : goal.do_where_driven-requires-clause-built
do_where_driven-requires-clause-built g c =
    let rest : c.loop-line.line-iterator.rest.items ≡ c.in-Some.line ∷ c.next.new.self.rest.items = search rules in
    (subst (λ (ls : List Line). AreBuilt ls) rest c.loop-line.invariant.built).0

pub do_where_driven-requires-clause-numbered : goal.do_where_driven-requires-clause-numbered
do_where_driven-requires-clause-numbered g c =
    let rest : c.loop-line.line-iterator.rest.items ≡ c.in-Some.line ∷ c.next.new.self.rest.items = search rules in
    by_parts c.args.sessions (length c.loop-line.kept.holds.items) c.in-Some.line c.next.new.self.rest.items (sym c.loop-line.invariant.many) (subst (λ (ls : List Line). AreBySessions c.args.sessions ls) rest c.loop-line.invariant.by)

pub loop-line-preserved : goal.loop-line-preserved
loop-line-preserved g c =
    let rest : c.loop-line.line-iterator.rest.items ≡ c.in-Some.line ∷ c.next.new.self.rest.items = search rules in
    let was = c.loop-line.invariant in
    let d = c.in_ok-kept-2.ensures in
    let fit = subst (λ (ls : List Line). AreFit was.fit.0 ls) rest was.fit.1 in
    let built = subst (λ (ls : List Line). AreBuilt ls) rest was.built in
    let by = subst (λ (ls : List Line). AreBySessions c.args.sessions ls) rest was.by in
    let count = was.count in let shorter = ap length rest in
    record {
      idle = d.idle;
      same = (d.same.0 ∙ was.same.0, d.same.1 ∙ was.same.1, d.same.2 ∙ was.same.2);
      pass = (d.pass.0, d.pass.1 ∙ was.pass.1);
      unclosed = d.unclosed;
      kept = d.kept;
      many = d.many ∙ was.many;
      fit = (_, fit.1);
      built = built.1;
      by = by_rest c.args.sessions c.in-Some.line c.next.new.self.rest.items by;
      count = omega (arith, count, shorter);
      goes = λ last drives. was.goes last (subst (λ (ls : List Line). Drives (numbered c.loop-line.number ls) (kept_in c.loop-line.kept.holds.items) c.loop-line.seat.view.seen last) (sym rest)
          (d.goes (numbered (c.loop-line.number + 1) c.next.new.self.rest.items) last drives));
    }
