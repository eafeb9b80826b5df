use Rattle.std.proofs.Common.{◌≡◌, ◌∙◌, ◌+◌, ℕ, List, [], ◌∷◌, length, drop, true, refl, sym, ap, subst, arith, All}
use Rattle.std.proofs.lemmas.List.{drop_all, drop_more}
use Rattle.std.proofs.lemmas.List.Elements.{All-nil}
use Rattle.journal_entries.specs.declared.act.Entry.{Entry}
use Rattle.journal_rules.specs.Documents.{Making, makings}
use Rattle.journal_rules.specs.Legal.{closed}
use Rattle.journal_rules.proofs.Pushing.{closed-none, makings-none}
use Rattle.run_rules.specs.Lines.{numbered}
use Rattle.session_lines.specs.declared.line.Line.{Line}
use Rattle.book.specs.Going.{with_journal}
use Rattle.book.specs.Shown.{Shown}
use Rattle.script_driver.specs.Fitting.{AreFit}
use Rattle.script_driver.specs.Handing.{items_handed}
use Rattle.script_driver.proofs.Handing.{handed_by-none}
use Rattle.script_driver.proofs.Made.{Makes, first_book, left_by, makes_on, makings_on, seats_on, still_closed, still_handed}
use Rattle.script_driver.proofs.making.make_documents.Goals as goal

pub loop-line-init : goal.loop-line-init
loop-line-init g c =
    let none : c.in-Ok.book.journal ≡ [] = ap (λ (b : Shown). b.journal) c.in-Ok.ensures.ok in
    record {
      rest = c.in-Ok.ensures.ok ∙ ap (λ (j : List Entry). with_journal (first_book (g.K.Keeper.documents c.args.keeper) (g.K.Keeper.count c.args.keeper) c.args.drivers) j) (sym none);
      fit = subst (λ (ms : List Making). AreFit ms c.args.lines.now) (sym (ap makings none ∙ makings-none)) c.requires.fit;
      count = refl;
      leads = λ last leads. subst (λ (j : List Entry). Makes (numbered 1 c.args.lines.now) j last) none leads;
      seats = subst (All (λ (e : Entry). e.seat ≡ 0)) (sym none) (All-nil (λ (e : Entry). e.seat ≡ 0));
      handed = ap items_handed none ∙ handed_by-none (λ e. true);
      closed = ap closed none ∙ closed-none;
    }

pub loop-line-preserved : goal.loop-line-preserved
loop-line-preserved g c =
    let xs = c.args.lines.now in let i = c.loop-line.line-index in let x = c.line-item.result in
    let k = c.loop-line.number in let old = c.loop-line.book in let new = c.make_where_told.new.book in
    let was = c.loop-line.invariant in let done = c.in-Ok-make_where_told.ensures.ok in
    let cut : drop i xs ≡ x ∷ drop (i + 1) xs = drop_more xs i x c.loop-line-test.true ∙ ap (λ (y : Line). y ∷ drop (i + 1) xs) (sym c.line-item.is) in
    let is : new.journal ≡ left_by k old.journal x = ap (λ (b : Shown). b.journal) done in
    let fit = subst (λ (ls : List Line). AreFit (makings old.journal) ls) cut was.fit in
    let first = first_book (g.K.Keeper.documents c.args.keeper) (g.K.Keeper.count c.args.keeper) c.args.drivers in
    let count = was.count in
    record {
      rest = done ∙ ap (λ (b : Shown). with_journal b (left_by k old.journal x)) was.rest ∙ ap (λ (j : List Entry). with_journal first j) (sym is);
      fit = subst (λ (ms : List Making). AreFit ms (drop (i + 1) xs)) (sym (ap makings is ∙ makings_on k old.journal x)) fit.1;
      count = omega (arith, count);
      leads = λ last leads. was.leads last (subst (λ (ls : List Line). Makes (numbered k ls) old.journal last) (sym cut)
          (makes_on k old.journal x (numbered (k + 1) (drop (i + 1) xs)) last (subst (λ (j : List Entry). Makes (numbered (k + 1) (drop (i + 1) xs)) j last) is leads)));
      seats = subst (All (λ (e : Entry). e.seat ≡ 0)) (sym is) (seats_on k old.journal x was.seats);
      handed = ap items_handed is ∙ still_handed k old.journal x ∙ was.handed;
      closed = ap closed is ∙ still_closed k old.journal x ∙ was.closed;
    }

pub returns-clause-leads : goal.returns-clause-leads
returns-clause-leads g c =
    let xs = c.args.lines.now in let i = c.loop-line.line-index in let k = c.loop-line.number in let j = c.loop-line.book.journal in
    c.loop-line.invariant.leads j (subst (λ (ls : List Line). Makes (numbered k ls) j j) (sym (drop_all i xs c.loop-line-test.false)) refl)
