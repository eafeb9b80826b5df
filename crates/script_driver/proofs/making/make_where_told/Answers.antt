use Rattle.std.proofs.Common.{sym, subst}
use Rattle.journal_rules.specs.Documents.{is_named, makings}
use Rattle.session_lines.specs.declared.line.Line.{Line}
use Rattle.script_driver.specs.Fitting.{IsFit}
use Rattle.script_driver.proofs.Lines.{none_found}
use Rattle.script_driver.proofs.making.make_where_told.Goals as goal

pub make-requires-clause-new : goal.make-requires-clause-new
make-requires-clause-new g c =
    let ms = makings c.args.book.now.journal in
    let fit = subst (λ (l : Line). IsFit ms l) c.in-Doc.is c.requires in
    none_found (λ m. is_named c.in-Doc.doc m) ms fit.0
