use Rattle.std.proofs.Common.{rules, ◌≡◌, ◌∙◌, sym, ap}
use Rattle.std.specs.Prelude.{Some}
use Rattle.std.specs.Option.{option_copied_mut}
use Rattle.keyed_store.specs.Stores.{value_at}
use Rattle.book.specs.Standing.{IsKeptAt}
use Rattle.book.proofs.Holders.{names_kept, turned}
use Rattle.book.proofs.documents.Documents.keep.Goals as goal

pub returns-clause-names : goal.returns-clause-names
returns-clause-names c = names_kept c.self.inside.store c.args.self.now c.args.doc (record c.in-Some.document.now { kept = Some c.args.v }) c.self.view_is

pub returns-clause-kept : goal.returns-clause-kept
returns-clause-kept c =
    let x = c.in-Some.document.now in
    let at : value_at c.self.inside.store c.args.doc ≡ Some x = sym c.get_mut.ensures.value ∙ ap option_copied_mut c.in-Some.is in
    turned c.self.inside.store c.args.self.now c.args.doc (record c.in-Some.document.now { kept = Some c.args.v }) c.self.view_is (IsKeptAt c.args.v) x at (search rules)
