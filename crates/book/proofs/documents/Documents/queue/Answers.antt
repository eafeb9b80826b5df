use Rattle.std.proofs.Common.{rules, ◌≡◌, ◌∙◌, sym, ap}
use Rattle.std.specs.Prelude.{Some, slice_get}
use Rattle.std.specs.Option.{option_copied_mut}
use Rattle.keyed_store.specs.Stores.{value_at}
use Rattle.book.specs.Standing.{Held, IsQueued}
use Rattle.book.proofs.Holders.{names_kept, turned}
use Rattle.book.proofs.documents.Documents.queue.Goals as goal

pub returns-clause-names : goal.returns-clause-names
returns-clause-names c = names_kept c.self.inside.store c.args.self.now c.args.doc (record c.in-Some.document.now { waiting = c.push.new.self }) c.self.view_is

pub returns-clause-queued : goal.returns-clause-queued
returns-clause-queued c =
    let x = c.in-Some.document.now in
    let at : value_at c.self.inside.store c.args.doc ≡ Some x = sym c.get_mut.ensures.value ∙ ap option_copied_mut c.in-Some.is in
    turned c.self.inside.store c.args.self.now c.args.doc (record c.in-Some.document.now { waiting = c.push.new.self }) c.self.view_is (IsQueued c.args.ticket) x at (search rules)

pub push-requires : goal.push-requires
push-requires c =
    let at : value_at c.self.inside.store c.args.doc ≡ Some c.in-Some.document.now = sym c.get_mut.ensures.value ∙ ap option_copied_mut c.in-Some.is in
    c.requires.room c.in-Some.document.now (ap (λ (h : Held). slice_get h.items c.args.doc) (sym c.self.view_is) ∙ at)
