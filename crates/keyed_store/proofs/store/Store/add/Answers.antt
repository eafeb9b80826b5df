use Rattle.std.proofs.Common.{rules, ◌≡◌, ◌∷◌, ◌++◌, [], sym, ap, ◌∙◌}
use Rattle.std.specs.Prelude.{is_some}
use Rattle.indexmap.proofs.CallerLemmas.{insert_entry-new}
use Rattle.keyed_store.specs.Stores.{place_of}
use Rattle.keyed_store.proofs.Writes.{none_of, none_from}
use Rattle.keyed_store.proofs.store.Store.add.Goals as goal

pub returns-in-Ok-clause-added : goal.returns-in-Ok-clause-added
returns-in-Ok-clause-added g c =
    let none = none_of _ c.in_default.not-Some in
    let absent = none_from _ (sym c.get_index_of.ensures.found ∙ ap is_some none) in (
      search (rules, c.self.view_is),
      rw (← c.self.view_is) (sym c.get_index_of.ensures.index ∙ none),
      c.in-Ok.ensures.entries ∙ insert_entry-new _ c.self.inside.map c.args.name c.args.value absent ∙ ap (λ es. es ++ (c.args.name, c.args.value) ∷ []) c.self.view_is,
    )
