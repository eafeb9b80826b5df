use Rattle.std.proofs.Common.{◌∙◌, rules, tests}
use Rattle.std.specs.List.{list_any}
use Rattle.std.proofs.lemmas.Iterator.{YieldsList-from_slice}
use Rattle.std.proofs.lemmas.Iterator.Search.{any_from_yields_List}
use Rattle.journal_entries.specs.declared.act.Entry.{Entry}
use Rattle.journal_rules.specs.Documents.{makings, making_of}
use Rattle.journal_rules.specs.Documents.{Making}
use Rattle.std.specs.Str.{bytes_eq}
use Rattle.plain_journal.proofs.Prefixes.{any_gathered}
use Rattle.plain_journal.proofs.allowed_history.is_project.Goals as goal

pub returns : goal.returns
unfolding makings
returns c =
    any_from_yields_List (λ (e : Entry). list_any (λ (m : Making). bytes_eq m.project c.args.project.now) (making_of e.act)) _ _ _ c.any.ensures.ran (YieldsList-from_slice c.args.journal.now cc) (λ x b q k. search (rules, tests))
    ∙ any_gathered (λ (m : Making). bytes_eq m.project c.args.project.now) (λ e. making_of e.act) c.args.journal.now
