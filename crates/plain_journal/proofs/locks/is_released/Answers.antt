use Rattle.std.proofs.Common.{◌∙◌, ℕ, rules, tests}
use Rattle.std.specs.Prelude.{◌==◌}
use Rattle.std.specs.List.{list_any}
use Rattle.std.proofs.lemmas.Iterator.{YieldsList-from_slice}
use Rattle.std.proofs.lemmas.Iterator.Search.{any_from_yields_List}
use Rattle.journal_entries.specs.declared.act.Entry.{Entry}
use Rattle.journal_rules.specs.Locks.{released, released_by}
use Rattle.plain_journal.proofs.Prefixes.{any_gathered}
use Rattle.plain_journal.proofs.locks.is_released.Goals as goal

pub returns : goal.returns
unfolding released
returns c =
    any_from_yields_List (λ (e : Entry). list_any (λ (y : ℕ). y == c.args.token) (released_by e.act)) _ _ _ c.any.ensures.ran (YieldsList-from_slice c.args.journal.now cc) (λ x b q k. search (rules, tests))
    ∙ any_gathered (λ (y : ℕ). y == c.args.token) (λ e. released_by e.act) c.args.journal.now
