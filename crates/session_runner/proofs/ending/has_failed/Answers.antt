use Rattle.std.proofs.Common.{rules, tests}
use Rattle.std.proofs.lemmas.Iterator.{YieldsList-from_slice}
use Rattle.std.proofs.lemmas.Iterator.Search.{any_from_yields_List}
use Rattle.journal_entries.specs.declared.act.Entry.{Entry}
use Rattle.run_rules.specs.Completing.{is_flush_failed_at_end}
use Rattle.session_runner.proofs.ending.has_failed.Goals as goal

pub returns : goal.returns
returns c =
    any_from_yields_List (λ (e : Entry). is_flush_failed_at_end e) _ _ _ c.any.ensures.ran (YieldsList-from_slice c.args.journal.now cc) (λ x b q k. search (rules, tests))
