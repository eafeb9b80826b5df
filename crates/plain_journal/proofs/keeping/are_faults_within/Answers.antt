use Rattle.std.proofs.Common.{◌≡◌, ◌∙◌, rules, tests}
use Rattle.std.specs.Prelude.{nat_le}
use Rattle.std.specs.List.{list_all}
use Rattle.std.proofs.lemmas.Iterator.{YieldsList-from_slice}
use Rattle.std.proofs.lemmas.Iterator.Search.{all_from_yields_List}
use Rattle.journal_entries.specs.declared.act.Entry.{Entry}
use Rattle.journal_rules.specs.Keeping.{faults, fault_of}
use Rattle.plain_journal.proofs.Prefixes.{all_gathered, all_least}
use Rattle.plain_journal.proofs.keeping.are_faults_within.Goals as goal

pub returns : goal.returns
unfolding faults
returns c =
    let end = c.args.end in
    let is : c.all.result ≡ list_all (λ n. nat_le n end) (faults c.args.journal.now) =
    all_from_yields_List (λ (e : Entry). list_all (λ n. nat_le n end) (fault_of e.act)) _ _ _ c.all.ensures.ran (YieldsList-from_slice c.args.journal.now cc) (λ x b q k. search (rules, tests))
    ∙ all_gathered (λ n. nat_le n end) (λ e. fault_of e.act) c.args.journal.now in
    all_least end (faults c.args.journal.now) c.all.result is
