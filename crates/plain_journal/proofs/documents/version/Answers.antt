use Rattle.std.proofs.Common.{◌≡◌, ◌∙◌, ap, sym, length, arith}
use Rattle.std.proofs.lemmas.List.{length-map}
use Rattle.journal_rules.specs.Documents.{applied_list, base}
use Rattle.journal_laws.proofs.Unmade.{version_low}
use Rattle.plain_journal.specs.Answers.{item_as}
use Rattle.plain_journal.proofs.documents.version.Goals as goal

pub overflow_add-result : goal.overflow_add-result
overflow_add-result c =
    let j = c.args.journal.now in
    let count : length c.in_ok-applied.applied.items ≡ length (applied_list c.args.doc j) = sym (length-map c.in_ok-applied.applied.items item_as) ∙ ap length c.in_ok-applied.ensures in
    let low = version_low c.args.doc j c.requires in
    let first : c.in_ok-base.field-0 ≡ base c.args.doc j = c.in_ok-base.ensures in
    let len = c.len.ensures in
    omega (arith, count, low, first, len)

pub returns : goal.returns
returns c =
    let j = c.args.journal.now in
    let count : length c.in_ok-applied.applied.items ≡ length (applied_list c.args.doc j) = sym (length-map c.in_ok-applied.applied.items item_as) ∙ ap length c.in_ok-applied.ensures in
    let first : c.in_ok-base.field-0 ≡ base c.args.doc j = c.in_ok-base.ensures in
    let len = c.len.ensures in
    omega (arith, count, first, len)
