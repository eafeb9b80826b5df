use Rattle.std.proofs.Common.{◌≡◌, ◌-◌, None, Some, rules, ap, ◌∙◌, subst, sym, length, arith}
use Rattle.json.specs.Json.{after_end_array}
use Rattle.serde_json.specs.Data.{item, no_items}
use Rattle.line_reader.specs.Fields.{edit_data}
use Rattle.line_reader.specs.Reads.{Reads, ReadsItems}
use Rattle.line_reader.proofs.Reading.{all_edits, edits_before, item_read, items_over, one_edit, shorter}
use Rattle.line_reader.proofs.edit.read_edits.Goals as goal

pub edits-smaller : goal.edits-smaller
edits-smaller c =
    let same : c.take_end_array.new.self ≡ c.edits.reader = search rules in
    shorter 125 c.edits.reader c.next_edit.new.reader _ (subst (λ ts. Reads 125 ts (edit_data c.in-Some.edit) c.next_edit.new.reader) same c.in-Some.ensures)

pub edits-preserved : goal.edits-preserved
edits-preserved c =
    let same : c.take_end_array.new.self ≡ c.edits.reader = search rules in
    let going : after_end_array c.edits.reader ≡ None = search rules in
    let one = subst (λ ts. Reads 125 ts (edit_data c.in-Some.edit) c.next_edit.new.reader) same c.in-Some.ensures in
    let n = c.edits.invariant.0 in
    let enough = c.edits.invariant.1 in
    let less = shorter 125 c.edits.reader c.next_edit.new.reader _ one in (
      n - 1,
      omega (arith, enough, less),
      λ ds rest left.
          subst (λ x. ReadsItems (length c.args.reader.now) c.args.reader.now x rest) (sym (ap (λ es. edits_before es ds) c.in_ok-push.ensures.items ∙ one_edit c.edits.edits.items c.in-Some.edit ds))
          (c.edits.invariant.2 _ rest (item_read n c.edits.reader c.next_edit.new.reader rest _ ds (omega (arith, enough, less)) going one left)),
    )

pub returns : goal.returns
returns c =
    let over : after_end_array c.edits.reader ≡ Some c.take_end_array.new.self = search rules in
    subst (λ ds. ReadsItems (length c.args.reader.now) c.args.reader.now ds c.take_end_array.new.self) (all_edits c.edits.edits.items)
    (c.edits.invariant.2 no_items c.take_end_array.new.self (items_over c.edits.invariant.0 c.edits.reader c.take_end_array.new.self c.edits.invariant.1 over))
