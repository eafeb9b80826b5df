use Rattle.std.proofs.Common.{◌≡◌, rules, ap, option_map, ◌∙◌}
use Rattle.line_reader.specs.Fields.{content_data}
use Rattle.line_reader.proofs.Finding.{found_before, found_here}
use Rattle.line_reader.proofs.field.find.Goals as goal
use Rattle.line_reader.proofs.field.find.Goals.{else-eq, then-eq}

pub loop-field-preserved : goal.loop-field-preserved
loop-field-preserved c =
    let fs = c.args.fields.now in
    let n = c.loop-field.field-index in
    elim c.if-eq.branch [
      | then-eq w ↦
          let same : c.field-item.result.key.now ≡ c.args.key.now = search rules in
          ap (option_map (λ value. content_data value.now)) w.found-is ∙ found_here fs n c.field-item.result c.loop-field-test.true c.field-item.is c.args.key.now same
      | else-eq w ↦
          let other : c.args.key.now ≡ c.field-item.result.key.now → ⊥ = search rules in
          ap (option_map (λ value. content_data value.now)) w.found-is ∙ found_before fs n c.field-item.result c.loop-field-test.true c.field-item.is c.args.key.now _ other c.loop-field.invariant
    ]
