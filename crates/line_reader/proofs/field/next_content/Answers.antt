use Rattle.std.proofs.Common.{◌≡◌, ◌∷◌, rules, subst, sym, length, map}
use Rattle.std.specs.Prelude.{IfSome}
use Rattle.json.specs.Token.{begin_array}
use Rattle.json.specs.Reads.{token_of}
use Rattle.serde_json.specs.View.{items_of}
use Rattle.line_reader.specs.Fields.{content_data, edit_data, scalar_data}
use Rattle.line_reader.specs.Reads.{Reads, ReadsItems}
use Rattle.line_reader.proofs.Reading.{array_read}
use Rattle.line_reader.proofs.field.next_content.Goals as goal

pub returns-in-Some-2 : goal.returns-in-Some-2
returns-in-Some-2 c =
    let opened : c.args.reader.now ≡ begin_array ∷ c.next.new.self = search rules in
    let items = subst (λ o. IfSome o (λ edits. ReadsItems (length c.next.new.self) c.next.new.self (items_of (map edit_data edits.items)) c.read_edits.new.reader)) c.in-Some-2.is c.in_ok-edits-in-Some-BeginArray.ensures in
    rw opened (array_read c.next.new.self c.read_edits.new.reader _ items)

pub returns-in-Some-scalar_of : goal.returns-in-Some-scalar_of
returns-in-Some-scalar_of c =
    let opened : c.args.reader.now ≡ token_of c.in-Some.token ∷ c.next.new.self = search rules in
    rw opened (c.in-Some-scalar_of.ensures 126 c.next.new.self)
