use Rattle.std.proofs.Common.{◌≡◌, ◌∷◌, None, Some, rules, subst, sym}
use Rattle.std.proofs.lemmas.Option.{IfSome_then}
use Rattle.json.specs.Json.{read_key}
use Rattle.json.specs.Token.{begin_object}
use Rattle.line_reader.specs.Fields.{edit_data}
use Rattle.line_reader.specs.Reads.{Reads}
use Rattle.line_reader.proofs.Reading.{edit_read}
use Rattle.line_reader.proofs.edit.next_edit.Goals as goal

pub returns : goal.returns
returns c =
    let opened : c.args.reader.now ≡ begin_object ∷ c.next.new.self = search rules in
    let over : read_key c.next_member-2.new.reader ≡ Some (None, c.next_key.new.self) = search rules in
    IfSome_then c.edit_of.result c.edit_of.ensures (λ edit are. subst (λ ts. Reads 125 ts (edit_data edit) c.next_key.new.self) (sym opened)
    (edit_read c.next.new.self c.next_member.new.reader c.next_member-2.new.reader c.next_key.new.self _ _ _ _ _ (c.in_ok-first.ensures 124) (c.in_ok-second.ensures 124) over are))
