use Rattle.std.proofs.Common.{◌≡◌, ◌∷◌, [], Some, rules, ap, ◌∙◌, subst, sym, length}
use Rattle.std.specs.Prelude.{IfSome}
use Rattle.json.specs.Lex.{tokens}
use Rattle.json.specs.Token.{begin_object}
use Rattle.json_lines.specs.Lines.{value_of}
use Rattle.json_lines.proofs.ValueOf.{value_of_text}
use Rattle.serde_json.specs.Data.{no_members, object}
use Rattle.serde_json.specs.Read.{read}
use Rattle.line_reader.specs.Fields.{all_put}
use Rattle.line_reader.specs.Reads.{ReadsMembers}
use Rattle.line_reader.proofs.Reading.{whole_read}
use Rattle.line_reader.proofs.line.read_fields.Goals as goal

pub returns-clause-value : goal.returns-clause-value
returns-clause-value c =
    let same : c.in-Ok.text.now ≡ c.args.line.now = c.in-Ok.ensures.cases.0 in
    let opened : tokens c.in-Ok.text.now ≡ begin_object ∷ c.next.new.self = search rules in
    let over : c.read_members.new.reader ≡ [] = search rules in
    let members = subst (λ o. IfSome o (λ fields. ReadsMembers 126 (length c.next.new.self) c.next.new.self no_members (all_put fields.items no_members) c.read_members.new.reader)) c.in-Some.is c.in_ok-fields.ensures.fields in
    value_of_text c.args.line.now _ c.in-Ok.ensures.cases.1 (ap read (sym same) ∙ whole_read c.in-Ok.text.now c.next.new.self _ opened (subst (λ ts. ReadsMembers 126 (length c.next.new.self) c.next.new.self no_members (all_put c.in-Some.fields.items no_members) ts) over members))
