use Rattle.std.proofs.Common.{◌≡◌, ◌-◌, ◌+◌, [], ◌∷◌, ◌++◌, None, Some, length, length-append, option_map, ap, ◌∙◌, subst, sym, arith, rules}
use Rattle.std.specs.Prelude.{IfSome}
use Rattle.serde_json.specs.Data.{no_members}
use Rattle.serde_json.specs.Events.{members_len}
use Rattle.serde_json.specs.Find.{get_member}
use Rattle.line_reader.specs.declared.field.Field.{Field}
use Rattle.line_reader.proofs.Finding.{one_longer}
use Rattle.line_reader.specs.Fields.{all_put, content_data}
use Rattle.line_reader.specs.Reads.{Reads, ReadsMembers}
use Rattle.line_reader.proofs.Reading.{member_read, member_shorter, members_over, one_field}
use Rattle.line_reader.proofs.field.read_members.Goals as goal

pub returns-in_default-next-clause-fields : goal.returns-in_default-next-clause-fields
returns-in_default-next-clause-fields c =
    let key = c.in-Ok.ensures.value ∙ ap (λ o. Some (option_map (λ s. s.now) o, c.next_key.new.self)) c.in_default-next.is in
    c.loop.invariant.2 _ c.next_key.new.self (members_over 126 c.loop.invariant.0 c.loop.reader c.next_key.new.self (all_put c.loop.fields.items no_members) c.loop.invariant.1 key)

pub loop-preserved : goal.loop-preserved
loop-preserved c =
    let key = c.in-Ok.ensures.value ∙ ap (λ o. Some (option_map (λ s. s.now) o, c.next_key.new.self)) c.in-Some.is in
    let value = subst (λ o. IfSome o (λ value. Reads 126 c.next_key.new.self (content_data value) c.next_content.new.reader)) c.in-Some-2.is c.in_ok-value.ensures in
    let field : Field = record { key = c.in-Some.key; value = c.in-Some-2.value } in
    let pushed : c.push.new.self.items ≡ c.loop.fields.items ++ field ∷ [] = c.in_ok-push.ensures.items in
    let new : get_member c.in-Some.key.now (all_put c.loop.fields.items no_members) ≡ None = search rules in
    let more = ap (λ fs. members_len (all_put fs no_members)) pushed ∙ ap members_len (one_field c.loop.fields.items field no_members) ∙ one_longer c.in-Some.key.now (content_data c.in-Some-2.value) (all_put c.loop.fields.items no_members) new in
    let before = c.loop.invariant.3 in
    let longer = ap length pushed ∙ length-append c.loop.fields.items (field ∷ []) in
    let n = c.loop.invariant.0 in
    let enough = c.loop.invariant.1 in
    let now = c.next_content.new.reader in
    let less = member_shorter 126 c.loop.reader now c.in-Some.key.now _ (c.next_key.new.self, key, value) in (
      n - 1,
      omega (arith, enough, less),
      λ ms rest left.
          c.loop.invariant.2 ms rest (member_read 126 n c.loop.reader now rest c.in-Some.key.now _ (all_put c.loop.fields.items no_members) ms (omega (arith, enough, less)) (c.next_key.new.self, key, value)
          (subst (λ x. ReadsMembers 126 (n - 1) now x ms rest) (ap (λ fs. all_put fs no_members) pushed ∙ one_field c.loop.fields.items field no_members) left)),
      omega (arith, more, before, longer),
    )
