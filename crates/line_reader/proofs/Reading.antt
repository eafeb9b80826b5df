-- What is read of tokens, a turn at a time.
use Rattle.std.proofs.Common.{◌≡◌, ℕ, ◌-◌, ◌^◌, ◌<◌, ◌≤◌, List, [], ◌∷◌, ◌++◌, length, map, Bool, Option, None, Some, option_map, option_and_then, decimal, refl, ap, ◌∙◌, subst, sym, arith}
use Rattle.json.specs.Token as token
use Rattle.json.specs.Json as json
use Rattle.json.specs.Lex.{tokens}
use Rattle.json.proofs.Grammar.{items_end, items_more, left, members_end, members_more, read_key-shorter, skip_value-shorter, value-begin_array, value-begin_object, value_is}
use Rattle.serde_json.specs.Data.{Data, Items, Members, array, boolean, item, no_items, no_members, number, object, put, string, unsigned}
use Rattle.serde_json.specs.View.{items_of}
use Rattle.serde_json.specs.Read.{of_items, of_json, of_members, read}
use Rattle.serde_json.proofs.Numbers.{number_of-decimal}
use Rattle.line_reader.specs.Fields.{all_put, content_data, edit_data}
use Rattle.line_reader.specs.Reads.{Reads, ReadsItems, ReadsMember, ReadsMembers}
use Rattle.line_reader.specs.declared.edit.Edit.{Edit}
use Rattle.line_reader.specs.declared.field.Field.{Field}

pub string_read : (depth : ℕ) (s : List ℕ) (rest : List token.Token) → Reads depth (token.string s ∷ rest) (string s) rest
string_read depth s rest = (json.string s, value_is depth (token.string s ∷ rest), refl)

pub number_read : (depth n : ℕ) (rest : List token.Token) → n < 2 ^ 64 → Reads depth (token.number (decimal n) ∷ rest) (number (unsigned n)) rest
number_read depth n rest small = (json.number (decimal n), value_is depth (token.number (decimal n) ∷ rest), rw (number_of-decimal n small))

pub flag_read : (depth : ℕ) (b : Bool) (rest : List token.Token) → Reads depth (token.boolean b ∷ rest) (boolean b) rest
flag_read depth b rest = (json.boolean b, value_is depth (token.boolean b ∷ rest), refl)

pub array_read : (ts rest : List token.Token) (ds : Items) → ReadsItems (length ts) ts ds rest → Reads 126 (token.begin_array ∷ ts) (array ds) rest
array_read ts rest ds r = (json.array r.0, value-begin_array 126 ts (omega arith) ∙ ap (json.parse_map json.array) r.1, ap (option_map array) r.2)

pub object_read : (depth : ℕ) (ts rest : List token.Token) (ms : Members) → 0 < depth → ReadsMembers (depth - 1) (length ts) ts no_members ms rest → Reads depth (token.begin_object ∷ ts) (object ms) rest
object_read depth ts rest ms deep r = (json.object r.0, value-begin_object depth ts deep ∙ ap (json.parse_map json.object) r.1, ap (option_map object) r.2)

pub shorter : (depth : ℕ) (ts rest : List token.Token) (d : Data) → Reads depth ts d rest → length rest < length ts
shorter depth ts rest d r = skip_value-shorter depth ts rest (ap left r.1)

-- ---- members

pub member_read : (depth n : ℕ) (ts s rest : List token.Token) (k : List ℕ) (d : Data) (before ms : Members) → 0 < n → ReadsMember depth ts k d s → ReadsMembers depth (n - 1) s (put k d before) ms rest → ReadsMembers depth n ts before ms rest
member_read depth n ts s rest k d before ms some m r = (
  json.member k m.2.0 r.0,
  members_more (json.value depth) n k ts m.0 s m.2.0 some m.1 m.2.1 ∙ ap (json.parse_map (json.member k m.2.0)) r.1,
  ap (option_and_then (λ e. of_members r.0 (put k e before))) m.2.2 ∙ r.2,
)

pub members_over : (depth n : ℕ) (ts rest : List token.Token) (before : Members) → length ts ≤ n → json.read_key ts ≡ Some (None, rest) → ReadsMembers depth n ts before before rest
members_over depth n ts rest before enough key = (json.no_members, members_end (json.value depth) n ts rest enough key, refl)

-- ---- elements

pub item_read : (n : ℕ) (ts s rest : List token.Token) (d : Data) (ds : Items) → 0 < n → json.after_end_array ts ≡ None → Reads 125 ts d s → ReadsItems (n - 1) s ds rest → ReadsItems n ts (item d ds) rest
item_read n ts s rest d ds some going one r = (
  json.item one.0 r.0,
  items_more (json.value 125) n ts s one.0 some going one.1 ∙ ap (json.parse_map (json.item one.0)) r.1,
  ap (option_and_then (λ e. option_map (item e) (of_items r.0))) one.2 ∙ ap (option_map (item d)) r.2,
)

pub items_over : (n : ℕ) (ts rest : List token.Token) → length ts ≤ n → json.after_end_array ts ≡ Some rest → ReadsItems n ts no_items rest
items_over n ts rest enough over = (json.no_items, items_end (json.value 125) n ts rest enough over, refl)

-- ---- lists that grow at their ends

abbrev pub edits_before : List Edit → Items → Items
edits_before [] ds = ds
edits_before (e ∷ es) ds = item (edit_data e) (edits_before es ds)

pub all_edits : (es : List Edit) → edits_before es no_items ≡ items_of (map edit_data es)
all_edits [] = refl
all_edits (e ∷ es) = ap (item (edit_data e)) (all_edits es)

pub one_edit : (es : List Edit) (e : Edit) (ds : Items) → edits_before (es ++ e ∷ []) ds ≡ edits_before es (item (edit_data e) ds)
one_edit [] e ds = refl
one_edit (x ∷ xs) e ds = ap (item (edit_data x)) (one_edit xs e ds)

pub one_field : (fs : List Field) (f : Field) (ms : Members) → all_put (fs ++ f ∷ []) ms ≡ put f.key.now (content_data f.value) (all_put fs ms)
one_field [] f ms = refl
one_field (x ∷ xs) f ms = one_field xs f (put x.key.now (content_data x.value) ms)

-- ---- an edit

pub member_shorter : (depth : ℕ) (ts rest : List token.Token) (k : List ℕ) (d : Data) → ReadsMember depth ts k d rest → length rest < length ts
member_shorter depth ts rest k d m =
    let value = shorter depth m.0 rest d m.2 in
    let key = read_key-shorter ts (Some k) m.0 m.1 in
    omega (arith, value, key)

pub edit_read : (ts s t rest : List token.Token) (k l : List ℕ) (d e : Data) (ms : Members) → ReadsMember 124 ts k d s → ReadsMember 124 s l e t → json.read_key t ≡ Some (None, rest) → put l e (put k d no_members) ≡ ms
    → Reads 125 (token.begin_object ∷ ts) (object ms) rest
edit_read ts s t rest k l d e ms first second over are =
    let a = member_shorter 124 ts s k d first in
    let b = member_shorter 124 s t l e second in
    let whole = member_read 124 (length ts) ts s rest k d no_members _ (omega (arith, a)) first
    (member_read 124 (length ts - 1) s t rest l e (put k d no_members) _ (omega (arith, a, b)) second
    (members_over 124 (length ts - 1 - 1) t rest (put l e (put k d no_members)) (omega (arith, a, b)) over)) in
    object_read 125 ts rest ms (omega arith) (subst (λ x. ReadsMembers 124 (length ts) ts no_members x rest) are whole)

-- ---- the whole text

pub whole_read : (text : List ℕ) (ts : List token.Token) (ms : Members) → tokens text ≡ token.begin_object ∷ ts → ReadsMembers 126 (length ts) ts no_members ms [] → read text ≡ Some (object ms)
whole_read text ts ms opened members =
    let whole = object_read 127 ts [] ms (omega arith) members in
    ap (λ (us : List token.Token). option_and_then of_json (option_and_then (λ p. json.if_last p.0 p.1) (json.value 127 us))) opened
    ∙ ap (λ o. option_and_then of_json (option_and_then (λ p. json.if_last p.0 p.1) o)) whole.1 ∙ whole.2
