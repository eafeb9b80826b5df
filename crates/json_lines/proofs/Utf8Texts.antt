-- The compact text of a value with UTF-8 texts is UTF-8, so that a line's bytes are read as this value.
use Rattle.std.proofs.Common.{◌≡◌, ◌≤◌, ℕ, zero, suc, pos, negsuc, ◌<◌, ◌/◌, ◌%◌, ◌==◌, nat_lt, List, [], ◌∷◌, ◌++◌, Bool, true, false, ◌&&◌, ◌||◌, cond, decimal, Some, refl, ap, ◌∙◌, arith, IsUtf8}
use Rattle.std.proofs.lemmas.Bool.{and_parts}
use Rattle.std.proofs.lemmas.Bool.Decides.{nat_tests}
use Rattle.std.proofs.lemmas.Str.{IsUtf8-append, IsUtf8-from_is_utf8}
use Rattle.std.specs.Fmt.{digits, digits_onto, digit_glyph}
use Rattle.std.specs.List.{list_all}
use Rattle.std.specs.Str.{is_utf8}
use Rattle.json.proofs.Printed.Utf8.{IsUtf8-are_ascii, IsUtf8-boolean, IsUtf8-quoted, are_ascii}
use Rattle.serde_json.specs.Data.{Num, unsigned, negative, float, Data, null, boolean, number, string, array, object, Items, no_items, item, Members, no_members, member, depth}
use Rattle.serde_json.specs.Read.{max_depth}
use Rattle.serde_json.specs.Written.{number_text, comma_if, compact_text, items_text, members_text}
use Rattle.json_lines.specs.Formed.{is_formed}
use Rattle.json_lines.specs.Lines.{value_of}
use Rattle.json_lines.specs.Utf8.{is_text, has_texts, items_have_texts, members_have_texts}
use Rattle.json_lines.proofs.Back.{read_back}
use Rattle.json_lines.proofs.ValueOf.{value_of_text}

-- ---- numbers

glyph_ascii : (d : ℕ) → d < 10 → nat_lt (digit_glyph false d) 128 ≡ true
glyph_ascii d h = grind (arith, nat_tests)

onto_ascii : (k n : ℕ) (acc : List ℕ) → are_ascii acc ≡ true → are_ascii (digits_onto k 10 false n acc) ≡ true
onto_ascii zero n acc h = h
onto_ascii (suc k) n acc h =
    let small : n % 10 < 10 = omega arith in
    elim (n / 10 == 0) as (λ b. are_ascii (cond b (digit_glyph false (n % 10) ∷ acc) (digits_onto k 10 false (n / 10) (digit_glyph false (n % 10) ∷ acc))) ≡ true) [
      | true ↦ rw (glyph_ascii (n % 10) small, h)
      | false ↦ onto_ascii k (n / 10) (digit_glyph false (n % 10) ∷ acc) (rw (glyph_ascii (n % 10) small, h))
    ]

decimal_ascii : (n : ℕ) → are_ascii (decimal n) ≡ true
unfolding digits
decimal_ascii n = onto_ascii 64 n [] refl

number_utf8 : (n : Num) → IsUtf8 (number_text n)
number_utf8 (unsigned n) = IsUtf8-are_ascii _ (decimal_ascii n)
number_utf8 (negative (pos n)) = IsUtf8-are_ascii _ (decimal_ascii n)
number_utf8 (negative (negsuc n)) = IsUtf8-are_ascii _ (decimal_ascii (suc n))
number_utf8 (float x) = IsUtf8-are_ascii _ refl

-- ---- texts

ascii_same : (s : List ℕ) → list_all (λ x. nat_lt x 128) s ≡ true → are_ascii s ≡ true
ascii_same [] h = refl
ascii_same (x ∷ s) h = let p = and_parts (nat_lt x 128) _ h in rw (p.0, ascii_same s p.1)

either : (a b : Bool) (s : List ℕ) → (a ≡ true → IsUtf8 s) → (b ≡ true → IsUtf8 s) → a || b ≡ true → IsUtf8 s
either true b s f g h = f refl
either false b s f g h = g h

text_utf8 : (s : List ℕ) → is_text s ≡ true → IsUtf8 s
text_utf8 s h = either (list_all (λ x. nat_lt x 128) s) (is_utf8 s) s (λ e. IsUtf8-are_ascii s (ascii_same s e)) (IsUtf8-from_is_utf8 s) h

-- ---- values

then_utf8 : (x : ℕ) (s : List ℕ) → are_ascii (x ∷ []) ≡ true → IsUtf8 s → IsUtf8 (x ∷ s)
then_utf8 x s h u = IsUtf8-append (x ∷ []) s (IsUtf8-are_ascii (x ∷ []) h) u

comma_utf8 : (later : Bool) → IsUtf8 (comma_if later)
comma_utf8 true = IsUtf8-are_ascii _ refl
comma_utf8 false = IsUtf8-are_ascii _ refl

mutual
  value_utf8 : (d : Data) → has_texts d ≡ true → IsUtf8 (compact_text d)
  value_utf8 null h = IsUtf8-are_ascii _ refl
  value_utf8 (boolean b) h = IsUtf8-boolean b
  value_utf8 (number n) h = number_utf8 n
  value_utf8 (string s) h = IsUtf8-quoted s (text_utf8 s h)
  value_utf8 (array ds) h = then_utf8 91 _ refl (items_utf8 false ds h)
  value_utf8 (object ms) h = then_utf8 123 _ refl (members_utf8 false ms h)

  items_utf8 : (later : Bool) (ds : Items) → items_have_texts ds ≡ true → IsUtf8 (items_text later ds)
  items_utf8 later no_items h = IsUtf8-are_ascii _ refl
  items_utf8 later (item d ds) h =
      let p = and_parts (has_texts d) _ h in
      IsUtf8-append (comma_if later) _ (comma_utf8 later) (IsUtf8-append (compact_text d) _ (value_utf8 d p.0) (items_utf8 true ds p.1))

  members_utf8 : (later : Bool) (ms : Members) → members_have_texts ms ≡ true → IsUtf8 (members_text later ms)
  members_utf8 later no_members h = IsUtf8-are_ascii _ refl
  members_utf8 later (member k d ms) h =
      let p = and_parts (is_text k) _ h in
      let q = and_parts (has_texts d) _ p.1 in
      IsUtf8-append (comma_if later) _ (comma_utf8 later) (IsUtf8-append _ _ (IsUtf8-quoted k (text_utf8 k p.0))
      (then_utf8 58 _ refl (IsUtf8-append (compact_text d) _ (value_utf8 d q.0) (members_utf8 true ms q.1))))

-- the law
pub line_back : (d : Data) → is_formed d ≡ true → has_texts d ≡ true → depth d ≤ max_depth → value_of (compact_text d) ≡ Some d
line_back d formed texts shallow = value_of_text (compact_text d) d (value_utf8 d texts) (read_back d formed shallow)
