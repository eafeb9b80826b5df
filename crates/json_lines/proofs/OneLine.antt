-- No line feed stands in a compact text.
use Rattle.std.proofs.Common.{◌≡◌, ℕ, zero, suc, pos, negsuc, ◌/◌, ◌%◌, ◌==◌, nat_lt, List, [], ◌∷◌, ◌++◌, Bool, true, false, not, cond, decimal, refl, ◌∙◌, arith}
use Rattle.std.proofs.lemmas.Bool.Decides.{nat_tests}
use Rattle.std.proofs.lemmas.List.Folds.{list_all-append}
use Rattle.std.specs.Char.{digit_char}
use Rattle.std.specs.Fmt.{digits, digits_onto, digit_glyph}
use Rattle.json.specs.Print.{escape, escape_byte, escape_letter, quoted}
use Rattle.serde_json.specs.Data.{Num, unsigned, negative, float, Data, null, boolean, number, string, array, object, Items, no_items, item, Members, no_members, member}
use Rattle.serde_json.specs.Written.{number_text, has_float, comma_if, compact_text, items_text, members_text}
use Rattle.json_lines.specs.Clean.{is_clean}

joined : (a b : List ℕ) → is_clean a ≡ true → is_clean b ≡ true → is_clean (a ++ b) ≡ true
joined a b p q = list_all-append _ a b ∙ rw (p, q)

-- ---- numbers

glyph_clean : (d : ℕ) → not (digit_glyph false d == 10) ≡ true
glyph_clean d = grind (arith, nat_tests)

onto_clean : (k n : ℕ) (acc : List ℕ) → is_clean acc ≡ true → is_clean (digits_onto k 10 false n acc) ≡ true
onto_clean zero n acc h = h
onto_clean (suc k) n acc h = elim (n / 10 == 0) as (λ b. is_clean (cond b (digit_glyph false (n % 10) ∷ acc) (digits_onto k 10 false (n / 10) (digit_glyph false (n % 10) ∷ acc))) ≡ true) [
  | true ↦ rw (glyph_clean (n % 10), h)
  | false ↦ onto_clean k (n / 10) (digit_glyph false (n % 10) ∷ acc) (rw (glyph_clean (n % 10), h))
]

decimal_clean : (n : ℕ) → is_clean (decimal n) ≡ true
unfolding digits
decimal_clean n = onto_clean 64 n [] refl

number_clean : (n : Num) → is_clean (number_text n) ≡ true
number_clean (unsigned n) = decimal_clean n
number_clean (negative (pos n)) = decimal_clean n
number_clean (negative (negsuc n)) = decimal_clean (suc n)
number_clean (float x) = refl

-- ---- strings

letter_clean : (x : ℕ) → not (escape_letter x == 10) ≡ true
letter_clean x = grind (arith, nat_tests)

hex_clean : (d : ℕ) → not (digit_char d == 10) ≡ true
hex_clean d = grind (arith, nat_tests)

plain_clean : (x : ℕ) → nat_lt 0 (escape_letter x) ≡ false → nat_lt x 32 ≡ false → not (x == 10) ≡ true
plain_clean x p q = grind (arith, nat_tests)

byte_step : (a b : Bool) (x : ℕ) → nat_lt 0 (escape_letter x) ≡ a → nat_lt x 32 ≡ b
    → is_clean (cond a (92 ∷ escape_letter x ∷ []) (cond b (92 ∷ 117 ∷ 48 ∷ 48 ∷ digit_char (x / 16) ∷ digit_char (x % 16) ∷ []) (x ∷ []))) ≡ true
byte_step true b x p q = rw (letter_clean x)
byte_step false true x p q = rw (hex_clean (x / 16), hex_clean (x % 16))
byte_step false false x p q = rw (plain_clean x p q)

byte_clean : (x : ℕ) → is_clean (escape_byte x) ≡ true
unfolding escape_byte
byte_clean x = byte_step _ _ x refl refl

escape_clean : (s : List ℕ) → is_clean (escape s) ≡ true
escape_clean [] = refl
escape_clean (x ∷ s) = joined (escape_byte x) (escape s) (byte_clean x) (escape_clean s)

quoted_clean : (s : List ℕ) → is_clean (quoted s) ≡ true
quoted_clean s = joined (escape s) (34 ∷ []) (escape_clean s) refl

-- ---- values

comma_clean : (later : Bool) → is_clean (comma_if later) ≡ true
comma_clean true = refl
comma_clean false = refl

mutual
  text_clean : (d : Data) → is_clean (compact_text d) ≡ true
  text_clean null = refl
  text_clean (boolean true) = refl
  text_clean (boolean false) = refl
  text_clean (number n) = number_clean n
  text_clean (string s) = quoted_clean s
  text_clean (array ds) = items_clean false ds
  text_clean (object ms) = members_clean false ms

  items_clean : (later : Bool) (ds : Items) → is_clean (items_text later ds) ≡ true
  items_clean later no_items = refl
  items_clean later (item d ds) = joined (comma_if later) _ (comma_clean later) (joined (compact_text d) _ (text_clean d) (items_clean true ds))

  members_clean : (later : Bool) (ms : Members) → is_clean (members_text later ms) ≡ true
  members_clean later no_members = refl
  members_clean later (member k d ms) = joined (comma_if later) _ (comma_clean later) (joined (quoted k) _ (quoted_clean k) (joined (compact_text d) _ (text_clean d) (members_clean true ms)))

pub stays_on_a_line : (d : Data) → has_float d ≡ false → is_clean (compact_text d) ≡ true
stays_on_a_line d h = text_clean d
