-- Data that is written and read back: well-formed, its texts UTF-8, and nesting little.
use Rattle.std.proofs.Common.{◌≡◌, ℕ, ◌+◌, ◌^◌, ◌≤◌, List, [], ◌∷◌, Bool, true, false, ◌&&◌, nat_lt, Option, Some, None, refl, ap, ◌∙◌, arith, Ordering, Less, Equal, Greater, IsUtf8, map}
use Rattle.std.specs.Ordering.{ordering_reverse}
use Rattle.std.specs.Cmp.Lexicographic.{slice_cmp, nat_list_cmp_total}
use Rattle.std.specs.List.{All, list_all}
use Rattle.std.specs.Ordering.{nat_cmp, match_ordering}
use Rattle.std.specs.Prelude.{IsTrue}
use Rattle.std.specs.Str.{encode_utf8_all, is_utf8}
use Rattle.std.proofs.Math.Utf8.{scalar, scalars}
use Rattle.std.proofs.lemmas.Bool.{and_from, and_parts, or_left, or_right}
use Rattle.std.proofs.lemmas.Bool.Decides.{nat_tests}
use Rattle.std.proofs.lemmas.List.Elements.{All-head, All-tail}
use Rattle.std.proofs.lemmas.Str.{is_utf8-from_IsUtf8}
use Rattle.serde_json.specs.Data.{unsigned, Data, null, boolean, number, string, array, object, depth, Members, no_members, member, members_depth, put}
use Rattle.serde_json.specs.View.{items_of}
use Rattle.json_lines.specs.Formed.{is_above, all_above, is_formed, items_are_formed, members_are_formed}
use Rattle.json_lines.specs.Object.{optional, units_data, with_member}
use Rattle.json_lines.specs.Utf8.{is_text, has_texts, items_have_texts, members_have_texts}
use Rattle.ot_units.specs.Text.{IsText, is_name_byte_lem, is_unit}
use Rattle.ot_json.proofs.Back.{text_scalars}
use Rattle.report_reader.specs.Typed.{IfAny, IsLong, IsName}

-- ---- keys in order

is_greater : (o : Ordering) → match_ordering o false false true ≡ true → o ≡ Greater
is_greater Less h = absurd cc
is_greater Equal h = absurd cc
is_greater Greater h = refl

less_is_above : (k l : List ℕ) → slice_cmp nat_cmp k l ≡ Less → is_above l k ≡ true
less_is_above k l is = ap (λ o. match_ordering o false false true) (nat_list_cmp_total.antisymm l k ∙ ap ordering_reverse is)

above_is_less : (k l : List ℕ) → is_above l k ≡ true → slice_cmp nat_cmp k l ≡ Less
above_is_less k l above = nat_list_cmp_total.antisymm k l ∙ ap ordering_reverse (is_greater (slice_cmp nat_cmp l k) above)

above_all : (k l : List ℕ) (ms : Members) → is_above l k ≡ true → all_above l ms ≡ true → all_above k ms ≡ true
above_all k l no_members above all = refl
above_all k l (member m e ms) above all =
    let parts = and_parts (is_above m l) (all_above l ms) all in
    and_from (is_above m k) (all_above k ms)
    (less_is_above k m (nat_list_cmp_total.trans k l m (above_is_less k l above) (above_is_less l m parts.0)))
    (above_all k l ms above parts.1)

placed_above : (o : Ordering) (l : List ℕ) (a b c : Members) → all_above l a ≡ true → all_above l b ≡ true → all_above l c ≡ true → all_above l (match_ordering o a b c) ≡ true
placed_above Less l a b c p q r = p
placed_above Equal l a b c p q r = q
placed_above Greater l a b c p q r = r

put_above : (l k : List ℕ) (d : Data) (ms : Members) → is_above k l ≡ true → all_above l ms ≡ true → all_above l (put k d ms) ≡ true
put_above l k d no_members above all = and_from (is_above k l) true above refl
put_above l k d (member m e ms) above all =
    let parts = and_parts (is_above m l) (all_above l ms) all in
    placed_above (slice_cmp nat_cmp k m) l (member k d (member m e ms)) (member m d ms) (member m e (put k d ms))
    (and_from (is_above k l) (all_above l (member m e ms)) above all)
    all
    (and_from (is_above m l) (all_above l (put k d ms)) parts.0 (put_above l k d ms above parts.1))

placed_formed : (o : Ordering) (k l : List ℕ) (d e : Data) (ms more : Members) → slice_cmp nat_cmp k l ≡ o → is_formed d ≡ true → members_are_formed (member l e ms) ≡ true
    → (is_above k l ≡ true → all_above l more ≡ true) → members_are_formed more ≡ true
    → members_are_formed (match_ordering o (member k d (member l e ms)) (member l d ms) (member l e more)) ≡ true
placed_formed Less k l d e ms more is formed all above next =
    let parts = and_parts (all_above l ms) (is_formed e && members_are_formed ms) all in
    let first = less_is_above k l is in
    and_from (all_above k (member l e ms)) (is_formed d && members_are_formed (member l e ms))
    (and_from (is_above l k) (all_above k ms) first (above_all k l ms first parts.0))
    (and_from (is_formed d) (members_are_formed (member l e ms)) formed all)
placed_formed Equal k l d e ms more is formed all above next =
    let parts = and_parts (all_above l ms) (is_formed e && members_are_formed ms) all in
    and_from (all_above l ms) (is_formed d && members_are_formed ms) parts.0
    (and_from (is_formed d) (members_are_formed ms) formed (and_parts (is_formed e) (members_are_formed ms) parts.1).1)
placed_formed Greater k l d e ms more is formed all above next =
    let parts = and_parts (all_above l ms) (is_formed e && members_are_formed ms) all in
    and_from (all_above l more) (is_formed e && members_are_formed more) (above (ap (λ o. match_ordering o false false true) is))
    (and_from (is_formed e) (members_are_formed more) (and_parts (is_formed e) (members_are_formed ms) parts.1).0 next)

put_formed : (k : List ℕ) (d : Data) (ms : Members) → is_formed d ≡ true → members_are_formed ms ≡ true → members_are_formed (put k d ms) ≡ true
put_formed k d no_members formed all = and_from (is_formed d) true formed refl
put_formed k d (member l e ms) formed all =
    let parts = and_parts (all_above l ms) (is_formed e && members_are_formed ms) all in
    placed_formed (slice_cmp nat_cmp k l) k l d e ms (put k d ms) refl formed all
    (λ above. put_above l k d ms above parts.0)
    (put_formed k d ms formed (and_parts (is_formed e) (members_are_formed ms) parts.1).1)

placed_texts : (o : Ordering) (a b c : Members) → members_have_texts a ≡ true → members_have_texts b ≡ true → members_have_texts c ≡ true → members_have_texts (match_ordering o a b c) ≡ true
placed_texts Less a b c p q r = p
placed_texts Equal a b c p q r = q
placed_texts Greater a b c p q r = r

put_texts : (k : List ℕ) (d : Data) (ms : Members) → is_text k ≡ true → has_texts d ≡ true → members_have_texts ms ≡ true → members_have_texts (put k d ms) ≡ true
put_texts k d no_members key text all = and_from (is_text k) (has_texts d && true) key (and_from (has_texts d) true text refl)
put_texts k d (member l e ms) key text all =
    let parts = and_parts (is_text l) (has_texts e && members_have_texts ms) all in
    let rest = and_parts (has_texts e) (members_have_texts ms) parts.1 in
    placed_texts (slice_cmp nat_cmp k l) (member k d (member l e ms)) (member l d ms) (member l e (put k d ms))
    (and_from (is_text k) (has_texts d && members_have_texts (member l e ms)) key (and_from (has_texts d) (members_have_texts (member l e ms)) text all))
    (and_from (is_text l) (has_texts d && members_have_texts ms) parts.0 (and_from (has_texts d) (members_have_texts ms) text rest.1))
    (and_from (is_text l) (has_texts e && members_have_texts (put k d ms)) parts.0 (and_from (has_texts e) (members_have_texts (put k d ms)) rest.0 (put_texts k d ms key text rest.1)))

placed_depth : (o : Ordering) (n : ℕ) (a b c : Members) → members_depth a ≤ n → members_depth b ≤ n → members_depth c ≤ n → members_depth (match_ordering o a b c) ≤ n
placed_depth Less n a b c p q r = p
placed_depth Equal n a b c p q r = q
placed_depth Greater n a b c p q r = r

put_depth : (k : List ℕ) (d : Data) (ms : Members) (n : ℕ) → depth d ≤ n → members_depth ms ≤ n → members_depth (put k d ms) ≤ n
put_depth k d no_members n p q = omega (arith, p)
put_depth k d (member l e ms) n p q =
    let r = put_depth k d ms n p (omega (arith, q)) in
    placed_depth (slice_cmp nat_cmp k l) n (member k d (member l e ms)) (member l d ms) (member l e (put k d ms)) (omega (arith, p, q)) (omega (arith, p, q)) (omega (arith, q, r))

-- ---- fine data, nesting at most so deep

pub record IsFine (n : ℕ) (d : Data) : Type 0 where
  pub formed : is_formed d ≡ true
  pub texts : has_texts d ≡ true
  pub shallow : depth d ≤ n

pub record AreFine (n : ℕ) (ms : Members) : Type 0 where
  pub formed : members_are_formed ms ≡ true
  pub texts : members_have_texts ms ≡ true
  pub shallow : members_depth ms ≤ n

pub fine_none : (n : ℕ) → AreFine n no_members
fine_none n = record { formed = refl; texts = refl; shallow = omega arith }

pub fine_with : {n : ℕ} (k : List ℕ) (d : Data) (ms : Members) → is_text k ≡ true → IsFine n d → AreFine n ms → AreFine n (with_member k d ms)
unfolding with_member
fine_with {n} k d ms key fine all = record {
  formed = put_formed k d ms fine.formed all.formed;
  texts = put_texts k d ms key fine.texts all.texts;
  shallow = put_depth k d ms n fine.shallow all.shallow;
}

pub fine_object : (n : ℕ) (ms : Members) → AreFine n ms → IsFine (n + 1) (object ms)
fine_object n ms fine = record { formed = fine.formed; texts = fine.texts; shallow = let s = fine.shallow in omega (arith, s) }

pub fine_number : (m n : ℕ) → IsLong n → IsFine m (number (unsigned n))
fine_number m n long = record { formed = below; texts = refl; shallow = omega arith }
  where
    below : nat_lt n (2 ^ 64) ≡ true
    below = grind (arith, nat_tests)

pub fine_flag : (m : ℕ) (b : Bool) → IsFine m (boolean b)
fine_flag m b = record { formed = refl; texts = refl; shallow = omega arith }

pub fine_null : (m : ℕ) → IsFine m null
fine_null m = record { formed = refl; texts = refl; shallow = omega arith }

pub fine_text : (m : ℕ) (s : List ℕ) → is_text s ≡ true → IsFine m (string s)
fine_text m s text = record { formed = refl; texts = text; shallow = omega arith }

pub fine_optional : (m : ℕ) (o : Option ℕ) → IfAny IsLong o → IsFine m (optional o)
fine_optional m None long = fine_null m
fine_optional m (Some n) long = fine_number m n long

-- ---- texts and names

pub fine_units : (m : ℕ) (us : List ℕ) → IsText us → IsFine m (units_data us)
fine_units m us t =
    let utf8 : IsUtf8 (encode_utf8_all us) = (us, (text_scalars us t, refl)) in
    fine_text m (encode_utf8_all us) (or_right (list_all (λ x. nat_lt x 128) (encode_utf8_all us)) (is_utf8 (encode_utf8_all us)) (is_utf8-from_IsUtf8 (encode_utf8_all us) utf8))

name_byte : (b : ℕ) → is_name_byte_lem b ≡ true → nat_lt b 128 ≡ true
unfolding is_name_byte_lem
name_byte b h = grind (arith, nat_tests)

name_bytes : (s : List ℕ) → list_all is_name_byte_lem s ≡ true → list_all (λ x. nat_lt x 128) s ≡ true
name_bytes [] h = refl
name_bytes (b ∷ s) h =
    let parts = and_parts (is_name_byte_lem b) (list_all is_name_byte_lem s) h in
    and_from (nat_lt b 128) (list_all (λ x. nat_lt x 128) s) (name_byte b parts.0) (name_bytes s parts.1)

pub fine_name : (m : ℕ) (s : List ℕ) → IsName s → IsFine m (string s)
fine_name m s name =
    fine_text m s (or_left (list_all (λ x. nat_lt x 128) s) (is_utf8 s) (name_bytes s (and_parts _ (list_all is_name_byte_lem s) name).1))

-- ---- arrays

pub fine_array : {A : Type 0} (n : ℕ) (P : A → Type 0) (shape : A → Data) → ((x : A) → P x → IsFine n (shape x)) → (xs : List A) → All P xs → IsFine (n + 1) (array (items_of (map shape xs)))
fine_array n P shape fine [] all = record { formed = refl; texts = refl; shallow = omega arith }
fine_array n P shape fine (x ∷ xs) all =
    let one = fine x (All-head P x xs all) in
    let rest = fine_array n P shape fine xs (All-tail P x xs all) in
    let s = one.shallow in let t = rest.shallow in
    record {
      formed = and_from (is_formed (shape x)) (items_are_formed (items_of (map shape xs))) one.formed rest.formed;
      texts = and_from (has_texts (shape x)) (items_have_texts (items_of (map shape xs))) one.texts rest.texts;
      shallow = omega (arith, s, t);
    }
