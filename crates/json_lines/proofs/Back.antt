-- The compact text of a well-formed value reads as that value.
use Rattle.std.proofs.Common.{◌≡◌, ℕ, ◌^◌, ◌<◌, ◌≤◌, max, List, [], ◌++◌, Bool, true, false, ◌&&◌, nat_lt, Some, option_and_then, option_map, refl, sym, ap, ap₂, ◌∙◌, arith, append-nil, Ordering, Less, Equal, Greater}
use Rattle.std.proofs.lemmas.Bool.{and_parts}
use Rattle.std.proofs.lemmas.Bool.Decides.{nat_tests}
use Rattle.std.specs.Ordering.{nat_cmp, match_ordering}
use Rattle.std.specs.Cmp.Lexicographic.{slice_cmp}
use Rattle.json.specs.Lex.{tokens}
use Rattle.json.specs.Json as json
use Rattle.json.specs.Tree as tree
use Rattle.json.proofs.Printed.Decimals.{IsNumber-decimal}
use Rattle.json.proofs.Printed.Tokens.{tokens-print}
use Rattle.json.proofs.Printed.Trees.{ArePrintable-json_tokens, value-json_tokens}
use Rattle.serde_json.specs.Data.{unsigned, negative, float, Data, null, boolean, number, string, array, object, Items, no_items, item, Members, no_members, member, put, depth, items_depth, members_depth}
use Rattle.serde_json.specs.Read.{read, max_depth, of_json, of_items, of_members}
use Rattle.serde_json.specs.Written.{compact_text, outline, items_outline, members_outline}
use Rattle.serde_json.proofs.Numbers.{number_of-decimal}
use Rattle.serde_json.proofs.Texts.{print-outline}
use Rattle.json_lines.specs.Formed.{is_above, all_above, is_formed, items_are_formed, members_are_formed}

below : (n : ℕ) → nat_lt n (2 ^ 64) ≡ true → n < 2 ^ 64
below n h = grind (arith, nat_tests)

mutual
  numbers : (d : Data) → is_formed d ≡ true → tree.HasNumbers (outline d)
  numbers null h = tt
  numbers (boolean b) h = tt
  numbers (number (unsigned n)) h = IsNumber-decimal n (below n h)
  numbers (number (negative z)) h = absurd cc
  numbers (number (float x)) h = absurd cc
  numbers (string s) h = tt
  numbers (array ds) h = items_numbers ds h
  numbers (object ms) h = members_numbers ms h

  items_numbers : (ds : Items) → items_are_formed ds ≡ true → tree.ItemsHaveNumbers (items_outline ds)
  items_numbers no_items h = tt
  items_numbers (item d ds) h = let p = and_parts (is_formed d) _ h in (numbers d p.0, items_numbers ds p.1)

  members_numbers : (ms : Members) → members_are_formed ms ≡ true → tree.MembersHaveNumbers (members_outline ms)
  members_numbers no_members h = tt
  members_numbers (member k d ms) h = let p = and_parts (is_formed d) _ (and_parts (all_above k ms) _ h).1 in (numbers d p.0, members_numbers ms p.1)

mutual
  depth-outline : (d : Data) → tree.depth (outline d) ≡ depth d
  depth-outline null = refl
  depth-outline (boolean b) = refl
  depth-outline (number n) = refl
  depth-outline (string s) = refl
  depth-outline (array ds) = rw (items_depth-outline ds)
  depth-outline (object ms) = rw (members_depth-outline ms)

  items_depth-outline : (ds : Items) → tree.items_depth (items_outline ds) ≡ items_depth ds
  items_depth-outline no_items = refl
  items_depth-outline (item d ds) = ap₂ max (depth-outline d) (items_depth-outline ds)

  members_depth-outline : (ms : Members) → tree.members_depth (members_outline ms) ≡ members_depth ms
  members_depth-outline no_members = refl
  members_depth-outline (member k d ms) = ap₂ max (depth-outline d) (members_depth-outline ms)

-- ---- members in order are put behind each other

abbrev join : Members → Members → Members
join no_members ms = ms
join (member k d more) ms = member k d (join more ms)

join_next : (found : Members) (k : List ℕ) (d : Data) (ms : Members) → join (join found (member k d no_members)) ms ≡ join found (member k d ms)
join_next no_members k d ms = refl
join_next (member l e more) k d ms = ap (member l e) (join_next more k d ms)

join_none : (found : Members) → join found no_members ≡ found
join_none no_members = refl
join_none (member l e more) = ap (member l e) (join_none more)

-- each key found is below k
abbrev all_below : Members → List ℕ → Bool
all_below no_members k = true
all_below (member l e ms) k = is_above k l && all_below ms k

-- each key found is below each of these
abbrev are_before : Members → Members → Bool
are_before found no_members = true
are_before found (member k d ms) = all_below found k && are_before found ms

placed : (o : Ordering) (a b c : Members) → match_ordering o false false true ≡ true → match_ordering o a b c ≡ c
placed Less a b c h = absurd cc
placed Equal a b c h = absurd cc
placed Greater a b c h = refl

put_last : (found : Members) (k : List ℕ) (d : Data) → all_below found k ≡ true → put k d found ≡ join found (member k d no_members)
put_last no_members k d h = refl
put_last (member l e ms) k d h = let p = and_parts (is_above k l) _ h in placed (slice_cmp nat_cmp k l) _ _ _ p.0 ∙ ap (member l e) (put_last ms k d p.1)

all_below_join : (found : Members) (k : List ℕ) (d : Data) (l : List ℕ) → all_below found l ≡ true → is_above l k ≡ true → all_below (join found (member k d no_members)) l ≡ true
all_below_join no_members k d l h a = rw a
all_below_join (member m e ms) k d l h a = let p = and_parts (is_above l m) _ h in rw (p.0, all_below_join ms k d l p.1 a)

still_before : (found : Members) (k : List ℕ) (d : Data) (ms : Members) → are_before found ms ≡ true → all_above k ms ≡ true → are_before (join found (member k d no_members)) ms ≡ true
still_before found k d no_members b a = refl
still_before found k d (member l e ms) b a =
    let p = and_parts (all_below found l) _ b in
    let q = and_parts (is_above l k) _ a in
    rw (all_below_join found k d l p.0 q.0, still_before found k d ms p.1 q.1)

mutual
  of_json-outline : (d : Data) → is_formed d ≡ true → of_json (outline d) ≡ Some d
  of_json-outline null h = refl
  of_json-outline (boolean b) h = refl
  of_json-outline (number (unsigned n)) h = ap (option_map number) (number_of-decimal n (below n h))
  of_json-outline (number (negative z)) h = absurd cc
  of_json-outline (number (float x)) h = absurd cc
  of_json-outline (string s) h = refl
  of_json-outline (array ds) h = ap (option_map array) (of_items-outline ds h)
  of_json-outline (object ms) h = ap (option_map object) (of_members-outline ms no_members h (none_before ms))

  of_items-outline : (ds : Items) → items_are_formed ds ≡ true → of_items (items_outline ds) ≡ Some ds
  of_items-outline no_items h = refl
  of_items-outline (item d ds) h =
      let p = and_parts (is_formed d) _ h in
      rw (of_json-outline d p.0, of_items-outline ds p.1)

  of_members-outline : (ms found : Members) → members_are_formed ms ≡ true → are_before found ms ≡ true → of_members (members_outline ms) found ≡ Some (join found ms)
  of_members-outline no_members found h b = ap Some (sym (join_none found))
  of_members-outline (member k d ms) found h b =
      let p = and_parts (all_above k ms) _ h in
      let q = and_parts (is_formed d) _ p.1 in
      let r = and_parts (all_below found k) _ b in
      rw (of_json-outline d q.0, put_last found k d r.0)
      (of_members-outline ms (join found (member k d no_members)) q.1 (still_before found k d ms r.1 p.0) ∙ ap Some (join_next found k d ms))

  none_before : (ms : Members) → are_before no_members ms ≡ true
  none_before no_members = refl
  none_before (member k d ms) = none_before ms

-- the law
pub read_back : (d : Data) → is_formed d ≡ true → depth d ≤ max_depth → read (compact_text d) ≡ Some d
read_back d h shallow =
    let j = outline d in
    let same : tokens (compact_text d) ≡ tree.json_tokens j ++ [] =
    ap tokens (sym (print-outline d)) ∙ tokens-print (tree.json_tokens j) (ArePrintable-json_tokens j (numbers d h)) ∙ sym (append-nil (tree.json_tokens j)) in
    let deep : tree.depth j ≤ max_depth = rw (depth-outline d) shallow in
    ap (λ ts. option_and_then of_json (option_and_then (λ p. json.if_last p.0 p.1) (json.value max_depth ts))) same
    ∙ ap (λ o. option_and_then of_json (option_and_then (λ p. json.if_last p.0 p.1) o)) (value-json_tokens j max_depth [] deep)
    ∙ of_json-outline d h
