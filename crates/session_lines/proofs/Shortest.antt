-- A text of two bytes is no object with a member: it has too few tokens.
use Rattle.std.proofs.Common.{◌≡◌, ℕ, zero, suc, ◌+◌, ◌≤◌, List, [], ◌∷◌, length, Bool, true, false, refl, sym, ap, ◌∙◌, subst, arith}
use Rattle.std.specs.Prelude.{⊤, Option, Some, None, option_map, option_and_then}
use Rattle.std.specs.Str.{is_utf8}
use Rattle.json.specs.Json as json
use Rattle.json.specs.Json.{Parse, parse_map, after_end_array, read_key, items_step, members_step, items, members, value_with, value, if_last}
use Rattle.json.specs.Lex.{Lexeme, Class, quote, backslash, operator, space, other, class, operator_lexeme, Mode, between, in_word, in_string, in_escape, lex_byte, lex, Place, fresh, after_value, after_comma, after_key, begins_colon, may_begin, may_close, if_allowed, place_token, punctuate, tokens}
use Rattle.json.specs.Lex as lexing
use Rattle.json.specs.Token.{Token}
use Rattle.json.specs.Token as token
use Rattle.serde_json.specs.Data.{Data}
use Rattle.serde_json.specs.Find.{get}
use Rattle.serde_json.specs.Read.{of_json, of_items, number_of, read, max_depth}
use Rattle.json_lines.specs.Lines.{value_of}
use Rattle.ot_json.proofs.Given.{IfGiven, given_with, given_choice, given_map}

-- ---- there are hardly more tokens than bytes
lexed : (m : Mode) (c : Class) (x n : ℕ) (xs : List ℕ) (k : Mode → List Lexeme) → ((q : Mode) → length (k q) ≤ n) → length (lex_byte m c x xs k) ≤ n + 1
lexed between quote x n xs k h = let l = h in_string in omega (arith, l)
lexed between backslash x n xs k h = let l = h in_word in omega (arith, l)
lexed between operator x n xs k h = let l = h between in omega (arith, l)
lexed between space x n xs k h = let l = h between in omega (arith, l)
lexed between other x n xs k h = let l = h in_word in omega (arith, l)
lexed in_word quote x n xs k h = let l = h in_word in omega (arith, l)
lexed in_word backslash x n xs k h = let l = h in_word in omega (arith, l)
lexed in_word operator x n xs k h = let l = h between in omega (arith, l)
lexed in_word space x n xs k h = let l = h between in omega (arith, l)
lexed in_word other x n xs k h = let l = h in_word in omega (arith, l)
lexed in_string quote x n xs k h = let l = h between in omega (arith, l)
lexed in_string backslash x n xs k h = let l = h in_escape in omega (arith, l)
lexed in_string operator x n xs k h = let l = h in_string in omega (arith, l)
lexed in_string space x n xs k h = let l = h in_string in omega (arith, l)
lexed in_string other x n xs k h = let l = h in_string in omega (arith, l)
lexed in_escape c x n xs k h = let l = h in_string in omega (arith, l)

few_lexemes : (xs : List ℕ) (m : Mode) → length (lex m xs) ≤ length xs
unfolding lex
few_lexemes [] m = omega arith
few_lexemes (x ∷ xs) m = let l = lexed m (class x) x (length xs) xs (λ next. lex next xs) (λ q. few_lexemes xs q) in omega (arith, l)

allowed : (b : Bool) (t : Token) (n : ℕ) (k : Place → List Token) (next : Place) → ((q : Place) → length (k q) ≤ n) → length (if_allowed b t k next) ≤ n + 1
allowed true t n k next h = let l = h next in omega (arith, l)
allowed false t n k next h = omega arith

placed : (p : Place) (t : Token) (b : Bool) (n : ℕ) (k : Place → List Token) → ((q : Place) → length (k q) ≤ n) → length (place_token p t b k) ≤ n + 1
placed p token.begin_object b n k h = allowed (may_begin p) token.begin_object n k fresh h
placed p token.end_object b n k h = allowed (may_close p) token.end_object n k after_value h
placed p token.begin_array b n k h = allowed (may_begin p) token.begin_array n k fresh h
placed p token.end_array b n k h = allowed (may_close p) token.end_array n k after_value h
placed p (token.key s) b n k h = omega arith
placed p (token.string s) true n k h = allowed (may_begin p) (token.key s) n k after_key h
placed p (token.string s) false n k h = allowed (may_begin p) (token.string s) n k after_value h
placed p (token.number s) b n k h = allowed (may_begin p) (token.number s) n k after_value h
placed p (token.boolean v) b n k h = allowed (may_begin p) (token.boolean v) n k after_value h
placed p token.null b n k h = allowed (may_begin p) token.null n k after_value h
placed p token.bad b n k h = omega arith

few_punctuated : (ls : List Lexeme) (p : Place) → length (punctuate p ls) ≤ length ls + 1
unfolding punctuate
few_punctuated [] fresh = omega arith
few_punctuated [] after_value = omega arith
few_punctuated [] after_comma = omega arith
few_punctuated [] after_key = omega arith
few_punctuated (lexing.token t ∷ ls) fresh = let l = placed fresh t (begins_colon ls) (length ls + 1) (λ next. punctuate next ls) (λ q. few_punctuated ls q) in omega (arith, l)
few_punctuated (lexing.token t ∷ ls) after_value = let l = placed after_value t (begins_colon ls) (length ls + 1) (λ next. punctuate next ls) (λ q. few_punctuated ls q) in omega (arith, l)
few_punctuated (lexing.token t ∷ ls) after_comma = let l = placed after_comma t (begins_colon ls) (length ls + 1) (λ next. punctuate next ls) (λ q. few_punctuated ls q) in omega (arith, l)
few_punctuated (lexing.token t ∷ ls) after_key = let l = placed after_key t (begins_colon ls) (length ls + 1) (λ next. punctuate next ls) (λ q. few_punctuated ls q) in omega (arith, l)
few_punctuated (lexing.comma ∷ ls) fresh = omega arith
few_punctuated (lexing.comma ∷ ls) after_value = let l = few_punctuated ls after_comma in omega (arith, l)
few_punctuated (lexing.comma ∷ ls) after_comma = omega arith
few_punctuated (lexing.comma ∷ ls) after_key = omega arith
few_punctuated (lexing.colon ∷ ls) fresh = omega arith
few_punctuated (lexing.colon ∷ ls) after_value = omega arith
few_punctuated (lexing.colon ∷ ls) after_comma = omega arith
few_punctuated (lexing.colon ∷ ls) after_key = let l = few_punctuated ls fresh in omega (arith, l)

few_tokens : (text : List ℕ) → length (tokens text) ≤ length text + 1
few_tokens text = let l = few_lexemes text between in let p = few_punctuated (lex between text) fresh in omega (arith, l, p)

-- ---- three tokens are no object with a member
abbrev IsFlat : json.Json → Type 0
IsFlat json.null = ⊤
IsFlat (json.boolean b) = ⊤
IsFlat (json.number s) = ⊤
IsFlat (json.string s) = ⊤
IsFlat (json.array js) = ⊤
IsFlat (json.object json.no_members) = ⊤
IsFlat (json.object (json.member k j ms)) = ⊥

abbrev IsFlatRead : json.Json × List Token → Type 0
IsFlatRead p = IsFlat p.0

abbrev AreNone : json.Members × List Token → Type 0
AreNone p = p.0 ≡ json.no_members

abbrev IsAtEnd : json.Json × List Token → Type 0
IsAtEnd p = p.1 ≡ []

-- one token is a whole value, or none
alone_with : (a : Parse json.Items) (o : Parse json.Members) (t : Token) → a [] ≡ None → o [] ≡ None → IfGiven IsAtEnd (value_with a o (t ∷ []))
alone_with a o token.begin_object none_a none_o = rw none_o tt
alone_with a o token.end_object none_a none_o = tt
alone_with a o token.begin_array none_a none_o = rw none_a tt
alone_with a o token.end_array none_a none_o = tt
alone_with a o (token.key s) none_a none_o = tt
alone_with a o (token.string s) none_a none_o = refl
alone_with a o (token.number s) none_a none_o = refl
alone_with a o (token.boolean b) none_a none_o = refl
alone_with a o token.null none_a none_o = refl
alone_with a o token.bad none_a none_o = tt

alone : (depth : ℕ) (t : Token) → IfGiven IsAtEnd (value depth (t ∷ []))
unfolding value items members
alone zero t = alone_with (λ ts. None) (λ ts. None) t refl refl
alone (suc depth) t = alone_with (λ ts. items (value depth) (length ts) ts) (λ ts. members (value depth) (length ts) ts) t refl refl

nothing_read : (depth : ℕ) → value depth [] ≡ None
unfolding value
nothing_read zero = refl
nothing_read (suc depth) = refl

-- two tokens behind an opening brace are no member
no_more : (read : Parse json.Json) (n : ℕ) (k : List ℕ) (r : Option (json.Json × List Token)) → IfGiven IsAtEnd r → IfGiven AreNone (option_and_then (λ p. parse_map (json.member k p.0) (members read n p.1)) r)
unfolding members
no_more read n k None at = tt
no_more read n k (Some (j, rest)) at = ends rest at n
  where
    ends : (rest : List Token) → rest ≡ [] → (n : ℕ) → IfGiven AreNone (parse_map (json.member k j) (members read n rest))
    ends [] at zero = tt
    ends [] at (suc n) = tt
    ends (t ∷ ts) at n = absurd cc

no_member : (read : Parse json.Json) (n : ℕ) (ts : List Token) → length ts ≤ 2 → read [] ≡ None → ((t : Token) → IfGiven IsAtEnd (read (t ∷ []))) → IfGiven AreNone (members read n ts)
unfolding members
no_member read zero ts few none one = tt
no_member read (suc n) [] few none one = tt
no_member read (suc n) (token.begin_object ∷ ts) few none one = tt
no_member read (suc n) (token.end_object ∷ ts) few none one = refl
no_member read (suc n) (token.begin_array ∷ ts) few none one = tt
no_member read (suc n) (token.end_array ∷ ts) few none one = tt
no_member read (suc n) (token.key k ∷ []) few none one = rw none tt
no_member read (suc n) (token.key k ∷ t ∷ []) few none one = no_more read n k (read (t ∷ [])) (one t)
no_member read (suc n) (token.key k ∷ t ∷ u ∷ ts) few none one = absurd (omega (arith, few))
no_member read (suc n) (token.string s ∷ ts) few none one = tt
no_member read (suc n) (token.number s ∷ ts) few none one = tt
no_member read (suc n) (token.boolean b ∷ ts) few none one = tt
no_member read (suc n) (token.null ∷ ts) few none one = tt
no_member read (suc n) (token.bad ∷ ts) few none one = tt

flat_object : (r : Option (json.Members × List Token)) → IfGiven AreNone r → IfGiven IsFlatRead (parse_map json.object r)
flat_object None none = tt
flat_object (Some (ms, rest)) none = flat ms none
  where
    flat : (ms : json.Members) → ms ≡ json.no_members → IsFlat (json.object ms)
    flat json.no_members none = tt
    flat (json.member k j ms) none = absurd cc

flat_array : (r : Option (json.Items × List Token)) → IfGiven IsFlatRead (parse_map json.array r)
flat_array None = tt
flat_array (Some (js, rest)) = tt

flat_with : (a : Parse json.Items) (o : Parse json.Members) (ts : List Token) → length ts ≤ 3 → ((ts : List Token) → length ts ≤ 2 → IfGiven AreNone (o ts)) → IfGiven IsFlatRead (value_with a o ts)
flat_with a o [] few none = tt
flat_with a o (token.begin_object ∷ ts) few none = flat_object (o ts) (none ts (omega (arith, few)))
flat_with a o (token.end_object ∷ ts) few none = tt
flat_with a o (token.begin_array ∷ ts) few none = flat_array (a ts)
flat_with a o (token.end_array ∷ ts) few none = tt
flat_with a o (token.key s ∷ ts) few none = tt
flat_with a o (token.string s ∷ ts) few none = tt
flat_with a o (token.number s ∷ ts) few none = tt
flat_with a o (token.boolean b ∷ ts) few none = tt
flat_with a o (token.null ∷ ts) few none = tt
flat_with a o (token.bad ∷ ts) few none = tt

flat_value : (depth : ℕ) (ts : List Token) → length ts ≤ 3 → IfGiven IsFlatRead (value depth ts)
unfolding value
flat_value zero ts few = flat_with (λ ts. None) (λ ts. None) ts few (λ ts few. tt)
flat_value (suc depth) ts few = flat_with (λ ts. items (value depth) (length ts) ts) (λ ts. members (value depth) (length ts) ts) ts few (λ ts few. no_member (value depth) (length ts) ts few (nothing_read depth) (alone depth))

last_flat : (j : json.Json) (rest : List Token) → IsFlat j → IfGiven IsFlat (if_last j rest)
last_flat j [] flat = flat
last_flat j (t ∷ ts) flat = tt

-- ---- so it has no value at a key
abbrev HasNot : List ℕ → Data → Type 0
HasNot k d = get k d ≡ None

flat_has_not : (k : List ℕ) (j : json.Json) → IsFlat j → IfGiven (HasNot k) (of_json j)
flat_has_not k json.null flat = refl
flat_has_not k (json.boolean b) flat = refl
flat_has_not k (json.number s) flat = given_map (HasNot k) _ (number_of s) (λ n. refl)
flat_has_not k (json.string s) flat = refl
flat_has_not k (json.array js) flat = given_map (HasNot k) _ (of_items js) (λ ds. refl)
flat_has_not k (json.object json.no_members) flat = refl
flat_has_not k (json.object (json.member l j ms)) flat = absurd flat

pub short_has_not : (k bytes : List ℕ) → length bytes ≤ 2 → IfGiven (HasNot k) (value_of bytes)
short_has_not k bytes short =
    let few = few_tokens bytes in
    given_choice (HasNot k) (is_utf8 bytes) (read bytes) None
    (given_with IsFlat (HasNot k) of_json _
    (given_with IsFlatRead IsFlat (λ p. if_last p.0 p.1) _ (flat_value max_depth (tokens bytes) (omega (arith, short, few))) (λ p flat. last_flat p.0 p.1 flat))
    (λ j flat. flat_has_not k j flat)) tt
