-- The first line of a text.
use Rattle.std.proofs.Common.{◌≡◌, ℕ, ◌+◌, ◌<◌, ◌≤◌, Bool, true, false, not, cond, List, [], ◌∷◌, ◌++◌, length, take, drop, refl, ap, sym, ◌∙◌, arith, ◌-◌, ap₂, eqb, Some, None, inl, inr}
use Rattle.std.specs.Prelude.{◌==◌, slice_index_or, ◌⊎◌}
use Rattle.std.specs.List.{All, slice_split, position, position_or_len, prefix_len}
use Rattle.std.proofs.lemmas.List.{drop-drop, take_all, length-drop, length-take}
use Rattle.std.proofs.lemmas.List.Splits.{slice_split_first, slice_split_none}
use Rattle.std.proofs.lemmas.List.Sums.{fails_before_first, prefix_len-le-length}
use Rattle.std.proofs.lemmas.List.Folds.{prefix_len-append}
use Rattle.std.proofs.lemmas.Bool.Decides.{nat_tests}
use Rattle.ot_parts.specs.Lines.{lines_of}
use Rattle.ot_text.specs.Lists.{joined}
use Rattle.ot_units.specs.Text.{part_at}

-- the place of the first line feed, or the length
abbrev pub feed : List ℕ → ℕ
feed text = position_or_len (λ unit. unit == 10) text

pub feed_within : (text : List ℕ) → feed text ≤ length text
feed_within text = prefix_len-le-length (λ unit. not (unit == 10)) text

same_cond : (a b c : ℕ) → a < b → cond (eqb a b) c a ≡ a
same_cond a b c h = grind (arith, nat_tests)

other_cond : (a b c : ℕ) → a ≡ b → cond (eqb a b) c a ≡ c
other_cond a b c h = grind (arith, nat_tests)

pub feed_in_front : (front back : List ℕ) → feed front < length front → feed (front ++ back) ≡ feed front
feed_in_front front back h = prefix_len-append (λ unit. not (unit == 10)) front back ∙ same_cond (feed front) (length front) (length front + feed back) h

pub feed_behind : (front back : List ℕ) → length front ≤ feed front → feed (front ++ back) ≡ length front + feed back
feed_behind front back h =
    let w = feed_within front in
    prefix_len-append (λ unit. not (unit == 10)) front back ∙ other_cond (feed front) (length front) (length front + feed back) (omega (arith, h, w))

-- what `position` gives
pub feed_some : (text : List ℕ) (at : ℕ) → position (λ unit. unit == 10) text ≡ Some at → at ≡ feed text
feed_some text at some = grind arith

pub feed_none : (text : List ℕ) → position (λ unit. unit == 10) text ≡ None → length text ≡ feed text
feed_none text none = let w = feed_within text in let reached : length text ≤ feed text = grind arith in omega (arith, w, reached)

last_line : (text : List ℕ) → length text ≤ feed text → lines_of text ≡ text ∷ []
last_line text h = slice_split_none (λ unit. unit == 10) text (λ k d within. fails_before_first (λ unit. unit == 10) text k d (omega (arith, within, h)))

-- what is left behind the first line, from a place of the text on
pub lines_more : (text line : List ℕ) (at rest len : ℕ) → at + rest ≡ length text → len ≡ feed (part_at text at rest) → len < rest → line ≡ part_at text at len → lines_of (drop at text) ≡ line ∷ lines_of (drop (at + (len + 1)) text)
lines_more text line at rest len total is lt e =
    let all : part_at text at rest ≡ drop at text = take_all rest (drop at text) (let d = length-drop at text in omega (arith, d, total)) in
    let place : len ≡ feed (drop at text) = is ∙ ap feed all in
    let d = length-drop at text in
    let first : lines_of (drop at text) ≡ take (feed (drop at text)) (drop at text) ∷ lines_of (drop (feed (drop at text) + 1) (drop at text)) = slice_split_first {X = ℕ} (λ unit. unit == 10) (drop at text) 0 (omega (arith, place, lt, d, total)) in
    first ∙ ap₂ (λ (x : List ℕ) (y : List (List ℕ)). x ∷ y) (ap (λ (n : ℕ). take n (drop at text)) (sym place) ∙ sym e) (ap (λ (n : ℕ). lines_of (drop (n + 1) (drop at text))) (sym place) ∙ ap lines_of (drop-drop (len + 1) at text))

pub lines_last : (text line : List ℕ) (at rest len : ℕ) → at + rest ≡ length text → len ≡ feed (part_at text at rest) → rest ≤ len → line ≡ part_at text at len → lines_of (drop at text) ≡ line ∷ []
lines_last text line at rest len total is le e =
    let d = length-drop at text in
    let all : part_at text at rest ≡ drop at text = take_all rest (drop at text) (omega (arith, d, total)) in
    let place : len ≡ feed (drop at text) = is ∙ ap feed all in
    let whole : line ≡ drop at text = e ∙ take_all len (drop at text) (omega (arith, d, total, le)) in
    last_line (drop at text) (omega (arith, d, total, le, place)) ∙ ap (λ (x : List ℕ). x ∷ []) (sym whole)

-- no further than the whole
pub feed_least : (front back : List ℕ) → feed front ≤ feed (front ++ back)
feed_least front back = least (lt_or_le (feed front) (length front))
  where
    lt_or_le : (a b : ℕ) → (a < b) ⊎ (b ≤ a)
    lt_or_le a b = grind arith

    least : (feed front < length front) ⊎ (length front ≤ feed front) → feed front ≤ feed (front ++ back)
    least (inl lt) = let e = feed_in_front front back lt in omega (arith, e)
    least (inr le) = let e = feed_behind front back le in let w = feed_within front in omega (arith, e, w)

pub line_within : (text : List ℕ) (at rest len : ℕ) → len ≡ feed (part_at text at rest) → len ≤ rest
line_within text at rest len is =
    let w = feed_within (part_at text at rest) in
    let l = length-take rest (drop at text) in
    omega (arith, w, l, is)
