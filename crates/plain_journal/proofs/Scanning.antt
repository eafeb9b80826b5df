-- What the operations since an update's version make of its own.
use Rattle.std.proofs.Common.{◌≡◌, ℕ, ◌+◌, ◌-◌, ◌<◌, ◌≤◌, Bool, true, false, List, [], ◌∷◌, length, map, take, drop, get_or, refl, sym, ap, ap₂, ◌∙◌, arith, subst, Some, None, length-drop}
use Rattle.std.specs.Prelude.{if◌then◌else◌, nat_lt, ◌||◌}
use Rattle.std.specs.List.{drop-map}
use Rattle.std.proofs.lemmas.List.{drop_more, take_all}
use Rattle.std.proofs.lemmas.Bool.Decides.{nat_tests}
use Rattle.ot_op.specs.declared.comp.Comp.{Comp}
use Rattle.ot_transform.specs.Crossing.{crossed}
use Rattle.ot_transform.specs.Room.{Fits, FitsAll}
use Rattle.ot_transform.proofs.Following.{fits_all_first, fits_all_next}
use Rattle.journal_entries.specs.declared.update.Update.{Update}
use Rattle.journal_entries.specs.declared.update.Outcome.{Outcome}
use Rattle.journal_entries.specs.declared.update.Outcome.TheVariants.{Refused}
use Rattle.journal_entries.specs.declared.update.Cause.TheVariants.{Future, TooOld}
use Rattle.journal_entries.specs.declared.act.Entry.{Entry}
use Rattle.journal_rules.specs.Documents as rules
use Rattle.journal_rules.specs.Documents.{is_in, base, version, text, applied_list}
use Rattle.journal_rules.specs.Deciding.{Scan, Twin, Stuck, moved_on, scanned, concluded, decided, passed_of, passed_since, greatest_age}
use Rattle.plain_journal.specs.declared.documents.Item.{Item}
use Rattle.plain_journal.specs.Answers.{operations, item_as, passed_as}
use Rattle.plain_journal.proofs.Replays.{same_operations}

-- ---- one turn of the loop
module _ (dup : List ℕ) (op : List Comp) (xs : List Item) (i : ℕ) (x : Item) (lt : i < length xs) (is : x ≡ get_or xs i x) where
  abbrev pub rest : List Item
  rest = drop (i + 1) xs

  left_is : drop i xs ≡ x ∷ rest
  left_is = drop_more xs i x lt ∙ ap (λ (y : Item). y ∷ rest) (sym is)

  pub fits_first : FitsAll op (operations (drop i xs)) → Fits op x.op.now
  fits_first fits = fits_all_first op x.op.now (operations rest) (subst (λ (l : List Item). FitsAll op (operations l)) left_is fits)

  pub fits_next : (next right : List Comp) → FitsAll op (operations (drop i xs)) → crossed op x.op.now ≡ Some (next, right) → FitsAll next (operations rest)
  fits_next next right fits given = fits_all_next op x.op.now (operations rest) (next, right) (subst (λ (l : List Item). FitsAll op (operations l)) left_is fits) given

  turn_is : (b : Bool) → is_in x.update.now.source dup ≡ b → scanned dup op (map passed_as (drop i xs)) ≡ (if b then Twin x.v else moved_on (crossed op x.op.now) (λ next. scanned dup next (map passed_as rest)))
  turn_is b found = ap (λ (l : List Item). scanned dup op (map passed_as l)) left_is ∙ ap (λ b. if b then Twin x.v else moved_on (crossed op x.op.now) (λ next. scanned dup next (map passed_as rest))) found

  pub scan_twin : is_in x.update.now.source dup ≡ true → Twin x.v ≡ scanned dup op (map passed_as (drop i xs))
  scan_twin found = sym (turn_is true found)

  pub scan_stuck : is_in x.update.now.source dup ≡ false → crossed op x.op.now ≡ None → Stuck ≡ scanned dup op (map passed_as (drop i xs))
  scan_stuck missed none = sym (turn_is false missed ∙ ap (λ o. moved_on o (λ next. scanned dup next (map passed_as rest))) none)

  pub scan_goes_on : (next right : List Comp) → is_in x.update.now.source dup ≡ false → crossed op x.op.now ≡ Some (next, right) → scanned dup next (map passed_as rest) ≡ scanned dup op (map passed_as (drop i xs))
  scan_goes_on next right missed given = sym (turn_is false missed ∙ ap (λ o. moved_on o (λ made. scanned dup made (map passed_as rest))) given)

-- ---- what was applied since an update's version
pub rest_whole : {A : Type 0} (n : ℕ) (xs : List A) → take (length xs - n) (drop n xs) ≡ drop n xs
rest_whole n xs = let l = length-drop n xs in take_all (length xs - n) (drop n xs) (omega (arith, l))

passed_map : (xs : List Item) → map passed_as xs ≡ map passed_of (map item_as xs)
passed_map [] = refl
passed_map (x ∷ xs) = ap (λ l. passed_as x ∷ l) (passed_map xs)

-- so much of the list that was read
abbrev pub since : List Item → ℕ → List Item
since ys n = take (length ys - n) (drop n ys)

module _ (j : List Entry) (d v n : ℕ) (ys xs : List Item) (read : ys ≡ xs) (items : map item_as xs ≡ applied_list d j) (at : n ≡ v - base d j) where
  since_is : since ys n ≡ drop n xs
  since_is = rest_whole n ys ∙ ap (drop n) read

  pub passed_is : map passed_as (since ys n) ≡ passed_since d v j
  passed_is = ap (map passed_as) since_is ∙ passed_map (drop n xs) ∙ ap (map passed_of) (sym (drop-map item_as n xs) ∙ ap₂ drop at items)

  pub operations_are : operations (since ys n) ≡ drop (v - base d j) (rules.operations d j)
  operations_are = ap operations since_is ∙ sym (drop-map (λ (x : Item). x.op.now) n xs) ∙ ap₂ drop at (same_operations xs ∙ ap (map (λ (x : rules.Item). x.op)) items)

-- the decision on an update that is neither too young nor too old
two_tests : (a b c : Bool) (x y z : Outcome) → a ≡ false → b ≡ false → c ≡ false → (if a then x else if b || c then y else z) ≡ z
two_tests true b c x y z p q r = absurd (cc)
two_tests false true c x y z p q r = absurd (cc)
two_tests false false true x y z p q r = absurd (cc)
two_tests false false false x y z p q r = refl

not_above : (a b : ℕ) → a ≤ b → nat_lt b a ≡ false
not_above a b le = grind (arith, nat_tests)

pub decided_is : (j : List Entry) (d : ℕ) (u : Update) (s : Scan) → base d j ≤ u.v → u.v ≤ version d j → version d j ≤ u.v + greatest_age → s ≡ scanned u.dup u.op (passed_since d u.v j) → concluded (version d j) (text d j) s ≡ decided j d u
decided_is j d u s low high young is =
    ap (concluded (version d j) (text d j)) is
    ∙ sym (two_tests (nat_lt (version d j) u.v) (nat_lt u.v (base d j)) (nat_lt (u.v + greatest_age) (version d j)) (Refused (Future (version d j))) (Refused (TooOld (version d j))) (concluded (version d j) (text d j) (scanned u.dup u.op (passed_since d u.v j)))
    (not_above u.v (version d j) high) (not_above (base d j) u.v low) (not_above (version d j) (u.v + greatest_age) young))
