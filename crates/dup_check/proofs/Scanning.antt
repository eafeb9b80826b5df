-- What the operations since an update's version make of its own.
use Rattle.std.proofs.Common.{◌≡◌, ℕ, ◌+◌, ◌<◌, Bool, true, false, List, [], ◌∷◌, refl, ap, sym, ◌∙◌, arith, length, drop, get_or, Option, Some, None, subst}
use Rattle.std.specs.Prelude.{if◌then◌else◌}
use Rattle.std.specs.Option.{option_and_then}
use Rattle.std.proofs.lemmas.List.{at_drop_more}
use Rattle.ot_op.specs.declared.comp.Comp.{Comp}
use Rattle.ot_transform.specs.Crossing.{Crossed, crossed, through}
use Rattle.ot_transform.specs.Room.{Fits, FitsAll}
use Rattle.ot_transform.proofs.Following.{fits_all_first, fits_all_next}
use Rattle.journal_rules.specs.Documents.{is_in}
use Rattle.journal_rules.specs.Deciding.{Scan, Twin, Stuck, Moved, moved_on, scanned}
use Rattle.dup_check.specs.declared.past.Past.{Past}
use Rattle.dup_check.specs.Snapshot.{operations, numbered}

-- ---- one turn of the loop
pub rest_at : (past : List Past) (k : ℕ) (x : Past) → k < length past → x ≡ get_or past k x → drop k past ≡ x ∷ drop (k + 1) past
rest_at past k x lt is = at_drop_more (λ (xs : List Past). xs) past k x lt ∙ ap (λ y. y ∷ drop (k + 1) past) (sym is)

pub fits_first : (op : List Comp) (past : List Past) (k : ℕ) (x : Past) → k < length past → x ≡ get_or past k x → FitsAll op (operations (drop k past)) → Fits op x.op
fits_first op past k x lt is fits = fits_all_first op x.op (operations (drop (k + 1) past)) (subst (λ (xs : List Past). FitsAll op (operations xs)) (rest_at past k x lt is) fits)

pub fits_next : (op next right : List Comp) (past : List Past) (k : ℕ) (x : Past) → k < length past → x ≡ get_or past k x → FitsAll op (operations (drop k past)) → crossed op x.op ≡ Some (next, right) → FitsAll next (operations (drop (k + 1) past))
fits_next op next right past k x lt is fits given =
    fits_all_next op x.op (operations (drop (k + 1) past)) (next, right) (subst (λ (xs : List Past). FitsAll op (operations xs)) (rest_at past k x lt is) fits) given

abbrev turn : List ℕ → ℕ → List Comp → Past → List Past → Scan
turn dup v op x rest = if is_in x.source dup then Twin v else moved_on (crossed op x.op) (λ next. scanned dup next (numbered (v + 1) rest))

turn_is : (dup : List ℕ) (v : ℕ) (op : List Comp) (past : List Past) (k : ℕ) (x : Past) → k < length past → x ≡ get_or past k x → scanned dup op (numbered (v + k) (drop k past)) ≡ turn dup (v + k) op x (drop (k + 1) past)
turn_is dup v op past k x lt is = ap (λ (xs : List Past). scanned dup op (numbered (v + k) xs)) (rest_at past k x lt is)

module _ (dup : List ℕ) (v : ℕ) (op : List Comp) (past : List Past) (k : ℕ) (x : Past) (all : Scan) (same : scanned dup op (numbered (v + k) (drop k past)) ≡ all) (lt : k < length past) (is : x ≡ get_or past k x) where
  pub scan_twin : is_in x.source dup ≡ true → Twin (v + k) ≡ all
  scan_twin found = sym (ap (λ b. if b then Twin (v + k) else moved_on (crossed op x.op) (λ next. scanned dup next (numbered (v + k + 1) (drop (k + 1) past)))) found) ∙ sym (turn_is dup v op past k x lt is) ∙ same

  crossing : is_in x.source dup ≡ false → moved_on (crossed op x.op) (λ next. scanned dup next (numbered (v + k + 1) (drop (k + 1) past))) ≡ all
  crossing missed = sym (ap (λ b. if b then Twin (v + k) else moved_on (crossed op x.op) (λ next. scanned dup next (numbered (v + k + 1) (drop (k + 1) past)))) missed) ∙ sym (turn_is dup v op past k x lt is) ∙ same

  pub scan_stuck : is_in x.source dup ≡ false → crossed op x.op ≡ None → Stuck ≡ all
  scan_stuck missed none = sym (ap (λ o. moved_on o (λ next. scanned dup next (numbered (v + k + 1) (drop (k + 1) past)))) none) ∙ crossing missed

  pub scan_goes_on : (next right : List Comp) → is_in x.source dup ≡ false → crossed op x.op ≡ Some (next, right) → scanned dup next (numbered (v + (k + 1)) (drop (k + 1) past)) ≡ all
  scan_goes_on next right missed given =
      let at : v + (k + 1) ≡ v + k + 1 = omega arith in
      ap (λ n. scanned dup next (numbered n (drop (k + 1) past))) at
      ∙ sym (ap (λ o. moved_on o (λ made. scanned dup made (numbered (v + k + 1) (drop (k + 1) past)))) given) ∙ crossing missed

-- ---- what it has in common with moving an operation past a list
abbrev pub IsThrough : Scan → Option (List Comp) → Type 0
IsThrough (Twin v) made = Unit {0}
IsThrough Stuck made = made ≡ None
IsThrough (Moved op) made = made ≡ Some op

by_crossing : (o : Crossed) (f : List Comp → Scan) (g : List Comp → Option (List Comp)) → ((next : List Comp) → IsThrough (f next) (g next)) → IsThrough (moved_on o f) (option_and_then (λ both. g both.0) o)
by_crossing None f g h = refl
by_crossing (Some both) f g h = h both.0

by_source : (b : Bool) (v : ℕ) (scan : Scan) (made : Option (List Comp)) → IsThrough scan made → IsThrough (if b then Twin v else scan) made
by_source true v scan made h = tt
by_source false v scan made h = h

pub scan_through : (dup : List ℕ) (op : List Comp) (v : ℕ) (past : List Past) → IsThrough (scanned dup op (numbered v past)) (through op (operations past))
scan_through dup op v [] = refl
scan_through dup op v (x ∷ xs) = by_source (is_in x.source dup) v (moved_on (crossed op x.op) (λ next. scanned dup next (numbered (v + 1) xs))) (through op (operations (x ∷ xs)))
    (by_crossing (crossed op x.op) (λ next. scanned dup next (numbered (v + 1) xs)) (λ next. through next (operations xs)) (λ next. scan_through dup next (v + 1) xs))
