-- A list in two slices: comparing it, and cutting a part out of it.
use Rattle.std.proofs.Common.{◌≡◌, ℕ, ◌+◌, ◌-◌, ◌≤◌, ◌↔◌, ◌==◌, Bool, true, false, IsTrue, List, [], ◌∷◌, ◌++◌, length, take, drop, refl, sym, ◌∙◌, ap, arith}
use Rattle.std.proofs.lemmas.Grind.{common_steps}
use Rattle.std.proofs.lemmas.List.{take-append-drop, take-append-le, drop-append-le}
use Rattle.std.proofs.lemmas.Slice.Eq.{slice_eq-Decides}
use Rattle.std.proofs.lemmas.Bool.Decides.{Decides-eqb}
use Rattle.std.proofs.Math.Seq.{take-append_seam, drop-append_seam, take-append-add, drop-append-add}
use Rattle.std.specs.Bool.{Decides}
use Rattle.std.specs.Cmp.Lexicographic.{pointwise}
use Rattle.std.specs.Prelude.{nat_eq}

first_again : (first other : List ℕ) → first ≡ take (length first) other → first ++ drop (length first) other ≡ other
first_again first other prefix = ap (λ front. front ++ drop (length first) other) prefix ∙ take-append-drop (length first) other

not_both : (b : Bool) → b ≡ true → b ≡ false → ⊥
not_both b holds differs = cc

-- where the first slice is a prefix, the test of the second decides
pub same_after_prefix : (first second other : List ℕ) (a b : Bool) → a ≡ true → a ≡ pointwise nat_eq first (take (length first) other) → b ≡ pointwise nat_eq second (drop (length first) other) → IsTrue b ↔ (first ++ second ≡ other)
same_after_prefix first second other a b holds prefix rest =
    let front : Decides a (first ≡ take (length first) other) = slice_eq-Decides Decides-eqb first (take (length first) other) a prefix in
    let back : Decides b (second ≡ drop (length first) other) = slice_eq-Decides Decides-eqb second (drop (length first) other) b rest in (
      (λ ends. rw (back.0 ends) (first_again _ _ (front.0 holds))),
      (λ same. back.1 (sym (drop-append_seam first second) ∙ ap (drop (length first)) same)),
    )

-- where the first slice is no prefix, the lists differ
pub same_no_prefix : (first second other : List ℕ) (a : Bool) → a ≡ false → a ≡ pointwise nat_eq first (take (length first) other) → IsTrue a ↔ (first ++ second ≡ other)
same_no_prefix first second other a differs prefix =
    let front : Decides a (first ≡ take (length first) other) = slice_eq-Decides Decides-eqb first (take (length first) other) a prefix in (
      (λ holds. absurd (not_both a holds differs)),
      (λ same. front.1 (sym (take-append_seam first second) ∙ ap (take (length first)) same)),
    )

cut_second_add : (first second : List ℕ) (a b : ℕ) → first ++ take a second ++ drop b second ≡ take (length first + a) (first ++ second) ++ drop (length first + b) (first ++ second)
cut_second_add first second a b = rw (take-append-add first second a, drop-append-add first second b) refl

-- a cut in the second slice
pub cut_second : (first second : List ℕ) (from to : ℕ) → from ≤ to → length first ≤ from → first ++ take (from - length first) second ++ drop (to - length first) second ≡ take from (first ++ second) ++ drop to (first ++ second)
cut_second first second from to ordered inside =
    let starts : length first + (from - length first) ≡ from = omega arith in
    let ends : length first + (to - length first) ≡ to = omega arith in
    let cut = cut_second_add first second (from - length first) (to - length first) in
    rw (starts, ends) at cut

-- a cut from the first slice into the second
pub cut_both : (first second : List ℕ) (from to : ℕ) → from ≤ length first → length first ≤ to → take from first ++ drop (to - length first) second ≡ take from (first ++ second) ++ drop to (first ++ second)
cut_both first second from to before after = grind (arith, common_steps, take-append-le, drop-append-add)

some_is_none : (x : ℕ) (xs : List ℕ) → length (x ∷ xs) ≡ 0 → ⊥
some_is_none x xs none = omega (arith, none)

-- a list is empty where its length is 0
pub empty_by_length : (units : List ℕ) → IsTrue (length units == 0) ↔ (units ≡ [])
empty_by_length [] = ((λ _. refl), (λ _. refl))
empty_by_length (x ∷ xs) = ((λ empty. absurd (some_is_none x xs ((Decides-eqb (length (x ∷ xs)) 0).0 empty))), (λ same. cc))
