-- What a window has of all the operations that were applied since its base.
use Rattle.std.proofs.Common.{◌≡◌, ℕ, zero, suc, ◌+◌, ◌-◌, ◌≤◌, Bool, true, false, List, [], ◌∷◌, ◌++◌, refl, ap, sym, ◌∙◌, arith, length, drop, Some, None, append-nil, append_assoc}
use Rattle.std.specs.Prelude.{slice_get, nat_le, ◌&&◌, if◌then◌else◌}
use Rattle.std.proofs.lemmas.Bool.{and_parts, leb-true as le_of}
use Rattle.std.proofs.lemmas.List.{drop_more, drop-drop, drop-append-le, length-drop, length-append}
use Rattle.std.proofs.lemmas.Option.{slice_get_within, get_or_from_slice_get}
use Rattle.dup_check.specs.declared.past.Past.{Past}
use Rattle.dup_check.specs.Window.{Recent, last_of, recent, most, reaches, since_in}

-- ---- copying what is left
drop_here : (xs : List Past) (i : ℕ) (x : Past) → slice_get xs i ≡ Some x → drop i xs ≡ x ∷ drop (i + 1) xs
drop_here xs i x e = drop_more xs i x (slice_get_within xs i x e) ∙ ap (λ y. y ∷ drop (i + 1) xs) (get_or_from_slice_get xs i x x e)

drop_none : (xs : List Past) (i : ℕ) → slice_get xs i ≡ None → drop i xs ≡ []
drop_none [] zero e = refl
drop_none [] (suc i) e = refl
drop_none (x ∷ xs) zero e = cc
drop_none (x ∷ xs) (suc i) e = drop_none xs i e

pub copied_more : (made next all left : List Past) (i : ℕ) (x copy : Past) → made ++ drop i left ≡ all → Some x ≡ slice_get left i → copy ≡ x → next ≡ made ++ copy ∷ [] → next ++ drop (i + 1) left ≡ all
copied_more made next all left i x copy whole here same is =
    ap (λ xs. xs ++ drop (i + 1) left) is ∙ append_assoc made (copy ∷ []) (drop (i + 1) left) ∙ ap (λ y. made ++ y ∷ drop (i + 1) left) same ∙ ap (λ xs. made ++ xs) (sym (drop_here left i x (sym here))) ∙ whole

pub copied_all : (made all left : List Past) (i : ℕ) → made ++ drop i left ≡ all → None ≡ slice_get left i → made ≡ all
copied_all made all left i whole past = sym (append-nil made) ∙ ap (λ xs. made ++ xs) (sym (drop_none left i (sym past))) ∙ whole

-- ---- what a window has is the end of all
-- the end of an end
pub last_of-last_of : (m n : ℕ) (all : List Past) → n ≤ m → n ≤ length all → last_of n (last_of m all) ≡ last_of n all
last_of-last_of m n all within short =
    let len : length (last_of m all) ≡ length all - (length all - m) = length-drop (length all - m) all in
    let at : length all - m + (length (last_of m all) - n) ≡ length all - n = omega (arith, len) in
    drop-drop (length (last_of m all) - n) (length all - m) all ∙ ap (λ i. drop i all) at

-- a window that has the last 100 of all operations since its base gives those from a version on
pub since_in-recent : (w : Recent) (all : List Past) (v : ℕ) → w.last ≡ recent all → w.version ≡ w.base + length all → since_in w v ≡ (if reaches w.base w.version v then Some (drop (v - w.base) all) else None)
since_in-recent w all v is count = go (reaches w.base w.version v) refl
  where
    given : reaches w.base w.version v ≡ true → last_of (w.version - v) w.last ≡ drop (v - w.base) all
    given e =
        let first = and_parts (nat_le w.base v) (nat_le v w.version && nat_le w.version (v + most)) e in
        let second = and_parts (nat_le v w.version) (nat_le w.version (v + most)) first.1 in
        let low : w.base ≤ v = le_of w.base v first.0 in
        let high : v ≤ w.version = le_of v w.version second.0 in
        let near : w.version ≤ v + most = le_of w.version (v + most) second.1 in
        let at : length all - (w.version - v) ≡ v - w.base = omega (arith, count) in
        ap (last_of (w.version - v)) is ∙ last_of-last_of most (w.version - v) all (omega arith) (omega (arith, count)) ∙ ap (λ i. drop i all) at

    go : (b : Bool) → reaches w.base w.version v ≡ b → (if b then Some (last_of (w.version - v) w.last) else None) ≡ (if b then Some (drop (v - w.base) all) else None)
    go false e = refl
    go true e = ap Some (given e)

-- and one more operation leaves it with the last 100 of all
pub recent-push : (all : List Past) (x : Past) → recent (recent all ++ x ∷ []) ≡ recent (all ++ x ∷ [])
recent-push all x =
    let from : ℕ = length all - most in
    let longer : length (all ++ x ∷ []) ≡ length all + 1 = length-append all (x ∷ []) in
    let same : recent all ++ x ∷ [] ≡ drop from (all ++ x ∷ []) = sym (drop-append-le from all (x ∷ []) (omega arith)) in
    let len : length (drop from (all ++ x ∷ [])) ≡ length (all ++ x ∷ []) - from = length-drop from (all ++ x ∷ []) in
    let at : from + (length (drop from (all ++ x ∷ [])) - most) ≡ length (all ++ x ∷ []) - most = omega (arith, longer, len) in
    ap recent same ∙ drop-drop (length (drop from (all ++ x ∷ [])) - most) from (all ++ x ∷ []) ∙ ap (λ i. drop i (all ++ x ∷ [])) at
