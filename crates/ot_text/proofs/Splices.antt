-- Texts in chunks, and what becomes of them where chunks are replaced.
use Rattle.std.proofs.Common.{◌≡◌, ℕ, ◌+◌, ◌≤◌, ◌<◌, List, [], ◌∷◌, ◌++◌, refl, ap, sym, ◌∙◌, take, drop, length, get_or, arith, zero, suc, ◌-◌, drop-cons, inl, inr}
use Rattle.std.proofs.lemmas.List.{take_more, length-append, take-append-drop, append_assoc, append-nil, get_or_default}
use Rattle.std.specs.List.{All}
use Rattle.std.proofs.lemmas.List.Elements.{All-head, All-tail, All-append, All-cons, All-nil, All-weaker, All-take, All-drop}
use Rattle.std.specs.Prelude.{IsTrue}
use Rattle.ot_units.specs.Text.{IsText, is_unit, part_at}
use Rattle.ot_text.specs.Lists.{joined, list_at, filled, patched}
use Rattle.ot_text.specs.Chunks.{IsChunk, Joins, Chain, first_length, last_length, IsBig, IsCutUp, AreChunks}
use Rattle.ot_text.specs.Texts.{IsKept}
use Rattle.ot_text.proofs.Joining.{joined-append, take_in_right, take_in_left}

first_drop : (cs : List (List ℕ)) (i : ℕ) → i < length cs → first_length (drop i cs) ≡ length (list_at cs i)
first_drop cs i lt = ap first_length (drop-cons cs i [] lt)

pub joint_at : (cs : List (List ℕ)) (i : ℕ) → Chain cs → i < length cs → 513 ≤ length (list_at cs i) + first_length (drop (i + 1) cs)
joint_at [] i h lt = absurd (omega (arith, lt))
joint_at (c ∷ cs) zero h lt = h.0
joint_at (c ∷ cs) (suc i) h lt =
    let s : suc i + 1 ≡ suc (i + 1) = omega arith in
    rw s (joint_at cs i h.1 (omega (arith, lt)))

pub last-push : (cs : List (List ℕ)) (c : List ℕ) → last_length (cs ++ c ∷ []) ≡ length c
last-push [] c = refl
last-push (x ∷ []) c = refl
last-push (x ∷ y ∷ ys) c = last-push (y ∷ ys) c

pub joint_before : (cs : List (List ℕ)) (i : ℕ) → Chain cs → i < length cs → 513 ≤ last_length (take i cs) + length (list_at cs i)
joint_before cs zero h lt = omega arith
joint_before cs (suc j) h lt =
    let s : suc j ≡ j + 1 = omega arith in
    let cut : take (j + 1) cs ≡ take j cs ++ list_at cs j ∷ [] = take_more cs j [] (omega (arith, lt)) in
    let last : last_length (take (j + 1) cs) ≡ length (list_at cs j) = ap last_length cut ∙ last-push (take j cs) (list_at cs j) in
    let here = joint_at cs j h (omega (arith, lt)) in
    let next = first_drop cs (j + 1) (omega (arith, lt)) in
    rw s (omega (arith, last, here, next))

Chain-append : (xs ys : List (List ℕ)) → Chain xs → Chain ys → 513 ≤ last_length xs + first_length ys → Chain (xs ++ ys)
Chain-append [] ys hx hy j = hy
Chain-append (x ∷ []) ys hx hy j = (j, hy)
Chain-append (x ∷ z ∷ zs) ys hx hy j = (hx.0, Chain-append (z ∷ zs) ys hx.1 hy j)

Chain-take : (cs : List (List ℕ)) (i : ℕ) → Chain cs → Chain (take i cs)
Chain-take cs zero h = tt
Chain-take [] (suc i) h = tt
Chain-take (c ∷ cs) (suc zero) h = (omega arith, tt)
Chain-take (c ∷ []) (suc (suc i)) h = h
Chain-take (c ∷ d ∷ ds) (suc (suc i)) h = (h.0, Chain-take (d ∷ ds) (suc i) h.1)

Chain-drop : (cs : List (List ℕ)) (i : ℕ) → Chain cs → Chain (drop i cs)
Chain-drop cs zero h = h
Chain-drop [] (suc i) h = tt
Chain-drop (c ∷ cs) (suc i) h = Chain-drop cs i h.1

last_least : (cs : List (List ℕ)) → All IsChunk cs → 1 ≤ last_length cs
last_least [] h = omega arith
last_least (c ∷ []) h = (All-head IsChunk c [] h).0
last_least (c ∷ d ∷ ds) h = last_least (d ∷ ds) (All-tail IsChunk c (d ∷ ds) h)

first_least : (cs : List (List ℕ)) → All IsChunk cs → 1 ≤ first_length cs
first_least [] h = omega arith
first_least (c ∷ cs) h = (All-head IsChunk c cs h).0

last-append : (xs : List (List ℕ)) (y : List ℕ) (ys : List (List ℕ)) → last_length (xs ++ y ∷ ys) ≡ last_length (y ∷ ys)
last-append [] y ys = refl
last-append (x ∷ []) y ys = refl
last-append (x ∷ z ∷ zs) y ys = last-append (z ∷ zs) y ys

-- big chunks and any chunk behind them
pub chain_big : (cs : List (List ℕ)) (c : List ℕ) → All IsBig cs → 1 ≤ length c → Chain (cs ++ c ∷ [])
chain_big [] c h one = (omega arith, tt)
chain_big (x ∷ []) c h one = let b = All-head IsBig x [] h in (omega (arith, b.0, one), (omega arith, tt))
chain_big (x ∷ y ∷ ys) c h one =
    let b = All-head IsBig x (y ∷ ys) h in
    let t = All-tail IsBig x (y ∷ ys) h in
    let d = All-head IsBig y ys t in
    (omega (arith, b.0, d.0), chain_big (y ∷ ys) c t one)

pub first_big : (cs : List (List ℕ)) (c : List ℕ) (last : ℕ) → All IsBig cs → last ≤ 513 → last ≤ length c → last ≤ first_length (cs ++ c ∷ []) + 1
first_big [] c last h le here = omega (arith, here)
first_big (x ∷ xs) c last h le here = let b = All-head IsBig x xs h in omega (arith, b.0, le)

longer : (xs ys zs : List ℕ) → zs ≡ xs ++ ys → length zs ≡ length xs + length ys
longer xs ys zs e = ap length e ∙ length-append xs ys

pub next_joins : (cs : List (List ℕ)) (to : ℕ) (c units made : List ℕ) → Chain cs → to < length cs → c ≡ list_at cs to → made ≡ units ++ c → 513 ≤ length made + first_length (drop (to + 1) cs)
next_joins cs to c units made chain lt is e =
    let j = joint_at cs to chain lt in
    let l = longer units c made e in
    let r = ap length is in
    omega (arith, j, l, r)

pub next_same : (cs : List (List ℕ)) (from to : ℕ) (c units made : List ℕ) → to < length cs → c ≡ list_at cs to → made ≡ units ++ c → filled cs from (to + 1) made ≡ filled cs from to units
next_same cs from to c units made lt is e = ap (filled cs from (to + 1)) (e ∙ ap (λ x. units ++ x) is) ∙ take_in_right cs from to units lt

pub previous_joins : (cs : List (List ℕ)) (from to : ℕ) (c units made : List ℕ) → Chain cs → 0 < from → from ≤ length cs → c ≡ list_at cs (from - 1) → made ≡ c ++ units → 513 ≤ length units + first_length (drop to cs) → Joins cs (from - 1) to made
previous_joins cs from to c units made chain pos le is e right =
    let lt : from - 1 < length cs = omega (arith, pos, le) in
    let j = joint_before cs (from - 1) chain lt in
    let l = longer c units made e in
    let r = ap length is in
    (omega (arith, j, l, r), omega (arith, l, right))

pub previous_same : (cs : List (List ℕ)) (from to : ℕ) (c units made : List ℕ) → 0 < from → from ≤ length cs → c ≡ list_at cs (from - 1) → made ≡ c ++ units → filled cs (from - 1) to made ≡ filled cs from to units
previous_same cs from to c units made pos le is e =
    ap (filled cs (from - 1) to) (e ∙ ap (λ x. x ++ units) is) ∙ take_in_left cs from to units pos le

-- nothing was taken in
pub stays_right : (cs : List (List ℕ)) (to : ℕ) (c units : List ℕ) → to < length cs → c ≡ list_at cs to → 512 < length c + length units → 513 ≤ length units + first_length (drop to cs)
stays_right cs to c units lt is big =
    let f = first_drop cs to lt in
    let r = ap length is in
    omega (arith, f, r, big)

pub stays_left : (cs : List (List ℕ)) (from : ℕ) (c units : List ℕ) → 0 < from → from ≤ length cs → c ≡ list_at cs (from - 1) → 512 < length c + length units → 513 ≤ last_length (take from cs) + length units
stays_left cs from c units pos le is big =
    let lt : from - 1 < length cs = omega (arith, pos, le) in
    let e : from - 1 + 1 ≡ from = omega (arith, pos) in
    let cut : take (from - 1 + 1) cs ≡ take (from - 1) cs ++ list_at cs (from - 1) ∷ [] = take_more cs (from - 1) [] lt in
    let last : last_length (take (from - 1 + 1) cs) ≡ length (list_at cs (from - 1)) = ap last_length cut ∙ last-push (take (from - 1) cs) (list_at cs (from - 1)) in
    let last2 : last_length (take from cs) ≡ length (list_at cs (from - 1)) = rw e at last in
    let r = ap length is in
    omega (arith, last2, r, big)

pub big_step : (made made2 : List (List ℕ)) (c : List ℕ) → made2 ≡ made ++ c ∷ [] → 512 ≤ length c → length c ≤ 1024 → All IsBig made → All IsBig made2
big_step made made2 c e low high h = rw e (All-append IsBig made (c ∷ []) h (All-cons IsBig c [] (low, high) (All-nil IsBig)))

big_is : (c : List ℕ) → IsBig c → IsChunk c
big_is c b = (omega (arith, b.0), b.1)

pub chunks_end : (made made2 : List (List ℕ)) (c : List ℕ) → made2 ≡ made ++ c ∷ [] → 1 ≤ length c → length c ≤ 1024 → All IsBig made → AreChunks made2
chunks_end made made2 c e low high h =
    rw e (record { sizes = All-append IsChunk made (c ∷ []) (All-weaker IsBig IsChunk big_is made h) (All-cons IsChunk c [] (low, high) (All-nil IsChunk)); joints = chain_big made c h low })

pub last_end : (made made2 : List (List ℕ)) (c : List ℕ) → made2 ≡ made ++ c ∷ [] → last_length made2 ≡ length c
last_end made made2 c e = ap last_length e ∙ last-push made c

nil_right : (xs : List (List ℕ)) → xs ++ [] ≡ xs
nil_right xs = append-nil xs

none_joined : (a b : List (List ℕ)) → Chain a → Chain b → 513 ≤ last_length a + 0 → Chain (a ++ [] ++ b)
none_joined a b ha hb j = rw (nil_right a) (Chain-append a b ha hb (omega (arith, j)))

joins_chain : (a b made : List (List ℕ)) (units : List ℕ) → Chain a → Chain b → Chain made → 1 ≤ last_length a → 1 ≤ first_length b → joined made ≡ units → 513 ≤ last_length a + length units → 513 ≤ length units + first_length b → IsCutUp units made → Chain (a ++ made ++ b)
joins_chain a b made units ha hb hm la fb j jl jr (inl p) =
    let l = ap length p.0 in
    rw p.1 (none_joined a b ha hb (omega (arith, jl, l)))
joins_chain a b made units ha hb hm la fb j jl jr (inr (inl p)) =
    let l = last-push a units in
    let one : Chain (a ++ units ∷ []) = Chain-append a (units ∷ []) ha (omega arith, tt) jl in
    rw p.0 (Chain-append (a ++ units ∷ []) b one hb (omega (arith, l, jr)))
joins_chain a b [] units ha hb hm la fb j jl jr (inr (inr p)) =
    let l = ap length j in
    none_joined a b ha hb (omega (arith, jl, l))
joins_chain a b (y ∷ ys) units ha hb hm la fb j jl jr (inr (inr p)) =
    let l = last-append a y ys in
    Chain-append (a ++ y ∷ ys) b (Chain-append a (y ∷ ys) ha hm (omega (arith, la, p.0))) hb (omega (arith, l, p.1, fb))

pub patch_chunks : (cs made : List (List ℕ)) (from to : ℕ) (units : List ℕ) → AreChunks cs → AreChunks made → joined made ≡ units → Joins cs from to units → IsCutUp units made → AreChunks (patched cs from to made)
patch_chunks cs made from to units h m j joins up =
    let ha = All-take IsChunk from cs h.sizes in
    let hb = All-drop IsChunk to cs h.sizes in
    record {
      sizes = All-append IsChunk (take from cs ++ made) (drop to cs) (All-append IsChunk (take from cs) made ha m.sizes) hb;
      joints = joins_chain (take from cs) (drop to cs) made units (Chain-take cs from h.joints) (Chain-drop cs to h.joints) m.joints (last_least _ ha) (first_least _ hb) j joins.0 joins.1 up;
    }

-- no more chunks than units
pub few_chunks : (cs : List (List ℕ)) → All IsChunk cs → length cs ≤ length (joined cs)
few_chunks [] h = omega arith
few_chunks (c ∷ cs) h =
    let l = length-append c (joined cs) in
    let one = (All-head IsChunk c cs h).0 in
    let k = few_chunks cs (All-tail IsChunk c cs h) in
    omega (arith, l, one, k)

-- a text that is kept has no more chunks than units
pub few_kept : (bs : List (List (List ℕ))) (len : ℕ) → IsKept bs len → length (joined bs) ≤ len
few_kept bs len h =
    let k = few_chunks (joined bs) h.blocks.chunks.sizes in
    let n = h.counted in
    omega (arith, k, n)

pub few_below : (bs : List (List (List ℕ))) (len most : ℕ) → IsKept bs len → len < most → length (joined bs) < most
few_below bs len most h lt = let k = few_kept bs len h in omega (arith, k, lt)

-- a part of a text is one
pub part_text : (text made : List ℕ) (at len : ℕ) → IsText text → made ≡ part_at text at len → IsText made
part_text text made at len h e = rw e (All-take (λ u. IsTrue (is_unit u)) len (drop at text) (All-drop (λ u. IsTrue (is_unit u)) at text h))
