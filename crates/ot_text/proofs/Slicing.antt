-- What the slices of a part are.
use Rattle.std.proofs.Common.{◌≡◌, ◌↔◌, ◌≢◌, ℕ, ◌+◌, ◌*◌, ◌≤◌, ◌<◌, List, [], ◌∷◌, ◌++◌, refl, ap, ap₂, sym, ◌∙◌, take, drop, length, get_or, arith, zero, suc, ◌-◌}
use Rattle.std.specs.List.{All}
use Rattle.std.proofs.lemmas.List.{length-append, length-take, length-drop, append_assoc, append-nil, take-append-drop}
use Rattle.std.proofs.lemmas.List.Elements.{All-head, All-tail, All-cons, All-nil, All-get_or, All-drop}
use Rattle.std.proofs.Math.Seq.{take-append_seam, drop-append_seam}
use Rattle.ot_text.specs.Lists.{joined, list_at, IsItemPlace}
use Rattle.ot_text.specs.Chunks.{IsChunk, Chain, first_length, AreChunks, IsBlock}
use Rattle.ot_text.specs.Slices.{slices_of}
use Rattle.ot_units.specs.Text.{part_at}
use Rattle.ot_text.proofs.Joining.{back}
use Rattle.ot_text.proofs.Edits.{edge_here, edge_behind}
use Rattle.ot_text.proofs.Blocking.{item_read}

pub slices_none : (first : List ℕ) (cs : List (List ℕ)) (bs : List (List (List ℕ))) (len : ℕ) → len ≡ 0 → slices_of first (cs ++ joined bs) len ≡ []
slices_none first cs bs len e = rw e refl

pub slices_one : (first : List ℕ) (cs : List (List ℕ)) (bs : List (List (List ℕ))) (len : ℕ) → len ≢ 0 → cs ≡ [] → bs ≡ [] → slices_of first (cs ++ joined bs) len ≡ take len first ∷ []
slices_one first cs bs zero h e f = absurd (h refl)
slices_one first cs bs (suc n) h e f = rw (e, f) refl

cut_short : (n : ℕ) (xs : List ℕ) → n - length (take n xs) ≡ n - length xs
cut_short n xs = let l = length-take n xs in omega (arith, l)

more : (first c : List ℕ) (ds : List (List ℕ)) (len : ℕ) → len ≢ 0 → slices_of first (c ∷ ds) len ≡ take len first ∷ slices_of c ds (len - length (take len first))
more first c ds zero h = absurd (h refl)
more first c ds (suc n) h = rw (cut_short (suc n) first) refl

pub slices_more : (first c : List ℕ) (cs ds : List (List ℕ)) (bs : List (List (List ℕ))) (len : ℕ) → len ≢ 0 → cs ≡ c ∷ ds → slices_of first (cs ++ joined bs) len ≡ take len first ∷ slices_of c (ds ++ joined bs) (len - length (take len first))
slices_more first c cs ds bs len h e = ap (λ (x : List (List ℕ)). slices_of first (x ++ joined bs) len) e ∙ more first c (ds ++ joined bs) len h

opened : (b r : List (List ℕ)) (c : List ℕ) → 1 ≤ length b → c ≡ get_or b 0 c → r ≡ drop 1 b → b ≡ c ∷ r
opened [] r c some is e = absurd (omega arith)
opened (x ∷ xs) r c some is e = ap₂ (λ (y : List ℕ) (ys : List (List ℕ)). y ∷ ys) (sym is) (sym e)

pub slices_over : (first c : List ℕ) (cs b r : List (List ℕ)) (bs ds : List (List (List ℕ))) (len : ℕ) → len ≢ 0 → cs ≡ [] → bs ≡ b ∷ ds → 1 ≤ length b → c ≡ get_or b 0 c → r ≡ drop 1 b → slices_of first (cs ++ joined bs) len ≡ take len first ∷ slices_of c (r ++ joined ds) (len - length (take len first))
slices_over first c cs b r bs ds len h e f some is rest =
    let o : b ≡ c ∷ r = opened b r c some is rest in
    let g : cs ++ joined bs ≡ c ∷ (r ++ joined ds) = ap₂ (λ (x : List (List ℕ)) (y : List (List (List ℕ))). x ++ joined y) e f ∙ ap (λ (x : List (List ℕ)). x ++ joined ds) o in
    ap (λ (x : List (List ℕ)). slices_of first x len) g ∙ more first c (r ++ joined ds) len h

take_both : (n : ℕ) (xs ys : List ℕ) → take n (xs ++ ys) ≡ take n xs ++ take (n - length xs) ys
take_both zero xs ys = let e : 0 - length xs ≡ 0 = omega arith in rw e refl
take_both (suc n) [] ys = let e : suc n - 0 ≡ suc n = omega arith in rw e refl
take_both (suc n) (x ∷ xs) ys =
    let e : suc n - suc (length xs) ≡ n - length xs = omega arith in
    rw e (ap (λ t. x ∷ t) (take_both n xs ys))

-- joined they are the part
pub slices_joined : (first : List ℕ) (cs : List (List ℕ)) (len : ℕ) → len ≤ length first + length (joined cs) → joined (slices_of first cs len) ≡ take len (first ++ joined cs)
slices_joined first cs zero le = refl
slices_joined first [] (suc n) le = rw (append-nil first, append-nil (take (suc n) first)) refl
slices_joined first (c ∷ cs) (suc n) le =
    let l = length-append c (joined cs) in
    let h = slices_joined c cs (suc n - length first) (omega (arith, le, l)) in
    ap (λ x. take (suc n) first ++ x) h ∙ sym (take_both (suc n) first (c ++ joined cs))

taken_some : (n : ℕ) (first : List ℕ) → IsChunk first → IsChunk (take (suc n) first)
taken_some n first h = let l = length-take (suc n) first in (omega (arith, l, h.0), omega (arith, l, h.1))

-- none is empty, and each has at most 1,024 units
pub slices_sizes : (first : List ℕ) (cs : List (List ℕ)) (len : ℕ) → IsChunk first → All IsChunk cs → All IsChunk (slices_of first cs len)
slices_sizes first cs zero f h = All-nil IsChunk
slices_sizes first [] (suc n) f h = All-cons IsChunk (take (suc n) first) [] (taken_some n first f) (All-nil IsChunk)
slices_sizes first (c ∷ cs) (suc n) f h =
    All-cons IsChunk (take (suc n) first) (slices_of c cs (suc n - length first)) (taken_some n first f) (slices_sizes c cs (suc n - length first) (All-head IsChunk c cs h) (All-tail IsChunk c cs h))

-- there are no more of them than there are chunks
pub slices_count : (first : List ℕ) (cs : List (List ℕ)) (len : ℕ) → length (slices_of first cs len) ≤ length cs + 1
slices_count first cs zero = omega arith
slices_count first [] (suc n) = omega arith
slices_count first (c ∷ cs) (suc n) = let h = slices_count c cs (suc n - length first) in omega (arith, h)

-- two neighbours have 513 units together: so many chunks have so many units
pub chain_count : (cs : List (List ℕ)) → All IsChunk cs → Chain cs → 256 * length cs ≤ length (joined cs) + 256
chain_count [] h j = omega arith
chain_count (c ∷ []) h j = omega arith
chain_count (c ∷ d ∷ ds) h j =
    let k = chain_count ds (All-tail IsChunk d ds (All-tail IsChunk c (d ∷ ds) h)) j.1.1 in
    let l = length-append c (d ++ joined ds) in
    let m = length-append d (joined ds) in
    let two = j.0 in
    omega (arith, k, l, m, two)

-- the part from a place on
pub part_joined : (cs : List (List ℕ)) (at len i k : ℕ) → IsItemPlace cs at i k → at + len ≤ length (joined cs) → joined (slices_of (drop k (list_at cs i)) (drop (i + 1) cs) len) ≡ part_at (joined cs) at len
part_joined cs at len i k p le =
    let b = back cs at i k (edge_here cs at i k p) in
    let l = length-append (drop k (list_at cs i)) (joined (drop (i + 1) cs)) in
    let m = length-drop at (joined cs) in
    let n = ap length b in
    slices_joined (drop k (list_at cs i)) (drop (i + 1) cs) len (omega (arith, l, m, n, le)) ∙ ap (take len) (sym b)

pub part_sizes : (cs : List (List ℕ)) (at len i k : ℕ) → AreChunks cs → IsItemPlace cs at i k → All IsChunk (slices_of (drop k (list_at cs i)) (drop (i + 1) cs) len)
part_sizes cs at len i k h p =
    let whole : IsChunk (list_at cs i) = All-get_or IsChunk cs i [] p.0 h.sizes in
    let l = length-drop k (list_at cs i) in
    slices_sizes (drop k (list_at cs i)) (drop (i + 1) cs) len (omega (arith, l, p.2), omega (arith, l, whole.1)) (All-drop IsChunk (i + 1) cs h.sizes)

-- the whole text is in as many slices as it has chunks at most
pub part_count : (cs : List (List ℕ)) (at len i k : ℕ) → AreChunks cs → IsItemPlace cs at i k → 256 * length (slices_of (drop k (list_at cs i)) (drop (i + 1) cs) len) ≤ length (joined cs) + 256
part_count cs at len i k h p =
    let n = slices_count (drop k (list_at cs i)) (drop (i + 1) cs) len in
    let d = length-drop (i + 1) cs in
    let c = chain_count cs h.sizes h.joints in
    omega (arith, n, d, c, p.0)

-- the chunks behind one, in its block and in those behind
behind : (bs : List (List (List ℕ))) (s : List (List ℕ)) (n i k : ℕ) → IsItemPlace bs n i k → s ≡ list_at bs i → drop (k + 1) s ++ joined (drop (i + 1) bs) ≡ drop (n + 1) (joined bs)
behind bs s n i k p is = ap (λ (x : List (List ℕ)). drop (k + 1) x ++ joined (drop (i + 1) bs)) is ∙ sym (back bs (n + 1) i (k + 1) (edge_behind bs n (n + 1) i k refl p))

-- what was made of a place
pub made_is : (bs : List (List (List ℕ))) (s made : List (List ℕ)) (len n i k u : ℕ) (c : List ℕ) → IsItemPlace bs n i k → s ≡ list_at bs i → c ≡ list_at (joined bs) n → made ≡ slices_of (drop u c) (drop (k + 1) s ++ joined (drop (i + 1) bs)) len → made ≡ slices_of (drop u (list_at (joined bs) n)) (drop (n + 1) (joined bs)) len
made_is bs s made len n i k u c p is here e = e ∙ ap₂ (λ (x : List ℕ) (y : List (List ℕ)). slices_of (drop u x) y len) here (behind bs s n i k p is)

first_is : (left ps : List (List ℕ)) (p : List ℕ) → left ≡ p ∷ ps → joined left ≡ p ++ joined ps
first_is left ps p e = ap joined e

pub same_long : (left ps : List (List ℕ)) (p rest back : List ℕ) → left ≡ p ∷ ps → back ≡ drop (length p) rest → length (joined left) ≡ length rest → length (joined ps) ≡ length back
same_long left ps p rest back e b long =
    let l = ap length (first_is left ps p e) in
    let m = length-append p (joined ps) in
    let d = length-drop (length p) rest in
    let k = ap length b in
    omega (arith, l, m, d, k, long)

pub same_iff : (left ps : List (List ℕ)) (p rest front back : List ℕ) → left ≡ p ∷ ps → front ≡ take (length p) rest → back ≡ drop (length p) rest → front ≡ p → (rest ≡ joined left) ↔ (back ≡ joined ps)
same_iff left ps p rest front back e f b s = (
  (λ h. b ∙ ap (drop (length p)) (h ∙ first_is left ps p e) ∙ drop-append_seam p (joined ps)),
  (λ h. sym (take-append-drop (length p) rest) ∙ ap (λ x. x ++ drop (length p) rest) (sym f ∙ s) ∙ ap (λ x. p ++ x) (sym b ∙ h) ∙ sym (first_is left ps p e)),
)

pub same_first : (left ps : List (List ℕ)) (p rest front : List ℕ) → left ≡ p ∷ ps → front ≡ take (length p) rest → rest ≡ joined left → front ≡ p
same_first left ps p rest front e f h = f ∙ ap (take (length p)) (h ∙ first_is left ps p e) ∙ take-append_seam p (joined ps)
