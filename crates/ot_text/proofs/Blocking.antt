-- Chunks in blocks: where they stand, and what becomes of blocks where chunks are replaced.
use Rattle.std.proofs.Common.{◌≡◌, ℕ, ◌+◌, ◌≤◌, ◌<◌, List, [], ◌∷◌, ◌++◌, refl, ap, ap₂, sym, ◌∙◌, take, drop, length, get_or, arith, zero, suc, ◌-◌}
use Rattle.std.proofs.lemmas.List.{length-append, get_or_default, take_all, drop_all, append-nil, append_assoc}
use Rattle.std.specs.List.{All}
use Rattle.std.proofs.lemmas.List.Elements.{All-append, All-cons, All-nil, All-take, All-drop}
use Rattle.ot_text.specs.Lists.{joined, list_at, IsItemPlace, IsEdgePlace, filled, patched}
use Rattle.ot_text.specs.Chunks.{IsBlock, AreBlocks, AreChunks}
use Rattle.ot_text.specs.Blocks.{IsBlockPlace, IsBlockPatch}
use Rattle.ot_text.proofs.Joining.{joined-append, joined_next, joined_more, most_before, front, item_is, place_inside, filled_is, take_in_right}
use Rattle.ot_text.proofs.Edits.{edge_here, edge_behind}

-- a list that was read
pub read_list : {A : Type 0} (cs : List (List A)) (i : ℕ) (c : List A) → i < length cs → c ≡ get_or cs i c → c ≡ list_at cs i
read_list cs i c lt is = is ∙ sym (get_or_default cs i [] c lt)

-- a chunk that was read in its block
pub item_read : (bs : List (List (List ℕ))) (b s : List (List ℕ)) (c : List ℕ) (at i k : ℕ) → IsItemPlace bs at i k → b ≡ get_or bs i b → s ≡ b → c ≡ get_or s k c → c ≡ list_at (joined bs) at
item_read bs b s c at i k p is same here =
    let whole : s ≡ list_at bs i = same ∙ read_list bs i b p.0 is in
    let lt : k < length s = rw whole p.2 in
    read_list s k c lt here ∙ ap (λ x. list_at x k) whole ∙ sym (item_is bs at i k [] p)

-- the units of one block more
pub units_next : (bs : List (List (List ℕ))) (i : ℕ) (b : List (List ℕ)) → i < length bs → b ≡ get_or bs i b → joined (joined (take (i + 1) bs)) ≡ joined (joined (take i bs)) ++ joined b
units_next bs i b lt is = ap joined (joined_next bs i b lt is) ∙ joined-append (joined (take i bs)) b

pub units_more : (bs : List (List (List ℕ))) (i : ℕ) (b : List (List ℕ)) → i < length bs → b ≡ get_or bs i b → length (joined (joined (take (i + 1) bs))) ≡ length (joined (joined (take i bs))) + length (joined b)
units_more bs i b lt is = ap length (units_next bs i b lt is) ∙ length-append (joined (joined (take i bs))) (joined b)

pub units_before : (bs : List (List (List ℕ))) (n rest at : ℕ) → length bs ≤ n → length (joined (joined (take n bs))) + rest ≡ at → at < length (joined (joined bs)) → ⊥
units_before bs n rest at le here lt = let all : take n bs ≡ bs = take_all n bs le in let e = rw all at here in omega (arith, e, lt)

-- the chunks of one block more are not more than all
pub count_within : (bs : List (List (List ℕ))) (i : ℕ) (b : List (List ℕ)) → i < length bs → b ≡ get_or bs i b → length (joined (take i bs)) + length b ≤ length (joined bs)
count_within bs i b lt is =
    let one = joined_more bs i b lt is in
    let m = most_before bs (i + 1) (omega (arith, lt)) in
    omega (arith, one, m)

pub chunk_found : (bs : List (List (List ℕ))) (s : List (List ℕ)) (at b before rest k u : ℕ) → IsBlockPlace bs at b before rest → s ≡ list_at bs b → IsItemPlace s rest k u → IsItemPlace bs (before + k) b k
chunk_found bs s at b before rest k u p is q =
    let l = ap length is in
    (p.0, omega (arith, p.1), omega (arith, q.0, l))

pub unit_found : (bs : List (List (List ℕ))) (s : List (List ℕ)) (at b before rest k u : ℕ) → IsBlockPlace bs at b before rest → s ≡ list_at bs b → IsItemPlace s rest k u → IsItemPlace (joined bs) at (before + k) u
unit_found bs s at b before rest k u p is q =
    let r = chunk_found bs s at b before rest k u p is q in
    let t : take (before + k) (joined bs) ≡ joined (take b bs) ++ take k s = front bs (before + k) b k (edge_here bs (before + k) b k r) ∙ ap (λ x. joined (take b bs) ++ take k x) (sym is) in
    let n : length (joined (take (before + k) (joined bs))) ≡ length (joined (joined (take b bs))) + length (joined (take k s)) = ap (λ x. length (joined x)) t ∙ ap length (joined-append (joined (take b bs)) (take k s)) ∙ length-append (joined (joined (take b bs))) (joined (take k s)) in
    let c : list_at (joined bs) (before + k) ≡ list_at s k = item_is bs (before + k) b k [] r ∙ ap (λ x. list_at x k) (sym is) in
    let l = ap length c in
    (place_inside bs (before + k) b k r, omega (arith, n, p.2, q.1), omega (arith, l, q.2))

-- a hole in the blocks
pub hole_filled : (bs : List (List (List ℕ))) (from to i k j l : ℕ) (new made : List (List ℕ)) → IsEdgePlace bs from i k → IsEdgePlace bs to j l → made ≡ take k (list_at bs i) ++ new ++ drop l (list_at bs j) → filled bs i (j + 1) made ≡ patched (joined bs) from to new
hole_filled bs from to i k j l new made p q e = ap (filled bs i (j + 1)) e ∙ filled_is bs from to i k j l new p q

-- the next block was taken in
pub next_block : (bs : List (List (List ℕ))) (from to : ℕ) (b s items made : List (List ℕ)) → to < length bs → b ≡ get_or bs to b → s ≡ b → made ≡ items ++ s → filled bs from (to + 1) made ≡ filled bs from to items
next_block bs from to b s items made lt is same e = ap (filled bs from (to + 1)) (e ∙ ap (λ x. items ++ x) (same ∙ read_list bs to b lt is)) ∙ take_in_right bs from to items lt

pub one_block : (made made2 : List (List (List ℕ))) (b : List (List ℕ)) → made2 ≡ made ++ b ∷ [] → 1 ≤ length b → All IsBlock made → All IsBlock made2
one_block made made2 b e some h = rw e (All-append IsBlock made (b ∷ []) h (All-cons IsBlock b [] some (All-nil IsBlock)))

-- patched blocks are right where their chunks are
pub patched_blocks : (bs new : List (List (List ℕ))) (from to : ℕ) (chunks : List (List ℕ)) → AreBlocks bs → All IsBlock new → joined (patched bs from to new) ≡ chunks → AreChunks chunks → AreBlocks (patched bs from to new)
patched_blocks bs new from to chunks h n e cs = record {
  each = All-append IsBlock (take from bs ++ new) (drop to bs) (All-append IsBlock (take from bs) new (All-take IsBlock from bs h.each) n) (All-drop IsBlock to bs h.each);
  chunks = rw e cs;
}

-- the units of a chunk more
pub push_units_step : (cs : List (List ℕ)) (i : ℕ) (c s first made made2 : List ℕ) → i < length cs → c ≡ get_or cs i c → s ≡ c → made ≡ first ++ joined (take i cs) → made2 ≡ made ++ s → made2 ≡ first ++ joined (take (i + 1) cs)
push_units_step cs i c s first made made2 lt is same here e =
    e ∙ ap₂ (λ (x y : List ℕ). x ++ y) here same ∙ append_assoc first (joined (take i cs)) c ∙ ap (λ (x : List ℕ). first ++ x) (sym (joined_next cs i c lt is))

-- the units of a block more
pub gather_step : (bs : List (List (List ℕ))) (i : ℕ) (b s : List (List ℕ)) (made made2 : List ℕ) → i < length bs → b ≡ get_or bs i b → s ≡ b → made ≡ joined (joined (take i bs)) → made2 ≡ made ++ joined s → made2 ≡ joined (joined (take (i + 1) bs))
gather_step bs i b s made made2 lt is same here e =
    e ∙ ap₂ (λ (x : List ℕ) (y : List (List ℕ)). x ++ joined y) here same ∙ sym (units_next bs i b lt is)

-- all chunks become new ones
pub all_filled : (bs : List (List (List ℕ))) (from to : ℕ) (new : List (List ℕ)) → from ≡ 0 → to ≡ length (joined bs) → filled bs 0 (length bs) new ≡ patched (joined bs) from to new
all_filled bs from to new f t =
    ap (λ (x : List (List (List ℕ))). new ++ joined x) (drop_all (length bs) bs (omega arith))
    ∙ ap (λ (x : List (List ℕ)). new ++ x) (sym (drop_all to (joined bs) (omega (arith, t))))
    ∙ ap (λ (n : ℕ). (take n (joined bs) ++ new) ++ drop to (joined bs)) (sym f)
