-- A chunk that grows in its place.
use Rattle.std.proofs.Common.{◌≡◌, ℕ, ◌+◌, ◌-◌, ◌≤◌, ◌<◌, List, [], ◌∷◌, ◌++◌, refl, ap, sym, ◌∙◌, take, drop, length, get_or, arith, suc, inl, inr}
use Rattle.std.specs.Prelude.{slice_set}
use Rattle.std.specs.List.{All}
use Rattle.std.proofs.lemmas.List.{set_split, length-set, length-append, append_assoc, append-nil, get_or_default}
use Rattle.std.proofs.lemmas.List.Elements.{All-nil, All-cons, All-append, All-take, All-drop, All-get_or}
use Rattle.ot_units.specs.Text.{put_at}
use Rattle.ot_text.specs.Lists.{joined, list_at, IsItemPlace, filled, patched}
use Rattle.ot_text.specs.Chunks.{IsChunk, IsBlock, AreChunks, AreBlocks, IsCounted}
use Rattle.ot_text.proofs.Joining.{patch_joined, around}
use Rattle.ot_text.proofs.Splices.{joint_at, joint_before, patch_chunks}
use Rattle.ot_text.proofs.Edits.{edge_here, edge_behind, put_filled, put_length}
use Rattle.ot_text.proofs.Blocking.{hole_filled}

-- one that is set is a patch
pub set_patched : {A : Type 0} (l : List A) (i : ℕ) (a : A) → i < length l → slice_set l i a ≡ patched l i (i + 1) (a ∷ [])
set_patched l i a lt =
    let s : suc i ≡ i + 1 = omega arith in
    let e : slice_set l i a ≡ take i l ++ a ∷ drop (i + 1) l = rw s at (set_split l i a lt) in
    e ∙ sym (append_assoc (take i l) (a ∷ []) (drop (i + 1) l))

set_filled : {A : Type 0} (cs : List (List A)) (i : ℕ) (c : List A) → i < length cs → joined (slice_set cs i c) ≡ filled cs i (i + 1) c
set_filled cs i c lt = ap joined (set_patched cs i c lt) ∙ patch_joined cs (c ∷ []) i (i + 1) c (append-nil c)

-- the counts of a block in which a chunk grew
pub grown_counted : (cs : List (List ℕ)) (i count len more : ℕ) (c : List ℕ) → i < length cs → length c ≡ length (list_at cs i) + more → IsCounted cs count len → IsCounted (slice_set cs i c) count (len + more)
grown_counted cs i count len more c lt long h =
    let n = length-set cs i c in
    let f = ap length (set_filled cs i c lt) in
    let g = length-append (joined (take i cs) ++ c) (joined (drop (i + 1) cs)) in
    let k = length-append (joined (take i cs)) c in
    let a = ap length (around cs i lt) in
    let b = length-append (joined (take i cs)) (list_at cs i ++ joined (drop (i + 1) cs)) in
    let d = length-append (list_at cs i) (joined (drop (i + 1) cs)) in
    (omega (arith, n, h.0), omega (arith, f, g, k, a, b, d, long, h.1))

-- the chunks of the blocks in which a chunk was set
chunks_set : (bs : List (List (List ℕ))) (n b c : ℕ) (made : List ℕ) → IsItemPlace bs n b c → joined (slice_set bs b (slice_set (list_at bs b) c made)) ≡ patched (joined bs) n (n + 1) (made ∷ [])
chunks_set bs n b c made p =
    set_filled bs b (slice_set (list_at bs b) c made) p.0
    ∙ hole_filled bs n (n + 1) b c b (c + 1) (made ∷ []) (slice_set (list_at bs b) c made) (edge_here bs n b c p) (edge_behind bs n (n + 1) b c refl p) (set_patched (list_at bs b) c made p.2)

-- the text
pub grown_text : (bs new : List (List (List ℕ))) (at n b c u : ℕ) (chunk other : List ℕ) → 0 < at → IsItemPlace bs n b c → IsItemPlace (joined bs) (at - 1) n u → chunk ≡ list_at (joined bs) n → new ≡ slice_set bs b (slice_set (list_at bs b) c (put_at chunk (u + 1) other)) → joined (joined new) ≡ put_at (joined (joined bs)) at other
grown_text bs new at n b c u chunk other pos p q is e =
    let made = put_at chunk (u + 1) other in
    ap (λ x. joined (joined x)) e ∙ ap joined (chunks_set bs n b c made p)
    ∙ patch_joined (joined bs) (made ∷ []) n (n + 1) made (append-nil made)
    ∙ put_filled (joined bs) at n u other made pos q (ap (λ x. put_at x (u + 1) other) is)

-- it is right where it has room
grown_chunks : (cs : List (List ℕ)) (n : ℕ) (made : List ℕ) → AreChunks cs → n < length cs → length (list_at cs n) ≤ length made → length made ≤ 1024 → AreChunks (patched cs n (n + 1) (made ∷ []))
grown_chunks cs n made h lt grows room =
    let some = (All-get_or IsChunk cs n [] lt h.sizes).0 in
    let before = joint_before cs n h.joints lt in
    let behind = joint_at cs n h.joints lt in
    let one : 1 ≤ length made = omega (arith, some, grows) in
    patch_chunks cs (made ∷ []) n (n + 1) made h
    (record { sizes = All-cons IsChunk made [] (one, room) (All-nil IsChunk); joints = (omega arith, tt) })
    (append-nil made) (omega (arith, before, grows), omega (arith, behind, grows)) (inr (inl (refl, one)))

pub grown_blocks : (bs new : List (List (List ℕ))) (n b c u : ℕ) (chunk other : List ℕ) → AreBlocks bs → IsItemPlace bs n b c → n < length (joined bs) → chunk ≡ list_at (joined bs) n → u + 1 ≤ length chunk → length chunk + length other ≤ 1024 → new ≡ slice_set bs b (slice_set (list_at bs b) c (put_at chunk (u + 1) other)) → AreBlocks new
grown_blocks bs new n b c u chunk other h p lt is inside room e =
    let made = put_at chunk (u + 1) other in
    let long = put_length chunk (u + 1) other inside in
    let same = ap length is in
    let block = slice_set (list_at bs b) c made in
    let count = length-set (list_at bs b) c made in
    let filledb : 1 ≤ length block = omega (arith, count, p.2) in
    let whole : AreBlocks (slice_set bs b block) = record {
      each = rw (set_patched bs b block p.0) (All-append IsBlock (take b bs ++ block ∷ []) (drop (b + 1) bs) (All-append IsBlock (take b bs) (block ∷ []) (All-take IsBlock b bs h.each) (All-cons IsBlock block [] filledb (All-nil IsBlock))) (All-drop IsBlock (b + 1) bs h.each));
      chunks = rw (chunks_set bs n b c made p) (grown_chunks (joined bs) n made h.chunks lt (omega (arith, long, same)) (omega (arith, long, room)));
    } in
    rw e whole
