-- What an insert and a removal make of the text.
use Rattle.std.proofs.Common.{◌≡◌, ℕ, ◌+◌, ◌≤◌, ◌<◌, List, [], ◌∷◌, ◌++◌, refl, ap, sym, ◌∙◌, take, drop, length, get_or, arith, zero, suc, ◌-◌}
use Rattle.std.proofs.lemmas.Grind.{common_steps}
use Rattle.std.proofs.lemmas.List.{append_assoc, take-append-drop}
use Rattle.ot_units.specs.Text.{put_at, cut_at}
use Rattle.ot_text.specs.Lists.{joined, IsItemPlace, IsEdgePlace, list_at, filled}
use Rattle.ot_text.proofs.Joining.{filled_is}

-- the place behind an item
pub edge_behind : {A : Type 0} (cs : List (List A)) (at next i k : ℕ) → next ≡ at + 1 → IsItemPlace cs at i k → IsEdgePlace cs next i (k + 1)
edge_behind cs at next i k e p = (p.0, omega (arith, p.1, e), omega (arith, p.2))

pub edge_here : {A : Type 0} (cs : List (List A)) (at i k : ℕ) → IsItemPlace cs at i k → IsEdgePlace cs at i k
edge_here cs at i k p = (p.0, p.1, omega (arith, p.2))

pub put_filled : (cs : List (List ℕ)) (at i k : ℕ) (other made : List ℕ) → 0 < at → IsItemPlace cs (at - 1) i k → made ≡ take (k + 1) (list_at cs i) ++ other ++ drop (k + 1) (list_at cs i) → filled cs i (i + 1) made ≡ put_at (joined cs) at other
put_filled cs at i k other made pos p e =
    let q : IsEdgePlace cs at i (k + 1) = edge_behind cs (at - 1) at i k (omega (arith, pos)) p in
    ap (filled cs i (i + 1)) e ∙ filled_is cs at at i (k + 1) i (k + 1) other q q

pub cut_filled : (cs : List (List ℕ)) (at len i k j l : ℕ) (made : List ℕ) → 0 < len → IsItemPlace cs at i k → IsItemPlace cs (at + (len - 1)) j l → made ≡ take k (list_at cs i) ++ [] ++ drop (l + 1) (list_at cs j) → filled cs i (j + 1) made ≡ cut_at (joined cs) at len
cut_filled cs at len i k j l made pos p q e =
    let first : IsEdgePlace cs at i k = edge_here cs at i k p in
    let last : IsEdgePlace cs (at + len) j (l + 1) = edge_behind cs (at + (len - 1)) (at + len) j l (omega (arith, pos)) q in
    ap (filled cs i (j + 1)) e ∙ filled_is cs at (at + len) i k j (l + 1) [] first last ∙ grind (arith, common_steps)

pub put_length : (text : List ℕ) (at : ℕ) (other : List ℕ) → at ≤ length text → length (put_at text at other) ≡ length text + length other
put_length text at other le = grind (arith, common_steps, le)

pub cut_length : (text : List ℕ) (at len : ℕ) → at + len ≤ length text → length (cut_at text at len) + len ≡ length text
cut_length text at len le = grind (arith, common_steps, le)
