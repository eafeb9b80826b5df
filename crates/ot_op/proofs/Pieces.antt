-- Texts in pieces: what a component does to a text that is cut at its place.
use Rattle.std.proofs.Common.{◌≡◌, ℕ, ◌+◌, ◌≤◌, ◌<◌, Bool, true, false, List, [], ◌∷◌, ◌++◌, refl, ap, ap₂, sym, ◌∙◌, take, drop, length, arith, Some, None, append_assoc, length-append, le-leb, leb-true, take-append-drop}
use Rattle.std.specs.Prelude.{nat_le, if◌then◌else◌}
use Rattle.std.specs.Str.{bytes_eq}
use Rattle.std.proofs.lemmas.Slice.Eq.{bytes_eq-Decides}
use Rattle.std.proofs.lemmas.List.{length-take-le}
use Rattle.std.proofs.Math.Seq.{take-append_seam, drop-append_seam, drop-append-add}
use Rattle.ot_units.specs.Text.{put_at, cut_at, part_at}
use Rattle.ot_op.specs.Apply.{applied, applied_all, stands}
use Rattle.ot_op.proofs.Applying.{applied_all-one}
use Rattle.ot_op.specs.declared.comp.Comp.TheVariants.{Ins, Del, Com}
use Rattle.std.proofs.lemmas.Bool.{and_parts}

pub put_mid : (front part back : List ℕ) → put_at (front ++ back) (length front) part ≡ front ++ (part ++ back)
put_mid front part back = rw (take-append_seam, drop-append_seam, append_assoc)

cut_mid : (front part back : List ℕ) → cut_at (front ++ (part ++ back)) (length front) (length part) ≡ front ++ back
cut_mid front part back = rw (take-append_seam, drop-append-add, drop-append_seam)

pub part_mid : (front part back : List ℕ) → part_at (front ++ (part ++ back)) (length front) (length part) ≡ part
part_mid front part back = rw (drop-append_seam, take-append_seam)

-- one list in two ways: the longer front begins with the shorter one
pub record Nested (long short back rest : List ℕ) : Type 0 where
  pub mid : List ℕ
  pub long_is : long ≡ short ++ mid
  pub back_is : back ≡ mid ++ rest

pub nested : (short back long rest : List ℕ) → short ++ back ≡ long ++ rest → length short ≤ length long → Nested long short back rest
nested [] back long rest e h = record { mid = long; long_is = refl; back_is = e }
nested (x ∷ xs) back [] rest e h = absurd (omega arith)
nested (x ∷ xs) back (y ∷ ys) rest e h =
    let same : x ≡ y = cc in
    let tails : xs ++ back ≡ ys ++ rest = cc in
    let n : Nested ys xs back rest = nested xs back ys rest tails (omega arith) in
    record { mid = n.mid; long_is = ap₂ (λ (a : ℕ) (rest : List ℕ). a ∷ rest) (sym same) n.long_is; back_is = n.back_is }

-- what a component does to a text in pieces
pub ins_at : (front part back : List ℕ) → applied (front ++ back) (Ins (length front) part) ≡ Some (front ++ (part ++ back))
ins_at front part back =
    let fits : nat_le (length front) (length (front ++ back)) ≡ true = le-leb _ _ (omega (arith, length-append front back)) in
    rw (fits, put_mid front part back)

stands_at : (front part back : List ℕ) → stands (front ++ (part ++ back)) (length front) part ≡ true
stands_at front part back =
    let fits : nat_le (length front) (length (front ++ (part ++ back))) ≡ true = le-leb _ _ (omega (arith, length-append front (part ++ back))) in
    let same : bytes_eq part (part_at (front ++ (part ++ back)) (length front) (length part)) ≡ true = (bytes_eq-Decides part _).1 (sym (part_mid front part back)) in
    rw (fits, same)

pub del_at : (front part back : List ℕ) → applied (front ++ (part ++ back)) (Del (length front) part) ≡ Some (front ++ back)
del_at front part back = rw (stands_at front part back, cut_mid front part back)

pub com_at : (front part back : List ℕ) (thread : ℕ) → applied (front ++ (part ++ back)) (Com (length front) part thread) ≡ Some (front ++ (part ++ back))
com_at front part back thread = rw (stands_at front part back)

-- the same in equations, as one component of a list
pub ins_as : (text front part back next : List ℕ) (at : ℕ) → text ≡ front ++ back → at ≡ length front → next ≡ front ++ (part ++ back) → applied_all text (Ins at part ∷ []) ≡ Some next
ins_as text front part back next at t p n =
    ap₂ (λ (x : List ℕ) (k : ℕ). applied_all x (Ins k part ∷ [])) t p ∙ applied_all-one (front ++ back) (Ins (length front) part) ∙ ins_at front part back ∙ ap (λ (x : List ℕ). Some x) (sym n)

pub del_as : (text front part back next : List ℕ) (at : ℕ) → text ≡ front ++ (part ++ back) → at ≡ length front → next ≡ front ++ back → applied_all text (Del at part ∷ []) ≡ Some next
del_as text front part back next at t p n =
    ap₂ (λ (x : List ℕ) (k : ℕ). applied_all x (Del k part ∷ [])) t p ∙ applied_all-one (front ++ (part ++ back)) (Del (length front) part) ∙ del_at front part back ∙ ap (λ (x : List ℕ). Some x) (sym n)

-- a text in two pieces at a place
pub record Cut (text : List ℕ) (at : ℕ) : Type 0 where
  pub front : List ℕ
  pub back : List ℕ
  pub is : text ≡ front ++ back
  pub len : length front ≡ at

pub cut_text : (text : List ℕ) (at : ℕ) → at ≤ length text → Cut text at
cut_text text at h = record { front = take at text; back = drop at text; is = sym (take-append-drop at text); len = length-take-le at text h }

-- an insert that applies: its place is in the text
pub ins_cut : (text : List ℕ) (at : ℕ) (part next : List ℕ) → applied text (Ins at part) ≡ Some next → (c : Cut text at) × (next ≡ c.front ++ (part ++ c.back))
unfolding cut_text
ins_cut text at part next e = go (nat_le at (length text)) refl e
  where
    go : (b : Bool) → nat_le at (length text) ≡ b → (if b then Some (put_at text at part) else None) ≡ Some next → (c : Cut text at) × (next ≡ c.front ++ (part ++ c.back))
    go true h f =
        let same : put_at text at part ≡ next = cc in
        (cut_text text at (leb-true at (length text) h), sym same ∙ append_assoc (take at text) part (drop at text))
    go false h f = cc

-- a delete or a comment that applies: the part stands there
pub record Stands (text : List ℕ) (at : ℕ) (part : List ℕ) : Type 0 where
  pub front : List ℕ
  pub back : List ℕ
  pub is : text ≡ front ++ (part ++ back)
  pub len : length front ≡ at

pub stands_cut : (text : List ℕ) (at : ℕ) (part : List ℕ) → stands text at part ≡ true → Stands text at part
stands_cut text at part e =
    let both = and_parts _ _ e in
    let fits : at ≤ length text = leb-true at (length text) both.0 in
    let same : part ≡ part_at text at (length part) = (bytes_eq-Decides part _).0 both.1 in
    let rest : List ℕ = drop (length part) (drop at text) in
    record {
      front = take at text;
      back = rest;
      is = sym (take-append-drop at text) ∙ ap (λ (x : List ℕ). take at text ++ x) (sym (take-append-drop (length part) (drop at text)) ∙ ap (λ (x : List ℕ). x ++ rest) (sym same));
      len = length-take-le at text fits;
    }

-- what stands where the text is long enough, and where it is too short
pub stands_there : (text : List ℕ) (at : ℕ) (part there : List ℕ) → at + length part ≤ length text → there ≡ part_at text at (length part) → stands text at part ≡ bytes_eq part there
stands_there text at part there h e =
    let fits : nat_le at (length text) ≡ true = le-leb at (length text) (omega arith) in
    rw (fits, e) refl

pub stands_past : (text : List ℕ) (at : ℕ) (part : List ℕ) → length text < at + length part → stands text at part ≡ false
stands_past text at part h = go (stands text at part) refl
  where
    go : (b : Bool) → stands text at part ≡ b → b ≡ false
    go false e = refl
    go true e =
        let s : Stands text at part = stands_cut text at part e in
        let n : length text ≡ length s.front + (length part + length s.back) = ap length s.is ∙ length-append s.front (part ++ s.back) ∙ ap (λ (k : ℕ). length s.front + k) (length-append part s.back) in
        absurd (omega (arith, n, s.len, h))

-- a delete that applies
pub del_cut : (text : List ℕ) (at : ℕ) (part next : List ℕ) → applied text (Del at part) ≡ Some next → (c : Stands text at part) × (next ≡ c.front ++ c.back)
del_cut text at part next e = go (stands text at part) refl e
  where
    go : (b : Bool) → stands text at part ≡ b → (if b then Some (cut_at text at (length part)) else None) ≡ Some next → (c : Stands text at part) × (next ≡ c.front ++ c.back)
    go true h f =
        let s : Stands text at part = stands_cut text at part h in
        let given : next ≡ cut_at text at (length part) = cc in
        (s, given ∙ ap₂ (λ (x : List ℕ) (n : ℕ). cut_at x n (length part)) s.is (sym s.len) ∙ cut_mid s.front part s.back)
    go false h f = cc

pub com_cut : (text : List ℕ) (at : ℕ) (part : List ℕ) (thread : ℕ) (next : List ℕ) → applied text (Com at part thread) ≡ Some next → Stands text at part × (next ≡ text)
com_cut text at part thread next e = go (stands text at part) refl e
  where
    go : (b : Bool) → stands text at part ≡ b → (if b then Some text else None) ≡ Some next → Stands text at part × (next ≡ text)
    go true h f = (stands_cut text at part h, cc)
    go false h f = cc

pub com_as : (text front part back : List ℕ) (at thread : ℕ) → text ≡ front ++ (part ++ back) → at ≡ length front → applied_all text (Com at part thread ∷ []) ≡ Some text
com_as text front part back at thread t p =
    ap₂ (λ (x : List ℕ) (k : ℕ). applied_all x (Com k part thread ∷ [])) t p ∙ applied_all-one (front ++ (part ++ back)) (Com (length front) part thread) ∙ com_at front part back thread ∙ ap (λ (x : List ℕ). Some x) (sym t)
