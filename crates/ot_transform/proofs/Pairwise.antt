-- Two components of one text, past each other.
use Rattle.std.proofs.Common.{◌≡◌, ℕ, ◌+◌, ◌-◌, ◌<◌, ◌≤◌, Bool, true, false, List, [], ◌∷◌, ◌++◌, refl, ap, ap₂, sym, ◌∙◌, take, drop, length, arith, Some, append_assoc, append-nil, length-append, ⊎_elim, ◌⊎◌, inl, inr, max, min}
use Rattle.std.specs.Prelude.{nat_le}
use Rattle.std.proofs.lemmas.Bool.{cases_lt, lt-leb}
use Rattle.std.proofs.lemmas.Bool.Decides.{nat_tests}
use Rattle.std.proofs.lemmas.Slice.Eq.{bytes_eq-Decides}
use Rattle.std.proofs.lemmas.List.{drop_all, nil_from_length}
use Rattle.std.proofs.Math.Seq.{take-append_seam, drop-append-add}
use Rattle.ot_units.specs.Text.{part_at}
use Rattle.ot_op.specs.Apply.{applied_all}
use Rattle.ot_op.specs.declared.comp.Comp.{Comp}
use Rattle.ot_op.specs.declared.comp.Comp.TheVariants.{Ins, Del, Com}
use Rattle.ot_transform.specs.Crossing.{moved_component, moved_place, common_of, agree, left_of, delete_if_any}
use Rattle.ot_op.proofs.Pieces.{Stands, ins_as, nested, Nested, part_mid}

-- l made `left` of a text and r made `right` of it: past each other they make one text
pub record Converge (left right : List ℕ) (l r : Comp) : Type 0 where
  pub ls : List Comp
  pub rs : List Comp
  pub to : List ℕ
  pub left_is : moved_component l r false ≡ Some ls
  pub right_is : moved_component r l true ≡ Some rs
  pub from_left : applied_all left rs ≡ Some to
  pub from_right : applied_all right ls ≡ Some to

-- the earlier insert, and the later or the right one at its place
ins_before_ins : (a b c s u : List ℕ) → Converge (a ++ (s ++ (b ++ c))) (a ++ (b ++ (u ++ c))) (Ins (length a) s) (Ins (length (a ++ b)) u)
ins_before_ins a b c s u =
    let len = length-append a b in
    let stays : moved_place (length a) (Ins (length (a ++ b)) u) false ≡ length a = grind (arith, nat_tests) in
    let goes : moved_place (length (a ++ b)) (Ins (length a) s) true ≡ length (a ++ b) + length s = grind (arith, nat_tests) in
    record {
      ls = Ins (length a) s ∷ [];
      rs = Ins (length (a ++ b) + length s) u ∷ [];
      to = a ++ (s ++ (b ++ (u ++ c)));
      left_is = ap (λ (n : ℕ). Some (Ins n s ∷ [])) stays;
      right_is = ap (λ (n : ℕ). Some (Ins n u ∷ [])) goes;
      from_left = ins_as _ (a ++ (s ++ b)) u c _ _ (simp append_assoc) (simp length-append (omega arith)) (simp append_assoc);
      from_right = ins_as _ a s (b ++ (u ++ c)) _ _ refl refl refl;
    }

-- two deletes that overlap in `y`: one of them begins with what stands before it, and one ends with what stands behind it
pub record Overlap (p q : ℕ) (x y z w v : List ℕ) : Type 0 where
  pub place : p + length x ≡ q + length w
  pub begins : (length x ≡ 0) ⊎ (length w ≡ 0)
  pub ends : (length z ≡ 0) ⊎ (length v ≡ 0)
  pub before_end : p < q + length (w ++ (y ++ v))
  pub past_start : q < p + length (x ++ (y ++ z))

lengths : (x y z : List ℕ) → length (x ++ (y ++ z)) ≡ length x + (length y + length z)
lengths x y z = simp length-append

from_is : (p q : ℕ) (x y z w v : List ℕ) → Overlap p q x y z w v → max p q ≡ p + length x
from_is p q x y z w v o = ⊎_elim {C = max p q ≡ p + length x} (λ h. omega (arith, o.place)) (λ h. omega (arith, o.place)) o.begins

to_is : (p q : ℕ) (x y z w v : List ℕ) → Overlap p q x y z w v → min (p + length (x ++ (y ++ z))) (q + length (w ++ (y ++ v))) ≡ p + length x + length y
to_is p q x y z w v o =
    let a = lengths x y z in
    let b = lengths w y v in
    ⊎_elim {C = min (p + length (x ++ (y ++ z))) (q + length (w ++ (y ++ v))) ≡ p + length x + length y} (λ h. omega (arith, o.place)) (λ h. omega (arith, o.place)) o.ends

common_is : (p from to : ℕ) (x y z : List ℕ) → from ≡ p + length x → to ≡ p + length x + length y → common_of p (x ++ (y ++ z)) from to ≡ y
common_is p from to x y z f t =
    let a : from - p ≡ length x = omega arith in
    let b : to - from ≡ length y = omega arith in
    ap₂ (λ (i : ℕ) (n : ℕ). part_at (x ++ (y ++ z)) i n) a b ∙ part_mid x y z

overlap_agrees : (p q : ℕ) (x y z w v : List ℕ) → Overlap p q x y z w v → agree p (x ++ (y ++ z)) q (w ++ (y ++ v)) ≡ true
overlap_agrees p q x y z w v o =
    let f = from_is p q x y z w v o in
    let t = to_is p q x y z w v o in
    let a : common_of p (x ++ (y ++ z)) (max p q) (min (p + length (x ++ (y ++ z))) (q + length (w ++ (y ++ v)))) ≡ y = common_is p _ _ x y z f t in
    let b : common_of q (w ++ (y ++ v)) (max p q) (min (p + length (x ++ (y ++ z))) (q + length (w ++ (y ++ v)))) ≡ y = common_is q _ _ w y v (omega (arith, o.place)) (omega (arith, o.place)) in
    (bytes_eq-Decides _ _).1 (a ∙ sym b)

left_is : (p q : ℕ) (x y z w v : List ℕ) → Overlap p q x y z w v → left_of p (x ++ (y ++ z)) q (length (w ++ (y ++ v))) ≡ x ++ z
left_is p q x y z w v o =
    let b = lengths w y v in
    let i : q - p ≡ length x = ⊎_elim {C = q - p ≡ length x} (λ h. omega (arith, o.place)) (λ h. omega (arith, o.place)) o.begins in
    let j : q + length (w ++ (y ++ v)) - p ≡ length x + (length y + length v) = omega (arith, o.place) in
    ap₂ (λ (i : ℕ) (j : ℕ). take i (x ++ (y ++ z)) ++ drop j (x ++ (y ++ z))) i j ∙ ap₂ (λ (f : List ℕ) (b : List ℕ). f ++ b) (take-append_seam x (y ++ z)) (drop-append-add x (y ++ z) (length y + length v) ∙ drop-append-add y z (length v) ∙ ends z v o.ends)
  where
    ends : (z v : List ℕ) → (length z ≡ 0) ⊎ (length v ≡ 0) → drop (length v) z ≡ z
    ends z v (inl h) = drop_all _ z (omega arith) ∙ sym (nil_from_length z h)
    ends z v (inr h) = rw h

moved_is : (p q : ℕ) (x y z w v : List ℕ) → Overlap p q x y z w v → moved_place p (Del q (w ++ (y ++ v))) false ≡ min p q
moved_is p q x y z w v o = let e = o.before_end in grind (arith, nat_tests)

pub overlap_passed : (p q : ℕ) (x y z w v : List ℕ) (right : Bool) → Overlap p q x y z w v → moved_component (Del p (x ++ (y ++ z))) (Del q (w ++ (y ++ v))) right ≡ Some (delete_if_any (min p q) (x ++ z))
overlap_passed p q x y z w v right o =
    let n1 : nat_le (q + length (w ++ (y ++ v))) p ≡ false = lt-leb _ _ o.before_end in
    let n2 : nat_le (p + length (x ++ (y ++ z))) q ≡ false = lt-leb _ _ o.past_start in
    rw (n1, n2, overlap_agrees p q x y z w v o, moved_is p q x y z w v o, left_is p q x y z w v o)

pub overlap_com_passed : (p q : ℕ) (x y z w v : List ℕ) (t : ℕ) (right : Bool) → Overlap p q x y z w v → moved_component (Com p (x ++ (y ++ z)) t) (Del q (w ++ (y ++ v))) right ≡ Some (Com (min p q) (x ++ z) t ∷ [])
overlap_com_passed p q x y z w v t right o =
    let n1 : nat_le (q + length (w ++ (y ++ v))) p ≡ false = lt-leb _ _ o.before_end in
    let n2 : nat_le (p + length (x ++ (y ++ z))) q ≡ false = lt-leb _ _ o.past_start in
    rw (n1, n2, overlap_agrees p q x y z w v o, moved_is p q x y z w v o, left_is p q x y z w v o)

-- two parts of one text that overlap, in pieces
pub record Laps (text : List ℕ) (p : ℕ) (s : List ℕ) (q : ℕ) (u : List ℕ) (sf sb uf ub : List ℕ) : Type 0 where
  pub x : List ℕ
  pub y : List ℕ
  pub z : List ℕ
  pub w : List ℕ
  pub v : List ℕ
  pub a : List ℕ
  pub c : List ℕ
  pub s_is : s ≡ x ++ (y ++ z)
  pub u_is : u ≡ w ++ (y ++ v)
  pub sf_is : sf ≡ a ++ w
  pub sb_is : sb ≡ v ++ c
  pub uf_is : uf ≡ a ++ x
  pub ub_is : ub ≡ z ++ c
  pub first : min p q ≡ length a
  pub place : p + length x ≡ q + length w
  pub begins : (length x ≡ 0) ⊎ (length w ≡ 0)
  pub ends : (length z ≡ 0) ⊎ (length v ≡ 0)

flip_laps : (text : List ℕ) (p : ℕ) (s : List ℕ) (q : ℕ) (u : List ℕ) (sf sb uf ub : List ℕ) → Laps text q u p s uf ub sf sb → Laps text p s q u sf sb uf ub
flip_laps text p s q u sf sb uf ub o = record {
  x = o.w;
  y = o.y;
  z = o.v;
  w = o.x;
  v = o.z;
  a = o.a;
  c = o.c;
  s_is = o.u_is;
  u_is = o.s_is;
  sf_is = o.uf_is;
  sb_is = o.ub_is;
  uf_is = o.sf_is;
  ub_is = o.sb_is;
  first = omega (arith, o.first);
  place = sym o.place;
  begins = ⊎_elim {C = (length o.w ≡ 0) ⊎ (length o.x ≡ 0)} inr inl o.begins;
  ends = ⊎_elim {C = (length o.v ≡ 0) ⊎ (length o.z ≡ 0)} inr inl o.ends;
}

laps_low : (text : List ℕ) (p : ℕ) (s : List ℕ) (q : ℕ) (u : List ℕ) (i : Stands text p s) (j : Stands text q u) → p ≤ q → q < p + length s → Laps text p s q u i.front i.back j.front j.back
laps_low text p s q u i j low over =
    let n : Nested j.front i.front (s ++ i.back) (u ++ j.back) = nested i.front (s ++ i.back) j.front (u ++ j.back) (sym i.is ∙ j.is) (omega (arith, i.len, j.len)) in
    let k : length j.front ≡ length i.front + length n.mid = ap length n.long_is ∙ length-append i.front n.mid in
    let m : Nested s n.mid (u ++ j.back) i.back = nested n.mid (u ++ j.back) s i.back (sym n.back_is) (omega (arith, k, i.len, j.len)) in
    ⊎_elim
    (λ (h : length m.mid < length u).
    let e : Nested u m.mid i.back j.back = nested m.mid i.back u j.back (sym m.back_is) (omega arith) in
    record {
      x = n.mid;
      y = m.mid;
      z = [];
      w = [];
      v = e.mid;
      a = i.front;
      c = j.back;
      s_is = m.long_is ∙ ap (λ (t : List ℕ). n.mid ++ t) (sym (append-nil m.mid));
      u_is = e.long_is;
      sf_is = sym (append-nil i.front);
      sb_is = e.back_is;
      uf_is = n.long_is;
      ub_is = refl;
      first = omega (arith, i.len);
      place = omega (arith, k, i.len, j.len);
      begins = inr refl;
      ends = inl refl;
    })
    (λ (h : length u ≤ length m.mid).
    let e : Nested m.mid u j.back i.back = nested u j.back m.mid i.back m.back_is h in
    record {
      x = n.mid;
      y = u;
      z = e.mid;
      w = [];
      v = [];
      a = i.front;
      c = i.back;
      s_is = m.long_is ∙ ap (λ (t : List ℕ). n.mid ++ t) e.long_is;
      u_is = sym (append-nil u);
      sf_is = sym (append-nil i.front);
      sb_is = refl;
      uf_is = n.long_is;
      ub_is = e.back_is;
      first = omega (arith, i.len);
      place = omega (arith, k, i.len, j.len);
      begins = inr refl;
      ends = inr refl;
    })
    (cases_lt (length m.mid) (length u))

pub laps : (text : List ℕ) (p : ℕ) (s : List ℕ) (q : ℕ) (u : List ℕ) (i : Stands text p s) (j : Stands text q u) → p < q + length u → q < p + length s → Laps text p s q u i.front i.back j.front j.back
laps text p s q u i j one two = ⊎_elim
    (λ (h : q < p). flip_laps text p s q u i.front i.back j.front j.back (laps_low text q u p s j i (omega arith) one))
    (λ (h : p ≤ q). laps_low text p s q u i j h two)
    (cases_lt q p)
