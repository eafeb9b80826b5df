-- Two components of one text, past each other, in each case.
use Rattle.std.proofs.Common.{◌≡◌, ℕ, ◌+◌, ◌-◌, ◌<◌, ◌≤◌, Bool, true, false, List, [], ◌∷◌, ◌++◌, refl, ap, ap₂, sym, ◌∙◌, take, drop, length, arith, Some, Option, append_assoc, append-nil, length-append, ⊎_elim, ◌⊎◌, inl, inr, min, ne_eqb, subst}
use Rattle.std.specs.Prelude.{nat_le, nat_lt, ◌==◌, if◌then◌else◌}
use Rattle.std.proofs.lemmas.Bool.{cases_lt, lt-leb, le-leb, lt-ltb}
use Rattle.std.proofs.lemmas.Bool.Decides.{nat_tests}
use Rattle.std.proofs.lemmas.List.{drop_all}
use Rattle.std.proofs.Math.Seq.{take-append-add, drop-append-add, take-nil}
use Rattle.ot_units.specs.Text.{put_at}
use Rattle.ot_op.specs.Apply.{applied, applied_all}
use Rattle.std.specs.Option.{option_and_then}
use Rattle.ot_op.proofs.Applying.{applied_all-append, applied_all-one}
use Rattle.ot_op.specs.declared.comp.Comp.{Comp}
use Rattle.ot_op.specs.declared.comp.Comp.TheVariants.{Ins, Del, Com}
use Rattle.ot_transform.specs.Crossing.{moved_component, moved_place, delete_if_any}
use Rattle.ot_op.proofs.Pieces.{Cut, Stands, ins_as, del_as, com_as, ins_cut, del_cut, com_cut, nested, Nested, put_mid}
use Rattle.ot_transform.proofs.Converging.{Pairwise, Meets, crossed_converges}
use Rattle.ot_op.proofs.Merging.{appends}
use Rattle.std.specs.Prelude.{IsSomeAnd}
use Rattle.ot_transform.specs.Crossing.{crossed, Crossed}
use Rattle.ot_transform.specs.Convergence.{Converges}
use Rattle.ot_transform.proofs.Pairwise.{Converge, Overlap, Laps, laps, overlap_passed, overlap_com_passed}

-- the other way round, where the sides make no difference
flip : (left right : List ℕ) (l r : Comp) → moved_component r l true ≡ moved_component r l false → moved_component l r false ≡ moved_component l r true → Converge right left r l → Converge left right l r
flip left right l r e f c = record { ls = c.rs; rs = c.ls; to = c.to; left_is = f ∙ c.right_is; right_is = e ∙ c.left_is; from_left = c.from_right; from_right = c.from_left }

deletes_as : (text front part back next : List ℕ) (at : ℕ) → text ≡ front ++ (part ++ back) → at ≡ length front → next ≡ front ++ back → applied_all text (delete_if_any at part) ≡ Some next
deletes_as text front [] back next at t p n = ap (λ (x : List ℕ). Some x) (t ∙ sym n)
deletes_as text front (u ∷ us) back next at t p n =
    let some : (length (u ∷ us) == 0) ≡ false = ne_eqb (length (u ∷ us)) 0 (λ h. omega arith) in
    ap (λ (b : Bool). applied_all text (if b then [] else Del at (u ∷ us) ∷ [])) some ∙ del_as text front (u ∷ us) back next at t p n

-- ---- two inserts
ins_ins_low : (text : List ℕ) (p : ℕ) (s : List ℕ) (q : ℕ) (u : List ℕ) (i : Cut text p) (j : Cut text q) (left right : List ℕ) → left ≡ i.front ++ (s ++ i.back) → right ≡ j.front ++ (u ++ j.back) → p ≤ q → Converge left right (Ins p s) (Ins q u)
ins_ins_low text p s q u i j left right a b low =
    let n : Nested j.front i.front i.back j.back = nested i.front i.back j.front j.back (sym i.is ∙ j.is) (omega (arith, i.len, j.len)) in
    let k : length j.front ≡ length i.front + length n.mid = ap length n.long_is ∙ length-append i.front n.mid in
    let stays : moved_place p (Ins q u) false ≡ p = grind (arith, nat_tests) in
    let goes : moved_place q (Ins p s) true ≡ q + length s = grind (arith, nat_tests) in
    record {
      ls = Ins p s ∷ [];
      rs = Ins (q + length s) u ∷ [];
      to = i.front ++ (s ++ (n.mid ++ (u ++ j.back)));
      left_is = ap (λ (n : ℕ). Some (Ins n s ∷ [])) stays;
      right_is = ap (λ (n : ℕ). Some (Ins n u ∷ [])) goes;
      from_left = ins_as left (i.front ++ (s ++ n.mid)) u j.back _ (q + length s)
          (a ∙ ap (λ (x : List ℕ). i.front ++ (s ++ x)) n.back_is ∙ simp append_assoc)
          (simp length-append (omega (arith, k, i.len, j.len)))
          (simp append_assoc);
      from_right = ins_as right i.front s (n.mid ++ (u ++ j.back)) _ p
          (b ∙ ap (λ (x : List ℕ). x ++ (u ++ j.back)) n.long_is ∙ append_assoc i.front n.mid (u ++ j.back))
          (sym i.len) refl;
    }

ins_ins_high : (text : List ℕ) (p : ℕ) (s : List ℕ) (q : ℕ) (u : List ℕ) (i : Cut text p) (j : Cut text q) (left right : List ℕ) → left ≡ i.front ++ (s ++ i.back) → right ≡ j.front ++ (u ++ j.back) → q < p → Converge left right (Ins p s) (Ins q u)
ins_ins_high text p s q u i j left right a b low =
    let n : Nested i.front j.front j.back i.back = nested j.front j.back i.front i.back (sym j.is ∙ i.is) (omega (arith, i.len, j.len)) in
    let k : length i.front ≡ length j.front + length n.mid = ap length n.long_is ∙ length-append j.front n.mid in
    let goes : moved_place p (Ins q u) false ≡ p + length u = grind (arith, nat_tests) in
    let stays : moved_place q (Ins p s) true ≡ q = grind (arith, nat_tests) in
    record {
      ls = Ins (p + length u) s ∷ [];
      rs = Ins q u ∷ [];
      to = j.front ++ (u ++ (n.mid ++ (s ++ i.back)));
      left_is = ap (λ (n : ℕ). Some (Ins n s ∷ [])) goes;
      right_is = ap (λ (n : ℕ). Some (Ins n u ∷ [])) stays;
      from_left = ins_as left j.front u (n.mid ++ (s ++ i.back)) _ q
          (a ∙ ap (λ (x : List ℕ). x ++ (s ++ i.back)) n.long_is ∙ append_assoc j.front n.mid (s ++ i.back))
          (sym j.len) refl;
      from_right = ins_as right (j.front ++ (u ++ n.mid)) s i.back _ (p + length u)
          (b ∙ ap (λ (x : List ℕ). j.front ++ (u ++ x)) n.back_is ∙ simp append_assoc)
          (simp length-append (omega (arith, k, i.len, j.len)))
          (simp append_assoc);
    }

-- ---- an insert and a delete
ins_del_low : (text : List ℕ) (p : ℕ) (s : List ℕ) (q : ℕ) (u : List ℕ) (i : Cut text p) (j : Stands text q u) (left right : List ℕ) → left ≡ i.front ++ (s ++ i.back) → right ≡ j.front ++ j.back → p ≤ q → Converge left right (Ins p s) (Del q u)
ins_del_low text p s q u i j left right a b low =
    let n : Nested j.front i.front i.back (u ++ j.back) = nested i.front i.back j.front (u ++ j.back) (sym i.is ∙ j.is) (omega (arith, i.len, j.len)) in
    let k : length j.front ≡ length i.front + length n.mid = ap length n.long_is ∙ length-append i.front n.mid in
    let none : p - q ≡ 0 = omega arith in
    let not_before : nat_lt q p ≡ false = lt-leb _ _ (omega arith) in
    record {
      ls = Ins p s ∷ [];
      rs = delete_if_any (q + length s) u;
      to = i.front ++ (s ++ (n.mid ++ j.back));
      left_is = rw (le-leb p q low);
      right_is = rw (not_before, none);
      from_left = deletes_as left (i.front ++ (s ++ n.mid)) u j.back _ (q + length s)
          (a ∙ ap (λ (x : List ℕ). i.front ++ (s ++ x)) n.back_is ∙ simp append_assoc)
          (simp length-append (omega (arith, k, i.len, j.len)))
          (simp append_assoc);
      from_right = ins_as right i.front s (n.mid ++ j.back) _ p
          (b ∙ ap (λ (x : List ℕ). x ++ j.back) n.long_is ∙ append_assoc i.front n.mid j.back)
          (sym i.len) refl;
    }

-- what of the deleted part stands behind the insert, taken out too
tail_step : (f b s tail g : List ℕ) (q : ℕ) → q ≡ length f → (length tail ≡ 0) ⊎ (length b ≡ 0) → applied_all (f ++ (b ++ (s ++ (tail ++ g)))) (delete_if_any (q + length s) tail) ≡ Some (f ++ (b ++ (s ++ g)))
tail_step f b s [] g q fl split = refl
tail_step f [] s (u ∷ us) g q fl split = deletes_as _ (f ++ s) (u ∷ us) g _ (q + length s) (sym (append_assoc f s _)) (simp length-append (omega arith)) (sym (append_assoc f s g))
tail_step f (x ∷ xs) s (u ∷ us) g q fl split = ⊎_elim (λ h. absurd (omega arith)) (λ h. absurd (omega arith)) split

-- the insert stands behind the delete's start: `head` is what of the deleted part stands before it, `tail` what behind it
ins_del_high : (p : ℕ) (s : List ℕ) (q : ℕ) (u head tail : List ℕ) (f b g : List ℕ) (left right : List ℕ) → u ≡ head ++ tail → q ≡ length f → q < p → (length tail ≡ 0) ⊎ (length b ≡ 0) → p ≡ length f + length head + length b
    → left ≡ f ++ (head ++ (b ++ (s ++ (tail ++ g)))) → right ≡ f ++ (b ++ g) → Converge left right (Ins p s) (Del q u)
ins_del_high p s q u head tail f b g left right cut fl lt split at a c =
    let n : length u ≡ length head + length tail = ap length cut ∙ length-append head tail in
    let before : nat_lt q p ≡ true = lt-ltb _ _ lt in
    let goes : moved_place p (Del q u) false ≡ q + length b = ⊎_elim {C = moved_place p (Del q u) false ≡ q + length b} (λ (h : length tail ≡ 0). grind (arith, nat_tests)) (λ (h : length b ≡ 0). grind (arith, nat_tests)) split in
    let gap : p - q ≡ length head + length b = omega arith in
    let first : take (p - q) u ≡ head = ap₂ (λ (k : ℕ) (x : List ℕ). take k x) gap cut ∙ take-append-add head tail (length b) ∙ ap (λ (x : List ℕ). head ++ x) (none_of b tail split) ∙ append-nil head in
    let rest : drop (p - q) u ≡ tail = ap₂ (λ (k : ℕ) (x : List ℕ). drop k x) gap cut ∙ drop-append-add head tail (length b) ∙ all_of b tail split in
    record {
      ls = Ins (q + length b) s ∷ [];
      rs = Del q head ∷ delete_if_any (q + length s) tail;
      to = f ++ (b ++ (s ++ g));
      left_is = ap (λ (n : ℕ). Some (Ins n s ∷ [])) goes;
      right_is = rw (before, first, rest);
      from_left =
          applied_all-append left (Del q head ∷ []) (delete_if_any (q + length s) tail)
          ∙ ap (option_and_then (λ (x : List ℕ). applied_all x (delete_if_any (q + length s) tail))) (del_as left f head (b ++ (s ++ (tail ++ g))) (f ++ (b ++ (s ++ (tail ++ g)))) q a fl refl)
          ∙ tail_step f b s tail g q fl split;
      from_right = ins_as right (f ++ b) s g _ (q + length b) (c ∙ sym (append_assoc f b g)) (simp length-append (omega arith)) (sym (append_assoc f b (s ++ g)));
    }
  where
    none_of : (b tail : List ℕ) → (length tail ≡ 0) ⊎ (length b ≡ 0) → take (length b) tail ≡ []
    none_of b [] h = take-nil (length b)
    none_of [] (x ∷ xs) h = refl
    none_of (y ∷ ys) (x ∷ xs) h = ⊎_elim (λ e. absurd (omega arith)) (λ e. absurd (omega arith)) h

    all_of : (b tail : List ℕ) → (length tail ≡ 0) ⊎ (length b ≡ 0) → drop (length b) tail ≡ tail
    all_of b [] h = drop_all (length b) [] (omega arith)
    all_of [] (x ∷ xs) h = refl
    all_of (y ∷ ys) (x ∷ xs) h = ⊎_elim (λ e. absurd (omega arith)) (λ e. absurd (omega arith)) h

-- an insert and a delete
ins_del : (text : List ℕ) (p : ℕ) (s : List ℕ) (q : ℕ) (u : List ℕ) (left right : List ℕ) → applied text (Ins p s) ≡ Some left → applied text (Del q u) ≡ Some right → Converge left right (Ins p s) (Del q u)
ins_del text p s q u left right h k =
    let i = ins_cut text p s left h in
    let j = del_cut text q u right k in
    ⊎_elim
    (λ (lt : q < p).
    let n : Nested i.0.front j.0.front (u ++ j.0.back) i.0.back = nested j.0.front (u ++ j.0.back) i.0.front i.0.back (sym j.0.is ∙ i.0.is) (omega (arith, i.0.len, j.0.len)) in
    let d : length i.0.front ≡ length j.0.front + length n.mid = ap length n.long_is ∙ length-append j.0.front n.mid in
    ⊎_elim
    (λ (past : length u < length n.mid).
    let m : Nested n.mid u j.0.back i.0.back = nested u j.0.back n.mid i.0.back n.back_is (omega arith) in
    let e : length n.mid ≡ length u + length m.mid = ap length m.long_is ∙ length-append u m.mid in
    ins_del_high p s q u u [] j.0.front m.mid i.0.back left right (sym (append-nil u)) (sym j.0.len) lt (inl refl) (omega (arith, d, e, i.0.len, j.0.len))
    (i.1 ∙ ap (λ (x : List ℕ). x ++ (s ++ i.0.back)) (n.long_is ∙ ap (λ (x : List ℕ). j.0.front ++ x) m.long_is) ∙ simp append_assoc)
    (j.1 ∙ ap (λ (x : List ℕ). j.0.front ++ x) m.back_is))
    (λ (inside : length n.mid ≤ length u).
    let m : Nested u n.mid i.0.back j.0.back = nested n.mid i.0.back u j.0.back (sym n.back_is) inside in
    ins_del_high p s q u n.mid m.mid j.0.front [] j.0.back left right m.long_is (sym j.0.len) lt (inr refl) (omega (arith, d, i.0.len, j.0.len))
    (i.1 ∙ ap₂ (λ (x : List ℕ) (y : List ℕ). x ++ (s ++ y)) n.long_is m.back_is ∙ simp append_assoc)
    j.1)
    (cases_lt (length u) (length n.mid)))
    (λ (low : p ≤ q). ins_del_low text p s q u i.0 j.0 left right i.1 j.1 low)
    (cases_lt q p)

first_of_two : (b : Bool) (x y : Option (List Comp)) (cs : List Comp) → (b ≡ true → x ≡ Some cs) → (b ≡ false → y ≡ Some cs) → (if b then x else y) ≡ Some cs
first_of_two true x y cs h k = h refl
first_of_two false x y cs h k = k refl

-- ---- two deletes
del_del_apart : (text : List ℕ) (p : ℕ) (s : List ℕ) (q : ℕ) (u : List ℕ) (i : Stands text p s) (j : Stands text q u) (left right : List ℕ) → left ≡ i.front ++ i.back → right ≡ j.front ++ j.back → p + length s ≤ q → Converge left right (Del p s) (Del q u)
del_del_apart text p s q u i j left right a b low =
    let n : Nested j.front i.front (s ++ i.back) (u ++ j.back) = nested i.front (s ++ i.back) j.front (u ++ j.back) (sym i.is ∙ j.is) (omega (arith, i.len, j.len)) in
    let k : length j.front ≡ length i.front + length n.mid = ap length n.long_is ∙ length-append i.front n.mid in
    let m : Nested n.mid s i.back (u ++ j.back) = nested s i.back n.mid (u ++ j.back) n.back_is (omega (arith, k, i.len, j.len)) in
    let d : length n.mid ≡ length s + length m.mid = ap length m.long_is ∙ length-append s m.mid in
    record {
      ls = Del p s ∷ [];
      rs = Del (q - length s) u ∷ [];
      to = i.front ++ (m.mid ++ j.back);
      left_is = first_of_two (nat_le (q + length u) p) _ _ (Del p s ∷ []) (λ e. let z : p - length u ≡ p = grind (arith, nat_tests) in ap (λ (n : ℕ). Some (Del n s ∷ [])) z) (λ _. rw (le-leb _ _ low));
      right_is = rw (le-leb _ _ low);
      from_left = del_as left (i.front ++ m.mid) u j.back _ (q - length s) (a ∙ ap (λ (x : List ℕ). i.front ++ x) m.back_is ∙ sym (append_assoc i.front m.mid _)) (simp length-append (omega (arith, d, k, i.len, j.len))) (sym (append_assoc i.front m.mid j.back));
      from_right = del_as right i.front s (m.mid ++ j.back) _ p (b ∙ ap (λ (x : List ℕ). x ++ j.back) (n.long_is ∙ ap (λ (x : List ℕ). i.front ++ x) m.long_is) ∙ simp append_assoc) (sym i.len) refl;
    }

del_del_laps : (text : List ℕ) (p : ℕ) (s : List ℕ) (q : ℕ) (u : List ℕ) (i : Stands text p s) (j : Stands text q u) (left right : List ℕ) → left ≡ i.front ++ i.back → right ≡ j.front ++ j.back → p < q + length u → q < p + length s → Converge left right (Del p s) (Del q u)
del_del_laps text p s q u i j left right a b one two =
    let o : Laps text p s q u i.front i.back j.front j.back = laps text p s q u i j one two in
    let su : length u ≡ length (o.w ++ (o.y ++ o.v)) = ap length o.u_is in
    let ss : length s ≡ length (o.x ++ (o.y ++ o.z)) = ap length o.s_is in
    let here : Overlap p q o.x o.y o.z o.w o.v = record { place = o.place; begins = o.begins; ends = o.ends; before_end = omega arith; past_start = omega arith } in
    let there : Overlap q p o.w o.y o.v o.x o.z = record { place = sym o.place; begins = ⊎_elim {C = (length o.w ≡ 0) ⊎ (length o.x ≡ 0)} inr inl o.begins; ends = ⊎_elim {C = (length o.v ≡ 0) ⊎ (length o.z ≡ 0)} inr inl o.ends; before_end = omega arith; past_start = omega arith } in
    record {
      ls = delete_if_any (min p q) (o.x ++ o.z);
      rs = delete_if_any (min q p) (o.w ++ o.v);
      to = o.a ++ o.c;
      left_is = ap₂ (λ (x : List ℕ) (y : List ℕ). moved_component (Del p x) (Del q y) false) o.s_is o.u_is ∙ overlap_passed p q o.x o.y o.z o.w o.v false here;
      right_is = ap₂ (λ (x : List ℕ) (y : List ℕ). moved_component (Del q y) (Del p x) true) o.s_is o.u_is ∙ overlap_passed q p o.w o.y o.v o.x o.z true there;
      from_left = deletes_as left o.a (o.w ++ o.v) o.c _ (min q p) (a ∙ ap₂ (λ (x : List ℕ) (y : List ℕ). x ++ y) o.sf_is o.sb_is ∙ simp append_assoc) (omega (arith, o.first)) refl;
      from_right = deletes_as right o.a (o.x ++ o.z) o.c _ (min p q) (b ∙ ap₂ (λ (x : List ℕ) (y : List ℕ). x ++ y) o.uf_is o.ub_is ∙ simp append_assoc) o.first refl;
    }

del_del : (text : List ℕ) (p : ℕ) (s : List ℕ) (q : ℕ) (u : List ℕ) (left right : List ℕ) → applied text (Del p s) ≡ Some left → applied text (Del q u) ≡ Some right → Converge left right (Del p s) (Del q u)
del_del text p s q u left right h k =
    let i = del_cut text p s left h in
    let j = del_cut text q u right k in
    ⊎_elim
    (λ (one : p < q + length u). ⊎_elim
    (λ (two : q < p + length s). del_del_laps text p s q u i.0 j.0 left right i.1 j.1 one two)
    (λ (far : p + length s ≤ q). del_del_apart text p s q u i.0 j.0 left right i.1 j.1 far)
    (cases_lt q (p + length s)))
    (λ (far : q + length u ≤ p). flip left right (Del p s) (Del q u) refl refl (del_del_apart text q u p s j.0 i.0 right left j.1 i.1 far))
    (cases_lt p (q + length u))

-- ---- comments: they change no text, and still apply
stays_with : (left right : List ℕ) (l r : Comp) (ls : List Comp) → moved_component l r false ≡ Some ls → moved_component r l true ≡ Some (r ∷ []) → applied_all left (r ∷ []) ≡ Some right → applied_all right ls ≡ Some right → Converge left right l r
stays_with left right l r ls e f g h = record { ls = ls; rs = r ∷ []; to = right; left_is = e; right_is = f; from_left = g; from_right = h }

-- a comment past another component applies to what that one made
record Past (c o : Comp) (right : List ℕ) : Type 0 where
  ls : List Comp
  is : moved_component c o false ≡ Some ls
  applies : applied_all right ls ≡ Some right

com_ins : (text : List ℕ) (p : ℕ) (s : List ℕ) (t : ℕ) (q : ℕ) (u : List ℕ) (right : List ℕ) → Stands text p s → applied text (Ins q u) ≡ Some right → Past (Com p s t) (Ins q u) right
com_ins text p s t q u right i k =
    let j = ins_cut text q u right k in
    ⊎_elim
    (λ (lt : p < q).
    let n : Nested j.0.front i.front (s ++ i.back) j.0.back = nested i.front (s ++ i.back) j.0.front j.0.back (sym i.is ∙ j.0.is) (omega (arith, i.len, j.0.len)) in
    let d : length j.0.front ≡ length i.front + length n.mid = ap length n.long_is ∙ length-append i.front n.mid in
    let yes : nat_lt p q ≡ true = lt-ltb _ _ lt in
    ⊎_elim
    (λ (inside : q < p + length s).
    let m : Nested s n.mid j.0.back i.back = nested n.mid j.0.back s i.back (sym n.back_is) (omega (arith, d, i.len, j.0.len)) in
    let at : q - p ≡ length n.mid = omega (arith, d, i.len, j.0.len) in
    let part : put_at s (q - p) u ≡ n.mid ++ (u ++ m.mid) = ap₂ (λ (x : List ℕ) (k : ℕ). put_at x k u) m.long_is at ∙ put_mid n.mid u m.mid in
    let e : right ≡ i.front ++ ((n.mid ++ (u ++ m.mid)) ++ i.back) = j.1 ∙ ap₂ (λ (x : List ℕ) (y : List ℕ). x ++ (u ++ y)) n.long_is m.back_is ∙ simp append_assoc in
    record {
      ls = Com p (put_at s (q - p) u) t ∷ [];
      is = rw (yes, lt-ltb _ _ inside);
      applies = com_as right i.front (put_at s (q - p) u) i.back p t
          (e ∙ ap (λ (x : List ℕ). i.front ++ (x ++ i.back)) (sym part)) (sym i.len);
    })
    (λ (past : p + length s ≤ q).
    let m : Nested n.mid s i.back j.0.back = nested s i.back n.mid j.0.back n.back_is (omega (arith, d, i.len, j.0.len)) in
    let stays : moved_place p (Ins q u) true ≡ p = grind (arith, nat_tests) in
    let no : nat_lt q (p + length s) ≡ false = grind (arith, nat_tests) in
    record {
      ls = Com p s t ∷ [];
      is = rw (yes, no) (ap (λ (n : ℕ). Some (Com n s t ∷ [])) stays);
      applies = com_as right i.front s (m.mid ++ (u ++ j.0.back)) p t
          (j.1 ∙ ap (λ (x : List ℕ). x ++ (u ++ j.0.back)) (n.long_is ∙ ap (λ (x : List ℕ). i.front ++ x) m.long_is) ∙ simp append_assoc) (sym i.len);
    })
    (cases_lt q (p + length s)))
    (λ (low : q ≤ p).
    let n : Nested i.front j.0.front j.0.back (s ++ i.back) = nested j.0.front j.0.back i.front (s ++ i.back) (sym j.0.is ∙ i.is) (omega (arith, i.len, j.0.len)) in
    let d : length i.front ≡ length j.0.front + length n.mid = ap length n.long_is ∙ length-append j.0.front n.mid in
    let no : nat_lt p q ≡ false = grind (arith, nat_tests) in
    let goes : moved_place p (Ins q u) true ≡ p + length u = grind (arith, nat_tests) in
    record {
      ls = Com (p + length u) s t ∷ [];
      is = rw no (ap (λ (n : ℕ). Some (Com n s t ∷ [])) goes);
      applies = com_as right (j.0.front ++ (u ++ n.mid)) s i.back (p + length u) t
          (j.1 ∙ ap (λ (x : List ℕ). j.0.front ++ (u ++ x)) n.back_is ∙ simp append_assoc) (simp length-append (omega (arith, d, i.len, j.0.len)));
    })
    (cases_lt p q)

com_del : (text : List ℕ) (p : ℕ) (s : List ℕ) (t : ℕ) (q : ℕ) (u : List ℕ) (right : List ℕ) → Stands text p s → applied text (Del q u) ≡ Some right → Past (Com p s t) (Del q u) right
com_del text p s t q u right i k =
    let j = del_cut text q u right k in
    ⊎_elim
    (λ (one : p < q + length u).
    let not_after : nat_le (q + length u) p ≡ false = lt-leb _ _ one in
    ⊎_elim
    (λ (two : q < p + length s).
    let o : Laps text p s q u i.front i.back j.0.front j.0.back = laps text p s q u i j.0 one two in
    let su : length u ≡ length (o.w ++ (o.y ++ o.v)) = ap length o.u_is in
    let ss : length s ≡ length (o.x ++ (o.y ++ o.z)) = ap length o.s_is in
    let here : Overlap p q o.x o.y o.z o.w o.v = record { place = o.place; begins = o.begins; ends = o.ends; before_end = omega arith; past_start = omega arith } in
    record {
      ls = Com (min p q) (o.x ++ o.z) t ∷ [];
      is = ap₂ (λ (x : List ℕ) (y : List ℕ). moved_component (Com p x t) (Del q y) false) o.s_is o.u_is ∙ overlap_com_passed p q o.x o.y o.z o.w o.v t false here;
      applies = com_as right o.a (o.x ++ o.z) o.c (min p q) t (j.1 ∙ ap₂ (λ (x : List ℕ) (y : List ℕ). x ++ y) o.uf_is o.ub_is ∙ simp append_assoc) o.first;
    })
    (λ (far : p + length s ≤ q).
    let n : Nested j.0.front i.front (s ++ i.back) (u ++ j.0.back) = nested i.front (s ++ i.back) j.0.front (u ++ j.0.back) (sym i.is ∙ j.0.is) (omega (arith, i.len, j.0.len)) in
    let d : length j.0.front ≡ length i.front + length n.mid = ap length n.long_is ∙ length-append i.front n.mid in
    let m : Nested n.mid s i.back (u ++ j.0.back) = nested s i.back n.mid (u ++ j.0.back) n.back_is (omega (arith, d, i.len, j.0.len)) in
    record {
      ls = Com p s t ∷ [];
      is = rw (not_after, le-leb _ _ far);
      applies = com_as right i.front s (m.mid ++ j.0.back) p t
          (j.1 ∙ ap (λ (x : List ℕ). x ++ j.0.back) (n.long_is ∙ ap (λ (x : List ℕ). i.front ++ x) m.long_is) ∙ simp append_assoc) (sym i.len);
    })
    (cases_lt q (p + length s)))
    (λ (far : q + length u ≤ p).
    let n : Nested i.front j.0.front (u ++ j.0.back) (s ++ i.back) = nested j.0.front (u ++ j.0.back) i.front (s ++ i.back) (sym j.0.is ∙ i.is) (omega (arith, i.len, j.0.len)) in
    let d : length i.front ≡ length j.0.front + length n.mid = ap length n.long_is ∙ length-append j.0.front n.mid in
    let m : Nested n.mid u j.0.back (s ++ i.back) = nested u j.0.back n.mid (s ++ i.back) n.back_is (omega (arith, d, i.len, j.0.len)) in
    let e : length n.mid ≡ length u + length m.mid = ap length m.long_is ∙ length-append u m.mid in
    record {
      ls = Com (p - length u) s t ∷ [];
      is = rw (le-leb _ _ far);
      applies = com_as right (j.0.front ++ m.mid) s i.back (p - length u) t
          (j.1 ∙ ap (λ (x : List ℕ). j.0.front ++ x) m.back_is ∙ sym (append_assoc j.0.front m.mid _)) (simp length-append (omega (arith, d, e, i.len, j.0.len)));
    })
    (cases_lt p (q + length u))

-- ---- all cases
pub pairwise : Pairwise
pairwise text left right (Ins p s) (Ins q u) h k =
    let i = ins_cut text p s left h in
    let j = ins_cut text q u right k in
    ⊎_elim (λ (lt : q < p). ins_ins_high text p s q u i.0 j.0 left right i.1 j.1 lt) (λ (le : p ≤ q). ins_ins_low text p s q u i.0 j.0 left right i.1 j.1 le) (cases_lt q p)
pairwise text left right (Ins p s) (Del q u) h k = ins_del text p s q u left right h k
pairwise text left right (Ins p s) (Com q u t) h k =
    let c = com_cut text q u t right k in
    let l : Past (Com q u t) (Ins p s) left = com_ins text q u t p s left c.0 h in
    flip left right (Ins p s) (Com q u t) refl refl (stays_with right left (Com q u t) (Ins p s) l.ls l.is refl (ap (λ (x : List ℕ). applied_all x (Ins p s ∷ [])) c.1 ∙ applied_all-one text (Ins p s) ∙ h) l.applies)
pairwise text left right (Del p s) (Ins q u) h k = flip left right (Del p s) (Ins q u) refl refl (ins_del text q u p s right left k h)
pairwise text left right (Del p s) (Del q u) h k = del_del text p s q u left right h k
pairwise text left right (Del p s) (Com q u t) h k =
    let c = com_cut text q u t right k in
    let l : Past (Com q u t) (Del p s) left = com_del text q u t p s left c.0 h in
    flip left right (Del p s) (Com q u t) refl refl (stays_with right left (Com q u t) (Del p s) l.ls l.is refl (ap (λ (x : List ℕ). applied_all x (Del p s ∷ [])) c.1 ∙ applied_all-one text (Del p s) ∙ h) l.applies)
pairwise text left right (Com p s t) (Ins q u) h k =
    let c = com_cut text p s t left h in
    let l : Past (Com p s t) (Ins q u) right = com_ins text p s t q u right c.0 k in
    stays_with left right (Com p s t) (Ins q u) l.ls l.is refl (ap (λ (x : List ℕ). applied_all x (Ins q u ∷ [])) c.1 ∙ applied_all-one text (Ins q u) ∙ k) l.applies
pairwise text left right (Com p s t) (Del q u) h k =
    let c = com_cut text p s t left h in
    let l : Past (Com p s t) (Del q u) right = com_del text p s t q u right c.0 k in
    stays_with left right (Com p s t) (Del q u) l.ls l.is refl (ap (λ (x : List ℕ). applied_all x (Del q u ∷ [])) c.1 ∙ applied_all-one text (Del q u) ∙ k) l.applies
pairwise text left right (Com p s t) (Com q u v) h k =
    let c = com_cut text p s t left h in
    let d = com_cut text q u v right k in
    let e : right ≡ left = d.1 ∙ sym c.1 in
    stays_with left right (Com p s t) (Com q u v) (Com p s t ∷ []) refl refl
    (ap (λ (x : List ℕ). applied_all x (Com q u v ∷ [])) c.1 ∙ applied_all-one text (Com q u v) ∙ k)
    (ap (λ (x : List ℕ). applied_all x (Com p s t ∷ [])) d.1 ∙ applied_all-one text (Com p s t) ∙ h ∙ ap (λ (x : List ℕ). Some x) (sym e))

-- CONVERGENCE
pub convergence : (text left right : List ℕ) (ls rs : List Comp) → applied_all text ls ≡ Some left → applied_all text rs ≡ Some right → Meets (crossed ls rs) left right
convergence = crossed_converges pairwise appends

pub converges : (ls rs : List Comp) (o : Crossed) → o ≡ crossed ls rs → Converges ls rs o
converges ls rs o e text left right l r =
    let m : Meets (crossed ls rs) left right = convergence text left right ls rs l r in
    subst (λ (x : Crossed). IsSomeAnd x (λ both. (to : List ℕ) × (applied_all left both.1 ≡ Some to) × (applied_all right both.0 ≡ Some to))) (sym (e ∙ m.is)) (m.to, m.from_left, m.from_right)
