-- One turn of the loops over changes.
use Rattle.std.proofs.Common.{map, take, ◌-◌, ◌≡◌, ℕ, zero, suc, ◌+◌, ◌<◌, ◌≤◌, Bool, true, false, List, [], ◌∷◌, ◌++◌, refl, ap, ap₂, sym, ◌∙◌, length, arith, append-nil, get_or, drop, Some}
use Rattle.std.specs.Prelude.{slice_set, ◌&&◌, nat_le, nat_lt, if◌then◌else◌}
use Rattle.std.specs.List.{flat_map}
use Rattle.std.proofs.lemmas.List.{at_drop_more, drop_all, take_all}
use Rattle.ot_units.specs.Text.{put_at}
use Rattle.ranges_tracker.specs.declared.change.Change.{Change}
use Rattle.ranges_tracker.specs.Shown.{mark_of, meets, fused, touch}
use Rattle.ranges_tracker.specs.Cells.{Stamp, fresh_mark, squashed}
use Rattle.ranges_tracker.specs.Tracked.{Marked, pushed, pushed_all, mark_over, some_bare, mixed_in, kept, placed, new_delete, delete_in}
use Rattle.ranges_tracker.proofs.Packing.{touch_met, touch_apart}

pub pushed_met : (cs : List Change) (n : ℕ) (l g m : Change) → length cs ≡ suc n → l ≡ get_or cs n l → meets l g ≡ true → m ≡ fused l g → pushed cs g ≡ slice_set cs n m
pushed_met [] n l g m e is t s = cc
pushed_met (x ∷ []) zero l g m e is t s = ap (λ (y : Change). touch y (g ∷ [])) (sym is) ∙ touch_met l g [] t ∙ ap (λ (y : Change). y ∷ []) (sym s)
pushed_met (x ∷ []) (suc n) l g m e is t s = absurd (omega arith)
pushed_met (x ∷ y ∷ ys) zero l g m e is t s = absurd (omega arith)
pushed_met (x ∷ y ∷ ys) (suc n) l g m e is t s = ap (λ (rest : List Change). x ∷ rest) (pushed_met (y ∷ ys) n l g m (omega arith) is t s)

pub pushed_apart : (cs : List Change) (n : ℕ) (l g : Change) → length cs ≡ suc n → l ≡ get_or cs n l → meets l g ≡ false → pushed cs g ≡ cs ++ g ∷ []
pushed_apart [] n l g e is t = cc
pushed_apart (x ∷ []) zero l g e is t = ap (λ (y : Change). touch y (g ∷ [])) (sym is) ∙ touch_apart l g [] t ∙ ap (λ (y : Change). y ∷ g ∷ []) is
pushed_apart (x ∷ []) (suc n) l g e is t = absurd (omega arith)
pushed_apart (x ∷ y ∷ ys) zero l g e is t = absurd (omega arith)
pushed_apart (x ∷ y ∷ ys) (suc n) l g e is t = ap (λ (rest : List Change). x ∷ rest) (pushed_apart (y ∷ ys) n l g (omega arith) is t)

pub pushed_none : (cs : List Change) (g : Change) → length cs ≡ 0 → pushed cs g ≡ cs ++ g ∷ []
pushed_none [] g e = refl
pushed_none (x ∷ xs) g e = absurd (omega arith)

-- the last one, read twice
pub same_last : (cs : List Change) (n : ℕ) (l m : Change) → length cs ≡ suc n → l ≡ get_or cs n l → m ≡ get_or cs n m → m ≡ l
same_last [] n l m e a b = absurd (omega arith)
same_last (x ∷ xs) zero l m e a b = b ∙ sym a
same_last (x ∷ []) (suc n) l m e a b = absurd (omega arith)
same_last (x ∷ y ∷ ys) (suc n) l m e a b = same_last (y ∷ ys) n l m (omega arith) a b

pub put_end : (text part : List ℕ) (n : ℕ) → n ≡ length text → put_at text n part ≡ text ++ part
put_end text part n e = ap₂ (λ (x y : List ℕ). (x ++ part) ++ y) (take_all n text (omega arith)) (drop_all n text (omega arith)) ∙ append-nil (text ++ part)

pub over_turn : (i : ℕ) (cs : List Change) (k : ℕ) (c : Change) → k < length cs → c ≡ get_or cs k c → mark_over i (drop k cs) ≡ (if nat_le c.at i && nat_lt i (c.at + length c.text) then Some (mark_of c) else mark_over i (drop (k + 1) cs))
over_turn i cs k c lt is = at_drop_more (mark_over i) cs k c lt ∙ ap (λ (x : Change). if nat_le x.at i && nat_lt i (x.at + length x.text) then Some (mark_of x) else mark_over i (drop (k + 1) cs)) (sym is)

-- a loop that pushes what each change gives
pub push_turn : (f : Change → List Change) (made cs : List Change) (k : ℕ) (c : Change) → k < length cs → c ≡ get_or cs k c → pushed_all made (flat_map f (drop k cs)) ≡ pushed_all made (f c ++ flat_map f (drop (k + 1) cs))
push_turn f made cs k c lt is = at_drop_more (λ (x : List Change). pushed_all made (flat_map f x)) cs k c lt ∙ ap (λ (x : Change). pushed_all made (f x ++ flat_map f (drop (k + 1) cs))) (sym is)

pub push_done : (f : Change → List Change) (made cs : List Change) (k : ℕ) → length cs ≤ k → pushed_all made (flat_map f (drop k cs)) ≡ made
push_done f made cs k h = ap (λ (x : List Change). pushed_all made (flat_map f x)) (drop_all k cs h)

-- a loop that writes each change
pub write_turn : (f : Change → Change) (cs : List Change) (i n : ℕ) (c d : Change) → n ≡ suc i → i < length cs → c ≡ f (get_or (map f (take i cs) ++ drop i cs) i d) → slice_set (map f (take i cs) ++ drop i cs) i c ≡ map f (take n cs) ++ drop n cs
write_turn f [] i n c d e lt is = absurd (omega arith)
write_turn f (x ∷ xs) zero n c d e lt is = ap (λ (y : Change). y ∷ xs) is ∙ ap (λ (k : ℕ). map f (take k (x ∷ xs)) ++ drop k (x ∷ xs)) (sym e)
write_turn f (x ∷ xs) (suc i) n c d e lt is = ap (λ (y : List Change). f x ∷ y) (write_turn f xs i (suc i) c d refl (omega arith) is) ∙ ap (λ (k : ℕ). map f (take k (x ∷ xs)) ++ drop k (x ∷ xs)) (sym e)

pub written : (f : Change → Change) (cs now : List Change) (i n : ℕ) (c d : Change) → n ≡ suc i → i < length cs → now ≡ map f (take i cs) ++ drop i cs → c ≡ f (get_or now i d) → slice_set now i c ≡ map f (take n cs) ++ drop n cs
written f cs now i n c d e lt is made = ap (λ (x : List Change). slice_set x i c) is ∙ write_turn f cs i n c d e lt (made ∙ ap (λ (x : List Change). f (get_or x i d)) is)

-- a delete that takes over what is gone around it
abbrev pub taken : List Change → List Change → ℕ → List ℕ → Stamp → ℕ → List Change
taken is ds at part stamp k = kept (λ x. nat_lt x at) ds ++ (new_delete at (mixed_in at part is ds) (fresh_mark stamp k) ++ map (placed (λ x. x - length part)) (kept (λ x. nat_lt (at + length part) x) ds))

pub taken_is : (is ds : List Change) (at : ℕ) (part : List ℕ) (stamp : Stamp) (k : ℕ) → (stamp.track && some_bare at part is) ≡ true → taken is ds at part stamp k ≡ (delete_in is ds at part stamp k).changes
taken_is is ds at part stamp k e = let made : Bool → Marked = λ b. if b then record { changes = taken is ds at part stamp k; marks = k + 1 } else record { changes = map (placed (squashed at (length part))) ds; marks = k } in sym (ap (λ (b : Bool). (made b).changes) e)
