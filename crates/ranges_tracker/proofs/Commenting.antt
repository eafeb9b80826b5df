-- The shown comments after a component.
use Rattle.std.proofs.Common.{◌≡◌, ℕ, ◌+◌, ◌-◌, ◌<◌, ◌≤◌, Bool, true, false, List, [], ◌∷◌, ◌++◌, refl, ap, ap₂, sym, ◌∙◌, length, arith, append_assoc, append-nil, length-append, take, drop, ⊎_elim, take-append-drop}
use Rattle.std.specs.Prelude.{nat_le, nat_lt, ◌||◌, if◌then◌else◌}
use Rattle.std.proofs.lemmas.Bool.{cases_lt, lt-ltb, le-ltb, le-leb, lt-leb}
use Rattle.std.proofs.lemmas.List.{length-take-le, take_all, drop_all}
use Rattle.std.proofs.Math.Seq.{take-append_seam, drop-append_seam}
use Rattle.ot_units.specs.Text.{put_at, cut_at}
use Rattle.ranges_tracker.specs.Cells.{Thread, raised, squashed}
use Rattle.ranges_tracker.specs.declared.comment.Comment.{Comment}
use Rattle.ranges_tracker.specs.Commented.{comment_of, comment_with, comment_without}
use Rattle.ot_op.proofs.Pieces.{Nested, nested}

pub part_is : (t a w b : List ℕ) (at n : ℕ) → t ≡ a ++ (w ++ b) → at ≡ length a → n ≡ length w → take n (drop at t) ≡ w
part_is t a w b at n e f g = ap (λ (x : List ℕ). take n (drop at x)) e ∙ ap₂ (λ (x y : ℕ). take x (drop y (a ++ (w ++ b)))) g f ∙ ap (take (length w)) (drop-append_seam a (w ++ b)) ∙ take-append_seam w b

front_part : (t x y : List ℕ) (at : ℕ) → t ≡ x ++ y → at ≡ length x → take at t ≡ x
front_part t x y at e f = ap (take at) e ∙ ap (λ (n : ℕ). take n (x ++ y)) f ∙ take-append_seam x y

back_part : (t x y : List ℕ) (at : ℕ) → t ≡ x ++ y → at ≡ length x → drop at t ≡ y
back_part t x y at e f = ap (drop at) e ∙ ap (λ (n : ℕ). drop n (x ++ y)) f ∙ drop-append_seam x y

put_is : (t x y s : List ℕ) (at : ℕ) → t ≡ x ++ y → at ≡ length x → put_at t at s ≡ x ++ (s ++ y)
put_is t x y s at e f = ap₂ (λ (p q : List ℕ). (p ++ s) ++ q) (front_part t x y at e f) (back_part t x y at e f) ∙ append_assoc x s y

cut_is : (t x d z : List ℕ) (at n : ℕ) → t ≡ x ++ (d ++ z) → at ≡ length x → n ≡ length d → cut_at t at n ≡ x ++ z
cut_is t x d z at n e f g = ap₂ (λ (p q : List ℕ). p ++ q) (front_part t x (d ++ z) at e f) (back_part t (x ++ d) z (at + n) (e ∙ sym (append_assoc x d z)) (omega (arith, length-append x d)))

-- the text from a place to another, and a thread's comment on a text
abbrev pub shown_on : List ℕ → Thread → Comment
shown_on text t = comment_of t.thread t.from (take (t.to - t.from) (drop t.from text))

abbrev pub thread_with : ℕ → ℕ → Thread → Thread
thread_with at n t = record { thread = t.thread; from = raised at n t.from; to = if nat_le at t.from || nat_lt at t.to then t.to + n else t.to }

-- the text of a thread as three parts
pub record Parts (text : List ℕ) (from to : ℕ) : Type 0 where
  pub a : List ℕ
  pub w : List ℕ
  pub b : List ℕ
  pub is : text ≡ a ++ (w ++ b)
  pub at_is : from ≡ length a
  pub to_is : to ≡ length a + length w

pub parts_of : (text : List ℕ) (from to : ℕ) → from ≤ to → to ≤ length text → Parts text from to
parts_of text from to le in_text =
    let a = take from text in
    let w = take (to - from) (drop from text) in
    let b = drop (to - from) (drop from text) in
    let la : length a ≡ from = length-take-le from text (omega arith) in
    let all : a ++ drop from text ≡ text = take-append-drop from text in
    let ld : length (drop from text) + from ≡ length text = omega (arith, ap length all, length-append a (drop from text)) in
    let lw : length w ≡ to - from = length-take-le (to - from) (drop from text) (omega arith) in
    record { a = a; w = w; b = b; is = sym (ap (λ (x : List ℕ). a ++ x) (take-append-drop (to - from) (drop from text)) ∙ all); at_is = sym la; to_is = omega arith }

pub shown_is : (text : List ℕ) (t : Thread) (p : Parts text t.from t.to) → take (t.to - t.from) (drop t.from text) ≡ p.w
shown_is text t p = part_is text p.a p.w p.b t.from (t.to - t.from) p.is p.at_is (omega (arith, p.at_is, p.to_is))

-- an insert
with_low : (text s : List ℕ) (t : Thread) (at : ℕ) (p : Parts text t.from t.to) → at ≤ t.from → at ≤ length text → comment_with at s (comment_of t.thread t.from p.w) ≡ shown_on (put_at text at s) (thread_with at (length s) t)
with_low text s t at p low in_text =
    let x = take at text in
    let y = drop at text in
    let whole : x ++ y ≡ text = take-append-drop at text in
    let lx : length x ≡ at = length-take-le at text in_text in
    let n : Nested p.a x y (p.w ++ p.b) = nested x y p.a (p.w ++ p.b) (whole ∙ p.is) (omega (arith, p.at_is)) in
    let put : put_at text at s ≡ (x ++ (s ++ n.mid)) ++ (p.w ++ p.b) = put_is text x y s at (sym whole) (sym lx) ∙ ap (λ (z : List ℕ). x ++ (s ++ z)) n.back_is ∙ simp append_assoc in
    let count : length (x ++ (s ++ n.mid)) ≡ t.from + length s = omega (arith, length-append x (s ++ n.mid), length-append s n.mid, ap length n.long_is, length-append x n.mid, p.at_is) in
    let part : take (t.to + length s - (t.from + length s)) (drop (t.from + length s) (put_at text at s)) ≡ p.w = part_is (put_at text at s) (x ++ (s ++ n.mid)) p.w p.b (t.from + length s) (t.to + length s - (t.from + length s)) put (sym count) (omega (arith, p.at_is, p.to_is)) in
    let test : nat_le at t.from ≡ true = le-leb at t.from low in
    ap (λ (b : Bool). if b then comment_of t.thread (t.from + length s) p.w else (if nat_lt (at - t.from) (length p.w) then comment_of t.thread t.from (put_at p.w (at - t.from) s) else comment_of t.thread t.from p.w)) test
    ∙ ap (comment_of t.thread (t.from + length s)) (sym part)
    ∙ sym (ap (λ (b : Bool). shown_on (put_at text at s) (record { thread = t.thread; from = if b then t.from + length s else t.from; to = if b || nat_lt at t.to then t.to + length s else t.to })) test)

with_in : (text s : List ℕ) (t : Thread) (at : ℕ) (p : Parts text t.from t.to) → t.from < at → at < t.to → at ≤ length text → comment_with at s (comment_of t.thread t.from p.w) ≡ shown_on (put_at text at s) (thread_with at (length s) t)
with_in text s t at p low high in_text =
    let x = take at text in
    let y = drop at text in
    let whole : x ++ y ≡ text = take-append-drop at text in
    let lx : length x ≡ at = length-take-le at text in_text in
    let n : Nested x p.a (p.w ++ p.b) y = nested p.a (p.w ++ p.b) x y (sym p.is ∙ sym whole) (omega (arith, p.at_is)) in
    let lm : length n.mid ≡ at - t.from = omega (arith, ap length n.long_is, length-append p.a n.mid, p.at_is) in
    let m : Nested p.w n.mid y p.b = nested n.mid y p.w p.b (sym n.back_is) (omega (arith, p.at_is, p.to_is)) in
    let put : put_at text at s ≡ p.a ++ ((n.mid ++ (s ++ m.mid)) ++ p.b) = put_is text x y s at (sym whole) (sym lx) ∙ ap₂ (λ (u v : List ℕ). u ++ (s ++ v)) n.long_is m.back_is ∙ simp append_assoc in
    let inner : put_at p.w (at - t.from) s ≡ n.mid ++ (s ++ m.mid) = put_is p.w n.mid m.mid s (at - t.from) m.long_is (sym lm) in
    let count : length (n.mid ++ (s ++ m.mid)) ≡ length p.w + length s = omega (arith, length-append n.mid (s ++ m.mid), length-append s m.mid, ap length m.long_is, length-append n.mid m.mid) in
    let part : take (t.to + length s - t.from) (drop t.from (put_at text at s)) ≡ n.mid ++ (s ++ m.mid) = part_is (put_at text at s) p.a (n.mid ++ (s ++ m.mid)) p.b t.from (t.to + length s - t.from) put p.at_is (omega (arith, p.at_is, p.to_is)) in
    let test : nat_le at t.from ≡ false = lt-leb at t.from low in
    let test2 : nat_lt (at - t.from) (length p.w) ≡ true = lt-ltb (at - t.from) (length p.w) (omega (arith, p.at_is, p.to_is)) in
    let test3 : nat_lt at t.to ≡ true = lt-ltb at t.to high in
    ap₂ (λ (b d : Bool). if b then comment_of t.thread (t.from + length s) p.w else (if d then comment_of t.thread t.from (put_at p.w (at - t.from) s) else comment_of t.thread t.from p.w)) test test2
    ∙ ap (comment_of t.thread t.from) (inner ∙ sym part)
    ∙ sym (ap₂ (λ (b d : Bool). shown_on (put_at text at s) (record { thread = t.thread; from = if b then t.from + length s else t.from; to = if b || d then t.to + length s else t.to })) test test3)

with_high : (text s : List ℕ) (t : Thread) (at : ℕ) (p : Parts text t.from t.to) → t.from < at → t.to ≤ at → at ≤ length text → comment_with at s (comment_of t.thread t.from p.w) ≡ shown_on (put_at text at s) (thread_with at (length s) t)
with_high text s t at p low high in_text =
    let x = take at text in
    let y = drop at text in
    let whole : x ++ y ≡ text = take-append-drop at text in
    let lx : length x ≡ at = length-take-le at text in_text in
    let n : Nested x p.a (p.w ++ p.b) y = nested p.a (p.w ++ p.b) x y (sym p.is ∙ sym whole) (omega (arith, p.at_is)) in
    let lm : length n.mid ≡ at - t.from = omega (arith, ap length n.long_is, length-append p.a n.mid, p.at_is) in
    let m : Nested n.mid p.w p.b y = nested p.w p.b n.mid y n.back_is (omega (arith, p.at_is, p.to_is)) in
    let put : put_at text at s ≡ p.a ++ (p.w ++ (m.mid ++ (s ++ y))) = put_is text x y s at (sym whole) (sym lx) ∙ ap (λ (u : List ℕ). u ++ (s ++ y)) (n.long_is ∙ ap (λ (v : List ℕ). p.a ++ v) m.long_is) ∙ simp append_assoc in
    let part : take (t.to - t.from) (drop t.from (put_at text at s)) ≡ p.w = part_is (put_at text at s) p.a p.w (m.mid ++ (s ++ y)) t.from (t.to - t.from) put p.at_is (omega (arith, p.at_is, p.to_is)) in
    let test : nat_le at t.from ≡ false = lt-leb at t.from low in
    let test2 : nat_lt (at - t.from) (length p.w) ≡ false = le-ltb (at - t.from) (length p.w) (omega (arith, p.at_is, p.to_is)) in
    let test3 : nat_lt at t.to ≡ false = le-ltb at t.to high in
    ap₂ (λ (b d : Bool). if b then comment_of t.thread (t.from + length s) p.w else (if d then comment_of t.thread t.from (put_at p.w (at - t.from) s) else comment_of t.thread t.from p.w)) test test2
    ∙ ap (comment_of t.thread t.from) (sym part)
    ∙ sym (ap₂ (λ (b d : Bool). shown_on (put_at text at s) (record { thread = t.thread; from = if b then t.from + length s else t.from; to = if b || d then t.to + length s else t.to })) test test3)

-- a thread's comment after an insert
pub comment_with_is : (text s : List ℕ) (t : Thread) (at : ℕ) → t.from ≤ t.to → t.to ≤ length text → at ≤ length text → comment_with at s (shown_on text t) ≡ shown_on (put_at text at s) (thread_with at (length s) t)
comment_with_is text s t at le in_text at_in =
    let p : Parts text t.from t.to = parts_of text t.from t.to le in_text in
    ap (λ (w : List ℕ). comment_with at s (comment_of t.thread t.from w)) (shown_is text t p)
    ∙ ⊎_elim {C = comment_with at s (comment_of t.thread t.from p.w) ≡ shown_on (put_at text at s) (thread_with at (length s) t)}
    (λ low. ⊎_elim {C = comment_with at s (comment_of t.thread t.from p.w) ≡ shown_on (put_at text at s) (thread_with at (length s) t)} (λ high. with_in text s t at p low high at_in) (λ high. with_high text s t at p low high at_in) (cases_lt at t.to))
    (λ low. with_low text s t at p low at_in)
    (cases_lt t.from at)

-- a delete
abbrev pub thread_without : ℕ → ℕ → Thread → Thread
thread_without at n t = record { thread = t.thread; from = squashed at n t.from; to = squashed at n t.to }

squash_low : (at n g : ℕ) → g ≤ at → squashed at n g ≡ g
squash_low at n g h = ⊎_elim {C = squashed at n g ≡ g} (λ lt. rw (lt-ltb g at lt) refl) (λ ge. rw (le-ltb g at ge, le-leb g (at + n) (omega arith)) (omega arith)) (cases_lt g at)

pub squash_mid : (at n g : ℕ) → at ≤ g → g ≤ at + n → squashed at n g ≡ at
squash_mid at n g h k = rw (le-ltb g at h, le-leb g (at + n) k) refl

squash_high : (at n g : ℕ) → at + n ≤ g → squashed at n g ≡ g - n
squash_high at n g h = ⊎_elim {C = squashed at n g ≡ g - n} (λ lt. rw (le-ltb g at (omega arith), lt-leb g (at + n) lt) refl) (λ ge. rw (le-ltb g at (omega arith), le-leb g (at + n) ge) (omega arith)) (cases_lt (at + n) g)

-- a text as three parts around what a delete takes out
record Cuts (text : List ℕ) (at n : ℕ) : Type 0 where
  pub x : List ℕ
  pub d : List ℕ
  pub z : List ℕ
  pub is : text ≡ x ++ (d ++ z)
  pub at_is : at ≡ length x
  pub n_is : n ≡ length d

cuts_of : (text : List ℕ) (at n : ℕ) → at + n ≤ length text → Cuts text at n
cuts_of text at n in_text =
    let x = take at text in
    let d = take n (drop at text) in
    let z = drop n (drop at text) in
    let lx : length x ≡ at = length-take-le at text (omega arith) in
    let all : x ++ drop at text ≡ text = take-append-drop at text in
    let ld : length (drop at text) + at ≡ length text = omega (arith, ap length all, length-append x (drop at text)) in
    let l : length d ≡ n = length-take-le n (drop at text) (omega arith) in
    record { x = x; d = d; z = z; is = sym (ap (λ (y : List ℕ). x ++ y) (take-append-drop n (drop at text)) ∙ all); at_is = sym lx; n_is = sym l }

-- what is left stands where it should
without_by : (text : List ℕ) (t : Thread) (at n : ℕ) (w a1 w1 b1 : List ℕ) → cut_at text at n ≡ a1 ++ (w1 ++ b1) → squashed at n t.from ≡ length a1 → squashed at n t.to ≡ length a1 + length w1 → take (at - t.from) w ++ drop (at + n - t.from) w ≡ w1 →
    comment_without at n (comment_of t.thread t.from w) ≡ shown_on (cut_at text at n) (thread_without at n t)
without_by text t at n w a1 w1 b1 cut f g inner = ap (comment_of t.thread (squashed at n t.from)) (inner ∙ sym (part_is (cut_at text at n) a1 w1 b1 (squashed at n t.from) (squashed at n t.to - squashed at n t.from) cut f (omega (arith, f, g))))

take_zero : (n : ℕ) (w : List ℕ) → n ≡ 0 → take n w ≡ []
take_zero n w e = rw e refl

drop_zero : (n : ℕ) (w : List ℕ) → n ≡ 0 → drop n w ≡ w
drop_zero n w e = rw e refl

-- the delete stands before the thread
without_before : (text : List ℕ) (t : Thread) (at n : ℕ) (p : Parts text t.from t.to) (q : Cuts text at n) → at + n ≤ t.from → comment_without at n (comment_of t.thread t.from p.w) ≡ shown_on (cut_at text at n) (thread_without at n t)
without_before text t at n p q h =
    let m : Nested p.a (q.x ++ q.d) q.z (p.w ++ p.b) = nested (q.x ++ q.d) q.z p.a (p.w ++ p.b) (append_assoc q.x q.d q.z ∙ sym q.is ∙ p.is) (omega (arith, length-append q.x q.d, q.at_is, q.n_is, p.at_is)) in
    let cut : cut_at text at n ≡ (q.x ++ m.mid) ++ (p.w ++ p.b) = cut_is text q.x q.d q.z at n q.is q.at_is q.n_is ∙ ap (λ (y : List ℕ). q.x ++ y) m.back_is ∙ sym (append_assoc q.x m.mid (p.w ++ p.b)) in
    let len : length (q.x ++ m.mid) ≡ t.from - n = omega (arith, length-append q.x m.mid, ap length m.long_is, length-append (q.x ++ q.d) m.mid, length-append q.x q.d, q.at_is, q.n_is, p.at_is) in
    let f : squashed at n t.from ≡ t.from - n = squash_high at n t.from h in
    let g : squashed at n t.to ≡ t.to - n = squash_high at n t.to (omega (arith, p.at_is, p.to_is)) in
    without_by text t at n p.w (q.x ++ m.mid) p.w p.b cut (f ∙ sym len) (omega (arith, g, len, p.at_is, p.to_is)) (ap₂ (λ (u v : List ℕ). u ++ v) (take_zero (at - t.from) p.w (omega arith)) (drop_zero (at + n - t.from) p.w (omega arith)))

-- behind it
without_behind : (text : List ℕ) (t : Thread) (at n : ℕ) (p : Parts text t.from t.to) (q : Cuts text at n) → t.to ≤ at → comment_without at n (comment_of t.thread t.from p.w) ≡ shown_on (cut_at text at n) (thread_without at n t)
without_behind text t at n p q h =
    let m : Nested q.x (p.a ++ p.w) p.b (q.d ++ q.z) = nested (p.a ++ p.w) p.b q.x (q.d ++ q.z) (append_assoc p.a p.w p.b ∙ sym p.is ∙ q.is) (omega (arith, length-append p.a p.w, q.at_is, p.at_is, p.to_is)) in
    let cut : cut_at text at n ≡ p.a ++ (p.w ++ (m.mid ++ q.z)) = cut_is text q.x q.d q.z at n q.is q.at_is q.n_is ∙ ap (λ (y : List ℕ). y ++ q.z) m.long_is ∙ simp append_assoc in
    let f : squashed at n t.from ≡ t.from = squash_low at n t.from (omega (arith, p.at_is, p.to_is)) in
    let g : squashed at n t.to ≡ t.to = squash_low at n t.to h in
    without_by text t at n p.w p.a p.w (m.mid ++ q.z) cut (f ∙ p.at_is) (g ∙ p.to_is) (ap₂ (λ (u v : List ℕ). u ++ v) (take_all (at - t.from) p.w (omega (arith, p.at_is, p.to_is))) (drop_all (at + n - t.from) p.w (omega (arith, p.at_is, p.to_is))) ∙ append-nil p.w)

-- it takes the thread's beginning
front_of : (text : List ℕ) (t : Thread) (at n : ℕ) (p : Parts text t.from t.to) (q : Cuts text at n) (m k j : List ℕ) → p.a ≡ q.x ++ m → q.d ≡ m ++ k → p.w ≡ k ++ j → q.z ≡ j ++ p.b →
    at ≤ t.from → t.from ≤ at + n → at + n ≤ t.to → comment_without at n (comment_of t.thread t.from p.w) ≡ shown_on (cut_at text at n) (thread_without at n t)
front_of text t at n p q m k j a_is d_is w_is z_is low over high =
    let la : length p.a ≡ length q.x + length m = ap length a_is ∙ length-append q.x m in
    let ld : length q.d ≡ length m + length k = ap length d_is ∙ length-append m k in
    let lw : length p.w ≡ length k + length j = ap length w_is ∙ length-append k j in
    let cut : cut_at text at n ≡ q.x ++ (j ++ p.b) = cut_is text q.x q.d q.z at n q.is q.at_is q.n_is ∙ ap (λ (y : List ℕ). q.x ++ y) z_is in
    let f : squashed at n t.from ≡ at = squash_mid at n t.from low over in
    let g : squashed at n t.to ≡ t.to - n = squash_high at n t.to high in
    without_by text t at n p.w q.x j p.b cut (f ∙ q.at_is) (omega (arith, g, la, ld, lw, q.at_is, q.n_is, p.at_is, p.to_is)) (ap₂ (λ (u v : List ℕ). u ++ v) (take_zero (at - t.from) p.w (omega arith)) (back_part p.w k j (at + n - t.from) w_is (omega (arith, la, ld, q.at_is, q.n_is, p.at_is))))

front_next : (text : List ℕ) (t : Thread) (at n : ℕ) (p : Parts text t.from t.to) (q : Cuts text at n) (m k : List ℕ) → p.a ≡ q.x ++ m → q.d ≡ m ++ k → p.w ++ p.b ≡ k ++ q.z →
    at ≤ t.from → t.from ≤ at + n → at + n ≤ t.to → comment_without at n (comment_of t.thread t.from p.w) ≡ shown_on (cut_at text at n) (thread_without at n t)
front_next text t at n p q m k a_is d_is rest low over high =
    let la : length p.a ≡ length q.x + length m = ap length a_is ∙ length-append q.x m in
    let ld : length q.d ≡ length m + length k = ap length d_is ∙ length-append m k in
    let j : Nested p.w k q.z p.b = nested k q.z p.w p.b (sym rest) (omega (arith, la, ld, q.at_is, q.n_is, p.at_is, p.to_is)) in
    front_of text t at n p q m k j.mid a_is d_is j.long_is j.back_is low over high

without_front : (text : List ℕ) (t : Thread) (at n : ℕ) (p : Parts text t.from t.to) (q : Cuts text at n) → at ≤ t.from → t.from ≤ at + n → at + n ≤ t.to → comment_without at n (comment_of t.thread t.from p.w) ≡ shown_on (cut_at text at n) (thread_without at n t)
without_front text t at n p q low over high =
    let m : Nested p.a q.x (q.d ++ q.z) (p.w ++ p.b) = nested q.x (q.d ++ q.z) p.a (p.w ++ p.b) (sym q.is ∙ p.is) (omega (arith, q.at_is, p.at_is)) in
    next m.mid m.long_is m.back_is
  where
    next : (mid : List ℕ) → p.a ≡ q.x ++ mid → q.d ++ q.z ≡ mid ++ (p.w ++ p.b) → comment_without at n (comment_of t.thread t.from p.w) ≡ shown_on (cut_at text at n) (thread_without at n t)
    next mid a_is rest =
        let la : length p.a ≡ length q.x + length mid = ap length a_is ∙ length-append q.x mid in
        let k : Nested q.d mid (p.w ++ p.b) q.z = nested mid (p.w ++ p.b) q.d q.z (sym rest) (omega (arith, la, q.at_is, q.n_is, p.at_is)) in
        front_next text t at n p q mid k.mid a_is k.long_is k.back_is low over high

-- it takes the whole thread
without_all : (text : List ℕ) (t : Thread) (at n : ℕ) (p : Parts text t.from t.to) (q : Cuts text at n) → at ≤ t.from → t.to ≤ at + n → comment_without at n (comment_of t.thread t.from p.w) ≡ shown_on (cut_at text at n) (thread_without at n t)
without_all text t at n p q low high =
    let cut : cut_at text at n ≡ q.x ++ ([] ++ q.z) = cut_is text q.x q.d q.z at n q.is q.at_is q.n_is in
    let f : squashed at n t.from ≡ at = squash_mid at n t.from low (omega (arith, p.at_is, p.to_is)) in
    let g : squashed at n t.to ≡ at = squash_mid at n t.to (omega (arith, p.at_is, p.to_is)) high in
    let zero_len : length {A = ℕ} [] ≡ 0 = refl in
    without_by text t at n p.w q.x [] q.z cut (f ∙ q.at_is) (omega (arith, g, q.at_is, zero_len)) (ap₂ (λ (u v : List ℕ). u ++ v) (take_zero (at - t.from) p.w (omega arith)) (drop_all (at + n - t.from) p.w (omega (arith, p.at_is, p.to_is))))

-- it stands within the thread
without_in : (text : List ℕ) (t : Thread) (at n : ℕ) (p : Parts text t.from t.to) (q : Cuts text at n) → t.from ≤ at → at ≤ t.to → at + n ≤ t.to → comment_without at n (comment_of t.thread t.from p.w) ≡ shown_on (cut_at text at n) (thread_without at n t)
without_in text t at n p q low mid high =
    let m : Nested q.x p.a (p.w ++ p.b) (q.d ++ q.z) = nested p.a (p.w ++ p.b) q.x (q.d ++ q.z) (sym p.is ∙ q.is) (omega (arith, q.at_is, p.at_is)) in
    let lm : length m.mid ≡ at - t.from = omega (arith, ap length m.long_is, length-append p.a m.mid, q.at_is, p.at_is) in
    let k : Nested p.w m.mid (q.d ++ q.z) p.b = nested m.mid (q.d ++ q.z) p.w p.b (sym m.back_is) (omega (arith, p.at_is, p.to_is)) in
    let lk : length p.w ≡ length m.mid + length k.mid = ap length k.long_is ∙ length-append m.mid k.mid in
    let j : Nested k.mid q.d q.z p.b = nested q.d q.z k.mid p.b k.back_is (omega (arith, q.n_is, p.at_is, p.to_is)) in
    let lj : length k.mid ≡ length q.d + length j.mid = ap length j.long_is ∙ length-append q.d j.mid in
    let cut : cut_at text at n ≡ p.a ++ ((m.mid ++ j.mid) ++ p.b) = cut_is text q.x q.d q.z at n q.is q.at_is q.n_is ∙ ap₂ (λ (u v : List ℕ). u ++ v) m.long_is j.back_is ∙ simp append_assoc in
    let f : squashed at n t.from ≡ t.from = squash_low at n t.from low in
    let g : squashed at n t.to ≡ t.to - n = squash_high at n t.to high in
    let w_is : p.w ≡ (m.mid ++ q.d) ++ j.mid = k.long_is ∙ ap (λ (y : List ℕ). m.mid ++ y) j.long_is ∙ sym (append_assoc m.mid q.d j.mid) in
    without_by text t at n p.w p.a (m.mid ++ j.mid) p.b cut (f ∙ p.at_is) (omega (arith, g, length-append m.mid j.mid, lk, lj, q.n_is, p.at_is, p.to_is))
    (ap₂ (λ (u v : List ℕ). u ++ v) (front_part p.w m.mid k.mid (at - t.from) k.long_is (sym lm)) (back_part p.w (m.mid ++ q.d) j.mid (at + n - t.from) w_is (omega (arith, lm, q.n_is, length-append m.mid q.d))))

-- it takes the thread's end
without_end : (text : List ℕ) (t : Thread) (at n : ℕ) (p : Parts text t.from t.to) (q : Cuts text at n) → t.from ≤ at → at ≤ t.to → t.to ≤ at + n → comment_without at n (comment_of t.thread t.from p.w) ≡ shown_on (cut_at text at n) (thread_without at n t)
without_end text t at n p q low mid high =
    let m : Nested q.x p.a (p.w ++ p.b) (q.d ++ q.z) = nested p.a (p.w ++ p.b) q.x (q.d ++ q.z) (sym p.is ∙ q.is) (omega (arith, q.at_is, p.at_is)) in
    let lm : length m.mid ≡ at - t.from = omega (arith, ap length m.long_is, length-append p.a m.mid, q.at_is, p.at_is) in
    let k : Nested p.w m.mid (q.d ++ q.z) p.b = nested m.mid (q.d ++ q.z) p.w p.b (sym m.back_is) (omega (arith, p.at_is, p.to_is)) in
    let cut : cut_at text at n ≡ p.a ++ (m.mid ++ q.z) = cut_is text q.x q.d q.z at n q.is q.at_is q.n_is ∙ ap (λ (u : List ℕ). u ++ q.z) m.long_is ∙ append_assoc p.a m.mid q.z in
    let f : squashed at n t.from ≡ t.from = squash_low at n t.from low in
    let g : squashed at n t.to ≡ at = squash_mid at n t.to mid high in
    without_by text t at n p.w p.a m.mid q.z cut (f ∙ p.at_is) (omega (arith, g, lm, p.at_is))
    (ap₂ (λ (u v : List ℕ). u ++ v) (front_part p.w m.mid k.mid (at - t.from) k.long_is (sym lm)) (drop_all (at + n - t.from) p.w (omega (arith, p.at_is, p.to_is))) ∙ append-nil m.mid)

-- a thread's comment after a delete
pub comment_without_is : (text : List ℕ) (t : Thread) (at n : ℕ) → t.from ≤ t.to → t.to ≤ length text → at + n ≤ length text → comment_without at n (shown_on text t) ≡ shown_on (cut_at text at n) (thread_without at n t)
comment_without_is text t at n le in_text at_in =
    let p : Parts text t.from t.to = parts_of text t.from t.to le in_text in
    let q : Cuts text at n = cuts_of text at n at_in in
    let G : Type 0 = comment_without at n (comment_of t.thread t.from p.w) ≡ shown_on (cut_at text at n) (thread_without at n t) in
    ap (λ (w : List ℕ). comment_without at n (comment_of t.thread t.from w)) (shown_is text t p)
    ∙ ⊎_elim {C = G}
    (λ front. ⊎_elim {C = G} (λ h. without_behind text t at n p q (omega arith))
    (λ h. ⊎_elim {C = G} (λ k. without_end text t at n p q (omega arith) h (omega arith)) (λ k. without_in text t at n p q (omega arith) h k) (cases_lt t.to (at + n))) (cases_lt t.to at))
    (λ back. ⊎_elim {C = G} (λ h. without_before text t at n p q (omega arith))
    (λ h. ⊎_elim {C = G} (λ k. without_all text t at n p q back (omega arith)) (λ k. without_front text t at n p q back h k) (cases_lt t.to (at + n))) (cases_lt (at + n) t.from))
    (cases_lt t.from at)
