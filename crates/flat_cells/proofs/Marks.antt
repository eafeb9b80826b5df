-- Marks of a flat row through a step: ids tell them apart, and gone cells have marks of their own.
use Rattle.std.proofs.Common.{◌≡◌, ℕ, ◌<◌, ◌≤◌, Bool, true, false, List, [], ◌∷◌, ◌++◌, refl, ap, ap₂, sym, ◌∙◌, arith, map, filter, Option, Some, None, ⊎_elim, ◌⊎◌, inl, inr}
use Rattle.std.specs.Prelude.{◌||◌, not, if◌then◌else◌}
use Rattle.std.specs.List.{list_any}
use Rattle.std.specs.Str.{bytes_eq}
use Rattle.std.proofs.lemmas.Bool.{cases_Bool, or_parts, or_cases, or_left, or_right, cond-false}
use Rattle.std.proofs.lemmas.List.Folds.{list_any-append}
use Rattle.ranges_tracker.specs.declared.mark.Mark.{Mark}
use Rattle.ranges_tracker.specs.declared.stamp.Stamp.{Stamp}
use Rattle.ranges_tracker.specs.Cells.{same_mark, bears, own, first_of, fresh_mark, chosen, renewed, exchanged}
use Rattle.ranges_tracker.specs.declared.mark.Chosen.{Chosen}
use Rattle.flat_cells.specs.Row.{Cell, Live, Gone, Start, End, lives_of, ends_earlier, earlier_ends, without_earlier_ends}
use Rattle.flat_cells.specs.Step.{exchanged_cell, remarked_cells, new_cells}
use Rattle.flat_cells.specs.Form.{is_live_of, is_gone_of, is_of, AreOlder}
use Rattle.ranges_tracker.proofs.Packing.{same_mark_is}
use Rattle.flat_cells.proofs.Edges.{any_filter}
use Rattle.flat_cells.proofs.Inserting.{any_less}
use Rattle.ranges_tracker.proofs.Together.{own_is}

pub clash : {P : Type 0} (b : Bool) → b ≡ true → b ≡ false → P
clash true e f = cc
clash false e f = cc

-- what passes somewhere in parts
pub any_cases : (test : Cell → Bool) (xs ys : List Cell) → list_any test (xs ++ ys) ≡ true → (list_any test xs ≡ true) ⊎ (list_any test ys ≡ true)
any_cases test xs ys e = or_cases (list_any test xs) (list_any test ys) (sym (list_any-append test xs ys) ∙ e)

pub any_left : (test : Cell → Bool) (xs ys : List Cell) → list_any test xs ≡ true → list_any test (xs ++ ys) ≡ true
any_left test xs ys e = list_any-append test xs ys ∙ or_left (list_any test xs) (list_any test ys) e

pub any_right : (test : Cell → Bool) (xs ys : List Cell) → list_any test ys ≡ true → list_any test (xs ++ ys) ≡ true
any_right test xs ys e = list_any-append test xs ys ∙ or_right (list_any test xs) (list_any test ys) e

pub any_more : (test f : Cell → Bool) (xs : List Cell) → list_any test (filter f xs) ≡ true → list_any test xs ≡ true
any_more test f xs e = ⊎_elim {C = list_any test xs ≡ true} (λ t. t) (λ k. clash (list_any test (filter f xs)) e (any_less test f xs k)) (cases_Bool (list_any test xs))

pub any_both : (f g : Cell → Bool) (xs : List Cell) → list_any (λ (c : Cell). f c || g c) xs ≡ true → (list_any f xs ≡ true) ⊎ (list_any g xs ≡ true)
any_both f g [] e = cc
any_both f g (x ∷ xs) e = ⊎_elim {C = (list_any f (x ∷ xs) ≡ true) ⊎ (list_any g (x ∷ xs) ≡ true)}
    (λ t. ⊎_elim {C = (list_any f (x ∷ xs) ≡ true) ⊎ (list_any g (x ∷ xs) ≡ true)} (λ a. inl (or_left (f x) (list_any f xs) a)) (λ b. inr (or_left (g x) (list_any g xs) b)) (or_cases (f x) (g x) t))
    (λ t. ⊎_elim {C = (list_any f (x ∷ xs) ≡ true) ⊎ (list_any g (x ∷ xs) ≡ true)} (λ a. inl (or_right (f x) (list_any f xs) a)) (λ b. inr (or_right (g x) (list_any g xs) b)) (any_both f g xs t))
    (or_cases (f x || g x) (list_any (λ (c : Cell). f c || g c) xs) e)

any_either : (f g : Cell → Bool) (xs : List Cell) → (list_any f xs ≡ true) ⊎ (list_any g xs ≡ true) → list_any (λ (c : Cell). f c || g c) xs ≡ true
any_either f g [] (inl e) = cc
any_either f g [] (inr e) = cc
any_either f g (x ∷ xs) (inl e) = ⊎_elim {C = list_any (λ (c : Cell). f c || g c) (x ∷ xs) ≡ true}
    (λ t. or_left (f x || g x) (list_any (λ (c : Cell). f c || g c) xs) (or_left (f x) (g x) t))
    (λ t. or_right (f x || g x) (list_any (λ (c : Cell). f c || g c) xs) (any_either f g xs (inl t)))
    (or_cases (f x) (list_any f xs) e)
any_either f g (x ∷ xs) (inr e) = ⊎_elim {C = list_any (λ (c : Cell). f c || g c) (x ∷ xs) ≡ true}
    (λ t. or_left (f x || g x) (list_any (λ (c : Cell). f c || g c) xs) (or_right (f x) (g x) t))
    (λ t. or_right (f x || g x) (list_any (λ (c : Cell). f c || g c) xs) (any_either f g xs (inr t)))
    (or_cases (g x) (list_any g xs) e)

pub live_is_of : (m : Mark) (xs : List Cell) → list_any (is_live_of m) xs ≡ true → list_any (is_of m) xs ≡ true
live_is_of m xs e = any_either (is_live_of m) (is_gone_of m) xs (inl e)

pub gone_is_of : (m : Mark) (xs : List Cell) → list_any (is_gone_of m) xs ≡ true → list_any (is_of m) xs ≡ true
gone_is_of m xs e = any_either (is_live_of m) (is_gone_of m) xs (inr e)

-- the marks of a row that was made of another one: old ones where they were, and new ones
pub record Marks (New : Mark → Type 0) (cells made : List Cell) (stamp : Stamp) (k next : ℕ) : Type 0 where
  pub live : (m : Mark) → list_any (is_live_of m) made ≡ true → (list_any (is_live_of m) cells ≡ true) ⊎ New m
  pub gone : (m : Mark) → list_any (is_gone_of m) made ≡ true → (list_any (is_gone_of m) cells ≡ true) ⊎ New m
  pub one : (m n : Mark) → New m → New n → m.k ≡ n.k → m ≡ n
  pub fresh : (m : Mark) → New m → (m.version ≡ stamp.version) × (k ≤ m.k) × (m.k < next)
  pub apart : (m : Mark) → New m → list_any (is_gone_of m) made ≡ true → list_any (is_live_of m) made ≡ true → ⊥
  pub more : k ≤ next

old_or_new : (New : Mark → Type 0) (cells made : List Cell) (stamp : Stamp) (k next : ℕ) → Marks New cells made stamp k next → (m : Mark) → list_any (is_of m) made ≡ true → (list_any (is_of m) cells ≡ true) ⊎ New m
old_or_new New cells made stamp k next h m e = ⊎_elim {C = (list_any (is_of m) cells ≡ true) ⊎ New m}
    (λ a. ⊎_elim {C = (list_any (is_of m) cells ≡ true) ⊎ New m} (λ x. inl (live_is_of m cells x)) (λ x. inr x) (h.live m a))
    (λ b. ⊎_elim {C = (list_any (is_of m) cells ≡ true) ⊎ New m} (λ x. inl (gone_is_of m cells x)) (λ x. inr x) (h.gone m b))
    (any_both (is_live_of m) (is_gone_of m) made e)

not_new : (v k : ℕ) (m n : Mark) → (m.version < v) ⊎ ((m.version ≡ v) × (m.k < k)) → (n.version ≡ v) × (k ≤ n.k) → m.version ≡ n.version → m.k ≡ n.k → ⊥
not_new v k m n (inl lt) f e g = omega (arith, lt, f.0, e)
not_new v k m n (inr lt) f e g = omega (arith, lt.1, f.1, g)

pub fresh_not_old : (New : Mark → Type 0) (cells made : List Cell) (stamp : Stamp) (k next : ℕ) → Marks New cells made stamp k next → AreOlder cells stamp k → (m : Mark) → New m → list_any (is_of m) cells ≡ true → ⊥
fresh_not_old New cells made stamp k next h older m n e = let f = h.fresh m n in not_new stamp.version k m m (older m e) (f.0, f.1) refl refl

pub ids_kept : (New : Mark → Type 0) (cells made : List Cell) (stamp : Stamp) (k next : ℕ) → Marks New cells made stamp k next → AreOlder cells stamp k →
    ((m n : Mark) → list_any (is_of m) cells ≡ true → list_any (is_of n) cells ≡ true → m.version ≡ n.version → m.k ≡ n.k → m ≡ n) →
    (m n : Mark) → list_any (is_of m) made ≡ true → list_any (is_of n) made ≡ true → m.version ≡ n.version → m.k ≡ n.k → m ≡ n
ids_kept New cells made stamp k next h older ids m n em en v kk =
    ⊎_elim {C = m ≡ n}
    (λ a. ⊎_elim {C = m ≡ n} (λ b. ids m n a b v kk) (λ b. absurd (let f = h.fresh n b in not_new stamp.version k m n (older m a) (f.0, f.1) v kk)) (old_or_new New cells made stamp k next h n en))
    (λ a. ⊎_elim {C = m ≡ n} (λ b. absurd (let f = h.fresh m a in not_new stamp.version k n m (older n b) (f.0, f.1) (sym v) (sym kk))) (λ b. h.one m n a b kk) (old_or_new New cells made stamp k next h n en))
    (old_or_new New cells made stamp k next h m em)

pub older_kept : (New : Mark → Type 0) (cells made : List Cell) (stamp : Stamp) (k next : ℕ) → Marks New cells made stamp k next → AreOlder cells stamp k → AreOlder made stamp next
older_kept New cells made stamp k next h older m e =
    ⊎_elim {C = (m.version < stamp.version) ⊎ ((m.version ≡ stamp.version) × (m.k < next))}
    (λ a. ⊎_elim {C = (m.version < stamp.version) ⊎ ((m.version ≡ stamp.version) × (m.k < next))} (λ lt. inl lt) (λ lt. inr (lt.0, omega (arith, lt.1, h.more))) (older m a))
    (λ a. let f = h.fresh m a in inr (f.0, f.2))
    (old_or_new New cells made stamp k next h m e)

pub apart_kept : (New : Mark → Type 0) (cells made : List Cell) (stamp : Stamp) (k next : ℕ) → Marks New cells made stamp k next → AreOlder cells stamp k →
    ((m : Mark) → list_any (is_gone_of m) cells ≡ true → list_any (is_live_of m) cells ≡ false) → (m : Mark) → list_any (is_gone_of m) made ≡ true → list_any (is_live_of m) made ≡ false
apart_kept New cells made stamp k next h older apart m e = ⊎_elim {C = list_any (is_live_of m) made ≡ false}
    (λ t. absurd (both t))
    (λ f. f)
    (cases_Bool (list_any (is_live_of m) made))
  where
    both : list_any (is_live_of m) made ≡ true → ⊥
    both t = ⊎_elim {C = ⊥}
        (λ a. ⊎_elim {C = ⊥} (λ b. clash (list_any (is_live_of m) cells) b (apart m a)) (λ b. fresh_not_old New cells made stamp k next h older m b (gone_is_of m cells a)) (h.live m t))
        (λ a. h.apart m a e t)
        (h.gone m e)

-- gone cells of a mark stand in no part without gone cells
pub no_gone_ends : (m : Mark) (front cells : List Cell) → list_any (is_gone_of m) (earlier_ends front cells) ≡ false
no_gone_ends m front cells = any_filter (is_gone_of m) (ends_earlier front) false cells only
  where
    only : (c : Cell) → is_gone_of m c ≡ true → ends_earlier front c ≡ false
    only (Live u o) e = refl
    only (Gone u n) e = refl
    only (Start t) e = refl
    only (End t) e = cc

pub gone_late : (m : Mark) (front cells : List Cell) → list_any (is_gone_of m) (without_earlier_ends front cells) ≡ list_any (is_gone_of m) cells
gone_late m front cells = any_filter (is_gone_of m) (λ (c : Cell). not (ends_earlier front c)) true cells only
  where
    only : (c : Cell) → is_gone_of m c ≡ true → not (ends_earlier front c) ≡ true
    only (Live u o) e = refl
    only (Gone u n) e = refl
    only (Start t) e = refl
    only (End t) e = cc

pub no_gone_new : (m : Mark) (us : List ℕ) (o : Option Mark) → list_any (is_gone_of m) (new_cells us o) ≡ false
no_gone_new m [] o = refl
no_gone_new m (u ∷ us) o = no_gone_new m us o

pub no_live_in : (m : Mark) (cells : List Cell) → lives_of cells ≡ [] → list_any (is_live_of m) cells ≡ false
no_live_in m [] e = refl
no_live_in m (Live u o ∷ cs) e = cc
no_live_in m (Gone u n ∷ cs) e = no_live_in m cs e
no_live_in m (Start t ∷ cs) e = no_live_in m cs e
no_live_in m (End t ∷ cs) e = no_live_in m cs e

pub new_bears : (m : Mark) (us : List ℕ) (o : Option Mark) → list_any (is_live_of m) (new_cells us o) ≡ true → o ≡ Some m
new_bears m [] o e = cc
new_bears m (u ∷ us) None e = new_bears m us None e
new_bears m (u ∷ us) (Some n) e = ⊎_elim {C = Some n ≡ Some m} (λ t. ap Some (same_mark_is n m t)) (λ t. new_bears m us (Some n) t) (or_cases (same_mark n m) (list_any (is_live_of m) (new_cells us (Some n))) e)

-- exchanged marks
pub gone_exchanged : (m old new : Mark) (cells : List Cell) → list_any (is_gone_of old) cells ≡ false → list_any (is_gone_of m) (map (exchanged_cell old new) cells) ≡ list_any (is_gone_of m) cells
gone_exchanged m old new [] h = refl
gone_exchanged m old new (Live u o ∷ cs) h = gone_exchanged m old new cs h
gone_exchanged m old new (Gone u n ∷ cs) h =
    let p = or_parts (same_mark n old) (list_any (is_gone_of old) cs) h in
    ap₂ (λ (x y : Bool). x || y) (ap (λ (x : Mark). same_mark x m) (cond-false (same_mark n old) new n p.0)) (gone_exchanged m old new cs p.1)
gone_exchanged m old new (Start t ∷ cs) h = gone_exchanged m old new cs h
gone_exchanged m old new (End t ∷ cs) h = gone_exchanged m old new cs h

pub gone_remarked : (m : Mark) (o : Option Mark) (stamp : Stamp) (j : ℕ) (cells : List Cell) → ((n : Mark) → o ≡ Some n → list_any (is_gone_of n) cells ≡ false) → list_any (is_gone_of m) (remarked_cells o stamp j cells) ≡ list_any (is_gone_of m) cells
gone_remarked m None stamp j cells h = refl
gone_remarked m (Some old) stamp j cells h = gone_exchanged m old (renewed old stamp j) cells (h old refl)

bears_exchanged : (m old new : Mark) (o : Option Mark) → bears (exchanged old new o) m ≡ true → (bears o m ≡ true) ⊎ (m ≡ new)
bears_exchanged m old new None e = cc
bears_exchanged m old new (Some n) e = go (same_mark n old) e
  where
    go : (b : Bool) → bears (if b then Some new else Some n) m ≡ true → (same_mark n m ≡ true) ⊎ (m ≡ new)
    go true e = inr (sym (same_mark_is new m e))
    go false e = inl e

live_exchanged : (m old new : Mark) (cells : List Cell) → list_any (is_live_of m) (map (exchanged_cell old new) cells) ≡ true → (list_any (is_live_of m) cells ≡ true) ⊎ (m ≡ new)
live_exchanged m old new [] e = cc
live_exchanged m old new (Live u o ∷ cs) e = ⊎_elim {C = (list_any (is_live_of m) (Live u o ∷ cs) ≡ true) ⊎ (m ≡ new)}
    (λ t. ⊎_elim {C = (list_any (is_live_of m) (Live u o ∷ cs) ≡ true) ⊎ (m ≡ new)} (λ x. inl (or_left (bears o m) (list_any (is_live_of m) cs) x)) (λ x. inr x) (bears_exchanged m old new o t))
    (λ t. ⊎_elim {C = (list_any (is_live_of m) (Live u o ∷ cs) ≡ true) ⊎ (m ≡ new)} (λ x. inl (or_right (bears o m) (list_any (is_live_of m) cs) x)) (λ x. inr x) (live_exchanged m old new cs t))
    (or_cases (bears (exchanged old new o) m) (list_any (is_live_of m) (map (exchanged_cell old new) cs)) e)
live_exchanged m old new (Gone u n ∷ cs) e = live_exchanged m old new cs e
live_exchanged m old new (Start t ∷ cs) e = live_exchanged m old new cs e
live_exchanged m old new (End t ∷ cs) e = live_exchanged m old new cs e

-- a fresh mark with the user and moment of a torn one
pub record IsRenewed (o : Option Mark) (stamp : Stamp) (j : ℕ) (m : Mark) : Type 0 where
  pub old : Mark
  pub torn_is : o ≡ Some old
  pub mark_is : m ≡ renewed old stamp j

pub live_remarked : (m : Mark) (o : Option Mark) (stamp : Stamp) (j : ℕ) (cells : List Cell) → list_any (is_live_of m) (remarked_cells o stamp j cells) ≡ true → (list_any (is_live_of m) cells ≡ true) ⊎ IsRenewed o stamp j m
live_remarked m None stamp j cells e = inl e
live_remarked m (Some old) stamp j cells e = ⊎_elim {C = (list_any (is_live_of m) cells ≡ true) ⊎ IsRenewed (Some old) stamp j m} (λ x. inl x) (λ x. inr (record { old = old; torn_is = refl; mark_is = x })) (live_exchanged m old (renewed old stamp j) cells e)

abbrev pub IsFresh : Chosen → Stamp → ℕ → Mark → Type 0
IsFresh by stamp k m = (by.fresh ≡ 1) × (m ≡ fresh_mark stamp k)

some_same : (m n : Mark) → Some m ≡ Some n → n ≡ m
some_same m n e = cc

first_cases : (before after : Option Mark) (stamp : Stamp) (k : ℕ) (m : Mark) → (first_of before after (fresh_mark stamp k)).mark ≡ Some m → (before ≡ Some m) ⊎ ((after ≡ Some m) ⊎ IsFresh (first_of before after (fresh_mark stamp k)) stamp k m)
first_cases (Some n) after stamp k m e = inl e
first_cases None (Some n) stamp k m e = inr (inl e)
first_cases None None stamp k m e = inr (inr (refl, some_same (fresh_mark stamp k) m e))

chosen_by : (b : Bool) (left right : Option Mark) (stamp : Stamp) (k : ℕ) (m : Mark) → (if b then first_of (own stamp.user left) (own stamp.user right) (fresh_mark stamp k) else record { mark = None; fresh = 0 }).mark ≡ Some m →
    (left ≡ Some m) ⊎ ((right ≡ Some m) ⊎ IsFresh (if b then first_of (own stamp.user left) (own stamp.user right) (fresh_mark stamp k) else record { mark = None; fresh = 0 }) stamp k m)
chosen_by false left right stamp k m e = cc
chosen_by true left right stamp k m e =
    let by = first_of (own stamp.user left) (own stamp.user right) (fresh_mark stamp k) in
    ⊎_elim {C = (left ≡ Some m) ⊎ ((right ≡ Some m) ⊎ IsFresh by stamp k m)}
    (λ x. inl (own_is stamp.user left m x))
    (λ y. ⊎_elim {C = (left ≡ Some m) ⊎ ((right ≡ Some m) ⊎ IsFresh by stamp k m)} (λ x. inr (inl (own_is stamp.user right m x))) (λ x. inr (inr x)) y)
    (first_cases (own stamp.user left) (own stamp.user right) stamp k m e)

pub chosen_cases : (left right : Option Mark) (stamp : Stamp) (k : ℕ) (m : Mark) → (chosen left right stamp k).mark ≡ Some m → (left ≡ Some m) ⊎ ((right ≡ Some m) ⊎ IsFresh (chosen left right stamp k) stamp k m)
chosen_cases left right stamp k m e = chosen_by stamp.track left right stamp k m e
