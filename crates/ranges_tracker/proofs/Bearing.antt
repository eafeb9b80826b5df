-- Which cells bear a mark, and whether its cells stay together.
use Rattle.std.proofs.Common.{◌≡◌, ℕ, Bool, true, false, List, [], ◌∷◌, ◌++◌, refl, ap, sym, ◌∙◌, map, Option, Some, None, subst, ◌⊎◌, inl, inr}
use Rattle.std.specs.Prelude.{if◌then◌else◌}
use Rattle.std.proofs.lemmas.Bool.{cases_Bool}
use Rattle.ranges_tracker.specs.Cells.{Mark, Live, same_mark, mark_at, exchanged, new_lives}
use Rattle.ranges_tracker.specs.WellFormed.{OnLive, TogetherLives}
use Rattle.ranges_tracker.proofs.Packing.{same_mark_is, same_mark_self}
use Rattle.std.proofs.lemmas.Option.{same_Some}

pub on_left : (m : Mark) (xs ys : List Live) → OnLive m xs → OnLive m (xs ++ ys)
on_left m [] ys h = absurd h
on_left m (x ∷ xs) ys (inl e) = inl e
on_left m (x ∷ xs) ys (inr h) = inr (on_left m xs ys h)

pub on_right : (m : Mark) (xs ys : List Live) → OnLive m ys → OnLive m (xs ++ ys)
on_right m [] ys h = h
on_right m (x ∷ xs) ys h = inr (on_right m xs ys h)

pub on_cases : (m : Mark) (xs ys : List Live) → OnLive m (xs ++ ys) → OnLive m xs ⊎ OnLive m ys
on_cases m [] ys h = inr h
on_cases m (x ∷ xs) ys (inl e) = inl (inl e)
on_cases m (x ∷ xs) ys (inr h) = more (on_cases m xs ys h)
  where
    more : OnLive m xs ⊎ OnLive m ys → OnLive m (x ∷ xs) ⊎ OnLive m ys
    more (inl k) = inl (inr k)
    more (inr k) = inr k

pub on_first : (m : Mark) (ls : List Live) → mark_at ls 0 ≡ Some m → OnLive m ls
on_first m [] e = cc
on_first m (l ∷ ls) e = inl e

pub on_new : (m : Mark) (us : List ℕ) (by : Option Mark) → OnLive m (new_lives us by) → by ≡ Some m
on_new m [] by h = absurd h
on_new m (u ∷ us) by (inl e) = e
on_new m (u ∷ us) by (inr h) = on_new m us by h

-- a mark exchanged
pub exchange_hit : (old new : Mark) → exchanged old new (Some old) ≡ Some new
exchange_hit old new = ap (λ (b : Bool). if b then Some new else Some old) (same_mark_self old)

pub exchange_miss : (old new m : Mark) → (m ≡ old → ⊥) → exchanged old new (Some m) ≡ Some m
exchange_miss old new m h = go (cases_Bool (same_mark m old))
  where
    go : (same_mark m old ≡ true) ⊎ (same_mark m old ≡ false) → exchanged old new (Some m) ≡ Some m
    go (inl t) = absurd (h (same_mark_is m old t))
    go (inr f) = ap (λ (b : Bool). if b then Some new else Some m) f

-- what bears a mark after an exchange
abbrev pub Exchanged : Mark → Mark → Mark → List Live → Type 0
Exchanged old new m ls = (OnLive m ls × (m ≡ old → ⊥)) ⊎ ((m ≡ new) × OnLive old ls)

exchange_one : (old new m : Mark) (o : Option Mark) (ls : List Live) (u : ℕ) → exchanged old new o ≡ Some m → Exchanged old new m (record { unit = u; mark = o } ∷ ls)
exchange_one old new m None ls u e = cc
exchange_one old new m (Some n) ls u e = go (cases_Bool (same_mark n old))
  where
    go : (same_mark n old ≡ true) ⊎ (same_mark n old ≡ false) → Exchanged old new m (record { unit = u; mark = Some n } ∷ ls)
    go (inl t) =
        let is : n ≡ old = same_mark_is n old t in
        let made : Some new ≡ Some m = sym (ap (λ (b : Bool). if b then Some new else Some n) t) ∙ e in
        inr (sym (same_Some new m made), inl (ap (λ (x : Mark). Some x) is))
    go (inr f) =
        let made : Some n ≡ Some m = sym (ap (λ (b : Bool). if b then Some new else Some n) f) ∙ e in
        let is : n ≡ m = same_Some n m made in
        inl (inl made, λ s. let t : same_mark n old ≡ true = ap (λ (x : Mark). same_mark x old) (is ∙ s) ∙ same_mark_self old in cc)

abbrev pub swapped : Mark → Mark → List Live → List Live
swapped old new ls = map (λ (l : Live). record { unit = l.unit; mark = exchanged old new l.mark }) ls

pub on_swapped : (old new m : Mark) (ls : List Live) → OnLive m (swapped old new ls) → Exchanged old new m ls
on_swapped old new m [] h = absurd h
on_swapped old new m (l ∷ ls) (inl e) = exchange_one old new m l.mark ls l.unit e
on_swapped old new m (l ∷ ls) (inr h) = more (on_swapped old new m ls h)
  where
    more : Exchanged old new m ls → Exchanged old new m (l ∷ ls)
    more (inl k) = inl (inr k.0, k.1)
    more (inr k) = inr (k.0, inr k.1)

first_swapped : (old new m n : Mark) (ls : List Live) → exchanged old new (Some m) ≡ Some n → mark_at ls 0 ≡ Some m → mark_at (swapped old new ls) 0 ≡ Some n
first_swapped old new m n [] e h = cc
first_swapped old new m n (l ∷ ls) e h = ap (exchanged old new) h ∙ e

-- an exchange for a mark that no cell bears keeps cells together
pub swapped_together : (old new : Mark) (ls : List Live) → (OnLive new ls → ⊥) → TogetherLives ls → TogetherLives (swapped old new ls)
swapped_together old new [] free h = tt
swapped_together old new (l ∷ ls) free h = (follow l.mark refl, swapped_together old new ls (λ k. free (inr k)) h.1)
  where
    of_old : l.mark ≡ Some old → (mark_at (swapped old new ls) 0 ≡ Some new) ⊎ (OnLive new (swapped old new ls) → ⊥)
    of_old e = go (h.0 old e)
      where
        none : (OnLive old ls → ⊥) → Exchanged old new new ls → ⊥
        none k (inl a) = free (inr a.0)
        none k (inr a) = k a.1

        go : (mark_at ls 0 ≡ Some old) ⊎ (OnLive old ls → ⊥) → (mark_at (swapped old new ls) 0 ≡ Some new) ⊎ (OnLive new (swapped old new ls) → ⊥)
        go (inl a) = inl (first_swapped old new old new ls (exchange_hit old new) a)
        go (inr a) = inr (λ k. none a (on_swapped old new new ls k))

    of_other : (n : Mark) → l.mark ≡ Some n → (n ≡ old → ⊥) → (mark_at (swapped old new ls) 0 ≡ Some n) ⊎ (OnLive n (swapped old new ls) → ⊥)
    of_other n e differ = go (h.0 n e)
      where
        none : (OnLive n ls → ⊥) → Exchanged old new n ls → ⊥
        none k (inl a) = k a.0
        none k (inr a) = free (inl (e ∙ ap (λ (x : Mark). Some x) a.0))

        go : (mark_at ls 0 ≡ Some n) ⊎ (OnLive n ls → ⊥) → (mark_at (swapped old new ls) 0 ≡ Some n) ⊎ (OnLive n (swapped old new ls) → ⊥)
        go (inl a) = inl (first_swapped old new n n ls (exchange_miss old new n differ) a)
        go (inr a) = inr (λ k. none a (on_swapped old new n ls k))

    by_test : (n m : Mark) → l.mark ≡ Some n → exchanged old new (Some n) ≡ Some m → (same_mark n old ≡ true) ⊎ (same_mark n old ≡ false) → (mark_at (swapped old new ls) 0 ≡ Some m) ⊎ (OnLive m (swapped old new ls) → ⊥)
    by_test n m e made (inl t) =
        let is : n ≡ old = same_mark_is n old t in
        let to : new ≡ m = same_Some new m (sym (ap (λ (b : Bool). if b then Some new else Some n) t) ∙ made) in
        subst (λ (x : Mark). (mark_at (swapped old new ls) 0 ≡ Some x) ⊎ (OnLive x (swapped old new ls) → ⊥)) to (of_old (e ∙ ap (λ (x : Mark). Some x) is))
    by_test n m e made (inr f) =
        let to : n ≡ m = same_Some n m (sym (ap (λ (b : Bool). if b then Some new else Some n) f) ∙ made) in
        subst (λ (x : Mark). (mark_at (swapped old new ls) 0 ≡ Some x) ⊎ (OnLive x (swapped old new ls) → ⊥)) to
        (of_other n e (λ s. let t : same_mark n old ≡ true = ap (λ (x : Mark). same_mark x old) s ∙ same_mark_self old in cc))

    follow : (o : Option Mark) → l.mark ≡ o → (m : Mark) → exchanged old new l.mark ≡ Some m → (mark_at (swapped old new ls) 0 ≡ Some m) ⊎ (OnLive m (swapped old new ls) → ⊥)
    follow None is m e = let no_mark : exchanged old new l.mark ≡ None = ap (exchanged old new) is in cc
    follow (Some n) is m e = by_test n m is (sym (ap (exchanged old new) is) ∙ e) (cases_Bool (same_mark n old))

-- cells behind others taken for those
same_head : (F : List Live) (c : Live) (X Y : List Live) → mark_at (F ++ (c ∷ X)) 0 ≡ mark_at (F ++ (c ∷ Y)) 0
same_head [] c X Y = refl
same_head (l ∷ F) c X Y = refl

pub together_behind : (F : List Live) (c : Live) (X Y : List Live) → ((m : Mark) → OnLive m (F ++ (c ∷ [])) → OnLive m Y → (c.mark ≡ Some m) ⊎ OnLive m X) → TogetherLives (F ++ (c ∷ X)) → TogetherLives (c ∷ Y) → TogetherLives (F ++ (c ∷ Y))
together_behind [] c X Y f h k = k
together_behind (l ∷ F) c X Y f h k = (follow, together_behind F c X Y (λ m on. f m (inr on)) h.1 k)
  where
    from_end : (m : Mark) → (OnLive m (F ++ (c ∷ X)) → ⊥) → (c.mark ≡ Some m) ⊎ OnLive m X → ⊥
    from_end m free (inl e) = free (on_right m F (c ∷ X) (inl e))
    from_end m free (inr on) = free (on_right m F (c ∷ X) (inr on))

    none : (m : Mark) → l.mark ≡ Some m → (OnLive m (F ++ (c ∷ X)) → ⊥) → OnLive m F ⊎ OnLive m (c ∷ Y) → ⊥
    none m e free (inl on) = free (on_left m F (c ∷ X) on)
    none m e free (inr (inl on)) = free (on_right m F (c ∷ X) (inl on))
    none m e free (inr (inr on)) = from_end m free (f m (inl e) on)

    go : (m : Mark) → l.mark ≡ Some m → (mark_at (F ++ (c ∷ X)) 0 ≡ Some m) ⊎ (OnLive m (F ++ (c ∷ X)) → ⊥) → (mark_at (F ++ (c ∷ Y)) 0 ≡ Some m) ⊎ (OnLive m (F ++ (c ∷ Y)) → ⊥)
    go m e (inl a) = inl (same_head F c Y X ∙ a)
    go m e (inr free) = inr (λ on. none m e free (on_cases m F (c ∷ Y) on))

    follow : (m : Mark) → l.mark ≡ Some m → (mark_at (F ++ (c ∷ Y)) 0 ≡ Some m) ⊎ (OnLive m (F ++ (c ∷ Y)) → ⊥)
    follow m e = go m e (h.0 m e)

pub together_last : (F X : List Live) → TogetherLives (F ++ X) → TogetherLives X
together_last [] X h = h
together_last (l ∷ F) X h = together_last F X h.1

-- new cells of one mark before others
pub new_together : (us : List ℕ) (by : Option Mark) (R : List Live) → TogetherLives R → ((m : Mark) → by ≡ Some m → (mark_at R 0 ≡ Some m) ⊎ (OnLive m R → ⊥)) → TogetherLives (new_lives us by ++ R)
new_together [] by R h f = h
new_together (u ∷ []) by R h f = (f, h)
new_together (u ∷ v ∷ vs) by R h f = ((λ m e. inl e), new_together (v ∷ vs) by R h f)

-- some cells taken out behind one
pub together_without : (c : Live) (O R : List Live) → TogetherLives (c ∷ (O ++ R)) → TogetherLives (c ∷ R)
together_without c [] R h = h
together_without c (o ∷ O) R h = together_without c O R (follow, h.1.1)
  where
    go : (m : Mark) → c.mark ≡ Some m → (o.mark ≡ Some m) ⊎ (OnLive m (o ∷ (O ++ R)) → ⊥) → (mark_at (O ++ R) 0 ≡ Some m) ⊎ (OnLive m (O ++ R) → ⊥)
    go m e (inl a) = h.1.0 m a
    go m e (inr free) = inr (λ on. free (inr on))

    follow : (m : Mark) → c.mark ≡ Some m → (mark_at (O ++ R) 0 ≡ Some m) ⊎ (OnLive m (O ++ R) → ⊥)
    follow m e = go m e (h.0 m e)
