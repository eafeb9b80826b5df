-- Inserts and deletes keep the live cells of each mark together.
use Rattle.std.proofs.Common.{◌≡◌, ℕ, zero, suc, ◌+◌, ◌<◌, ◌≤◌, Bool, true, false, List, [], ◌∷◌, ◌++◌, refl, ap, ap₂, sym, ◌∙◌, length, arith, append_assoc, take, drop, Option, Some, None, subst, ◌⊎◌, inl, inr, take-append-drop}
use Rattle.std.specs.Prelude.{◌&&◌, not, if◌then◌else◌}
use Rattle.std.specs.Str.{bytes_eq}
use Rattle.std.proofs.lemmas.Bool.{cases_Bool, and_parts}
use Rattle.std.proofs.lemmas.List.{drop-drop}
use Rattle.ranges_tracker.specs.Cells.{Mark, Live, Stamp, mark_at, mark_before, bears, own, first_of, chosen, torn, renewed, remarked, new_lives, fresh_mark}
use Rattle.ranges_tracker.specs.Steady.{OlderMark, OlderLives}
use Rattle.ranges_tracker.specs.WellFormed.{OnLive, TogetherLives}
use Rattle.ranges_tracker.proofs.Packing.{same_mark_is, same_mark_self}
use Rattle.ranges_tracker.proofs.Bearing.{on_left, on_right, on_cases, on_first, on_new, Exchanged, on_swapped, swapped, swapped_together, together_behind, together_last, new_together, together_without}

-- the mark of new cells is that of a neighbour, or fresh
abbrev pub ChosenFrom : Option Mark → Option Mark → Stamp → ℕ → Mark → ℕ → Type 0
ChosenFrom before after stamp k m fresh = (before ≡ Some m) ⊎ ((after ≡ Some m) ⊎ ((m ≡ fresh_mark stamp k) × (fresh ≡ 1)))

pub own_is : (user : List ℕ) (o : Option Mark) (m : Mark) → own user o ≡ Some m → o ≡ Some m
own_is user None m e = cc
own_is user (Some n) m e = go (cases_Bool (bytes_eq user n.user))
  where
    go : (bytes_eq user n.user ≡ true) ⊎ (bytes_eq user n.user ≡ false) → Some n ≡ Some m
    go (inl t) = sym (ap (λ (b : Bool). if b then Some n else None) t) ∙ e
    go (inr f) = let none : None ≡ Some m = sym (ap (λ (b : Bool). if b then Some n else None) f) ∙ e in cc

first_from : (x y before after : Option Mark) (stamp : Stamp) (k : ℕ) (m : Mark) → ((n : Mark) → x ≡ Some n → before ≡ Some n) → ((n : Mark) → y ≡ Some n → after ≡ Some n) →
    (first_of x y (fresh_mark stamp k)).mark ≡ Some m → ChosenFrom before after stamp k m (first_of x y (fresh_mark stamp k)).fresh
first_from (Some n) y before after stamp k m f g e = inl (f m e)
first_from None (Some n) before after stamp k m f g e = inr (inl (g m e))
first_from None None before after stamp k m f g e = inr (inr (sym (some_is e), refl))
  where
    some_is : Some (fresh_mark stamp k) ≡ Some m → fresh_mark stamp k ≡ m
    some_is s = cc

pub chosen_from : (before after : Option Mark) (stamp : Stamp) (k : ℕ) (m : Mark) → (chosen before after stamp k).mark ≡ Some m → ChosenFrom before after stamp k m (chosen before after stamp k).fresh
chosen_from before after stamp k m e = go stamp.track refl
  where
    go : (b : Bool) → stamp.track ≡ b → ChosenFrom before after stamp k m (chosen before after stamp k).fresh
    go true t =
        let is : chosen before after stamp k ≡ first_of (own stamp.user before) (own stamp.user after) (fresh_mark stamp k) = ap (λ (b : Bool). if b then first_of (own stamp.user before) (own stamp.user after) (fresh_mark stamp k) else record { mark = None; fresh = 0 }) t in
        subst (λ x. ChosenFrom before after stamp k m x.fresh) (sym is)
        (first_from (own stamp.user before) (own stamp.user after) before after stamp k m (λ n. own_is stamp.user before n) (λ n. own_is stamp.user after n) (sym (ap (λ x. x.mark) is) ∙ e))
    go false t =
        let is : (chosen before after stamp k).mark ≡ None = ap (λ (b : Bool). (if b then first_of (own stamp.user before) (own stamp.user after) (fresh_mark stamp k) else record { mark = None; fresh = 0 }).mark) t in
        cc

-- a torn mark stands on both sides, and the new cells don't bear it
pub record TornFrom (before after new : Option Mark) (old : Mark) : Type 0 where
  pub before_is : before ≡ Some old
  pub after_is : after ≡ Some old
  pub other : new ≡ Some old → ⊥

pub bears_is : (o : Option Mark) (m : Mark) → bears o m ≡ true → o ≡ Some m
bears_is None m e = cc
bears_is (Some n) m e = ap (λ (x : Mark). Some x) (same_mark_is n m e)

bears_some : (o : Option Mark) (m : Mark) → o ≡ Some m → bears o m ≡ true
bears_some o m e = ap (λ (x : Option Mark). bears x m) e ∙ same_mark_self m

not_true : (b : Bool) → not b ≡ true → b ≡ true → ⊥
not_true true e f = cc
not_true false e f = cc

pub torn_from : (before after new : Option Mark) (old : Mark) → torn before after new ≡ Some old → TornFrom before after new old
torn_from None after new old e = cc
torn_from (Some m) after new old e = go (cases_Bool (bears after m && not (bears new m)))
  where
    go : ((bears after m && not (bears new m)) ≡ true) ⊎ ((bears after m && not (bears new m)) ≡ false) → TornFrom (Some m) after new old
    go (inl t) =
        let is : Some m ≡ Some old = sym (ap (λ (b : Bool). if b then Some m else None) t) ∙ e in
        let two = and_parts (bears after m) (not (bears new m)) t in
        record { before_is = is; after_is = bears_is after m two.0 ∙ is; other = λ s. not_true (bears new m) two.1 (bears_some new m (s ∙ sym is)) }
    go (inr f) = let none : None ≡ Some old = sym (ap (λ (b : Bool). if b then Some m else None) f) ∙ e in cc

-- where none is torn, cells between two of a mark bear it
pub untorn_from : (before after new : Option Mark) (m : Mark) → torn before after new ≡ None → before ≡ Some m → after ≡ Some m → new ≡ Some m
untorn_from None after new m e b a = cc
untorn_from (Some n) after new m e b a = go (cases_Bool (bears new n))
  where
    go : (bears new n ≡ true) ⊎ (bears new n ≡ false) → new ≡ Some m
    go (inl t) = bears_is new n t ∙ b
    go (inr f) =
        let t : bears after n ≡ true = bears_some after n (a ∙ sym b) in
        let some : torn (Some n) after new ≡ Some n = ap₂ (λ (x y : Bool). if x && not y then Some n else None) t f in
        cc

-- cells behind one, after new ones come between
record Behind (c : Live) (R S : List Live) (by : Option Mark) : Type 0 where
  pub next : (m : Mark) → c.mark ≡ Some m → (by ≡ Some m → ⊥) → OnLive m S → ⊥
  pub first : (m : Mark) → by ≡ Some m → (mark_at S 0 ≡ Some m) ⊎ (OnLive m S → ⊥)
  pub none : (m : Mark) → c.mark ≡ Some m → by ≡ Some m → (mark_at S 0 ≡ Some m) ⊎ (OnLive m S → ⊥)
  pub rest : TogetherLives S

cases_some : (o : Option Mark) (m : Mark) → (o ≡ Some m) ⊎ (o ≡ Some m → ⊥)
cases_some o m = go (cases_Bool (bears o m))
  where
    go : (bears o m ≡ true) ⊎ (bears o m ≡ false) → (o ≡ Some m) ⊎ (o ≡ Some m → ⊥)
    go (inl t) = inl (bears_is o m t)
    go (inr f) = inr (λ e. let t : bears o m ≡ true = bears_some o m e in cc)

behind_new : (c : Live) (us : List ℕ) (by : Option Mark) (R S : List Live) → Behind c R S by → TogetherLives (c ∷ (new_lives us by ++ S))
behind_new c us by R S b = (follow, new_together us by S b.rest b.first)
  where
    none : (vs : List ℕ) (m : Mark) → c.mark ≡ Some m → (by ≡ Some m → ⊥) → OnLive m (new_lives vs by) ⊎ OnLive m S → ⊥
    none vs m e not_by (inl on) = not_by (on_new m vs by on)
    none vs m e not_by (inr on) = b.next m e not_by on

    starts : (vs : List ℕ) (m : Mark) → c.mark ≡ Some m → by ≡ Some m → (mark_at (new_lives vs by ++ S) 0 ≡ Some m) ⊎ (OnLive m (new_lives vs by ++ S) → ⊥)
    starts [] m e is = b.none m e is
    starts (v ∷ vs) m e is = inl is

    go : (m : Mark) → c.mark ≡ Some m → (by ≡ Some m) ⊎ (by ≡ Some m → ⊥) → (mark_at (new_lives us by ++ S) 0 ≡ Some m) ⊎ (OnLive m (new_lives us by ++ S) → ⊥)
    go m e (inl is) = starts us m e is
    go m e (inr not_by) = inr (λ on. none us m e not_by (on_cases m (new_lives us by) S on))

    follow : (m : Mark) → c.mark ≡ Some m → (mark_at (new_lives us by ++ S) 0 ≡ Some m) ⊎ (OnLive m (new_lives us by ++ S) → ⊥)
    follow m e = go m e (cases_some by m)

-- a mark of this update from a number on, and that no cell bears one
pub older_on : (v k : ℕ) (m : Mark) (ls : List Live) → OlderLives v k ls → OnLive m ls → (m.version ≤ v) × (m.version ≡ v → m.k < k)
older_on v k m [] h on = absurd on
older_on v k m (l ∷ ls) h (inl e) = subst (λ (o : Option Mark). OlderMark v k o) e h.0
older_on v k m (l ∷ ls) h (inr on) = older_on v k m ls h.1 on

pub not_on : (v k : ℕ) (m : Mark) (ls : List Live) → OlderLives v k ls → m.version ≡ v → k ≤ m.k → OnLive m ls → ⊥
not_on v k m ls h e le on = let lt : m.k < k = (older_on v k m ls h on).1 e in absurd (omega arith)

-- the cells of a row around a place
pub record Around (ls : List Live) (at : ℕ) : Type 0 where
  pub front : List Live
  pub last : Live
  pub is : take at ls ≡ front ++ (last ∷ [])
  pub before : mark_before ls at ≡ last.mark

pub around : (ls : List Live) (at : ℕ) → suc at ≤ length ls → Around ls (suc at)
around [] at h = absurd (omega arith)
around (l ∷ ls) zero h = record { front = []; last = l; is = refl; before = refl }
around (l ∷ ls) (suc at) h =
    let a : Around ls (suc at) = around ls at (omega arith) in
    record { front = l ∷ a.front; last = a.last; is = ap (λ (x : List Live). l ∷ x) a.is; before = a.before }

pub at_drop : (ls : List Live) (at : ℕ) → mark_at (drop at ls) 0 ≡ mark_at ls at
at_drop ls zero = refl
at_drop [] (suc at) = refl
at_drop (l ∷ ls) (suc at) = at_drop ls at

-- what is known where new cells come between front and rest
record Coming (F : List Live) (c : Live) (R : List Live) (by : Option Mark) (stamp : Stamp) (k fresh : ℕ) : Type 0 where
  pub together : TogetherLives (F ++ (c ∷ R))
  pub older : OlderLives stamp.version k (F ++ (c ∷ R))
  pub from : (m : Mark) → by ≡ Some m → ChosenFrom c.mark (mark_at R 0) stamp k m fresh

come_from : (F : List Live) (c : Live) (R : List Live) (by : Option Mark) (stamp : Stamp) (k fresh : ℕ) → Coming F c R by stamp k fresh → (m : Mark) → OnLive m (F ++ (c ∷ [])) → by ≡ Some m → (c.mark ≡ Some m) ⊎ OnLive m R
come_from F c R by stamp k fresh h m on e = go (h.from m e)
  where
    whole : OnLive m ((F ++ (c ∷ [])) ++ R) → OnLive m (F ++ (c ∷ R))
    whole o = subst (λ (x : List Live). OnLive m x) (append_assoc F (c ∷ []) R) o

    go : ChosenFrom c.mark (mark_at R 0) stamp k m fresh → (c.mark ≡ Some m) ⊎ OnLive m R
    go (inl b) = inl b
    go (inr (inl a)) = inr (on_first m R a)
    go (inr (inr f)) = absurd (not_on stamp.version k m (F ++ (c ∷ R)) h.older (ap (λ (x : Mark). x.version) f.0) (omega (arith, ap (λ (x : Mark). x.k) f.0)) (whole (on_left m (F ++ (c ∷ [])) R on)))

fresh_off : (F : List Live) (c : Live) (R : List Live) (by : Option Mark) (stamp : Stamp) (k fresh : ℕ) → Coming F c R by stamp k fresh → (m : Mark) → m.version ≡ stamp.version → k ≤ m.k → OnLive m (c ∷ R) → ⊥
fresh_off F c R by stamp k fresh h m e le on = not_on stamp.version k m (F ++ (c ∷ R)) h.older e le (on_right m F (c ∷ R) on)

-- new cells where no mark is torn
whole_together : (F : List Live) (c : Live) (R : List Live) (us : List ℕ) (by : Option Mark) (stamp : Stamp) (k fresh : ℕ) → Coming F c R by stamp k fresh →
    ((m : Mark) → c.mark ≡ Some m → mark_at R 0 ≡ Some m → by ≡ Some m) → TogetherLives (F ++ (c ∷ (new_lives us by ++ R)))
whole_together F c R us by stamp k fresh h untorn = together_behind F c R (new_lives us by ++ R) known h.together (behind_new c us by R R (record { next = next; first = first; none = λ m e is. first m is; rest = tail.1 }))
  where
    tail : TogetherLives (c ∷ R)
    tail = together_last F (c ∷ R) h.together

    known_by : (m : Mark) → OnLive m (F ++ (c ∷ [])) → OnLive m (new_lives us by) ⊎ OnLive m R → (c.mark ≡ Some m) ⊎ OnLive m R
    known_by m on (inl new) = come_from F c R by stamp k fresh h m on (on_new m us by new)
    known_by m on (inr old) = inr old

    known : (m : Mark) → OnLive m (F ++ (c ∷ [])) → OnLive m (new_lives us by ++ R) → (c.mark ≡ Some m) ⊎ OnLive m R
    known m on new = known_by m on (on_cases m (new_lives us by) R new)

    next_by : (m : Mark) → c.mark ≡ Some m → (by ≡ Some m → ⊥) → (mark_at R 0 ≡ Some m) ⊎ (OnLive m R → ⊥) → OnLive m R → ⊥
    next_by m e not_by (inl a) on = not_by (untorn m e a)
    next_by m e not_by (inr off) on = off on

    next : (m : Mark) → c.mark ≡ Some m → (by ≡ Some m → ⊥) → OnLive m R → ⊥
    next m e not_by on = next_by m e not_by (tail.0 m e) on

    first_by : (m : Mark) → ChosenFrom c.mark (mark_at R 0) stamp k m fresh → (mark_at R 0 ≡ Some m) ⊎ (OnLive m R → ⊥)
    first_by m (inl b) = tail.0 m b
    first_by m (inr (inl a)) = inl a
    first_by m (inr (inr f)) = inr (λ on. fresh_off F c R by stamp k fresh h m (ap (λ (x : Mark). x.version) f.0) (omega (arith, ap (λ (x : Mark). x.k) f.0)) (inr on))

    first : (m : Mark) → by ≡ Some m → (mark_at R 0 ≡ Some m) ⊎ (OnLive m R → ⊥)
    first m is = first_by m (h.from m is)

-- new cells that tear a mark
torn_together : (F : List Live) (c : Live) (R : List Live) (us : List ℕ) (by : Option Mark) (old : Mark) (stamp : Stamp) (k fresh : ℕ) → Coming F c R by stamp k fresh → TornFrom c.mark (mark_at R 0) by old →
    TogetherLives (F ++ (c ∷ (new_lives us by ++ swapped old (renewed old stamp (k + fresh)) R)))
torn_together F c R us by old stamp k fresh h t = together_behind F c R (new_lives us by ++ (swapped old (renewed old stamp (k + fresh)) R)) known h.together (behind_new c us by R (swapped old (renewed old stamp (k + fresh)) R) (record { next = next; first = first; none = λ m e is. first m is; rest = swapped_together old (renewed old stamp (k + fresh)) R (λ on. new_off (inr on)) tail.1 }))
  where
    tail : TogetherLives (c ∷ R)
    tail = together_last F (c ∷ R) h.together

    new_off : OnLive (renewed old stamp (k + fresh)) (c ∷ R) → ⊥
    new_off on = fresh_off F c R by stamp k fresh h (renewed old stamp (k + fresh)) refl (omega arith) on

    some_is : (m n : Mark) → Some m ≡ Some n → m ≡ n
    some_is m n s = cc

    of_swapped : (m : Mark) → OnLive m (F ++ (c ∷ [])) → Exchanged old (renewed old stamp (k + fresh)) m R → (c.mark ≡ Some m) ⊎ OnLive m R
    of_swapped m on (inl a) = inr a.0
    of_swapped m on (inr a) =
        absurd (not_on stamp.version k m (F ++ (c ∷ R)) h.older (ap (λ (x : Mark). x.version) a.0) (omega (arith, ap (λ (x : Mark). x.k) a.0)) (subst (λ (x : List Live). OnLive m x) (append_assoc F (c ∷ []) R) (on_left m (F ++ (c ∷ [])) R on)))

    known_by : (m : Mark) → OnLive m (F ++ (c ∷ [])) → OnLive m (new_lives us by) ⊎ OnLive m (swapped old (renewed old stamp (k + fresh)) R) → (c.mark ≡ Some m) ⊎ OnLive m R
    known_by m on (inl made) = come_from F c R by stamp k fresh h m on (on_new m us by made)
    known_by m on (inr kept) = of_swapped m on (on_swapped old (renewed old stamp (k + fresh)) m R kept)

    known : (m : Mark) → OnLive m (F ++ (c ∷ [])) → OnLive m (new_lives us by ++ (swapped old (renewed old stamp (k + fresh)) R)) → (c.mark ≡ Some m) ⊎ OnLive m R
    known m on made = known_by m on (on_cases m (new_lives us by) (swapped old (renewed old stamp (k + fresh)) R) made)

    old_off : Exchanged old (renewed old stamp (k + fresh)) old R → ⊥
    old_off (inl a) = a.1 refl
    old_off (inr a) = new_off (inl (t.before_is ∙ ap (λ (x : Mark). Some x) a.0))

    next : (m : Mark) → c.mark ≡ Some m → (by ≡ Some m → ⊥) → OnLive m (swapped old (renewed old stamp (k + fresh)) R) → ⊥
    next m e not_by on =
        let is : m ≡ old = some_is m old (sym e ∙ t.before_is) in
        old_off (on_swapped old (renewed old stamp (k + fresh)) old R (subst (λ (x : Mark). OnLive x (swapped old (renewed old stamp (k + fresh)) R)) is on))

    fresh_on : (m : Mark) → m ≡ fresh_mark stamp k → fresh ≡ 1 → Exchanged old (renewed old stamp (k + fresh)) m R → ⊥
    fresh_on m f one (inl a) = fresh_off F c R by stamp k fresh h m (ap (λ (x : Mark). x.version) f) (omega (arith, ap (λ (x : Mark). x.k) f)) (inr a.0)
    fresh_on m f one (inr a) = absurd (omega (arith, ap (λ (x : Mark). x.k) f, ap (λ (x : Mark). x.k) a.0))

    first_by : (m : Mark) → by ≡ Some m → ChosenFrom c.mark (mark_at R 0) stamp k m fresh → (mark_at (swapped old (renewed old stamp (k + fresh)) R) 0 ≡ Some m) ⊎ (OnLive m (swapped old (renewed old stamp (k + fresh)) R) → ⊥)
    first_by m is (inl b) = absurd (t.other (is ∙ sym b ∙ t.before_is))
    first_by m is (inr (inl a)) = absurd (t.other (is ∙ sym a ∙ t.after_is))
    first_by m is (inr (inr f)) = inr (λ on. fresh_on m f.0 f.1 (on_swapped old (renewed old stamp (k + fresh)) m R on))

    first : (m : Mark) → by ≡ Some m → (mark_at (swapped old (renewed old stamp (k + fresh)) R) 0 ≡ Some m) ⊎ (OnLive m (swapped old (renewed old stamp (k + fresh)) R) → ⊥)
    first m is = first_by m is (h.from m is)

-- an insert at the start of the text
start_together : (R : List Live) (us : List ℕ) (stamp : Stamp) (k : ℕ) → TogetherLives R → OlderLives stamp.version k R → TogetherLives (new_lives us (chosen None (mark_at R 0) stamp k).mark ++ R)
start_together R us stamp k h older = new_together us (chosen None (mark_at R 0) stamp k).mark R h (λ m e. go m (chosen_from None (mark_at R 0) stamp k m e))
  where
    go : (m : Mark) → ChosenFrom None (mark_at R 0) stamp k m (chosen None (mark_at R 0) stamp k).fresh → (mark_at R 0 ≡ Some m) ⊎ (OnLive m R → ⊥)
    go m (inl b) = cc
    go m (inr (inl a)) = inl a
    go m (inr (inr f)) = inr (λ on. not_on stamp.version k m R older (ap (λ (x : Mark). x.version) f.0) (omega (arith, ap (λ (x : Mark). x.k) f.0)) on)

inside_together : (F : List Live) (c : Live) (R : List Live) (us : List ℕ) (stamp : Stamp) (k : ℕ) (o : Option Mark) → TogetherLives (F ++ (c ∷ R)) → OlderLives stamp.version k (F ++ (c ∷ R)) →
    torn c.mark (mark_at R 0) (chosen c.mark (mark_at R 0) stamp k).mark ≡ o →
    TogetherLives (F ++ (c ∷ (new_lives us (chosen c.mark (mark_at R 0) stamp k).mark ++ remarked o stamp (k + (chosen c.mark (mark_at R 0) stamp k).fresh) R)))
inside_together F c R us stamp k None h older e =
    let by = chosen c.mark (mark_at R 0) stamp k in
    whole_together F c R us by.mark stamp k by.fresh (record { together = h; older = older; from = chosen_from c.mark (mark_at R 0) stamp k }) (λ m b a. untorn_from c.mark (mark_at R 0) by.mark m e b a)
inside_together F c R us stamp k (Some old) h older e =
    let by = chosen c.mark (mark_at R 0) stamp k in
    torn_together F c R us by.mark old stamp k by.fresh (record { together = h; older = older; from = chosen_from c.mark (mark_at R 0) stamp k }) (torn_from c.mark (mark_at R 0) by.mark old e)

-- an insert keeps the live cells of each mark together
pub inserted_together : (ls : List Live) (at : ℕ) (us : List ℕ) (stamp : Stamp) (k : ℕ) → at ≤ length ls → TogetherLives ls → OlderLives stamp.version k ls →
    TogetherLives (take at ls ++ (new_lives us (chosen (mark_before ls at) (mark_at ls at) stamp k).mark ++ remarked (torn (mark_before ls at) (mark_at ls at) (chosen (mark_before ls at) (mark_at ls at) stamp k).mark) stamp (k + (chosen (mark_before ls at) (mark_at ls at) stamp k).fresh) (drop at ls)))
inserted_together ls zero us stamp k le h older = subst (λ (o : Option Mark). TogetherLives (new_lives us (chosen None o stamp k).mark ++ ls)) (at_drop ls zero) (start_together ls us stamp k h older)
inserted_together ls (suc at) us stamp k le h older =
    let a : Around ls (suc at) = around ls at le in
    let R = drop (suc at) ls in
    let whole : ls ≡ a.front ++ (a.last ∷ R) = sym (take-append-drop (suc at) ls) ∙ ap (λ (x : List Live). x ++ R) a.is ∙ append_assoc a.front (a.last ∷ []) R in
    let made = λ (b o : Option Mark). new_lives us (chosen b o stamp k).mark ++ remarked (torn b o (chosen b o stamp k).mark) stamp (k + (chosen b o stamp k).fresh) R in
    let here : TogetherLives (a.front ++ (a.last ∷ made a.last.mark (mark_at R 0))) = inside_together a.front a.last R us stamp k _ (subst (λ (x : List Live). TogetherLives x) whole h) (subst (λ (x : List Live). OlderLives stamp.version k x) whole older) refl in
    let same : take (suc at) ls ++ made (mark_before ls (suc at)) (mark_at ls (suc at)) ≡ a.front ++ (a.last ∷ made a.last.mark (mark_at R 0)) =
    ap₂ (λ (x y : List Live). x ++ y) a.is (ap₂ made a.before (sym (at_drop ls (suc at)))) ∙ append_assoc a.front (a.last ∷ []) (made a.last.mark (mark_at R 0)) in
    subst (λ (x : List Live). TogetherLives x) (sym same) here

-- and so does a delete
pub deleted_together : (ls : List Live) (at n : ℕ) → at + n ≤ length ls → TogetherLives ls → TogetherLives (take at ls ++ drop (at + n) ls)
deleted_together ls zero n le h =
    let whole : ls ≡ take n ls ++ drop n ls = sym (take-append-drop n ls) in
    subst (λ (q : ℕ). TogetherLives (drop q ls)) (omega arith) (together_last (take n ls) (drop n ls) (subst (λ (x : List Live). TogetherLives x) whole h))
deleted_together ls (suc at) n le h =
    let a : Around ls (suc at) = around ls at (omega arith) in
    let R = drop (suc at) ls in
    let O = take n R in
    let S = drop n R in
    let whole : ls ≡ a.front ++ (a.last ∷ (O ++ S)) = sym (take-append-drop (suc at) ls) ∙ ap₂ (λ (x y : List Live). x ++ y) a.is (sym (take-append-drop n R)) ∙ append_assoc a.front (a.last ∷ []) (O ++ S) in
    let all : TogetherLives (a.front ++ (a.last ∷ (O ++ S))) = subst (λ (x : List Live). TogetherLives x) whole h in
    let end : TogetherLives (a.last ∷ S) = together_without a.last O S (together_last a.front (a.last ∷ (O ++ S)) all) in
    let here : TogetherLives (a.front ++ (a.last ∷ S)) = together_behind a.front a.last (O ++ S) S (λ m on y. inr (on_right m O S y)) all end in
    let same : take (suc at) ls ++ drop (suc at + n) ls ≡ a.front ++ (a.last ∷ S) = ap₂ (λ (x y : List Live). x ++ y) a.is (sym (drop-drop n (suc at) ls)) ∙ append_assoc a.front (a.last ∷ []) S in
    subst (λ (x : List Live). TogetherLives x) (sym same) here
