-- Each step of the queue keeps its rule.
use Rattle.std.proofs.Common.{◌≡◌, ◌≢◌, ◌⊎◌, ℕ, zero, suc, ◌+◌, ◌<◌, List, [], ◌∷◌, ◌++◌, length, set, map, All, get_or, Bool, true, false, cond, refl, sym, ap, ◌∙◌, subst, inl, inr, ⊎_elim, arith, eqb, eq-eqb, ne_eqb, append-nil, append_assoc, length-append}
use mathlib.Core.Option.{some-injective, some-ne-none}
use Rattle.std.specs.Prelude.{filter}
use Rattle.std.proofs.lemmas.List.{length-set, map_push}
use Rattle.std.proofs.lemmas.List.Elements.{All-append, All-nil, All-cons}
use Rattle.crossbeam_queue.specs.Fifo.{Pushes, Pops, Forks, Learns}
use Rattle.crossbeam_queue.proofs.Lists.{at_set}
use Rattle.wake_queue.specs.declared.rule.Done.{Done}
use Rattle.wake_queue.specs.Wakes.{done, puts, takes, found, done_by, At, IsFifo, Kept, Was, WasFirst, Steps}

-- pushes or pops, each with its pass
abbrev Log : Type 0
Log = List (ℕ × ℕ)

all_map : {X : Type 0} (P Q : X → Type 0) (xs : List X) → ((x : X) → P x → Q x) → All P xs → All Q xs
all_map P Q xs f all k d h = f (get_or xs k d) (all k d h)

within : (l : List Done) (k : ℕ) (v : Done) → At l k v → k < length l
within [] k v e = absurd (some-ne-none v (sym e))
within (x ∷ xs) zero v e = omega arith
within (x ∷ xs) (suc k) v e = let r = within xs k v e in omega (arith, r)

done_by-push : (k : ℕ) (log : Log) (x : ℕ × ℕ) → done_by k (log ++ x ∷ []) ≡ done_by k log ++ cond (eqb x.0 k) (x.1 ∷ []) []
done_by-push k [] x = by (eqb x.0 k)
  where
    by : (b : Bool) → map (λ (y : ℕ × ℕ). y.1) (cond b (x ∷ []) []) ≡ cond b (x.1 ∷ []) []
    by true = refl
    by false = refl
done_by-push k (y ∷ ys) x = by (eqb y.0 k) (done_by-push k ys x)
  where
    by : (b : Bool) → done_by k (ys ++ x ∷ []) ≡ done_by k ys ++ cond (eqb x.0 k) (x.1 ∷ []) []
        → map (λ (z : ℕ × ℕ). z.1) (cond b (y ∷ filter (λ (z : ℕ × ℕ). eqb z.0 k) (ys ++ x ∷ [])) (filter (λ (z : ℕ × ℕ). eqb z.0 k) (ys ++ x ∷ [])))
        ≡ map (λ (z : ℕ × ℕ). z.1) (cond b (y ∷ filter (λ (z : ℕ × ℕ). eqb z.0 k) ys) (filter (λ (z : ℕ × ℕ). eqb z.0 k) ys)) ++ cond (eqb x.0 k) (x.1 ∷ []) []
    by true rest = ap (λ l. y.1 ∷ l) rest
    by false rest = rest

done_by-mine : (k : ℕ) (log : Log) (x : ℕ) → done_by k (log ++ (k, x) ∷ []) ≡ done_by k log ++ x ∷ []
done_by-mine k log x = done_by-push k log (k, x) ∙ ap (λ b. done_by k log ++ cond b (x ∷ []) []) (eq-eqb k k refl)

done_by-other : (j k : ℕ) (log : Log) (x : ℕ) → j ≢ k → done_by j (log ++ (k, x) ∷ []) ≡ done_by j log
done_by-other j k log x apart = done_by-push j log (k, x) ∙ ap (λ b. done_by j log ++ cond b (x ∷ []) []) (ne_eqb k j (λ e. apart (sym e))) ∙ append-nil (done_by j log)

done_by-none : (k : ℕ) (log : Log) → All (λ (x : ℕ × ℕ). x.0 < k) log → done_by k log ≡ []
done_by-none k [] all = refl
done_by-none k (y ∷ ys) all =
    let h : eqb y.0 k ≡ false = ne_eqb y.0 k (λ e. let b = all 0 y (omega arith) in omega (arith, b, e)) in
    ap (λ b. map (λ (z : ℕ × ℕ). z.1) (cond b (y ∷ filter (λ (z : ℕ × ℕ). eqb z.0 k) ys) (filter (λ (z : ℕ × ℕ). eqb z.0 k) ys))) h
    ∙ done_by-none k ys (λ i d lt. all (suc i) d (omega arith))

each_set : (P : ℕ → Done → Type 0) (views : List Done) (id : ℕ) (w : Done) → P id w → ((j : ℕ) (u : Done) → j ≢ id → At views j u → P j u) → (j : ℕ) (u : Done) → At (set views id w) j u → P j u
each_set P views id w mine others j u e =
    ⊎_elim
    (λ (x : (j ≡ id) × (w ≡ u)). subst (λ (y : ℕ × Done). P y.0 y.1) (λ i. (sym x.0 i, x.1 i)) mine)
    (λ (x : (j ≢ id) × (At views j u)). others j u x.0 x.1)
    (at_set views id j w u e)

snoc_here : (l : List Done) (a : Done) (j : ℕ) (b : Done) → At (l ++ a ∷ []) j b → At l j b ⊎ ((j ≡ length l) × (a ≡ b))
snoc_here [] a zero b e = inr (refl, some-injective a b e)
snoc_here [] a (suc j) b e = absurd (some-ne-none b (sym e))
snoc_here (x ∷ xs) a zero b e = inl e
snoc_here (x ∷ xs) a (suc j) b e = ⊎_elim (λ t. inl t) (λ t. inr (ap suc t.0, t.1)) (snoc_here xs a j b e)

-- an empty queue
begins_fifo : IsFifo [] (done [] [] 0 ∷ [])
begins_fifo = record {
  pushes = [];
  pops = [];
  in_order = refl;
  each = λ k v e. one k v e;
  known = ((λ k d h. absurd (omega arith)), (λ k d h. absurd (omega arith)));
}
  where
    one : (k : ℕ) (v : Done) → At (done [] [] 0 ∷ []) k v → (v.pushed ≡ done_by k []) × (v.popped ≡ done_by k [])
    one zero v e = let same = some-injective (done [] [] 0) v e in ((λ i. (sym same i).pushed), (λ i. (sym same i).popped))
    one (suc k) v e = absurd (some-ne-none v (sym e))

same_length : (log : Log) (views : List Done) (id : ℕ) (w : Done) → All (λ (x : ℕ × ℕ). x.0 < length views) log → All (λ (x : ℕ × ℕ). x.0 < length (set views id w)) log
same_length log views id w all = let e = length-set views id w in all_map (λ (x : ℕ × ℕ). x.0 < length views) (λ (x : ℕ × ℕ). x.0 < length (set views id w)) log (λ x l. omega (arith, l, e)) all

-- a push
puts_fifo : (id : ℕ) (v : Done) (x : ℕ) (items : List ℕ) (views : List Done) → IsFifo items views → At views id v → IsFifo (items ++ x ∷ []) (set views id (puts v x))
puts_fifo id v x items views f at =
    let w = puts v x in
    let mine = f.each id v at in
    let more = f.pushes ++ (id, x) ∷ [] in
    let here = within views id v at in
    let long = length-set views id w in record {
      pushes = more;
      pops = f.pops;
      in_order = map_push (λ (y : ℕ × ℕ). y.1) f.pushes (id, x) ∙ ap (λ l. l ++ x ∷ []) f.in_order ∙ append_assoc (map (λ (y : ℕ × ℕ). y.1) f.pops) items (x ∷ []);
      each = each_set (λ k u. (u.pushed ≡ done_by k more) × (u.popped ≡ done_by k f.pops)) views id w
          (ap (λ l. l ++ x ∷ []) mine.0 ∙ sym (done_by-mine id f.pushes x), mine.1)
          (λ j u apart e. let m = f.each j u e in (m.0 ∙ sym (done_by-other j id f.pushes x apart), m.1));
      known = (
        All-append (λ (y : ℕ × ℕ). y.0 < length (set views id w)) f.pushes ((id, x) ∷ []) (same_length f.pushes views id w f.known.0) (All-cons (λ (y : ℕ × ℕ). y.0 < length (set views id w)) (id, x) [] (omega (arith, here, long)) (All-nil (λ (y : ℕ × ℕ). y.0 < length (set views id w)))),
        same_length f.pops views id w f.known.1,
      );
    }

-- a pop
takes_fifo : (id : ℕ) (v : Done) (x : ℕ) (items : List ℕ) (views : List Done) → IsFifo (x ∷ items) views → At views id v → IsFifo items (set views id (takes v x))
takes_fifo id v x items views f at =
    let w = takes v x in
    let mine = f.each id v at in
    let more = f.pops ++ (id, x) ∷ [] in
    let here = within views id v at in
    let long = length-set views id w in record {
      pushes = f.pushes;
      pops = more;
      in_order = f.in_order ∙ sym (append_assoc (map (λ (y : ℕ × ℕ). y.1) f.pops) (x ∷ []) items) ∙ ap (λ l. l ++ items) (sym (map_push (λ (y : ℕ × ℕ). y.1) f.pops (id, x)));
      each = each_set (λ k u. (u.pushed ≡ done_by k f.pushes) × (u.popped ≡ done_by k more)) views id w
          (mine.0, ap (λ l. l ++ x ∷ []) mine.1 ∙ sym (done_by-mine id f.pops x))
          (λ j u apart e. let m = f.each j u e in (m.0, m.1 ∙ sym (done_by-other j id f.pops x apart)));
      known = (
        same_length f.pushes views id w f.known.0,
        All-append (λ (y : ℕ × ℕ). y.0 < length (set views id w)) f.pops ((id, x) ∷ []) (same_length f.pops views id w f.known.1) (All-cons (λ (y : ℕ × ℕ). y.0 < length (set views id w)) (id, x) [] (omega (arith, here, long)) (All-nil (λ (y : ℕ × ℕ). y.0 < length (set views id w)))),
      );
    }

-- a pass more, beside one whose count may have gone up: neither matters to the order
forks_fifo : (id : ℕ) (v : Done) (count : ℕ) (items : List ℕ) (views : List Done) → IsFifo items views → At views id v → IsFifo items (set views id (done v.pushed v.popped count) ++ done [] [] 0 ∷ [])
forks_fifo id v count items views f at =
    let w = done v.pushed v.popped count in
    let vs = set views id w in
    let same = length-set views id w in
    let long = length-append vs (done [] [] 0 ∷ []) in
    let more : (log : Log) → All (λ (x : ℕ × ℕ). x.0 < length views) log → All (λ (x : ℕ × ℕ). x.0 < length (vs ++ done [] [] 0 ∷ [])) log = λ log all. all_map (λ (x : ℕ × ℕ). x.0 < length views) (λ (x : ℕ × ℕ). x.0 < length (vs ++ done [] [] 0 ∷ [])) log (λ x l. omega (arith, l, same, long)) all in record {
      pushes = f.pushes;
      pops = f.pops;
      in_order = f.in_order;
      each = λ k u e. ⊎_elim
          (λ (t : At vs k u). each_set (λ k u. (u.pushed ≡ done_by k f.pushes) × (u.popped ≡ done_by k f.pops)) views id w (f.each id v at) (λ j u _ e. f.each j u e) k u t)
          (λ (t : (k ≡ length vs) × (done [] [] 0 ≡ u)).
          let here : k ≡ length views = t.0 ∙ same in
          let none : (log : Log) → All (λ (x : ℕ × ℕ). x.0 < length views) log → [] ≡ done_by k log = λ log all. sym (done_by-none k log (subst (λ (m : ℕ). All (λ (x : ℕ × ℕ). x.0 < m) log) (sym here) all)) in
          (ap (λ (y : Done). y.pushed) (sym t.1) ∙ none f.pushes f.known.0, ap (λ (y : Done). y.popped) (sym t.1) ∙ none f.pops f.known.1))
          (snoc_here vs (done [] [] 0) k u e);
      known = (more f.pushes f.known.0, more f.pops f.known.1);
    }

-- what the calls of the queue ask for
module _ (past : List ℕ → List Done → Type 0) where
  pub begins : past [] (done [] [] 0 ∷ []) → Kept past [] (done [] [] 0 ∷ [])
  begins p = (begins_fifo, p)

  pub pushing : (n id : ℕ) (v : Done) (x : ℕ) → Steps past id → Pushes (Kept past) n id v x (λ w. w ≡ puts v x)
  pushing n id v x s items views room h at = (puts v x, (puts_fifo id v x items views h.0 at, s.push items views v x h.1 at), refl)

  pub popping : (id number : ℕ) (v : Done) → id ≡ number → Steps past id → Pops (Kept past) id v (λ x w. (w ≡ takes v x) × WasFirst past number v x)
  popping id number v same s x items views h at = (takes v x, (takes_fifo id v x items views h.0 at, s.pop items views v x h.1 at), (refl, (items, (views, h, subst (λ (n : ℕ). At views n v) same at))))

  pub learns : (id number : ℕ) (v : Done) → id ≡ number → Learns (Kept past) id v (Was past number v)
  learns id number v same items views h at = (views, h, subst (λ (n : ℕ). At views n v) same at)

  pub twins : (id : ℕ) (v : Done) → Steps past id → Forks (Kept past) id v v (done [] [] 0)
  twins id v s items views h at = (forks_fifo id v v.empties items views h.0 at, s.another items views v h.1 at)

  pub finds : (id old : ℕ) (v u : Done) → id ≡ old → v ≡ u → Steps past old → Was past old u [] → Forks (Kept past) id v (found v) (done [] [] 0)
  finds id old v u same still s was items views h at =
      let s' : Steps past id = subst (λ (n : ℕ). Steps past n) (sym same) s in
      let was' : Was past id v [] = subst (λ (x : ℕ × Done). Was past x.0 x.1 []) (λ i. (sym same i, sym still i)) was in
      (forks_fifo id v (v.empties + 1) items views h.0 at, s'.find items views v h.1 at was')
