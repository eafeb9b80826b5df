-- Neighbours of one mark become one change: what `packed` keeps.
use Rattle.std.proofs.Common.{◌≡◌, ℕ, ◌+◌, Bool, true, false, List, [], ◌∷◌, ◌++◌, refl, ap, ap₂, sym, ◌∙◌, length, arith, append_assoc, append-nil, length-append, ⊎_elim, ◌⊎◌, inl, inr}
use Rattle.std.specs.Prelude.{◌&&◌, ◌==◌}
use Rattle.std.proofs.lemmas.Slice.Eq.{bytes_eq-Decides}
use Rattle.std.proofs.lemmas.Bool.Decides.{Decides-eqb}
use Rattle.std.proofs.lemmas.Bool.{cases_Bool, and_parts}
use Rattle.ranges_tracker.specs.Cells.{Mark, same_mark}
use Rattle.ranges_tracker.specs.declared.change.Change.{Change}
use Rattle.ranges_tracker.specs.declared.change.ChangeKind.{ChangeKind}
use Rattle.ranges_tracker.specs.declared.change.ChangeKind.TheVariants.{Inserted, Deleted}
use Rattle.ranges_tracker.specs.Shown.{mark_of, reach_of, reach, same_kind, meets, fused, touch, packed}
use Rattle.ranges_tracker.specs.Tracked.{pushed, pushed_all}

-- marks of one id, user and moment are one mark
pub same_mark_is : (m n : Mark) → same_mark m n ≡ true → m ≡ n
same_mark_is m n e =
    let a = and_parts _ _ e in
    let b = and_parts _ _ a.1 in
    let d = and_parts _ _ b.1 in
    let v : m.version ≡ n.version = (Decides-eqb m.version n.version).0 a.0 in
    let k : m.k ≡ n.k = (Decides-eqb m.k n.k).0 b.0 in
    let ms : m.ms ≡ n.ms = (Decides-eqb m.ms n.ms).0 d.0 in
    let user : m.user ≡ n.user = (bytes_eq-Decides m.user n.user).0 d.1 in
    ap (λ (x : ℕ). record { version = x; k = m.k; user = m.user; ms = m.ms }) v
    ∙ ap (λ (x : ℕ). record { version = n.version; k = x; user = m.user; ms = m.ms }) k
    ∙ ap (λ (x : List ℕ). record { version = n.version; k = n.k; user = x; ms = m.ms }) user
    ∙ ap (λ (x : ℕ). record { version = n.version; k = n.k; user = n.user; ms = x }) ms

pub same_mark_self : (m : Mark) → same_mark m m ≡ true
same_mark_self m = rw ((Decides-eqb m.version m.version).1 refl, (Decides-eqb m.k m.k).1 refl, (Decides-eqb m.ms m.ms).1 refl, (bytes_eq-Decides m.user m.user).1 refl) refl

pub same_kind_is : (j k : ChangeKind) → same_kind j k ≡ true → j ≡ k
same_kind_is Inserted Inserted e = refl
same_kind_is Inserted Deleted e = cc
same_kind_is Deleted Inserted e = cc
same_kind_is Deleted Deleted e = refl

reach_on : (j k : ChangeKind) (at n m next : ℕ) → j ≡ k → reach_of j at n ≡ next → reach_of j at (n + m) ≡ reach_of k next m
reach_on Inserted Inserted at n m next e h = omega arith
reach_on Inserted Deleted at n m next e h = cc
reach_on Deleted Inserted at n m next e h = cc
reach_on Deleted Deleted at n m next e h = h

-- a change that met the next one meets what that one meets
pub meets_on : (c d g : Change) → meets c d ≡ true → meets (fused c d) g ≡ meets d g
meets_on c d g e =
    let a = and_parts _ _ e in
    let b = and_parts _ _ a.1 in
    let k : c.kind ≡ d.kind = same_kind_is c.kind d.kind a.0 in
    let r : reach c ≡ d.at = (Decides-eqb (reach c) d.at).0 b.0 in
    let m : mark_of c ≡ mark_of d = same_mark_is (mark_of c) (mark_of d) b.1 in
    let to : reach (fused c d) ≡ reach d = ap (reach_of c.kind c.at) (length-append c.text d.text) ∙ reach_on c.kind d.kind c.at (length c.text) (length d.text) d.at k r in
    ap₂ (λ (x y : Bool). x && y) (ap (λ (x : ChangeKind). same_kind x g.kind) k) (ap₂ (λ (x y : Bool). x && y) (ap (λ (x : ℕ). x == g.at) to) (ap (λ (x : Mark). same_mark x (mark_of g)) m))

pub fused_assoc : (c d g : Change) → fused (fused c d) g ≡ fused c (fused d g)
fused_assoc c d g = ap (λ (x : List ℕ). record { version = c.version; k = c.k; at = c.at; kind = c.kind; text = x; user = c.user; ms = c.ms }) (append_assoc c.text d.text g.text)

pub touch_apart : (c d : Change) (ds : List Change) → meets c d ≡ false → touch c (d ∷ ds) ≡ c ∷ d ∷ ds
touch_apart c d ds e = rw e refl

pub touch_met : (c d : Change) (ds : List Change) → meets c d ≡ true → touch c (d ∷ ds) ≡ fused c d ∷ ds
touch_met c d ds e = rw e refl

pub touch_fuse : (c d : Change) (gs : List Change) → meets c d ≡ true → touch c (touch d gs) ≡ touch (fused c d) gs
touch_fuse c d [] e = touch_met c d [] e
touch_fuse c d (g ∷ gs) e = ⊎_elim {C = touch c (touch d (g ∷ gs)) ≡ touch (fused c d) (g ∷ gs)}
    (λ t. ap (touch c) (touch_met d g gs t) ∙ touch_met c (fused d g) gs e ∙ ap (λ (x : Change). x ∷ gs) (sym (fused_assoc c d g)) ∙ sym (touch_met (fused c d) g gs (meets_on c d g e ∙ t)))
    (λ t. ap (touch c) (touch_apart d g gs t) ∙ touch_met c d (g ∷ gs) e ∙ sym (touch_apart (fused c d) g gs (meets_on c d g e ∙ t)))
    (cases_Bool (meets d g))

-- changes before packed ones
abbrev pub onto : List Change → List Change → List Change
onto [] gs = gs
onto (c ∷ cs) gs = touch c (onto cs gs)

pub onto-touch : (c : Change) (cs gs : List Change) → onto (touch c cs) gs ≡ touch c (onto cs gs)
onto-touch c [] gs = refl
onto-touch c (d ∷ ds) gs = ⊎_elim {C = onto (touch c (d ∷ ds)) gs ≡ touch c (touch d (onto ds gs))}
    (λ t. ap (λ (x : List Change). onto x gs) (touch_met c d ds t) ∙ sym (touch_fuse c d (onto ds gs) t))
    (λ t. ap (λ (x : List Change). onto x gs) (touch_apart c d ds t))
    (cases_Bool (meets c d))

pub onto-packed : (cs gs : List Change) → onto (packed cs) gs ≡ onto cs gs
onto-packed [] gs = refl
onto-packed (c ∷ cs) gs = onto-touch c (packed cs) gs ∙ ap (touch c) (onto-packed cs gs)

pub packed-append : (cs gs : List Change) → packed (cs ++ gs) ≡ onto cs (packed gs)
packed-append [] gs = refl
packed-append (c ∷ cs) gs = ap (touch c) (packed-append cs gs)

pub packed_twice : (cs : List Change) → packed (packed cs) ≡ packed cs
packed_twice cs = go (packed cs) ∙ onto-packed cs [] ∙ sym (go cs)
  where
    go : (xs : List Change) → packed xs ≡ onto xs []
    go [] = refl
    go (x ∷ xs) = ap (touch x) (go xs)

-- packing the parts first changes nothing
pub packed_parts : (cs gs : List Change) → packed (packed cs ++ packed gs) ≡ packed (cs ++ gs)
packed_parts cs gs = packed-append (packed cs) (packed gs) ∙ onto-packed cs (packed (packed gs)) ∙ ap (onto cs) (packed_twice gs) ∙ sym (packed-append cs gs)

touch_pushed : (c : Change) (ds : List Change) (g : Change) → touch c (pushed ds g) ≡ pushed (touch c ds) g
touch_pushed c [] g = refl
touch_pushed c (d ∷ []) g = ⊎_elim {C = touch c (touch d (g ∷ [])) ≡ pushed (touch c (d ∷ [])) g}
    (λ t. touch_fuse c d (g ∷ []) t ∙ sym (ap (λ (x : List Change). pushed x g) (touch_met c d [] t)))
    (λ t. apart t (cases_Bool (meets d g)))
    (cases_Bool (meets c d))
  where
    apart : meets c d ≡ false → (meets d g ≡ true) ⊎ (meets d g ≡ false) → touch c (touch d (g ∷ [])) ≡ pushed (touch c (d ∷ [])) g
    apart t (inl h) = ap (touch c) (touch_met d g [] h) ∙ touch_apart c (fused d g) [] t ∙ ap (λ (x : List Change). c ∷ x) (sym (touch_met d g [] h)) ∙ sym (ap (λ (x : List Change). pushed x g) (touch_apart c d [] t))
    apart t (inr h) = ap (touch c) (touch_apart d g [] h) ∙ touch_apart c d (g ∷ []) t ∙ ap (λ (x : List Change). c ∷ x) (sym (touch_apart d g [] h)) ∙ sym (ap (λ (x : List Change). pushed x g) (touch_apart c d [] t))
touch_pushed c (d ∷ e ∷ es) g = ⊎_elim {C = touch c (d ∷ pushed (e ∷ es) g) ≡ pushed (touch c (d ∷ e ∷ es)) g}
    (λ t. touch_met c d (pushed (e ∷ es) g) t ∙ sym (ap (λ (x : List Change). pushed x g) (touch_met c d (e ∷ es) t)))
    (λ t. touch_apart c d (pushed (e ∷ es) g) t ∙ sym (ap (λ (x : List Change). pushed x g) (touch_apart c d (e ∷ es) t)))
    (cases_Bool (meets c d))

-- a push packs: the fold of a loop
pub packed_push : (cs : List Change) (g : Change) → packed (cs ++ g ∷ []) ≡ pushed (packed cs) g
packed_push [] g = refl
packed_push (c ∷ cs) g = ap (touch c) (packed_push cs g) ∙ touch_pushed c (packed cs) g

-- a loop that pushes
pub packed_all : (cs gs : List Change) → pushed_all (packed cs) gs ≡ packed (cs ++ gs)
packed_all cs [] = ap packed (sym (append-nil cs))
packed_all cs (g ∷ gs) = ap (λ (x : List Change). pushed_all x gs) (sym (packed_push cs g)) ∙ packed_all (cs ++ g ∷ []) gs ∙ ap packed (append_assoc cs (g ∷ []) gs)
