-- A list of views after one of them changed.
use Rattle.std.proofs.Common.{◌≡◌, ◌≢◌, ℕ, zero, suc, ◌+◌, List, [], ◌∷◌, ◌++◌, length, set, All, Bool, true, false, true≢false, refl, sym, ap, ◌∙◌, subst, ⊎_elim, arith}
use mathlib.Core.Option.{some-injective, some-ne-none}
use Rattle.std.specs.Prelude.{if◌then◌else◌}
use mathlib.Core.Logic.{dite}
use native.Mathlib.Decide.{ℕ_discrete}
use Rattle.atomic_table.proofs.Lists.{at_set, set_else}
use Rattle.journal_entries.specs.declared.act.Entry.{Entry}
use Rattle.board.specs.declared.view.View.{View}
use Rattle.board.specs.Views.{At, one, alive}

-- a fact of each view, after one changed
pub each_set : (P : ℕ → View → Type 0) (views : List View) (id : ℕ) (w : View) → P id w → ((j : ℕ) (u : View) → j ≢ id → At views j u → P j u) → (j : ℕ) (u : View) → At (set views id w) j u → P j u
each_set P views id w mine others j u e =
    ⊎_elim
    (λ (x : (j ≡ id) × (w ≡ u)). subst (λ (y : ℕ × View). P y.0 y.1) (λ i. (sym x.0 i, x.1 i)) mine)
    (λ (x : (j ≢ id) × (At views j u)). others j u x.0 x.1)
    (at_set views id j w u e)

pub same_view : (views : List View) (k : ℕ) (v w : View) → At views k v → At views k w → v ≡ w
same_view views k v w a b = some-injective v w (sym a ∙ b)

-- what no step on the word changes
pub record IsBadge (v w : View) : Type 0 where
  pub live_is : w.live ≡ v.live
  pub number_is : w.number ≡ v.number
  pub joined_is : w.joined ≡ v.joined

-- each view after the change was one with the same badge before
pub before : (views : List View) (id : ℕ) (v w : View) → At views id v → IsBadge v w → (j : ℕ) (u : View) → At (set views id w) j u → (o : View) × At views j o × IsBadge o u
before views id v w at b = each_set (λ j u. (o : View) × At views j o × IsBadge o u) views id w (v, at, b) (λ j u _ e. (u, e, record { live_is = refl; number_is = refl; joined_is = refl }))

abbrev pub Apart : List View → Type 0
Apart views = (i j : ℕ) (v w : View) → At views i v → At views j w → v.live ≡ true → w.live ≡ true → v.number ≡ w.number → i ≡ j

pub apart_set : (views : List View) (id : ℕ) (v w : View) → At views id v → IsBadge v w → Apart views → Apart (set views id w)
apart_set views id v w at b apart i j x y ex ey lx ly same =
    let ox = before views id v w at b i x ex in
    let oy = before views id v w at b j y ey in
    apart i j ox.0 oy.0 ox.1 oy.1 (sym ox.2.live_is ∙ lx) (sym oy.2.live_is ∙ ly) (sym ox.2.number_is ∙ same ∙ oy.2.number_is)

abbrev pub Unjoined : List View → Type 0
Unjoined views = (i j : ℕ) (v w : View) → At views i v → At views j w → v.live ≡ true → w.live ≡ true → v.number ≡ 0 → All (λ x. x.0 ≢ w.number) v.joined

pub unjoined_set : (views : List View) (id : ℕ) (v w : View) → At views id v → IsBadge v w → Unjoined views → Unjoined (set views id w)
unjoined_set views id v w at b un i j x y ex ey lx ly zero_is =
    let ox = before views id v w at b i x ex in
    let oy = before views id v w at b j y ey in
    subst (λ (p : List (ℕ × List Entry) × ℕ). All (λ z. z.0 ≢ p.1) p.0) (λ i. (sym ox.2.joined_is i, sym oy.2.number_is i))
    (un i j ox.0 oy.0 ox.1 oy.1 (sym ox.2.live_is ∙ lx) (sym oy.2.live_is ∙ ly) (sym ox.2.number_is ∙ zero_is))

pub off : false ≡ true → ⊥
off e = true≢false (sym e)

pub not_true : (b : Bool) → (b ≡ true → ⊥) → b ≡ false
not_true true h = absurd (h refl)
not_true false h = refl

pub set_there : (views : List View) (k : ℕ) (v w : View) → At views k v → At (set views k w) k w
set_there [] i a b e = absurd (some-ne-none a (sym e))
set_there (x ∷ xs) zero a b e = refl
set_there (x ∷ xs) (suc i) a b e = set_there xs i a b e

-- a view that was there is there after another look of one of them, with what that one keeps
pub still : (views : List View) (id : ℕ) (v w : View) → At views id v → w.holds ≡ v.holds → w.live ≡ v.live → (k : ℕ) (u : View) → At views k u → (o : View) × At (set views id w) k o × (o.holds ≡ u.holds) × (o.live ≡ u.live)
still views id v w at holds live k u e =
    dite (ℕ_discrete k id)
    (λ here. let at' : At views id u = subst (λ j. At views j u) here e in let same = same_view views id v u at at' in
    (w, subst (λ j. At (set views id w) j w) (sym here) (set_there views id v w at), holds ∙ ap (λ (x : View). x.holds) same, live ∙ ap (λ (x : View). x.live) same))
    (λ other. (u, set_else views id k w other ∙ e, refl, refl))

-- one view changed: what was counted goes, and what is there now is counted
pub alive_set : (views : List View) (id : ℕ) (v w : View) → At views id v → alive (set views id w) + one v ≡ alive views + one w
alive_set [] id v w e = absurd (some-ne-none v (sym e))
alive_set (x ∷ xs) zero v w e = let same : one x ≡ one v = ap one (some-injective x v e) in omega (arith, same)
alive_set (x ∷ xs) (suc id) v w e = let rest = alive_set xs id v w e in omega (arith, rest)

pub alive_snoc : (views : List View) (w : View) → alive (views ++ w ∷ []) ≡ alive views + one w
alive_snoc [] w = omega arith
alive_snoc (x ∷ xs) w = let rest = alive_snoc xs w in omega (arith, rest)

abbrev pub Tally : List View → ℕ → Type 0
Tally views count = (k : ℕ) (v : View) → At views k v → v.live ≡ true → v.number ≡ 0 → alive views + length v.joined ≡ count

pub tally_set : (views : List View) (id : ℕ) (v w : View) (count : ℕ) → At views id v → IsBadge v w → Tally views count → Tally (set views id w) count
tally_set views id v w count at b tally k u e live zero_is =
    let o = before views id v w at b k u e in
    let was = tally k o.0 o.1 (sym o.2.live_is ∙ live) (sym o.2.number_is ∙ zero_is) in
    let same : one w ≡ one v = ap (λ (l : Bool). if l then 1 else 0) b.live_is in
    let now = alive_set views id v w at in
    let long : length u.joined ≡ length o.0.joined = ap length o.2.joined_is in
    omega (arith, was, same, now, long)
