-- The gaps of gone cells stay within the text.
use Rattle.std.proofs.Common.{◌≡◌, ℕ, ◌+◌, ◌-◌, ◌≤◌, Bool, true, false, List, [], ◌∷◌, ◌++◌, refl, sym, arith, map, subst, ⊎_elim}
use Rattle.std.specs.Prelude.{nat_lt, if◌then◌else◌}
use Rattle.std.proofs.lemmas.Bool.{cases_lt, lt-ltb, le-ltb}
use Rattle.ranges_tracker.specs.Cells.{Mark, Gone, raised, squashed, shifted, gone_at}
use Rattle.ranges_tracker.specs.Steady.{GapsWithin}
use Rattle.ranges_tracker.proofs.Placing.{kept_gone}
use Rattle.ranges_tracker.proofs.Lasting.{raised_cases, squash_within}

pub gaps_raised : (at n m : ℕ) (gs : List Gone) → GapsWithin m gs → GapsWithin (m + n) (map (shifted (raised at n)) gs)
gaps_raised at n m [] h = tt
gaps_raised at n m (g ∷ gs) h = (⊎_elim {C = raised at n g.gap ≤ m + n} (λ a. omega (arith, a.0, h.0)) (λ a. omega (arith, a.0, h.0)) (raised_cases at n g.gap), gaps_raised at n m gs h.1)

gaps_squashed : (at n m : ℕ) (gs : List Gone) → at + n ≤ m → GapsWithin m gs → GapsWithin (m - n) (map (shifted (squashed at n)) gs)
gaps_squashed at n m [] room h = tt
gaps_squashed at n m (g ∷ gs) room h = (squash_within at n g.gap m h.0 room, gaps_squashed at n m gs room h.1)

gaps_append : (m : ℕ) (xs ys : List Gone) → GapsWithin m xs → GapsWithin m ys → GapsWithin m (xs ++ ys)
gaps_append m [] ys h k = k
gaps_append m (x ∷ xs) ys h k = (h.0, gaps_append m xs ys h.1 k)

gaps_new : (m at : ℕ) (k : Mark) (us : List ℕ) → at ≤ m → GapsWithin m (map (gone_at at k) us)
gaps_new m at k [] le = tt
gaps_new m at k (u ∷ us) le = (le, gaps_new m at k us le)

gaps_low : (at m : ℕ) (gs : List Gone) → at ≤ m → GapsWithin m (kept_gone (λ x. nat_lt x at) gs)
gaps_low at m [] le = tt
gaps_low at m (g ∷ gs) le = ⊎_elim {C = GapsWithin m (kept_gone (λ x. nat_lt x at) (g ∷ gs))}
    (λ lt. let e : kept_gone (λ x. nat_lt x at) (g ∷ gs) ≡ g ∷ kept_gone (λ x. nat_lt x at) gs = rw (lt-ltb g.gap at lt) refl in subst (λ (x : List Gone). GapsWithin m x) (sym e) (omega arith, gaps_low at m gs le))
    (λ ge. let e : kept_gone (λ x. nat_lt x at) (g ∷ gs) ≡ kept_gone (λ x. nat_lt x at) gs = rw (le-ltb g.gap at ge) refl in subst (λ (x : List Gone). GapsWithin m x) (sym e) (gaps_low at m gs le))
    (cases_lt g.gap at)

gaps_either : (b : Bool) (n m : ℕ) (g : Gone) (gs : List Gone) → g.gap ≤ m → GapsWithin (m - n) (map (shifted (λ x. x - n)) gs) → GapsWithin (m - n) (map (shifted (λ x. x - n)) (if b then g ∷ gs else gs))
gaps_either true n m g gs h k = (omega arith, k)
gaps_either false n m g gs h k = k

gaps_high : (q n m : ℕ) (gs : List Gone) → GapsWithin m gs → GapsWithin (m - n) (map (shifted (λ x. x - n)) (kept_gone (λ x. nat_lt q x) gs))
gaps_high q n m [] h = tt
gaps_high q n m (g ∷ gs) h = gaps_either (nat_lt q g.gap) n m g (kept_gone (λ x. nat_lt q x) gs) h.0 (gaps_high q n m gs h.1)

pub gaps_taken : (b : Bool) (at n m : ℕ) (k : Mark) (us : List ℕ) (gs : List Gone) → at + n ≤ m → GapsWithin m gs →
    GapsWithin (m - n) (if b then kept_gone (λ x. nat_lt x at) gs ++ (map (gone_at at k) us ++ map (shifted (λ x. x - n)) (kept_gone (λ x. nat_lt (at + n) x) gs)) else map (shifted (squashed at n)) gs)
gaps_taken true at n m k us gs room h = gaps_append (m - n) (kept_gone (λ x. nat_lt x at) gs) _ (gaps_low at (m - n) gs (omega arith)) (gaps_append (m - n) (map (gone_at at k) us) _ (gaps_new (m - n) at k us (omega arith)) (gaps_high (at + n) n m gs h))
gaps_taken false at n m k us gs room h = gaps_squashed at n m gs room h
