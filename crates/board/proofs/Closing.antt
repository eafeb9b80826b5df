-- The rule at the start, and what it says at the end.
use Rattle.std.proofs.Common.{◌≡◌, ◌≢◌, ℕ, zero, suc, ◌+◌, ◌*◌, ◌<◌, ◌≤◌, List, [], ◌∷◌, length, set, All, Bool, true, false, Option, Some, refl, sym, ap, ◌∙◌, subst, inl, ⊎_elim, arith, append-nil}
use mathlib.Core.Option.{some, some-injective, some-ne-none}
use lib.ListN.{get_elem?}
use Rattle.std.specs.Prelude.{if◌then◌else◌}
use Rattle.atomic_table.specs.Table.{opening, Final, Seen}
use Rattle.atomic_table.proofs.Lists.{set_else}
use Rattle.journal_entries.specs.declared.act.Entry.{Entry}
use Rattle.board.specs.declared.view.Start.{Start}
use Rattle.board.specs.declared.view.View.{View}
use Rattle.board.specs.Views.{At, made_by, Begins, SawAll, opened, spent, one, alive}
use Rattle.board.specs.Rule.{Fits, IsHome, IsOut, IsRuled}
use Rattle.board.specs.Turns.{Ends}
use Rattle.board.proofs.Views.{alive_set, off, same_view}
use Rattle.board.proofs.Entries.{all_map, all_both}

only : (v : View) (k : ℕ) (u : View) → At (v ∷ []) k u → (k ≡ 0) × (v ≡ u)
only v zero u e = (refl, some-injective v u e)
only v (suc k) u e = absurd (some-ne-none u (sym e))

one_live : (views : List View) (k : ℕ) (v : View) → At views k v → v.live ≡ true → 1 ≤ alive views
one_live [] k v e live = absurd (some-ne-none v (sym e))
one_live (x ∷ xs) zero v e live = let h : one x ≡ 1 = ap one (some-injective x v e) ∙ ap (λ (b : Bool). if b then 1 else 0) live in omega (arith, h)
one_live (x ∷ xs) (suc k) v e live = let r = one_live xs k v e live in omega (arith, r)

two_live : (views : List View) (i j : ℕ) (v w : View) → At views i v → At views j w → v.live ≡ true → w.live ≡ true → j ≢ i → 2 ≤ alive views
two_live views i j v w ei ej lv lw apart =
    let s = alive_set views i v spent ei in
    let h : one v ≡ 1 = ap (λ (b : Bool). if b then 1 else 0) lv in
    let r = one_live (set views i spent) j w (set_else views i j spent apart ∙ ej) lw in
    let z : one spent ≡ 0 = refl in
    omega (arith, s, h, r, z)

module _ {B : Type 0} (journal : B → List Entry) (drivers : B → ℕ) (start : B → Start) where
  pub opens : (value : B) → All (λ (e : Entry). e.seat ≡ 0) (journal value) → IsRuled journal drivers start (opening (2 * length (journal value) ∷ []) (Some value ∷ []) (opened (journal value) (drivers value) (start value)))
  opens value all =
      let log = journal value in
      let v = opened log (drivers value) (start value) in record {
        log = log;
        count = 1;
        d = drivers value;
        t = start value;
        turn = inl (record { value = value; words_is = refl; homes_is = refl; journal_is = refl; drivers_is = refl; start_is = refl; none_holds = λ k u e. ap (λ (x : View). x.holds) (sym (only v k u e).1) });
        fits = λ k u e _. subst (Fits log 1 (drivers value) (start value)) (only v k u e).1 (record {
          seen_is = ([], sym (append-nil log));
          made_is = refl;
          number_is = omega arith;
          drivers_is = refl;
          start_is = refl;
          count_is = λ _. refl;
          own_is = λ n. absurd (n refl);
          joined_is = λ _ k d h. absurd (omega arith);
          joined_below = λ _ k d h. absurd (omega arith);
          joined_differ = λ _ i j d below h. absurd (omega arith);
        });
        apart = λ i j x y ex ey _ _ _. (only v i x ex).0 ∙ sym (only v j y ey).0;
        unjoined = λ i j x y ex ey _ _ _. subst (λ (u : View). All (λ z. z.0 ≢ y.number) u.joined) (only v i x ex).1 (λ k d h. absurd (omega arith));
        given = all_map (λ (e : Entry). e.seat ≡ 0) (λ (e : Entry). e.seat < 1) log (λ e z. omega (arith, z)) all;
        tally = λ k u e _ _. subst (λ (x : View). alive (v ∷ []) + length x.joined ≡ 1) (only v k u e).1 refl;
      }

  -- where all other seats were joined, nobody holds the turn, and the value is at home
  pub closes : (id : ℕ) (v : View) (ws : List ℕ) (xs : List (Option B)) → v.live ≡ true → v.number ≡ 0 → v.holds ≡ false → length v.joined + 1 ≡ v.count
      → Final (Seen (IsRuled journal drivers start) id v) ws xs → (value : B) × (get_elem? xs 0 ≡ some (Some value)) × Ends journal drivers start v value
  closes id v ws xs live first idle all last =
      let s = last.0 in
      let h = last.1.0 in
      let at = last.1.1 in
      let f = h.fits id v at live in
      ⊎_elim
      (λ (home : IsHome journal drivers start h.log h.d h.t s). (
        home.value,
        last.4 0 (Some home.value) (ap (λ hs. get_elem? hs 0) home.homes_is),
        record {
          seen_is = subst (λ (l : List Entry). Begins v.seen l) (sym home.journal_is) f.seen_is;
          made_is = ap (made_by v.number) home.journal_is ∙ f.made_is;
          drivers_is = home.drivers_is ∙ sym f.drivers_is;
          start_is = home.start_is ∙ sym f.start_is;
          given = subst (λ (p : List Entry × ℕ). All (λ (e : Entry). e.seat < p.1) p.0) (λ i. (sym home.journal_is i, sym (f.count_is first) i)) h.given;
          joined_is = subst (λ (l : List Entry). All (SawAll l) v.joined) (sym home.journal_is) (f.joined_is first);
          joined_differ = f.joined_differ first;
          joined_within = all_both (λ (x : ℕ × List Entry). x.0 ≢ v.number) (λ (x : ℕ × List Entry). x.0 < h.count) (λ (x : ℕ × List Entry). (x.0 ≢ 0) × (x.0 < v.count)) v.joined
              (λ x a b. (λ z. a (z ∙ sym first), let c = f.count_is first in omega (arith, b, c)))
              (h.unjoined id id v v at at live live first) (f.joined_below first);
        },
      ))
      (λ (out : IsOut journal drivers start h.log s). absurd (
      let apart : out.seat ≢ id = λ same. off (sym idle ∙ ap (λ (u : View). u.holds) (same_view s.views id v out.view at (subst (λ k. At s.views k out.view) same out.here)) ∙ out.holds_is) in
      let two = two_live s.views id out.seat v out.view at out.here live out.live_is apart in
      let tally = h.tally id v at live first in
      let count = f.count_is first in
      omega (arith, two, tally, count, all)
      ))
      h.turn
