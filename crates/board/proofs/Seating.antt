-- A seat that is made of seat 0, and one that seat 0 takes in.
use Rattle.std.proofs.Common.{◌≡◌, ◌≢◌, ◌⊎◌, ℕ, zero, suc, ◌+◌, ◌<◌, List, [], ◌∷◌, ◌++◌, length, set, All, Bool, true, false, Option, refl, sym, ap, ◌∙◌, subst, inl, inr, ⊎_elim, arith, length-append}
use mathlib.Core.Option.{some-injective, some-ne-none}
use Rattle.std.specs.Prelude.{if◌then◌else◌}
use Rattle.std.proofs.lemmas.List.Elements.{All-append}
use Rattle.std.proofs.lemmas.List.Quantifiers.{all_pairs_push}
use Rattle.atomic_table.specs.Table.{State, Splits, Joins}
use Rattle.atomic_table.proofs.Lists.{at_set, at_longer, set_else}
use Rattle.journal_entries.specs.declared.act.Entry.{Entry}
use Rattle.board.specs.declared.view.Start.{Start}
use Rattle.board.specs.declared.view.View.{View}
use Rattle.board.specs.Views.{At, made_by, SawAll, counted, newcomer, taken_in, spent, one, alive}
use Rattle.board.specs.Rule.{Fits, IsHome, IsOut, IsRuled}
use Rattle.board.proofs.Views.{each_set, same_view, still, before, alive_set, alive_snoc, off, IsBadge}
use Rattle.board.proofs.Entries.{made_by-apart, All-front, all_map, all_one, longer_begins}

snoc_here : (l : List View) (a : View) (j : ℕ) (b : View) → At (l ++ a ∷ []) j b → At l j b ⊎ ((j ≡ length l) × (a ≡ b))
snoc_here [] a zero b e = inr (refl, some-injective a b e)
snoc_here [] a (suc j) b e = absurd (some-ne-none b (sym e))
snoc_here (x ∷ xs) a zero b e = inl e
snoc_here (x ∷ xs) a (suc j) b e = ⊎_elim (λ t. inl t) (λ t. inr (ap suc t.0, t.1)) (snoc_here xs a j b e)

each_snoc : (P : ℕ → View → Type 0) (l : List View) (a : View) → P (length l) a → ((j : ℕ) (u : View) → At l j u → P j u) → (j : ℕ) (u : View) → At (l ++ a ∷ []) j u → P j u
each_snoc P l a mine others j u e =
    ⊎_elim (λ t. others j u t) (λ t. subst (λ (y : ℕ × View). P y.0 y.1) (λ i. (sym t.0 i, t.1 i)) mine) (snoc_here l a j u e)

module _ {B : Type 0} (journal : B → List Entry) (drivers : B → ℕ) (start : B → Start) where
  -- the state after a seat was made
  abbrev split : State (Option B) View → ℕ → View → State (Option B) View
  split s id v = record { words = s.words; homes = s.homes; views = set s.views id (counted v) ++ newcomer v ∷ [] }

  turn_split : (s : State (Option B) View) (id : ℕ) (v : View) (d : ℕ) (t : Start) (log : List Entry) → At s.views id v
      → IsHome journal drivers start log d t s ⊎ IsOut journal drivers start log s
      → IsHome journal drivers start log d t (split s id v) ⊎ IsOut journal drivers start log (split s id v)
  turn_split s id v d t log at turn =
      let vs = set s.views id (counted v) in
      ⊎_elim
      (λ (h : IsHome journal drivers start log d t s). inl (record {
        value = h.value;
        words_is = h.words_is;
        homes_is = h.homes_is;
        journal_is = h.journal_is;
        drivers_is = h.drivers_is;
        start_is = h.start_is;
        none_holds = each_snoc (λ k u. u.holds ≡ false) vs (newcomer v) refl (each_set (λ k u. u.holds ≡ false) s.views id (counted v) (h.none_holds id v at) (λ j u _ e. h.none_holds j u e));
      }))
      (λ (h : IsOut journal drivers start log s). inr (
      let mine = still s.views id v (counted v) at refl refl h.seat h.view h.here in record {
        seat = h.seat;
        view = mine.0;
        words_is = h.words_is;
        homes_is = h.homes_is;
        here = at_longer vs (newcomer v ∷ []) h.seat mine.0 mine.1;
        holds_is = mine.2 ∙ h.holds_is;
        live_is = mine.3 ∙ h.live_is;
        one_holds = each_snoc (λ k u. u.holds ≡ true → (k ≡ h.seat) × (u.seen ≡ log)) vs (newcomer v) (λ e. absurd (off e))
            (each_set (λ k u. u.holds ≡ true → (k ≡ h.seat) × (u.seen ≡ log)) s.views id (counted v) (h.one_holds id v at) (λ j u _ e. h.one_holds j u e));
      }
      ))
      turn

  pub splits : (id : ℕ) (v : View) → v.number ≡ 0 → v.live ≡ true → Splits (IsRuled journal drivers start) id v (counted v) (newcomer v)
  splits id v first live s h at =
      let vs = set s.views id (counted v) in
      let f = h.fits id v at live in
      let count_is : v.count ≡ h.count = f.count_is first in
      let badge : IsBadge v (counted v) = record { live_is = refl; number_is = refl; joined_is = refl } in
      let Old : ℕ → View → Type 0 = λ j u. (o : View) × At s.views j o × IsBadge o u in
      let old = before s.views id v (counted v) at badge in
      let more : (es : List (ℕ × List Entry)) → All (λ x. x.0 < h.count) es → All (λ x. x.0 < h.count + 1) es = λ es all. all_map (λ (x : ℕ × List Entry). x.0 < h.count) (λ (x : ℕ × List Entry). x.0 < h.count + 1) es (λ x l. omega (arith, l)) all in
      let new_apart : (j : ℕ) (u : View) → At vs j u → u.live ≡ true → u.number ≢ v.count = λ j u e l same. let o = old j u e in let g = (h.fits j o.0 o.1 (sym o.2.live_is ∙ l)).number_is in let n = o.2.number_is in omega (arith, g, n, same, count_is) in
      let not_first : v.count ≢ 0 = λ z. let g = f.number_is in omega (arith, g, z, count_is) in
      record {
        log = h.log;
        count = h.count + 1;
        d = h.d;
        t = h.t;
        turn = turn_split s id v h.d h.t h.log at h.turn;
        fits = each_snoc (λ k u. u.live ≡ true → Fits h.log (h.count + 1) h.d h.t u) vs (newcomer v)
            (λ _. record {
              seen_is = f.seen_is;
              made_is = made_by-apart v.count h.log (all_map (λ (e : Entry). e.seat < h.count) (λ (e : Entry). e.seat ≢ v.count) h.log (λ e l same. omega (arith, l, same, count_is)) h.given);
              number_is = omega (arith, count_is);
              drivers_is = f.drivers_is;
              start_is = f.start_is;
              count_is = λ z. absurd (not_first z);
              own_is = λ _. made_by-apart v.count v.seen (All-front (λ (e : Entry). e.seat ≢ v.count) v.seen f.seen_is.0 (subst (λ (l : List Entry). All (λ (e : Entry). e.seat ≢ v.count) l) f.seen_is.1 (all_map (λ (e : Entry). e.seat < h.count) (λ (e : Entry). e.seat ≢ v.count) h.log (λ e l same. omega (arith, l, same, count_is)) h.given)));
              joined_is = λ z. absurd (not_first z);
              joined_below = λ z. absurd (not_first z);
              joined_differ = λ z. absurd (not_first z);
            })
            (each_set (λ k u. u.live ≡ true → Fits h.log (h.count + 1) h.d h.t u) s.views id (counted v)
            (λ _. record {
              seen_is = f.seen_is;
              made_is = f.made_is;
              number_is = let g = f.number_is in omega (arith, g);
              drivers_is = f.drivers_is;
              start_is = f.start_is;
              count_is = λ _. ap (λ n. n + 1) count_is;
              own_is = f.own_is;
              joined_is = f.joined_is;
              joined_below = λ z. more v.joined (f.joined_below z);
              joined_differ = f.joined_differ;
            })
            (λ j u other e l. let g = h.fits j u e l in record {
              seen_is = g.seen_is;
              made_is = g.made_is;
              number_is = let below = g.number_is in omega (arith, below);
              drivers_is = g.drivers_is;
              start_is = g.start_is;
              count_is = λ z. absurd (other (h.apart j id u v e at l live (z ∙ sym first)));
              own_is = g.own_is;
              joined_is = g.joined_is;
              joined_below = λ z. more u.joined (g.joined_below z);
              joined_differ = g.joined_differ;
            }));
        apart = λ i j x y ex ey lx ly same.
            ⊎_elim
            (λ (ix : At vs i x). ⊎_elim
            (λ (iy : At vs j y). let ox = old i x ix in let oy = old j y iy in h.apart i j ox.0 oy.0 ox.1 oy.1 (sym ox.2.live_is ∙ lx) (sym oy.2.live_is ∙ ly) (sym ox.2.number_is ∙ same ∙ oy.2.number_is))
            (λ (iy : (j ≡ length vs) × (newcomer v ≡ y)). absurd (new_apart i x ix lx (same ∙ ap (λ (u : View). u.number) (sym iy.1))))
            (snoc_here vs (newcomer v) j y ey))
            (λ (ix : (i ≡ length vs) × (newcomer v ≡ x)). ⊎_elim
            (λ (iy : At vs j y). absurd (new_apart j y iy ly (sym same ∙ ap (λ (u : View). u.number) (sym ix.1))))
            (λ (iy : (j ≡ length vs) × (newcomer v ≡ y)). ix.0 ∙ sym iy.0)
            (snoc_here vs (newcomer v) j y ey))
            (snoc_here vs (newcomer v) i x ex);
        unjoined = λ i j x y ex ey lx ly zx.
            ⊎_elim
            (λ (ix : At vs i x). ⊎_elim
            (λ (iy : At vs j y). let ox = old i x ix in let oy = old j y iy in
            subst (λ (p : List (ℕ × List Entry) × ℕ). All (λ z. z.0 ≢ p.1) p.0) (λ k. (sym ox.2.joined_is k, sym oy.2.number_is k))
            (h.unjoined i j ox.0 oy.0 ox.1 oy.1 (sym ox.2.live_is ∙ lx) (sym oy.2.live_is ∙ ly) (sym ox.2.number_is ∙ zx)))
            (λ (iy : (j ≡ length vs) × (newcomer v ≡ y)). let ox = old i x ix in
            subst (λ (p : List (ℕ × List Entry) × ℕ). All (λ z. z.0 ≢ p.1) p.0) (λ k. (sym ox.2.joined_is k, (iy.1 k).number))
            (all_map (λ (z : ℕ × List Entry). z.0 < h.count) (λ (z : ℕ × List Entry). z.0 ≢ v.count) ox.0.joined (λ z l e. omega (arith, l, e, count_is)) ((h.fits i ox.0 ox.1 (sym ox.2.live_is ∙ lx)).joined_below (sym ox.2.number_is ∙ zx))))
            (snoc_here vs (newcomer v) j y ey))
            (λ (ix : (i ≡ length vs) × (newcomer v ≡ x)). absurd (not_first (ap (λ (u : View). u.number) ix.1 ∙ zx)))
            (snoc_here vs (newcomer v) i x ex);
        given = all_map (λ (e : Entry). e.seat < h.count) (λ (e : Entry). e.seat < h.count + 1) h.log (λ e l. omega (arith, l)) h.given;
        tally = λ k u e l z.
            ⊎_elim
            (λ (o' : At vs k u). let o = old k u o' in
            let was = h.tally k o.0 o.1 (sym o.2.live_is ∙ l) (sym o.2.number_is ∙ z) in
            let now = alive_set s.views id v (counted v) at in
            let new = alive_snoc vs (newcomer v) in
            let long : length u.joined ≡ length o.0.joined = ap length o.2.joined_is in
            let same : one (counted v) ≡ one v = refl in
            omega (arith, was, now, new, long, same))
            (λ (n : (k ≡ length vs) × (newcomer v ≡ u)). absurd (not_first (ap (λ (u : View). u.number) n.1 ∙ z)))
            (snoc_here vs (newcomer v) k u e);
      }

  -- the state after another seat was taken in
  abbrev joined : State (Option B) View → ℕ → View → ℕ → View → State (Option B) View
  joined s id v other w = record { words = s.words; homes = s.homes; views = set (set s.views id (taken_in v w)) other spent }

  turn_joined : (s : State (Option B) View) (id : ℕ) (v : View) (other : ℕ) (w : View) (d : ℕ) (t : Start) (log : List Entry) → At s.views id v → other ≢ id → At s.views other w → w.holds ≡ false
      → Rattle.board.specs.Views.Begins w.seen log
      → IsHome journal drivers start log d t s ⊎ IsOut journal drivers start log s
      → IsHome journal drivers start log d t (joined s id v other w) ⊎ IsOut journal drivers start log (joined s id v other w)
  turn_joined s id v other w d t log at apart there idle begins turn =
      let vs = set s.views id (taken_in v w) in
      ⊎_elim
      (λ (h : IsHome journal drivers start log d t s). inl (record {
        value = h.value;
        words_is = h.words_is;
        homes_is = h.homes_is;
        journal_is = h.journal_is;
        drivers_is = h.drivers_is;
        start_is = h.start_is;
        none_holds = each_set (λ k u. u.holds ≡ false) vs other spent refl (λ k u _ e. each_set (λ k u. u.holds ≡ false) s.views id (taken_in v w) (h.none_holds id v at) (λ j u _ e. h.none_holds j u e) k u e);
      }))
      (λ (h : IsOut journal drivers start log s). inr (
      let mine = still s.views id v (taken_in v w) at refl refl h.seat h.view h.here in
      let away : h.seat ≢ other = λ same. let seen : w ≡ h.view = same_view s.views other w h.view there (subst (λ k. At s.views k h.view) same h.here) in off (sym idle ∙ ap (λ (u : View). u.holds) seen ∙ h.holds_is) in record {
        seat = h.seat;
        view = mine.0;
        words_is = h.words_is;
        homes_is = h.homes_is;
        here = set_else vs other h.seat spent away ∙ mine.1;
        holds_is = mine.2 ∙ h.holds_is;
        live_is = mine.3 ∙ h.live_is;
        one_holds = each_set (λ k u. u.holds ≡ true → (k ≡ h.seat) × (u.seen ≡ log)) vs other spent (λ e. absurd (off e))
            (λ k u _ e. each_set (λ k u. u.holds ≡ true → (k ≡ h.seat) × (u.seen ≡ log)) s.views id (taken_in v w)
            (λ holds. let p = h.one_holds id v at holds in (p.0, ap (λ b. if b then v.seen else Rattle.board.specs.Views.longer v.seen w.seen) holds ∙ p.1))
            (λ j u _ e. h.one_holds j u e) k u e);
      }
      ))
      turn

  -- a live view afterwards: that of seat 0, or one that was there
  living : (views : List View) (id : ℕ) (v : View) (other : ℕ) (w : View) (k : ℕ) (u : View) → At (set (set views id (taken_in v w)) other spent) k u → u.live ≡ true
      → (k ≢ other) × (((k ≡ id) × (taken_in v w ≡ u)) ⊎ ((k ≢ id) × At views k u))
  living views id v other w k u e live =
      ⊎_elim
      (λ (x : (k ≡ other) × (spent ≡ u)). absurd (off (ap (λ (y : View). y.live) x.1 ∙ live)))
      (λ (x : (k ≢ other) × At (set views id (taken_in v w)) k u). (x.0, at_set views id k (taken_in v w) u x.1))
      (at_set (set views id (taken_in v w)) other k spent u e)

  pub joins : (id : ℕ) (v : View) (other : ℕ) (w : View) → v.number ≡ 0 → v.live ≡ true → w.number ≢ 0 → w.live ≡ true → w.holds ≡ false → Joins (IsRuled journal drivers start) id v other w (taken_in v w) spent
  joins id v other w first live second alive_w idle s h at apart there' =
      let there : At s.views other w = sym (set_else s.views id other (taken_in v w) apart) ∙ there' in
      let f = h.fits id v at live in
      let g = h.fits other w there alive_w in
      let vs = set s.views id (taken_in v w) in
      -- each live view has an old one of its number
      let old : (k : ℕ) (u : View) → At (set vs other spent) k u → u.live ≡ true → (o : View) × At s.views k o × (o.live ≡ true) × (u.number ≡ o.number) × (k ≢ other) = λ k u e l.
      let x = living s.views id v other w k u e l in
      ⊎_elim
      (λ (y : (k ≡ id) × (taken_in v w ≡ u)). (v, subst (λ j. At s.views j v) (sym y.0) at, live, ap (λ (z : View). z.number) (sym y.1), x.0))
      (λ (y : (k ≢ id) × At s.views k u). (u, y.1, l, refl, x.0)) x.1 in
      record {
        log = h.log;
        count = h.count;
        d = h.d;
        t = h.t;
        turn = turn_joined s id v other w h.d h.t h.log at apart there idle g.seen_is h.turn;
        fits = each_set (λ k u. u.live ≡ true → Fits h.log h.count h.d h.t u) vs other spent (λ e. absurd (off e))
            (λ k u _ e. each_set (λ k u. u.live ≡ true → Fits h.log h.count h.d h.t u) s.views id (taken_in v w)
            (λ _. record {
              seen_is = elim v.holds as (λ b. Rattle.board.specs.Views.Begins (if b then v.seen else Rattle.board.specs.Views.longer v.seen w.seen) h.log) [ true ↦ f.seen_is | false ↦ longer_begins v.seen w.seen h.log f.seen_is g.seen_is ];
              made_is = f.made_is;
              number_is = f.number_is;
              drivers_is = f.drivers_is;
              start_is = f.start_is;
              count_is = f.count_is;
              own_is = λ n. absurd (n first);
              joined_is = λ z. All-append (SawAll h.log) v.joined ((w.number, w.seen) ∷ []) (f.joined_is z) (all_one (SawAll h.log) (w.number, w.seen) (g.seen_is, g.made_is ∙ sym (g.own_is second)));
              joined_below = λ z. All-append (λ (x : ℕ × List Entry). x.0 < h.count) v.joined ((w.number, w.seen) ∷ []) (f.joined_below z) (all_one (λ (x : ℕ × List Entry). x.0 < h.count) (w.number, w.seen) g.number_is);
              joined_differ = λ z. all_pairs_push (λ (x y : ℕ × List Entry). x.0 ≢ y.0) v.joined (w.number, w.seen) (f.joined_differ z) (h.unjoined id other v w at there live alive_w first);
            })
            (λ j u _ e. h.fits j u e) k u e);
        apart = λ i j x y ex ey lx ly same. let ox = old i x ex lx in let oy = old j y ey ly in h.apart i j ox.0 oy.0 ox.1 oy.1 ox.2 oy.2 (sym ox.3 ∙ same ∙ oy.3);
        unjoined = λ i j x y ex ey lx ly zx.
            let ox = old i x ex lx in
            let oy = old j y ey ly in
            let here : i ≡ id = h.apart i id ox.0 v ox.1 at ox.2 live (sym ox.3 ∙ zx ∙ sym first) in
            let lx' = living s.views id v other w i x ex lx in
            ⊎_elim
            (λ (p : (i ≡ id) × (taken_in v w ≡ x)).
            subst (λ (q : List (ℕ × List Entry) × ℕ). All (λ z. z.0 ≢ q.1) q.0) (λ k. ((p.1 k).joined, sym oy.3 k))
            (All-append (λ (z : ℕ × List Entry). z.0 ≢ oy.0.number) v.joined ((w.number, w.seen) ∷ [])
            (h.unjoined id j v oy.0 at oy.1 live oy.2 first)
            (all_one (λ (z : ℕ × List Entry). z.0 ≢ oy.0.number) (w.number, w.seen) (λ same. oy.4 (sym (h.apart other j w oy.0 there oy.1 alive_w oy.2 same))))))
            (λ (p : (i ≢ id) × At s.views i x). absurd (p.0 here))
            lx'.1;
        given = h.given;
        tally = λ k u e l z.
            let o = old k u e l in
            let here : k ≡ id = h.apart k id o.0 v o.1 at o.2 live (sym o.3 ∙ z ∙ sym first) in
            let x = living s.views id v other w k u e l in
            ⊎_elim
            (λ (p : (k ≡ id) × (taken_in v w ≡ u)).
            let was = h.tally id v at live first in
            let one_set = alive_set s.views id v (taken_in v w) at in
            let two_set = alive_set vs other w spent there' in
            let long : length u.joined ≡ length v.joined + 1 = ap (λ (y : View). length y.joined) (sym p.1) ∙ length-append v.joined ((w.number, w.seen) ∷ []) in
            let same : one (taken_in v w) ≡ one v = refl in
            let is_one : one w ≡ 1 = ap (λ (b : Bool). if b then 1 else 0) alive_w in
            omega (arith, was, one_set, two_set, long, same, is_one))
            (λ (p : (k ≢ id) × At s.views k u). absurd (p.0 here))
            x.1;
      }
