-- Two operations of one text, past each other: from two components to two lists.
use Rattle.std.proofs.Common.{◌≡◌, ℕ, zero, suc, ◌+◌, ◌<◌, ◌≤◌, true, List, [], ◌∷◌, refl, subst, ap, sym, ◌∙◌, arith, Some, None, Option}
use Rattle.std.specs.Option.{option_and_then, option_map}
use Rattle.ot_op.specs.Apply.{applied, applied_all}
use Rattle.ot_op.specs.Compose.{appended, composed}
use Rattle.ot_op.specs.declared.comp.Comp.{Comp}
use Rattle.ot_op.proofs.Applying.{applied_all-one, First, first_of_all}
use Rattle.ot_transform.specs.Crossing.{moved_component, Crossed, met, walked, after_meeting, crossed_by, crossed_within, crossed, inserts}
use Rattle.ot_transform.proofs.Depth.{IfGiven, Keeps, Several, several_past_insert, walked_keeps, within_keeps, crossed_deep, inserts-append}
use Rattle.ot_transform.proofs.Pairwise.{Converge}

-- two lists past each other, of texts `left` and `right`
pub record Meets (given : Crossed) (left right : List ℕ) : Type 0 where
  pub both : List Comp × List Comp
  pub to : List ℕ
  pub is : given ≡ Some both
  pub from_left : applied_all left both.1 ≡ Some to
  pub from_right : applied_all right both.0 ≡ Some to

abbrev pub Pairwise : Type 0
Pairwise = (text left right : List ℕ) (l r : Comp) → applied text l ≡ Some left → applied text r ≡ Some right → Converge left right l r

abbrev pub Appends : Type 0
Appends = (text mid to : List ℕ) (cs : List Comp) (c : Comp) → applied_all text cs ≡ Some mid → applied mid c ≡ Some to → applied_all text (appended cs c) ≡ Some to

pub given_at : {A : Type 0} (P : A → Type 0) (o : Option A) (x : A) → o ≡ Some x → IfGiven o P → P x
given_at P None x e h = cc
given_at P (Some y) x e h = let same : y ≡ x = cc in subst P same h

module _ (pairwise : Pairwise) (appends : Appends) where
  pub composed_does : (text mid to : List ℕ) (cs ds : List Comp) → applied_all text cs ≡ Some mid → applied_all mid ds ≡ Some to → applied_all text (composed cs ds) ≡ Some to
  composed_does text mid to cs [] h k = let same : mid ≡ to = cc in h ∙ ap (λ (x : List ℕ). Some x) same
  composed_does text mid to cs (d ∷ ds) h k =
      let f : First mid d ds to = first_of_all mid d ds to k in
      composed_does text f.mid to (appended cs d) ds (appends text mid f.mid cs d h f.here) f.rest

  abbrev pub Converges : ℕ → (List Comp → List Comp → Crossed) → Type 0
  Converges k cross = (text left right : List ℕ) (ls rs : List Comp) → inserts ls < k → applied_all text ls ≡ Some left → applied_all text rs ≡ Some right → Meets (cross ls rs) left right

  behind_meeting : (k : ℕ) (cross : List Comp → List Comp → Crossed) → Converges k cross → (next hand ls : List Comp) (start at to left : List ℕ) → (Several hand → inserts ls < k) → applied_all start next ≡ Some to → applied_all at hand ≡ Some to → applied_all at ls ≡ Some left
      → ((r : Comp) → applied at r ≡ Some to → Meets (walked cross next r ls) left start) → Meets (after_meeting cross (next, hand) ls) left start
  behind_meeting k cross conv next [] ls start at to left few h e l one =
      let same : at ≡ to = cc in
      record { both = (composed next ls, []); to = left; is = refl; from_left = refl; from_right = composed_does start to left next ls h (ap (λ (x : List ℕ). applied_all x ls) (sym same) ∙ l) }
  behind_meeting k cross conv next (r ∷ []) ls start at to left few h e l one = one r (sym (applied_all-one at r) ∙ e)
  behind_meeting k cross conv next (r ∷ s ∷ rs) ls start at to left few h e l one =
      let m : Meets (cross ls (r ∷ s ∷ rs)) left to = conv at left to ls (r ∷ s ∷ rs) (few tt) l e in
      record { both = (composed next m.both.0, m.both.1); to = m.to; is = ap (option_map (λ (both : List Comp × List Comp). (composed next both.0, both.1))) m.is; from_left = m.from_left; from_right = composed_does start to m.to next m.both.0 h m.from_right }

  pub walked_converges : (k : ℕ) (cross : List Comp → List Comp → Crossed) → Converges k cross → (next : List Comp) (r : Comp) (ls : List Comp) (start at to left : List ℕ) → inserts ls ≤ k → applied_all start next ≡ Some to → applied at r ≡ Some to → applied_all at ls ≡ Some left → Meets (walked cross next r ls) left start
  walked_converges k cross conv next r [] start at to left few h e l =
      let same : at ≡ left = cc in
      record { both = (next, r ∷ []); to = to; is = refl; from_left = applied_all-one left r ∙ ap (λ (x : List ℕ). applied x r) (sym same) ∙ e; from_right = h }
  walked_converges k cross conv next r (l ∷ ls) start at to left few h e f =
      let first : First at l ls left = first_of_all at l ls left f in
      let c : Converge first.mid to l r = pairwise at first.mid to l r first.here e in
      let m : met next r l ≡ Some (composed next c.ls, c.rs) = rw (c.left_is, c.right_is) in
      let n : applied_all start (composed next c.ls) ≡ Some c.to = composed_does start to c.to next c.ls h c.from_right in
      let one : Several c.rs → inserts (l ∷ []) ≡ 1 = given_at (λ (cs : List Comp). Several cs → inserts (l ∷ []) ≡ 1) (moved_component r l true) c.rs c.right_is (several_past_insert r l true) in
      let fewer : Several c.rs → inserts ls < k = λ (h : Several c.rs). omega (arith, inserts-append (l ∷ []) ls, one h) in
      let b : Meets (after_meeting cross (composed next c.ls, c.rs) ls) left start =
      behind_meeting k cross conv (composed next c.ls) c.rs ls start first.mid c.to left fewer n c.from_left first.rest
      (λ one o. walked_converges k cross conv (composed next c.ls) one ls start first.mid c.to left (omega (arith, inserts-append (l ∷ []) ls)) n o first.rest) in
      record { both = b.both; to = b.to; is = ap (option_and_then (λ (at : List Comp × List Comp). after_meeting cross at ls)) m ∙ b.is; from_left = b.from_left; from_right = b.from_right }

  pub crossed_by_converges : (k : ℕ) (cross : List Comp → List Comp → Crossed) → Converges k cross → Keeps cross → (ls done rs : List Comp) (base at left right : List ℕ) → inserts ls ≤ k → applied_all base done ≡ Some left → applied_all at ls ≡ Some left → applied_all at rs ≡ Some right → Meets (crossed_by cross ls done rs) base right
  crossed_by_converges k cross conv keeps ls done [] base at left right few d l r =
      let same : at ≡ right = cc in
      record { both = (ls, done); to = left; is = refl; from_left = d; from_right = ap (λ (x : List ℕ). applied_all x ls) (sym same) ∙ l }
  crossed_by_converges k cross conv keeps ls done (c ∷ rs) base at left right few d l r =
      let first : First at c rs right = first_of_all at c rs right r in
      let w : Meets (walked cross [] c ls) left first.mid = walked_converges k cross conv [] c ls first.mid at first.mid left few refl first.here l in
      let kept : inserts w.both.0 ≤ 0 + inserts ls = given_at (λ (both : List Comp × List Comp). inserts both.0 ≤ 0 + inserts ls) (walked cross [] c ls) w.both w.is (walked_keeps cross keeps [] c ls) in
      let n : applied_all base (composed done w.both.1) ≡ Some w.to = composed_does base left w.to done w.both.1 d w.from_left in
      let m : Meets (crossed_by cross w.both.0 (composed done w.both.1) rs) base right =
      crossed_by_converges k cross conv keeps w.both.0 (composed done w.both.1) rs base first.mid w.to right (omega (arith, kept)) n w.from_right first.rest in
      record { both = m.both; to = m.to; is = ap (option_and_then (λ (both : List Comp × List Comp). crossed_by cross both.0 (composed done both.1) rs)) w.is ∙ m.is; from_left = m.from_left; from_right = m.from_right }

  within_converges : (n : ℕ) → Converges n (crossed_within n)
  within_converges zero text left right ls rs few l r = absurd (omega arith)
  within_converges (suc n) text left right ls rs few l r =
      crossed_by_converges n (crossed_within n) (within_converges n) (within_keeps n) ls [] rs left text left right (omega arith) refl l r

  -- CONVERGENCE: two operations of one text cross, and past each other they make one text
  pub crossed_converges : (text left right : List ℕ) (ls rs : List Comp) → applied_all text ls ≡ Some left → applied_all text rs ≡ Some right → Meets (crossed ls rs) left right
  crossed_converges text left right ls rs l r =
      let m : Meets (crossed_within (suc (inserts ls)) ls rs) left right = within_converges (suc (inserts ls)) text left right ls rs (omega arith) l r in
      let same : crossed_within (suc (inserts ls)) ls rs ≡ crossed ls rs = crossed_deep (suc (inserts ls)) ls rs (omega arith) in
      record { both = m.both; to = m.to; is = sym same ∙ m.is; from_left = m.from_left; from_right = m.from_right }
