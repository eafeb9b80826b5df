-- A component that is put behind an operation does what it did behind it.
use Rattle.std.proofs.Common.{◌≡◌, ℕ, ◌+◌, ◌-◌, ◌≤◌, Bool, true, false, List, [], ◌∷◌, ◌++◌, refl, ap, ap₂, sym, ◌∙◌, length, arith, Some, None, Option, subst, append_assoc, length-append, leb-true, le-leb}
use Rattle.std.specs.Prelude.{Result, Ok, Err, OnOk, nat_le, ◌&&◌, if◌then◌else◌}
use Rattle.std.specs.Option.{option_and_then}
use Rattle.std.proofs.lemmas.Bool.Decides.{nat_tests}
use Rattle.std.proofs.lemmas.List.{nil_from_length}
use Rattle.std.proofs.lemmas.List.Elements.{All-head, All-tail}
use Rattle.ot_units.specs.Text.{put_at}
use Rattle.ot_op.specs.Operation.{IsOp, is_void}
use Rattle.ot_op.specs.Apply.{applied, applied_all}
use Rattle.ot_op.specs.Compose.{behind, joined, appended, composed, DoesBoth, DoesInTurn}
use Rattle.ot_op.specs.declared.comp.Comp.{Comp}
use Rattle.ot_op.specs.declared.comp.Comp.TheVariants.{Ins, Del, Com}
use Rattle.ot_op.proofs.Applying.{applied_all-one}
use Rattle.ot_op.proofs.Pieces.{Cut, ins_as, del_as, ins_at, del_at, ins_cut, del_cut, cut_text, nested, Nested, put_mid}
use Rattle.std.proofs.lemmas.Bool.{and_parts}

-- an insert or delete of nothing
void_does : (text next : List ℕ) (c : Comp) → is_void c ≡ true → applied text c ≡ Some next → text ≡ next
void_does text next (Ins at part) v e =
    let c = ins_cut text at part next e in
    let nil : part ≡ [] = nil_from_length part (grind (arith, nat_tests)) in
    c.0.is ∙ ap (λ (x : List ℕ). c.0.front ++ (x ++ c.0.back)) (sym nil) ∙ sym c.1
void_does text next (Del at part) v e =
    let c = del_cut text at part next e in
    let nil : part ≡ [] = nil_from_length part (grind (arith, nat_tests)) in
    c.0.is ∙ ap (λ (x : List ℕ). c.0.front ++ (x ++ c.0.back)) nil ∙ sym c.1
void_does text next (Com at part thread) v e = cc

ins_ins : (text mid to : List ℕ) (p : ℕ) (s : List ℕ) (q : ℕ) (u : List ℕ) → applied text (Ins p s) ≡ Some mid → applied mid (Ins q u) ≡ Some to → p ≤ q → q ≤ p + length s → applied_all text (Ins p (put_at s (q - p) u) ∷ []) ≡ Some to
ins_ins text mid to p s q u h e low high =
    let a = ins_cut text p s mid h in
    let b = ins_cut mid q u to e in
    let n : Nested b.0.front a.0.front (s ++ a.0.back) b.0.back = nested a.0.front (s ++ a.0.back) b.0.front b.0.back (sym a.1 ∙ b.0.is) (omega (arith, a.0.len, b.0.len)) in
    let k : length b.0.front ≡ length a.0.front + length n.mid = ap length n.long_is ∙ length-append a.0.front n.mid in
    let m : Nested s n.mid b.0.back a.0.back = nested n.mid b.0.back s a.0.back (sym n.back_is) (omega (arith, k, a.0.len, b.0.len)) in
    let at : q - p ≡ length n.mid = omega (arith, k, a.0.len, b.0.len) in
    let part : put_at s (q - p) u ≡ n.mid ++ (u ++ m.mid) = ap₂ (λ (x : List ℕ) (i : ℕ). put_at x i u) m.long_is at ∙ put_mid n.mid u m.mid in
    let is : to ≡ a.0.front ++ ((n.mid ++ (u ++ m.mid)) ++ a.0.back) = b.1 ∙ ap₂ (λ (f : List ℕ) (g : List ℕ). f ++ (u ++ g)) n.long_is m.back_is ∙ simp append_assoc in
    ap (λ (x : List ℕ). applied_all text (Ins p x ∷ [])) part ∙ ins_as text a.0.front (n.mid ++ (u ++ m.mid)) a.0.back to p a.0.is (sym a.0.len) is

del_del : (text mid to : List ℕ) (p : ℕ) (s : List ℕ) (q : ℕ) (u : List ℕ) → applied text (Del p s) ≡ Some mid → applied mid (Del q u) ≡ Some to → q ≤ p → p ≤ q + length u → applied_all text (Del q (put_at u (p - q) s) ∷ []) ≡ Some to
del_del text mid to p s q u h e low high =
    let a = del_cut text p s mid h in
    let b = del_cut mid q u to e in
    let n : Nested a.0.front b.0.front (u ++ b.0.back) a.0.back = nested b.0.front (u ++ b.0.back) a.0.front a.0.back (sym b.0.is ∙ a.1) (omega (arith, a.0.len, b.0.len)) in
    let k : length a.0.front ≡ length b.0.front + length n.mid = ap length n.long_is ∙ length-append b.0.front n.mid in
    let m : Nested u n.mid a.0.back b.0.back = nested n.mid a.0.back u b.0.back (sym n.back_is) (omega (arith, k, a.0.len, b.0.len)) in
    let at : p - q ≡ length n.mid = omega (arith, k, a.0.len, b.0.len) in
    let part : put_at u (p - q) s ≡ n.mid ++ (s ++ m.mid) = ap₂ (λ (x : List ℕ) (i : ℕ). put_at x i s) m.long_is at ∙ put_mid n.mid s m.mid in
    let is : text ≡ b.0.front ++ ((n.mid ++ (s ++ m.mid)) ++ b.0.back) = a.0.is ∙ ap₂ (λ (f : List ℕ) (g : List ℕ). f ++ (s ++ g)) n.long_is m.back_is ∙ simp append_assoc in
    ap (λ (x : List ℕ). applied_all text (Del q x ∷ [])) part ∙ del_as text b.0.front (n.mid ++ (s ++ m.mid)) b.0.back to q is (sym b.0.len) b.1

-- two options that are one: each is what the other is
one_option : (o q : Option (List ℕ)) → ((to : List ℕ) → o ≡ Some to → q ≡ Some to) → ((to : List ℕ) → q ≡ Some to → o ≡ Some to) → o ≡ q
one_option None None f g = refl
one_option None (Some y) f g = g y refl
one_option (Some x) q f g = sym (f x refl)

-- what the first component and then the second do
in_turn : List ℕ → Comp → Comp → Option (List ℕ)
in_turn text l c = option_and_then (λ mid. applied mid c) (applied text l)

-- the text between the two
record Between (text : List ℕ) (l c : Comp) (to : List ℕ) : Type 0 where
  mid : List ℕ
  here : applied text l ≡ Some mid
  rest : applied mid c ≡ Some to

between : (text : List ℕ) (l c : Comp) (to : List ℕ) → in_turn text l c ≡ Some to → Between text l c to
unfolding in_turn
between text l c to e = go (applied text l) refl e
  where
    go : (o : Option (List ℕ)) → applied text l ≡ o → option_and_then (λ mid. applied mid c) o ≡ Some to → Between text l c to
    go None h f = cc
    go (Some mid) h f = record { mid = mid; here = h; rest = f }

turned : (text mid to : List ℕ) (l c : Comp) → applied text l ≡ Some mid → applied mid c ≡ Some to → in_turn text l c ≡ Some to
unfolding in_turn
turned text mid to l c h e = rw h e

two_same : (text : List ℕ) (l c : Comp) → applied_all text (l ∷ c ∷ []) ≡ in_turn text l c
unfolding in_turn
two_same text l c =
    elim (applied text l) as (λ o. option_and_then (λ next. applied_all next (c ∷ [])) o ≡ option_and_then (λ next. applied next c) o)
    [ None ↦ refl | Some next ↦ applied_all-one next c ]

ins_parted : (text to : List ℕ) (p : ℕ) (s : List ℕ) (q : ℕ) (u : List ℕ) → p ≤ q → q ≤ p + length s → applied_all text (Ins p (put_at s (q - p) u) ∷ []) ≡ Some to → in_turn text (Ins p s) (Ins q u) ≡ Some to
ins_parted text to p s q u low high e =
    let a = ins_cut text p (put_at s (q - p) u) to (sym (applied_all-one text (Ins p (put_at s (q - p) u))) ∙ e) in
    let mid : List ℕ = a.0.front ++ (s ++ a.0.back) in
    let first : applied text (Ins p s) ≡ Some mid = ap₂ (λ (x : List ℕ) (k : ℕ). applied x (Ins k s)) a.0.is (sym a.0.len) ∙ ins_at a.0.front s a.0.back in
    let long : length mid ≡ length a.0.front + (length s + length a.0.back) = length-append a.0.front (s ++ a.0.back) ∙ ap (λ (n : ℕ). length a.0.front + n) (length-append s a.0.back) in
    let fits : nat_le q (length mid) ≡ true = le-leb _ _ (omega (arith, long, a.0.len)) in
    let second : applied mid (Ins q u) ≡ Some (put_at mid q u) = rw fits refl in
    let whole : applied_all text (Ins p (put_at s (q - p) u) ∷ []) ≡ Some (put_at mid q u) = ins_ins text mid (put_at mid q u) p s q u first second low high in
    turned text mid to (Ins p s) (Ins q u) first (second ∙ sym whole ∙ e)

del_parted : (text to : List ℕ) (p : ℕ) (s : List ℕ) (q : ℕ) (u : List ℕ) → q ≤ p → p ≤ q + length u → applied_all text (Del q (put_at u (p - q) s) ∷ []) ≡ Some to → in_turn text (Del p s) (Del q u) ≡ Some to
del_parted text to p s q u low high e =
    let a = del_cut text q (put_at u (p - q) s) to (sym (applied_all-one text (Del q (put_at u (p - q) s))) ∙ e) in
    let m : Cut u (p - q) = cut_text u (p - q) (omega arith) in
    let part : put_at u (p - q) s ≡ m.front ++ (s ++ m.back) = ap₂ (λ (x : List ℕ) (i : ℕ). put_at x i s) m.is (sym m.len) ∙ put_mid m.front s m.back in
    let front : List ℕ = a.0.front ++ m.front in
    let back : List ℕ = m.back ++ a.0.back in
    let is : text ≡ front ++ (s ++ back) = a.0.is ∙ ap (λ (x : List ℕ). a.0.front ++ (x ++ a.0.back)) part ∙ simp append_assoc in
    let at : p ≡ length front = omega (arith, length-append a.0.front m.front, a.0.len, m.len) in
    let first : applied text (Del p s) ≡ Some (front ++ back) = ap₂ (λ (x : List ℕ) (k : ℕ). applied x (Del k s)) is at ∙ del_at front s back in
    let mid_is : front ++ back ≡ a.0.front ++ (u ++ a.0.back) = sym (ap (λ (x : List ℕ). a.0.front ++ (x ++ a.0.back)) m.is ∙ simp append_assoc) in
    let second : applied (front ++ back) (Del q u) ≡ Some (a.0.front ++ a.0.back) = ap₂ (λ (x : List ℕ) (k : ℕ). applied x (Del k u)) mid_is (sym a.0.len) ∙ del_at a.0.front u a.0.back in
    turned text (front ++ back) to (Del p s) (Del q u) first (second ∙ ap (λ (x : List ℕ). Some x) (sym a.1))

joined_if : (b : Bool) (text : List ℕ) (one : List Comp) (l c : Comp) → (b ≡ true → applied_all text one ≡ in_turn text l c) → applied_all text (if b then one else l ∷ c ∷ []) ≡ in_turn text l c
joined_if true text one l c h = h refl
joined_if false text one l c h = two_same text l c

joined_same : (text : List ℕ) (l c : Comp) → applied_all text (joined l c) ≡ in_turn text l c
joined_same text (Ins p s) (Ins q u) =
    joined_if (nat_le p q && nat_le q (p + length s)) text _ (Ins p s) (Ins q u)
    (λ t.
    let b = and_parts _ _ t in
    let low : p ≤ q = leb-true p q b.0 in
    let high : q ≤ p + length s = leb-true q (p + length s) b.1 in
    one_option _ _ (λ to e. ins_parted text to p s q u low high e)
    (λ to e. let m : Between text (Ins p s) (Ins q u) to = between text _ _ to e in ins_ins text m.mid to p s q u m.here m.rest low high))
joined_same text (Ins p s) (Del q u) = two_same text (Ins p s) (Del q u)
joined_same text (Ins p s) (Com q u t) = two_same text (Ins p s) (Com q u t)
joined_same text (Del p s) (Ins q u) = two_same text (Del p s) (Ins q u)
joined_same text (Del p s) (Del q u) =
    joined_if (nat_le q p && nat_le p (q + length u)) text _ (Del p s) (Del q u)
    (λ t.
    let b = and_parts _ _ t in
    let low : q ≤ p = leb-true q p b.0 in
    let high : p ≤ q + length u = leb-true p (q + length u) b.1 in
    one_option _ _ (λ to e. del_parted text to p s q u low high e)
    (λ to e. let m : Between text (Del p s) (Del q u) to = between text _ _ to e in del_del text m.mid to p s q u m.here m.rest low high))
joined_same text (Del p s) (Com q u t) = two_same text (Del p s) (Com q u t)
joined_same text (Com p s t) c = two_same text (Com p s t) c

-- A COMPONENT BEHIND AN OPERATION DOES WHAT IT DID BEHIND IT
pub behind_same : (text : List ℕ) (cs : List Comp) (c : Comp) → applied_all text (behind cs c) ≡ option_and_then (λ next. applied next c) (applied_all text cs)
unfolding in_turn
behind_same text [] c = applied_all-one text c
behind_same text (l ∷ []) c = joined_same text l c ∙ ap (λ (o : Option (List ℕ)). option_and_then (λ next. applied next c) o) (sym (applied_all-one text l))
behind_same text (l ∷ m ∷ ls) c =
    elim (applied text l) as (λ o. option_and_then (λ next. applied_all next (behind (m ∷ ls) c)) o ≡ option_and_then (λ next. applied next c) (option_and_then (λ next. applied_all next (m ∷ ls)) o))
    [ None ↦ refl | Some next ↦ behind_same next (m ∷ ls) c ]

pub appends : (text mid to : List ℕ) (cs : List Comp) (c : Comp) → applied_all text cs ≡ Some mid → applied mid c ≡ Some to → applied_all text (appended cs c) ≡ Some to
appends text mid to cs c h e = go (is_void c) refl
  where
    go : (b : Bool) → is_void c ≡ b → applied_all text (if b then cs else behind cs c) ≡ Some to
    go true v = h ∙ ap (λ (x : List ℕ). Some x) (void_does mid to c v e)
    go false v = behind_same text cs c ∙ rw h e

pub does_both : (comps : List Comp) (c : Comp) → DoesBoth comps c (appended comps c)
does_both comps c = record { solid = λ v text. rw v (behind_same text comps c); any = λ text to e. any_text text to (applied_all text comps) refl e }
  where
    any_text : (text to : List ℕ) (o : Option (List ℕ)) → applied_all text comps ≡ o → option_and_then (λ next. applied next c) o ≡ Some to → applied_all text (appended comps c) ≡ Some to
    any_text text to None h e = cc
    any_text text to (Some mid) h e = appends text mid to comps c h e

-- the same, of what was made
pub does_as : (comps : List Comp) (c : Comp) (made : List Comp) → made ≡ appended comps c → DoesBoth comps c made
does_as comps c made e = subst (λ xs. DoesBoth comps c xs) (sym e) (does_both comps c)

pub does_on : {T E : Type 0} (r : Result T E) (comps : List Comp) (c : Comp) (made : List Comp) → OnOk r (made ≡ appended comps c) → OnOk r (DoesBoth comps c made)
does_on (Ok x) comps c made e = does_as comps c made e
does_on (Err x) comps c made e = tt

abbrev Solid : Comp → Type 0
Solid c = is_void c ≡ false

-- what two operations do in turn, the second component by component
pub does_in_turn : (first second : List Comp) → IsOp second → DoesInTurn first second (composed first second)
does_in_turn first [] op text = elim (applied_all text first) as (λ o. o ≡ option_and_then (λ next. Some next) o) [ None ↦ refl | Some next ↦ refl ]
does_in_turn first (c ∷ cs) op text =
    let here = does_in_turn (appended first c) cs (All-tail Solid c cs op) text in
    here ∙ ap (λ (o : Option (List ℕ)). option_and_then (λ next. applied_all next cs) o) ((does_both first c).solid (All-head Solid c cs op) text) ∙ assoc (applied_all text first)
  where
    assoc : (o : Option (List ℕ)) → option_and_then (λ next. applied_all next cs) (option_and_then (λ next. applied next c) o) ≡ option_and_then (λ next. option_and_then (λ x. applied_all x cs) (applied next c)) o
    assoc None = refl
    assoc (Some mid) = refl
