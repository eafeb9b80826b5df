-- Deep enough is deep enough: `crossed` is one round of the walk over itself.
use Rattle.std.proofs.Common.{◌≡◌, ℕ, zero, suc, ◌+◌, ◌-◌, ◌<◌, ◌≤◌, Bool, true, false, List, [], ◌∷◌, ◌++◌, refl, ap, sym, ◌∙◌, take, drop, length, arith, Some, None, Option, ⊎_elim}
use Rattle.std.specs.Prelude.{nat_le, nat_lt, ◌==◌, ◌&&◌, if◌then◌else◌}
use Rattle.std.specs.Option.{option_and_then, option_map}
use Rattle.std.proofs.lemmas.Bool.{cases_lt}
use Rattle.ot_op.specs.Operation.{is_void}
use Rattle.ot_op.specs.Compose.{joined, behind, appended, composed}
use Rattle.ot_op.specs.declared.comp.Comp.{Comp}
use Rattle.ot_op.specs.declared.comp.Comp.TheVariants.{Ins, Del, Com}
use Rattle.ot_transform.specs.Crossing.{moved_component, deleted_before, deleted_behind, left_of, agree, Crossed, by_hand, met, walked, crossed_by, crossed_within, inserts, crossed}

pub inserts-append : (xs ys : List Comp) → inserts (xs ++ ys) ≡ inserts xs + inserts ys
inserts-append [] ys = omega arith
inserts-append (Ins p s ∷ xs) ys = omega (arith, inserts-append xs ys)
inserts-append (Del p s ∷ xs) ys = omega (arith, inserts-append xs ys)
inserts-append (Com p s t ∷ xs) ys = omega (arith, inserts-append xs ys)

inserts_if : (b : Bool) (xs ys : List Comp) (n : ℕ) → inserts xs ≤ n → inserts ys ≤ n → inserts (if b then xs else ys) ≤ n
inserts_if true xs ys n h k = h
inserts_if false xs ys n h k = k

inserts-cons : (c : Comp) (cs : List Comp) → inserts (c ∷ cs) ≡ inserts (c ∷ []) + inserts cs
inserts-cons c cs = inserts-append (c ∷ []) cs

inserts-joined : (l c : Comp) → inserts (joined l c) ≤ inserts (l ∷ []) + inserts (c ∷ [])
inserts-joined (Ins p s) (Ins q u) = inserts_if (nat_le p q && nat_le q (p + length s)) _ _ _ (omega arith) (omega arith)
inserts-joined (Ins p s) (Del q u) = omega arith
inserts-joined (Ins p s) (Com q u t) = omega arith
inserts-joined (Del p s) (Ins q u) = omega arith
inserts-joined (Del p s) (Del q u) = inserts_if (nat_le q p && nat_le p (q + length u)) _ _ _ (omega arith) (omega arith)
inserts-joined (Del p s) (Com q u t) = omega arith
inserts-joined (Com p s t) c = omega (arith, inserts-cons (Com p s t) (c ∷ []))

inserts-behind : (cs : List Comp) (c : Comp) → inserts (behind cs c) ≤ inserts cs + inserts (c ∷ [])
inserts-behind [] c = omega arith
inserts-behind (l ∷ []) c = inserts-joined l c
inserts-behind (l ∷ m ∷ ls) c = omega (arith, inserts-behind (m ∷ ls) c, inserts-cons l (behind (m ∷ ls) c), inserts-cons l (m ∷ ls))

inserts-appended : (cs : List Comp) (c : Comp) → inserts (appended cs c) ≤ inserts cs + inserts (c ∷ [])
inserts-appended cs c = inserts_if (is_void c) cs (behind cs c) _ (omega arith) (inserts-behind cs c)

pub inserts-composed : (cs ds : List Comp) → inserts (composed cs ds) ≤ inserts cs + inserts ds
inserts-composed cs [] = omega arith
inserts-composed cs (d ∷ ds) = omega (arith, inserts-composed (appended cs d) ds, inserts-appended cs d, inserts-cons d ds)

-- the value of an option, where the fact P holds of it
abbrev pub IfGiven : {A : Type 0} → Option A → (A → Type 0) → Type 0
IfGiven None P = Unit {0}
IfGiven (Some x) P = P x

pub given_if : {A : Type 0} (P : A → Type 0) (b : Bool) (o p : Option A) → IfGiven o P → IfGiven p P → IfGiven (if b then o else p) P
given_if P true o p h k = h
given_if P false o p h k = k

-- no component gains inserts on its way
pub inserts-moved_component : (c o : Comp) (right : Bool) → IfGiven (moved_component c o right) (λ cs. inserts cs ≤ inserts (c ∷ []))
inserts-moved_component (Ins p s) (Ins q u) right = omega arith
inserts-moved_component (Ins p s) (Del q u) right = omega arith
inserts-moved_component (Ins p s) (Com q u t) right = omega arith
inserts-moved_component (Del p s) (Ins q u) right =
    omega (arith, inserts-append (deleted_before p s q) (deleted_behind p s q (length u)), inserts_if (nat_lt p q) (Del p (take (q - p) s) ∷ []) [] 0 (omega arith) (omega arith), inserts_if (length (drop (q - p) s) == 0) [] (Del (p + length u) (drop (q - p) s) ∷ []) 0 (omega arith) (omega arith))
inserts-moved_component (Del p s) (Del q u) right =
    let P : List Comp → Type 0 = λ cs. inserts cs ≤ 0 in
    given_if P (nat_le (q + length u) p) _ _ (omega arith) (given_if P (nat_le (p + length s) q) _ _ (omega arith) (given_if P (agree p s q u) _ _ (inserts_if (length (left_of p s q (length u)) == 0) _ _ 0 (omega arith) (omega arith)) tt))
inserts-moved_component (Del p s) (Com q u t) right = omega arith
inserts-moved_component (Com p s t) (Ins q u) right =
    let P : List Comp → Type 0 = λ cs. inserts cs ≤ 0 in
    given_if P (nat_lt p q && nat_lt q (p + length s)) _ _ (omega arith) (omega arith)
inserts-moved_component (Com p s t) (Del q u) right =
    let P : List Comp → Type 0 = λ cs. inserts cs ≤ 0 in
    given_if P (nat_le (q + length u) p) _ _ (omega arith) (given_if P (nat_le (p + length s) q) _ _ (omega arith) (given_if P (agree p s q u) _ _ (omega arith) tt))
inserts-moved_component (Com p s t) (Com q u v) right = omega arith

-- several come of one component only past an insert
abbrev pub Several : List Comp → Type 0
Several [] = ⊥
Several (c ∷ []) = ⊥
Several (c ∷ d ∷ cs) = Unit {0}

several_if : (b : Bool) (xs ys : List Comp) (P : Type 0) → (Several xs → P) → (Several ys → P) → Several (if b then xs else ys) → P
several_if true xs ys P h k = h
several_if false xs ys P h k = k

pub several_past_insert : (c o : Comp) (right : Bool) → IfGiven (moved_component c o right) (λ cs. Several cs → inserts (o ∷ []) ≡ 1)
several_past_insert (Ins p s) (Ins q u) right = λ h. absurd h
several_past_insert (Ins p s) (Del q u) right = λ h. absurd h
several_past_insert (Ins p s) (Com q u t) right = λ h. absurd h
several_past_insert (Del p s) (Ins q u) right = λ h. omega arith
several_past_insert (Del p s) (Del q u) right =
    let P : List Comp → Type 0 = λ cs. Several cs → inserts (Del q u ∷ []) ≡ 1 in
    given_if P (nat_le (q + length u) p) _ _ (λ h. absurd h) (given_if P (nat_le (p + length s) q) _ _ (λ h. absurd h) (given_if P (agree p s q u) _ _ (several_if (length (left_of p s q (length u)) == 0) _ _ _ (λ h. absurd h) (λ h. absurd h)) tt))
several_past_insert (Del p s) (Com q u t) right = λ h. absurd h
several_past_insert (Com p s t) (Ins q u) right =
    let P : List Comp → Type 0 = λ cs. Several cs → inserts (Ins q u ∷ []) ≡ 1 in
    given_if P (nat_lt p q && nat_lt q (p + length s)) _ _ (λ h. absurd h) (λ h. absurd h)
several_past_insert (Com p s t) (Del q u) right =
    let P : List Comp → Type 0 = λ cs. Several cs → inserts (Del q u ∷ []) ≡ 1 in
    given_if P (nat_le (q + length u) p) _ _ (λ h. absurd h) (given_if P (nat_le (p + length s) q) _ _ (λ h. absurd h) (given_if P (agree p s q u) _ _ (λ h. absurd h) tt))
several_past_insert (Com p s t) (Com q u v) right = λ h. absurd h

-- the new left list has no more inserts than the old one
abbrev pub Keeps : (List Comp → List Comp → Crossed) → Type 0
Keeps cross = (left right : List Comp) → IfGiven (cross left right) (λ both. inserts both.0 ≤ inserts left)

pub given_then : {A B : Type 0} (P : A → Type 0) (Q : B → Type 0) (f : A → Option B) (o : Option A) → IfGiven o P → ((x : A) → P x → IfGiven (f x) Q) → IfGiven (option_and_then f o) Q
given_then P Q f None h k = tt
given_then P Q f (Some x) h k = k x h

pub given_weaker : {A : Type 0} (P Q : A → Type 0) (o : Option A) → ((x : A) → P x → Q x) → IfGiven o P → IfGiven o Q
given_weaker P Q None k h = tt
given_weaker P Q (Some x) k h = k x h

pub given_map : {A B : Type 0} (P : A → Type 0) (Q : B → Type 0) (f : A → B) (o : Option A) → IfGiven o P → ((x : A) → P x → Q (f x)) → IfGiven (option_map f o) Q
given_map P Q f None h k = tt
given_map P Q f (Some x) h k = k x h

pub given_any : {A : Type 0} (o : Option A) → IfGiven o (λ _. Unit {0})
given_any None = tt
given_any (Some x) = tt

pub hand_given : (P : (List Comp × List Comp) → Type 0) (hand : List Comp) (empty : Crossed) (one : Comp → Crossed) (several : List Comp → Crossed) → IfGiven empty P → ((c : Comp) → IfGiven (one c) P) → ((cs : List Comp) → IfGiven (several cs) P) → IfGiven (by_hand hand empty one several) P
hand_given P [] empty one several a b c = a
hand_given P (r ∷ []) empty one several a b c = b r
hand_given P (r ∷ s ∷ rs) empty one several a b c = c (r ∷ s ∷ rs)

given_always : {A : Type 0} (P : A → Type 0) (o : Option A) → ((x : A) → P x) → IfGiven o P
given_always P None h = tt
given_always P (Some x) h = h x

pub given_both : {A : Type 0} (P Q : A → Type 0) (o : Option A) → IfGiven o P → IfGiven o Q → IfGiven o (λ x. P x × Q x)
given_both P Q None h k = tt
given_both P Q (Some x) h k = (h, k)

-- what `met` gives has few inserts, and several in hand only behind an insert
pub met_keeps : (next : List Comp) (r l : Comp) → IfGiven (met next r l) (λ at. (inserts at.0 ≤ inserts next + inserts (l ∷ [])) × (Several at.1 → inserts (l ∷ []) ≡ 1))
met_keeps next r l =
    let Q : (List Comp × List Comp) → Type 0 = λ at. (inserts at.0 ≤ inserts next + inserts (l ∷ [])) × (Several at.1 → inserts (l ∷ []) ≡ 1) in
    given_then (λ cs. inserts cs ≤ inserts (l ∷ [])) Q _ (moved_component l r false) (inserts-moved_component l r false)
    (λ left fits. given_map (λ cs. Several cs → inserts (l ∷ []) ≡ 1) Q _ (moved_component r l true) (several_past_insert r l true) (λ hand h. (omega (arith, inserts-composed next left), h)))

pub walked_keeps : (cross : List Comp → List Comp → Crossed) → Keeps cross → (next : List Comp) (r : Comp) (ls : List Comp) → IfGiven (walked cross next r ls) (λ both. inserts both.0 ≤ inserts next + inserts ls)
walked_keeps cross keeps next r [] = omega arith
walked_keeps cross keeps next r (l ∷ ls) =
    let Q : (List Comp × List Comp) → Type 0 = λ both. inserts both.0 ≤ inserts next + inserts (l ∷ ls) in
    given_then (λ at. (inserts at.0 ≤ inserts next + inserts (l ∷ [])) × (Several at.1 → inserts (l ∷ []) ≡ 1)) Q _ (met next r l) (met_keeps next r l)
    (λ at fits.
    let so_far : inserts at.0 + inserts ls ≤ inserts next + inserts (l ∷ ls) = omega (arith, fits.0, inserts-cons l ls) in
    hand_given Q at.1 _ _ _
    (omega (arith, inserts-composed at.0 ls))
    (λ one. given_weaker (λ both. inserts both.0 ≤ inserts at.0 + inserts ls) Q _ (λ both h. omega arith) (walked_keeps cross keeps at.0 one ls))
    (λ several. given_map (λ both. inserts both.0 ≤ inserts ls) Q _ _ (keeps ls several) (λ both h. omega (arith, inserts-composed at.0 both.0))))

pub crossed_by_keeps : (cross : List Comp → List Comp → Crossed) → Keeps cross → (left done rs : List Comp) → IfGiven (crossed_by cross left done rs) (λ both. inserts both.0 ≤ inserts left)
crossed_by_keeps cross keeps left done [] = omega arith
crossed_by_keeps cross keeps left done (r ∷ rs) =
    let Q : (List Comp × List Comp) → Type 0 = λ both. inserts both.0 ≤ inserts left in
    given_then (λ both. inserts both.0 ≤ 0 + inserts left) Q _ (walked cross [] r left) (walked_keeps cross keeps [] r left)
    (λ both h. given_weaker (λ w. inserts w.0 ≤ inserts both.0) Q _ (λ w k. omega arith) (crossed_by_keeps cross keeps both.0 (composed done both.1) rs))

pub within_keeps : (n : ℕ) → Keeps (crossed_within n)
within_keeps zero left right = tt
within_keeps (suc n) left right = crossed_by_keeps (crossed_within n) (within_keeps n) left [] right

-- two ways to cross that agree where the left list has fewer than k inserts
abbrev pub Agree : ℕ → (List Comp → List Comp → Crossed) → (List Comp → List Comp → Crossed) → Type 0
Agree k f g = (left right : List Comp) → inserts left < k → f left right ≡ g left right

then_agree : {A B : Type 0} (P : A → Type 0) (f g : A → Option B) (o : Option A) → IfGiven o P → ((x : A) → P x → f x ≡ g x) → option_and_then f o ≡ option_and_then g o
then_agree P f g None h k = refl
then_agree P f g (Some x) h k = k x h

hand_agree : (hand : List Comp) (empty : Crossed) (one one' : Comp → Crossed) (several several' : List Comp → Crossed) → ((c : Comp) → one c ≡ one' c) → (Several hand → several hand ≡ several' hand) → by_hand hand empty one several ≡ by_hand hand empty one' several'
hand_agree [] empty one one' several several' b c = refl
hand_agree (r ∷ []) empty one one' several several' b c = b r
hand_agree (r ∷ s ∷ rs) empty one one' several several' b c = c tt

pub walked_agree : (k : ℕ) (f g : List Comp → List Comp → Crossed) → Agree k f g → (next : List Comp) (r : Comp) (ls : List Comp) → inserts ls ≤ k → walked f next r ls ≡ walked g next r ls
walked_agree k f g same next r [] fits = refl
walked_agree k f g same next r (l ∷ ls) fits =
    then_agree (λ at. (inserts at.0 ≤ inserts next + inserts (l ∷ [])) × (Several at.1 → inserts (l ∷ []) ≡ 1)) _ _ (met next r l) (met_keeps next r l)
    (λ at kept. hand_agree at.1 _ _ _ _ _
    (λ one. walked_agree k f g same at.0 one ls (omega (arith, inserts-cons l ls)))
    (λ several. ap (option_map (λ (both : List Comp × List Comp). (composed at.0 both.0, both.1))) (same ls at.1 (omega (arith, inserts-cons l ls, kept.1 several)))))

pub crossed_by_agree : (k : ℕ) (f g : List Comp → List Comp → Crossed) → Agree k f g → Keeps f → (left done rs : List Comp) → inserts left ≤ k → crossed_by f left done rs ≡ crossed_by g left done rs
crossed_by_agree k f g same keeps left done [] fits = refl
crossed_by_agree k f g same keeps left done (r ∷ rs) fits =
    then_agree (λ both. inserts both.0 ≤ 0 + inserts left) _ _ (walked f [] r left) (walked_keeps f keeps [] r left)
    (λ both h. crossed_by_agree k f g same keeps both.0 (composed done both.1) rs (omega arith))
    ∙ ap (option_and_then (λ (both : List Comp × List Comp). crossed_by g both.0 (composed done both.1) rs)) (walked_agree k f g same [] r left fits)

pub within_agree : (n : ℕ) (left right : List Comp) → inserts left < n → crossed_within n left right ≡ crossed_within (suc n) left right
within_agree zero left right h = absurd (omega arith)
within_agree (suc n) left right h =
    crossed_by_agree n (crossed_within n) (crossed_within (suc n)) (within_agree n) (within_keeps n) left [] right (omega arith)

-- more depth changes nothing
pub crossed_deep : (n : ℕ) (left right : List Comp) → inserts left < n → crossed_within n left right ≡ crossed left right
unfolding crossed
crossed_deep zero left right h = absurd (omega arith)
crossed_deep (suc n) left right h = ⊎_elim
    (λ (l : inserts left < n). sym (within_agree n left right l) ∙ crossed_deep n left right l)
    (λ (g : n ≤ inserts left). let e : n ≡ inserts left = omega arith in ap (λ k. crossed_within (suc k) left right) e)
    (cases_lt (inserts left) n)

-- THE RULE OF `crossed`: one round of the walk, which crosses what is left by `crossed`
pub crossed_round : (left right : List Comp) → crossed left right ≡ crossed_by crossed left [] right
unfolding crossed
crossed_round left right =
    crossed_by_agree (inserts left) (crossed_within (inserts left)) crossed (crossed_deep (inserts left)) (within_keeps (inserts left)) left [] right (omega arith)
