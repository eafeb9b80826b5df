-- The entries of one seat in a journal that got longer.
use Rattle.std.proofs.Common.{◌≡◌, ◌≢◌, ℕ, zero, suc, ◌≤◌, List, [], ◌∷◌, ◌++◌, length, All, Bool, true, false, refl, sym, ap, ◌∙◌, subst, arith, append-nil, append_assoc, get_or, eqb, eq-eqb, ne_eqb, length-append}
use Rattle.std.specs.Prelude.{nat_le, if◌then◌else◌}
use Rattle.std.proofs.lemmas.List.Elements.{filter-append}
use Rattle.std.proofs.lemmas.Bool.{le-leb}
use Rattle.journal_entries.specs.declared.act.Entry.{Entry}
use Rattle.board.specs.Views.{made_by, Begins, longer}

pub all_map : {X : Type 0} (P Q : X → Type 0) (xs : List X) → ((x : X) → P x → Q x) → All P xs → All Q xs
all_map P Q xs f all k d h = f (get_or xs k d) (all k d h)

pub all_both : {X : Type 0} (P Q R : X → Type 0) (xs : List X) → ((x : X) → P x → Q x → R x) → All P xs → All Q xs → All R xs
all_both P Q R xs f p q k d h = f (get_or xs k d) (p k d h) (q k d h)

pub all_one : {X : Type 0} (P : X → Type 0) (x : X) → P x → All P (x ∷ [])
all_one P x p zero d h = p
all_one P x p (suc k) d h = absurd (omega arith)

-- none is of the seat m
pub made_by-apart : (m : ℕ) (es : List Entry) → All (λ (e : Entry). e.seat ≢ m) es → made_by m es ≡ []
made_by-apart m [] all = refl
made_by-apart m (e ∷ es) all =
    let P : Bool → Type 0 = λ b. (if b then e ∷ made_by m es else made_by m es) ≡ [] in
    subst P (sym (ne_eqb e.seat m (all 0 e (omega arith)))) (made_by-apart m es (λ k d h. all (suc k) d (omega arith)))

-- what was added is of the seat n, so m has no more
pub made_by-others : (m n : ℕ) (log own : List Entry) → m ≢ n → All (λ (e : Entry). e.seat ≡ n) own → made_by m (log ++ own) ≡ made_by m log
made_by-others m n log own apart all =
    filter-append (λ (e : Entry). eqb e.seat m) log own
    ∙ ap (λ es. made_by m log ++ es) (made_by-apart m own (all_map (λ (e : Entry). e.seat ≡ n) (λ (e : Entry). e.seat ≢ m) own (λ e is same. apart (sym same ∙ is)) all))
    ∙ append-nil (made_by m log)

pub begins_longer : (seen log own : List Entry) → Begins seen log → Begins seen (log ++ own)
begins_longer seen log own b = (b.0 ++ own, ap (λ l. l ++ own) b.1 ∙ append_assoc seen b.0 own)

pub longer_begins : (xs ys log : List Entry) → Begins xs log → Begins ys log → Begins (longer xs ys) log
longer_begins xs ys log a b = elim (nat_le (length ys) (length xs)) as (λ c. Begins (if c then xs else ys) log) [ true ↦ a | false ↦ b ]

-- the whole is no shorter than any beginning
pub longer_whole : (log ys : List Entry) → Begins ys log → longer log ys ≡ log
longer_whole log ys b =
    let short : length ys ≤ length log = omega (arith, ap length b.1, length-append ys b.0) in
    subst (λ (c : Bool). (if c then log else ys) ≡ log) (sym (le-leb (length ys) (length log) short)) refl

-- entries that are all of the seat n
pub made_by-own : (n : ℕ) (own : List Entry) → All (λ (e : Entry). e.seat ≡ n) own → made_by n own ≡ own
made_by-own n [] all = refl
made_by-own n (e ∷ es) all =
    let rest = made_by-own n es (λ k d h. all (suc k) d (omega arith)) in
    ap (λ b. if b then e ∷ made_by n es else made_by n es) (eq-eqb e.seat n (all 0 e (omega arith))) ∙ ap (λ l. e ∷ l) rest

pub made_by-more : (n : ℕ) (seen own made log : List Entry) → made_by n seen ≡ made → log ≡ seen ++ own → All (λ (e : Entry). e.seat ≡ n) own → made_by n log ≡ made ++ own
made_by-more n seen own made log is more all = ap (made_by n) more ∙ filter-append (λ (e : Entry). eqb e.seat n) seen own ∙ ap (λ l. l ++ made_by n own) is ∙ ap (λ l. made ++ l) (made_by-own n own all)

pub All-front : {X : Type 0} (P : X → Type 0) (xs ys : List X) → All P (xs ++ ys) → All P xs
All-front P [] ys all k d h = absurd (omega arith)
All-front P (x ∷ xs) ys all zero d h = all zero d (omega arith)
All-front P (x ∷ xs) ys all (suc k) d h = All-front P xs ys (λ j d h. all (suc j) d (omega arith)) k d (omega arith)
