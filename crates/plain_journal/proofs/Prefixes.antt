-- The first entries of a journal, and one more.
use Rattle.std.proofs.Common.{◌≡◌, ℕ, zero, suc, ◌+◌, ◌<◌, ◌≤◌, ◌^◌, List, [], ◌∷◌, ◌++◌, length, take, drop, get_or, length-take-le, map, refl, sym, ap, ap₂, ◌∙◌, subst, arith, Bool, true}
use Rattle.std.specs.Prelude.{◌||◌, ◌&&◌, ◌↔◌, nat_le, IsTrue, All, Option}
use Rattle.std.specs.List.{list_any, list_all}
use Rattle.std.proofs.lemmas.List.Folds.{list_any-append, list_all-append}
use Rattle.std.proofs.lemmas.List.{map-append, take_more, take-append-drop}
use Rattle.std.proofs.lemmas.List.Elements.{All-nil, All-cons, All-head, All-tail}
use Rattle.std.proofs.lemmas.Bool.{and_parts, leb-true as le_of}
use Rattle.std.proofs.lemmas.Bool.Decides.{nat_tests}
use Rattle.journal_entries.specs.declared.act.Act.{Act}
use Rattle.journal_entries.specs.declared.act.Act.TheVariants.{Ticked}
use Rattle.journal_entries.specs.declared.act.Entry.{Entry}
use Rattle.journal_rules.specs.Folds.{gathered_behind, gathered}
use Rattle.journal_rules.specs.Locks.{ticked, clock}
use Rattle.journal_rules.specs.Legal.{IsAllowed, IsLegal, clock_end}
use Rattle.journal_rules.proofs.Pushing.{clock-none, clock-push}
use Rattle.journal_rules.proofs.Legality.{Keeps, by_last, legal_front}
use Rattle.plain_journal.specs.Answers.{listed}

-- the first entries with the next one
pub take_next : (j : List Entry) (i : ℕ) (e : Entry) → i < length j → e ≡ get_or j i e → take (i + 1) j ≡ take i j ++ e ∷ []
take_next j i e lt is = take_more j i e lt ∙ ap (λ (x : Entry). take i j ++ x ∷ []) (sym is)

pub length_first : (j : List Entry) (i : ℕ) → i < length j → length (take i j) ≡ i
length_first j i lt = length-take-le i j (omega (arith, lt))

-- the first entries of a legal journal are one
pub legal_take : (j : List Entry) (i : ℕ) → IsLegal j → IsLegal (take i j)
legal_take j i legal = legal_front (take i j) (drop i j) (subst IsLegal (sym (take-append-drop i j)) legal)

-- the clock of a legal journal
pub clock_low : (j : List Entry) → IsLegal j → clock j ≤ clock_end
clock_low = by_last (λ j. clock j ≤ clock_end) (let n = clock-none in omega (arith, n)) more
  where
    one : (h : List Entry) (seat : ℕ) (a : Act) → IsAllowed h seat a → clock h ≤ clock_end → ticked a (clock h) ≤ clock_end
    one h seat (Ticked ms) may low = may
    one h seat _ may low = low

    more : Keeps (λ j. clock j ≤ clock_end)
    more h e legal may low = let p = clock-push h e in let o = one h e.seat e.act may low in omega (arith, p, o)

-- whether one of what the entries give, or all of it, passes a test
any_behind : {X : Type 0} (p : X → Bool) (gives : Entry → List X) (before es : List Entry) → list_any (λ e. list_any p (gives e)) es ≡ list_any p (gathered_behind (λ b e. gives e) before es)
any_behind p gives before [] = refl
any_behind p gives before (e ∷ es) =
    ap (λ b. list_any p (gives e) || b) (any_behind p gives (before ++ e ∷ []) es)
    ∙ sym (list_any-append p (gives e) (gathered_behind (λ b e. gives e) (before ++ e ∷ []) es))

pub any_gathered : {X : Type 0} (p : X → Bool) (gives : Entry → List X) (j : List Entry) → list_any (λ e. list_any p (gives e)) j ≡ list_any p (gathered (λ b e. gives e) j)
any_gathered p gives j = any_behind p gives [] j

all_behind : {X : Type 0} (p : X → Bool) (gives : Entry → List X) (before es : List Entry) → list_all (λ e. list_all p (gives e)) es ≡ list_all p (gathered_behind (λ b e. gives e) before es)
all_behind p gives before [] = refl
all_behind p gives before (e ∷ es) =
    ap (λ b. list_all p (gives e) && b) (all_behind p gives (before ++ e ∷ []) es)
    ∙ sym (list_all-append p (gives e) (gathered_behind (λ b e. gives e) (before ++ e ∷ []) es))

pub all_gathered : {X : Type 0} (p : X → Bool) (gives : Entry → List X) (j : List Entry) → list_all (λ e. list_all p (gives e)) j ≡ list_all p (gathered (λ b e. gives e) j)
all_gathered p gives j = all_behind p gives [] j

-- the words of the locks after one entry more
pub clock_next : (j : List Entry) (i : ℕ) (e : Entry) → i < length j → e ≡ get_or j i e → clock (take (i + 1) j) ≡ ticked e.act (clock (take i j))
clock_next j i e lt is = ap clock (take_next j i e lt is) ∙ clock-push (take i j) e

-- a list with what was found behind it
pub gathers_on : {X Y : Type 0} (view : X → Y) (list new : List X) (found : Option X) (was gives : List Y) → map view list ≡ was → new ≡ list ++ listed found → map view (listed found) ≡ gives → map view new ≡ was ++ gives
gathers_on view list new found was gives before is given = ap (map view) is ∙ map-append view list (listed found) ∙ ap₂ (λ x y. x ++ y) before given

-- documents are numbered by u32
pub numbered_on : (count more made : ℕ) → count ≡ made → more ≤ 1 → count ≤ 2 ^ 32 → (more ≡ 1 → made < 2 ^ 32) → count + more ≤ 2 ^ 32
numbered_on count zero made is few low may = omega arith
numbered_on count (suc zero) made is few low may = let m = may refl in omega (arith, m)
numbered_on count (suc (suc n)) made is few low may = absurd (omega arith)

-- none is greater, tested or said
least_parts : (end x : ℕ) (xs : List ℕ) → (list_all (λ n. nat_le n end) xs ≡ true → All (λ n. n ≤ end) xs) → list_all (λ n. nat_le n end) (x ∷ xs) ≡ true → All (λ n. n ≤ end) (x ∷ xs)
least_parts end x xs rest is = let both = and_parts (nat_le x end) (list_all (λ n. nat_le n end) xs) is in All-cons (λ n. n ≤ end) x xs (le_of x end both.0) (rest both.1)

least_said : (end : ℕ) (xs : List ℕ) → list_all (λ n. nat_le n end) xs ≡ true → All (λ n. n ≤ end) xs
least_said end [] is = All-nil (λ n. n ≤ end)
least_said end (x ∷ xs) is = least_parts end x xs (least_said end xs) is

least_tested : (end : ℕ) (xs : List ℕ) → All (λ n. n ≤ end) xs → list_all (λ n. nat_le n end) xs ≡ true
least_tested end [] all = refl
least_tested end (x ∷ xs) all =
    let h = All-head (λ n. n ≤ end) x xs all in
    let here : nat_le x end ≡ true = is_least x end h in
    ap (λ b. b && list_all (λ n. nat_le n end) xs) here ∙ least_tested end xs (All-tail (λ n. n ≤ end) x xs all)
  where
    is_least : (x end : ℕ) → x ≤ end → nat_le x end ≡ true
    is_least x end le = grind (arith, nat_tests)

pub all_least : (end : ℕ) (xs : List ℕ) (b : Bool) → b ≡ list_all (λ n. nat_le n end) xs → IsTrue b ↔ All (λ n. n ≤ end) xs
all_least end xs b is = (λ t. least_said end xs (sym is ∙ t), λ all. is ∙ least_tested end xs all)
