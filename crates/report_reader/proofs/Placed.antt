-- Where an entry goes among the journals that are read.
use Rattle.std.proofs.Common.{◌≡◌, ◌+◌, ◌<◌, ◌++◌, ℕ, zero, suc, List, [], ◌∷◌, Bool, true, false, ◌&&◌, ◌==◌, Some, None, option_map, length, map, refl, sym, ap, ◌∙◌, arith}
use Rattle.std.proofs.lemmas.Bool.{eq-eqb, eqb-true, ne_eqb}
use Rattle.std.proofs.lemmas.List.{map-append}
use Rattle.journal_entries.specs.Journals.{Journaled, entries}
use Rattle.journal_entries.specs.declared.act.Entry.{Entry}
use Rattle.report_reader.specs.Boards.{boards_of}
use Rattle.report_reader.specs.Reports.{with_entry}

not_both : (a b : Bool) → (a ≡ true → b ≡ true → ⊥) → (a && b) ≡ false
not_both true true h = absurd (h refl refl)
not_both true false h = refl
not_both false b h = refl

pub on_same : (done : List (List Entry)) (es : List Entry) (e : Entry) → with_entry (length done) (length es) e (done ++ es ∷ []) ≡ Some (done ++ (es ++ e ∷ []) ∷ [])
on_same [] es e = rw (eq-eqb (length es) (length es) refl) refl
on_same (d ∷ done) es e = ap (option_map (λ more. d ∷ more)) (on_same done es e)

on_next : (done : List (List Entry)) (es : List Entry) (e : Entry) → with_entry (suc (length done)) 0 e (done ++ es ∷ []) ≡ Some ((done ++ es ∷ []) ++ (e ∷ []) ∷ [])
on_next [] es e = refl
on_next (d ∷ done) es e = ap (option_map (λ more. d ∷ more)) (on_next done es e)

on_other : (done : List (List Entry)) (es : List Entry) (b n : ℕ) (e : Entry) → (b ≡ length done → n ≡ length es → ⊥) → (b ≡ suc (length done) → n ≡ 0 → ⊥) → with_entry b n e (done ++ es ∷ []) ≡ None
on_other [] es zero n e not_here not_next = rw (ne_eqb n (length es) (not_here refl)) refl
on_other [] es (suc b) n e not_here not_next = rw (not_both (b == 0) (n == 0) (λ p q. not_next (ap suc (eqb-true b 0 p)) (eqb-true n 0 q))) refl
on_other (d ∷ []) es zero n e not_here not_next = refl
on_other (d ∷ k ∷ done) es zero n e not_here not_next = refl
on_other (d ∷ done) es (suc b) n e not_here not_next = ap (option_map (λ more. d ∷ more)) (on_other done es b n e (λ p q. not_here (ap suc p) q) (λ p q. not_next (ap suc p) q))

first_here : (done : List (List Entry)) (b n : ℕ) (e : Entry) → done ≡ [] → b ≡ length done → n ≡ 0 → with_entry b n e done ≡ Some (done ++ (e ∷ []) ∷ [])
first_here [] b n e none board number = rw (board, number) refl
first_here (d ∷ done) b n e none board number = absurd cc

-- behind the last entry
pub here : (done : List (List Entry)) (es : List Entry) (b n : ℕ) (e : Entry) → (es ≡ [] → done ≡ []) → b ≡ length done → n ≡ length es → with_entry b n e (boards_of done es) ≡ Some (boards_of done (es ++ e ∷ []))
here done [] b n e full board number = first_here done b n e (full refl) board number
here done (x ∷ xs) b n e full board number = rw (board, number) (on_same done (x ∷ xs) e)

-- as the first of the next board
pub next : (done : List (List Entry)) (es : List Entry) (b n : ℕ) (e : Entry) → 0 < length es → b ≡ length done + 1 → n ≡ 0 → with_entry b n e (boards_of done es) ≡ Some (boards_of (done ++ es ∷ []) (e ∷ []))
next done [] b n e some board number = absurd (omega (arith, some))
next done (x ∷ xs) b n e some board number =
    let later : b ≡ suc (length done) = omega (arith, board) in
    rw (later, number) (on_next done (x ∷ xs) e)

none_first : (done : List (List Entry)) (b n : ℕ) (e : Entry) → done ≡ [] → (b ≡ length done → n ≡ 0 → ⊥) → with_entry b n e done ≡ None
none_first [] b n e none not_here = rw (not_both (b == 0) (n == 0) (λ p q. not_here (eqb-true b 0 p) (eqb-true n 0 q))) refl
none_first (d ∷ done) b n e none not_here = absurd cc

-- nowhere else
pub other : (done : List (List Entry)) (es : List Entry) (b n : ℕ) (e : Entry) → (es ≡ [] → done ≡ []) → (b ≡ length done → n ≡ length es → ⊥) → (0 < length es → b ≡ length done + 1 → n ≡ 0 → ⊥) → with_entry b n e (boards_of done es) ≡ None
other done [] b n e full not_here not_next = none_first done b n e (full refl) not_here
other done (x ∷ xs) b n e full not_here not_next = on_other done (x ∷ xs) b n e not_here (λ p q. not_next (omega arith) (omega (arith, p)) q)

-- ---- the same of journals

count_mapped : (js : List Journaled) → length (map entries js) ≡ length js
count_mapped [] = refl
count_mapped (j ∷ js) = ap suc (count_mapped js)

pub put_here : (js : List Journaled) (last more : Journaled) (b n : ℕ) (e : Entry) (self : List (List Entry)) → boards_of (map entries js) (entries last) ≡ self → (entries last ≡ [] → js ≡ [])
    → b ≡ length js → n ≡ length (entries last) → entries more ≡ entries last ++ e ∷ [] → with_entry b n e self ≡ Some (boards_of (map entries js) (entries more))
put_here js last more b n e self view full board number pushed =
    rw (← view, pushed) (here (map entries js) (entries last) b n e (λ none. ap (map entries) (full none)) (board ∙ sym (count_mapped js)) number)

pub put_next : (js more : List Journaled) (last begun : Journaled) (b n : ℕ) (e : Entry) (self : List (List Entry)) → boards_of (map entries js) (entries last) ≡ self
    → 0 < length (entries last) → b ≡ length js + 1 → n ≡ 0 → more ≡ js ++ last ∷ [] → entries begun ≡ e ∷ [] → with_entry b n e self ≡ Some (boards_of (map entries more) (entries begun))
put_next js more last begun b n e self view some board number pushed first =
    let mapped : map entries more ≡ map entries js ++ entries last ∷ [] = ap (map entries) pushed ∙ map-append entries js (last ∷ []) in
    let l = count_mapped js in
    rw (← view, mapped, first) (next (map entries js) (entries last) b n e some (omega (arith, board, l)) number)

pub put_nowhere : (js : List Journaled) (last : Journaled) (b n : ℕ) (e : Entry) (self : List (List Entry)) → boards_of (map entries js) (entries last) ≡ self → (entries last ≡ [] → js ≡ [])
    → (b ≡ length js → n ≡ length (entries last) → ⊥) → (0 < length (entries last) → b ≡ length js + 1 → n ≡ 0 → ⊥) → with_entry b n e self ≡ None
put_nowhere js last b n e self view full not_here not_next =
    let l = count_mapped js in
    rw (← view) (other (map entries js) (entries last) b n e (λ none. ap (map entries) (full none)) (λ p q. not_here (p ∙ l) q) (λ s p q. not_next s (omega (arith, p, l)) q))
