-- The history of a project after one entry more, in numbers.
use Rattle.std.proofs.Common.{◌≡◌, ℕ, ◌+◌, ◌-◌, ◌≤◌, Bool, true, false, List, [], ◌∷◌, ◌++◌, length, refl, ap, ◌∙◌, subst, arith, length-append, length-drop}
use Rattle.std.specs.Prelude.{sum, if◌then◌else◌}
use Rattle.std.specs.Str.{bytes_eq}
use Rattle.std.proofs.lemmas.List.Sums.{sum_by-append}
use Rattle.std.proofs.lemmas.Slice.Eq.{bytes_eq-Decides}
use Rattle.journal_entries.specs.declared.act.Act.{Act}
use Rattle.journal_entries.specs.declared.act.Act.TheVariants.{Handed}
use Rattle.journal_entries.specs.declared.act.Entry.{Entry}
use Rattle.journal_rules.specs.History.{history_by, all_history, handed_by, handed, history}
use Rattle.journal_rules.specs.Legal.{IsAllowed, IsLegal}
use Rattle.journal_rules.proofs.Pushing.{handed-push, all_history-push, all_history-none}
use Rattle.journal_rules.proofs.Growing.{handed_within}

-- no more is handed out than is left
pub handed_fits : (p : List ℕ) (h : List Entry) (seat : ℕ) (a : Act) → IsAllowed h seat a → sum (handed_by p a) ≤ length (history p h)
handed_fits p h seat (Handed q count) may = by (bytes_eq q p) refl
  where
    by : (b : Bool) → bytes_eq q p ≡ b → sum (if b then count ∷ [] else []) ≤ length (history p h)
    by true same =
        let q_is : q ≡ p = (bytes_eq-Decides q p).0 same in
        let few : count ≤ length (history p h) = subst (λ (x : List ℕ). count ≤ length (history x h)) q_is may.within in
        omega (arith, few)
    by false same = omega arith
handed_fits p h seat _ may = omega arith

left : (p : List ℕ) (h : List Entry) → length (history p h) ≡ length (all_history p h) - sum (handed p h)
left p h = length-drop (sum (handed p h)) (all_history p h)

pub left_next : (p : List ℕ) (h : List Entry) (e : Entry) → IsLegal h → IsAllowed h e.seat e.act → length (history p (h ++ e ∷ [])) + sum (handed_by p e.act) ≡ length (history p h) + length (history_by p h e.act)
left_next p h e legal may =
    let now = left p h in let next = left p (h ++ e ∷ []) in
    let all = ap length (all_history-push p h e) ∙ length-append (all_history p h) (history_by p h e.act) in
    let out = ap sum (handed-push p h e) ∙ sum_by-append (λ (x : ℕ). x) (handed p h) (handed_by p e.act) in
    let within = handed_within p h legal in
    let fits = handed_fits p h e.seat e.act may in
    omega (arith, now, next, all, out, within, fits)

pub none_left : (p : List ℕ) → length (history p []) ≡ 0
none_left p = let now = left p [] in let all = ap length (all_history-none p) in omega (arith, now, all)
