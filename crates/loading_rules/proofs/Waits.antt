-- What was committed stands before.
use Rattle.std.proofs.Common.{◌≡◌, ℕ, ◌+◌, ◌<◌, List, [], ◌∷◌, ◌++◌, length, sym, subst, arith, length-append, All}
use Rattle.std.proofs.lemmas.List.Elements.{All-append}
use Rattle.journal_entries.specs.declared.act.Act.{Act}
use Rattle.journal_entries.specs.declared.act.Act.TheVariants.{Committed}
use Rattle.journal_entries.specs.declared.act.Entry.{Entry}
use Rattle.journal_rules.specs.Documents.{ticket_of, committed}
use Rattle.journal_rules.proofs.Pushing.{committed-push, committed-none}
use Rattle.loading_rules.specs.LegalBut.{IsLegalBut, IsAllowedBut}
use Rattle.loading_rules.proofs.Legality.{Keeps, by_last}
use Rattle.journal_rules.proofs.Waits.{all_map, all_none, all_one, waits_within}

pub committed_below : (j : List Entry) → IsLegalBut j → All (λ t. t < length j) (committed j)
committed_below = by_last (λ j. All (λ t. t < length j) (committed j)) none more
  where
    none : All (λ t. t < 0) (committed [])
    none = subst (λ (l : List ℕ). All (λ t. t < 0) l) (sym committed-none) (all_none (λ t. t < 0))

    one : (h : List Entry) (seat : ℕ) (a : Act) → IsAllowedBut h seat a → All (λ t. t < length h + 1) (ticket_of a)
    one h seat (Committed doc token ticket outcome) may = all_one (λ t. t < length h + 1) ticket (let l = waits_within doc ticket h may.rest may.first in omega (arith, l))
    one h seat _ may = all_none (λ t. t < length h + 1)

    more : Keeps (λ j. All (λ t. t < length j) (committed j))
    more h e legal may all =
        let long : length (h ++ e ∷ []) ≡ length h + 1 = length-append h (e ∷ []) in
        subst (λ (l : List ℕ). All (λ t. t < length (h ++ e ∷ [])) l) (sym (committed-push h e))
        (All-append (λ t. t < length (h ++ e ∷ [])) (committed h) (ticket_of e.act)
        (all_map (λ t. t < length h) (λ t. t < length (h ++ e ∷ [])) (committed h) (λ t l. omega (arith, l, long)) all)
        (all_map (λ t. t < length h + 1) (λ t. t < length (h ++ e ∷ [])) (ticket_of e.act) (λ t l. omega (arith, l, long)) (one h e.seat e.act may)))
