-- What stays as a journal grows: the drivers that closed, and the documents that were made.
use Rattle.std.proofs.Common.{◌≡◌, ℕ, ◌+◌, ◌<◌, List, [], ◌∷◌, ◌++◌, length, Bool, true, ◌||◌, sym, ap, ◌∙◌, subst, arith, append_assoc, append-nil, length-append}
use Rattle.std.specs.Prelude.{◌==◌}
use Rattle.std.proofs.lemmas.List.Folds.{list_any-append}
use Rattle.journal_entries.specs.declared.act.Entry.{Entry}
use Rattle.journal_rules.specs.Documents.{is_in, makings, making_of}
use Rattle.journal_rules.specs.Legal.{closed}
use Rattle.journal_rules.proofs.Pushing.{makings-push}
use Rattle.turn_rules.proofs.Owning.{closed_behind}
use Rattle.turn_rules.specs.Turns.{Among}
use Rattle.run_rules.specs.Threads.{is_by}
use Rattle.run_rules.proofs.Growing.{Extends}
use Rattle.seat_turns.specs.Closings.{IsEachClosed}

pub closed_on : (drivers : ℕ) (a b : List Entry) → Extends a b → IsEachClosed drivers a → IsEachClosed drivers b
closed_on drivers a b g each driver low = subst (λ (k : List Entry). is_in driver (closed k) ≡ true) (sym g.1) (closed_behind driver a g.0 (each driver low))

pub closed_among : (drivers m : ℕ) (a b : List Entry) → Among (is_by m) a b → IsEachClosed drivers a → IsEachClosed drivers b
closed_among drivers m a b x each = closed_on drivers a b (x.0, x.1) each

made_behind : (d : ℕ) (j more : List Entry) → d < length (makings j) → d < length (makings (j ++ more))
made_behind d j [] is = subst (λ (k : List Entry). d < length (makings k)) (sym (append-nil j)) is
made_behind d j (e ∷ es) is =
    subst (λ (k : List Entry). d < length (makings k)) (append_assoc j (e ∷ []) es)
    (made_behind d (j ++ e ∷ []) es
    (let n : length (makings (j ++ e ∷ [])) ≡ length (makings j) + length (making_of e.act) = ap length (makings-push j e) ∙ length-append (makings j) (making_of e.act) in omega (arith, n, is)))

pub made_on : (d : ℕ) (a b : List Entry) → Extends a b → d < length (makings a) → d < length (makings b)
made_on d a b g is = subst (λ (k : List Entry). d < length (makings k)) (sym g.1) (made_behind d a g.0 is)
