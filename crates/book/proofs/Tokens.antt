-- Tokens differ, and a document's lock after one entry more.
use Rattle.std.proofs.Common.{◌≡◌, ◌≢◌, ℕ, ◌≤◌, List, [], ◌∷◌, ◌++◌, length, Bool, true, false, not, refl, sym, ap, ap₂, ◌∙◌, arith, eq-eqb, append-nil, length-append}
use Rattle.std.specs.Prelude.{Option, Some, None, if◌then◌else◌}
use Rattle.journal_entries.specs.declared.act.Act.{Act}
use Rattle.journal_entries.specs.declared.act.Act.TheVariants.{Acquired, Released}
use Rattle.journal_entries.specs.declared.act.Entry.{Entry}
use Rattle.journal_rules.specs.Documents.{is_in}
use Rattle.journal_rules.specs.Locks.{Acquiring, acquiring_of, acquirings, acquired_by, last_acquiring, next_token, released_by, released}
use Rattle.journal_rules.specs.Legal.{IsLegal}
use Rattle.journal_rules.proofs.Pushing.{acquirings-none, last_acquiring-push, released-push}
use Rattle.journal_rules.proofs.Fencing.{acquirings_more}
use Rattle.journal_rules.proofs.Waits.{by_end}
use Rattle.loading_rules.proofs.Tokens.{next_unreleased, tokens_differ}
use Rattle.loading_rules.proofs.Weakening.{legal_but}
use Rattle.book.specs.Standing.{lock_in, lock_of}
use Rattle.book.proofs.Owed.{in_others, in_here}

one_acquiring : (seat : ℕ) (a : Act) → length (acquiring_of seat a) ≤ 1
one_acquiring seat (Acquired doc token until) = omega arith
one_acquiring seat _ = omega arith

pub acquirings_short : (j : List Entry) → length (acquirings j) ≤ length j
acquirings_short = by_end (λ j. length (acquirings j) ≤ length j) none more
  where
    none : length (acquirings []) ≤ 0
    none = let l = ap length acquirings-none in omega (arith, l)

    more : (h : List Entry) (e : Entry) → length (acquirings h) ≤ length h → length (acquirings (h ++ e ∷ [])) ≤ length (h ++ e ∷ [])
    more h e le = let a = acquirings_more h e in let o = one_acquiring e.seat e.act in let n = length-append h (e ∷ []) in omega (arith, a, o, n, le)

-- ---- a document's lock behind an entry
pub lock_still : (d : ℕ) (j : List Entry) (seat : ℕ) (a : Act) → acquired_by d seat a (last_acquiring d j) ≡ last_acquiring d j → released_by a ≡ [] → lock_in (acquired_by d seat a (last_acquiring d j)) (released j ++ released_by a) ≡ lock_of d j
lock_still d j seat a same none = ap₂ (λ o l. lock_in o (released j ++ l)) same none ∙ ap (λ l. lock_in (last_acquiring d j) l) (append-nil (released j))

pub lock_push : (d : ℕ) (j : List Entry) (e : Entry) → lock_of d (j ++ e ∷ []) ≡ lock_in (acquired_by d e.seat e.act (last_acquiring d j)) (released j ++ released_by e.act)
lock_push d j e = ap₂ lock_in (last_acquiring-push d j e) (released-push j e)

-- it was acquired
pub lock_acquired : (d token until : ℕ) (j : List Entry) (e : Entry) → IsLegal j → e.act ≡ Acquired d token until → token ≡ next_token j → lock_of d (j ++ e ∷ []) ≡ record { last = token; until = until; seat = e.seat; held = true }
lock_acquired d token until j e legal is next =
    lock_push d j e
    ∙ ap (λ a. lock_in (acquired_by d e.seat a (last_acquiring d j)) (released j ++ released_by a)) is
    ∙ ap₂ (λ (b : Bool) (l : List ℕ). lock_in (if b then Some (record { seat = e.seat; doc = d; token = token; until = until }) else last_acquiring d j) l) (eq-eqb d d refl) (append-nil (released j))
    ∙ ap (λ b. record { last = token; until = until; seat = e.seat; held = not b }) (ap (λ t. is_in t (released j)) next ∙ next_unreleased j (legal_but j legal))

-- it was released
pub lock_released : (d token : ℕ) (a : Acquiring) (j : List Entry) (e : Entry) → e.act ≡ Released d token → last_acquiring d j ≡ Some a → a.token ≡ token
    → lock_of d (j ++ e ∷ []) ≡ record { last = (lock_of d j).last; until = (lock_of d j).until; seat = (lock_of d j).seat; held = false }
lock_released d token a j e is last same =
    lock_push d j e
    ∙ ap (λ x. lock_in (acquired_by d e.seat x (last_acquiring d j)) (released j ++ released_by x)) is
    ∙ ap (λ o. lock_in o (released j ++ token ∷ [])) last
    ∙ ap (λ b. record { last = a.token; until = a.until; seat = a.seat; held = not b }) (ap (λ t. is_in t (released j ++ token ∷ [])) same ∙ in_here token (released j))
    ∙ ap (λ o. record { last = (lock_in o (released j)).last; until = (lock_in o (released j)).until; seat = (lock_in o (released j)).seat; held = false }) (sym last)

-- another document's lock was released
pub lock_elsewhere : (d doc token : ℕ) (a : Acquiring) (j : List Entry) → IsLegal j → last_acquiring doc j ≡ Some a → a.token ≡ token → doc ≢ d → lock_in (last_acquiring d j) (released j ++ token ∷ []) ≡ lock_of d j
lock_elsewhere d doc token a j legal last is apart = by (last_acquiring d j) refl
  where
    by : (o : Option Acquiring) → last_acquiring d j ≡ o → lock_in o (released j ++ token ∷ []) ≡ lock_in o (released j)
    by None at = refl
    by (Some b) at = ap (λ c. record { last = b.token; until = b.until; seat = b.seat; held = not c }) (in_others b.token token (released j) (λ same. apart (tokens_differ j (legal_but j legal) doc d a b last at (is ∙ same))))
