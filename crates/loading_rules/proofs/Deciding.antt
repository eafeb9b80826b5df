-- What a decision over a text says, whatever the text is.
use Rattle.std.proofs.Common.{◌≡◌, ℕ, ◌+◌, List, [], ◌∷◌, length, Bool, true, false, ◌||◌, refl, ap, ◌∙◌, inl, inr}
use Rattle.std.specs.Prelude.{Option, Some, None, if◌then◌else◌, nat_lt}
use Rattle.std.specs.Option.{option_and_then}
use Rattle.ot_op.specs.declared.comp.Comp.{Comp}
use Rattle.ot_op.specs.Apply.{applied_all}
use Rattle.ot_transform.specs.Crossing.{Crossed, crossed}
use Rattle.journal_entries.specs.declared.update.Update.{Update}
use Rattle.journal_entries.specs.declared.update.Outcome.TheVariants.{Applied, Dup, Refused}
use Rattle.journal_entries.specs.declared.update.Cause.TheVariants.{Future, TooOld, TooLong}
use Rattle.journal_rules.specs.Documents.{is_in}
use Rattle.journal_rules.specs.Deciding.{Passed, Scan, Twin, Stuck, Moved, scanned, moved_on, longest, fitted, concluded, decided_of}
use Rattle.journal_rules.proofs.Lists.{AnyIn}

-- an operation is applied at the version
pub decided_at : (base have : ℕ) (here : Option (List ℕ)) (u : Update) (past : List Passed) (v : ℕ) (op : List Comp) → decided_of base have here u past ≡ Applied v op → v ≡ have
decided_at base have here u past v op e = first_test (nat_lt have u.v) (nat_lt u.v base || nat_lt (u.v + 100) have) e
  where
    by_fit : (o : List Comp) (next : List ℕ) (b : Bool) → (if b then Refused (TooLong (length next)) else Applied have o) ≡ Applied v op → v ≡ have
    by_fit o next true e = absurd (cc)
    by_fit o next false e = cc

    by_next : (o : List Comp) (r : Option (List ℕ)) → fitted have o r ≡ Applied v op → v ≡ have
    by_next o None e = absurd (cc)
    by_next o (Some next) e = by_fit o next (nat_lt longest (length next)) e

    by_scan : (s : Scan) → concluded have here s ≡ Applied v op → v ≡ have
    by_scan (Twin z) e = absurd (cc)
    by_scan Stuck e = absurd (cc)
    by_scan (Moved o) e = by_next o (option_and_then (λ now. applied_all now o) here) e

    first_test : (a b : Bool) → (if a then Refused (Future have) else if b then Refused (TooOld have) else concluded have here (scanned u.dup u.op past)) ≡ Applied v op → v ≡ have
    first_test true b e = absurd (cc)
    first_test false true e = absurd (cc)
    first_test false false e = by_scan (scanned u.dup u.op past) e

-- a duplicate is of one of those that passed
twin_in : (dup : List ℕ) (op : List Comp) (w : ℕ) (xs : List Passed) → scanned dup op xs ≡ Twin w → AnyIn (λ (x : Passed). x.v ≡ w) xs
twin_in dup op w [] e = absurd (cc)
twin_in dup op w (x ∷ xs) e = go (is_in x.source dup) (crossed op x.op) (λ next f. twin_in dup next w xs f) e
  where
    go : (b : Bool) (r : Crossed) → ((next : List Comp) → scanned dup next xs ≡ Twin w → AnyIn (λ (x : Passed). x.v ≡ w) xs) → (if b then Twin x.v else moved_on r (λ next. scanned dup next xs)) ≡ Twin w → AnyIn (λ (x : Passed). x.v ≡ w) (x ∷ xs)
    go true r rest f = inl (let same : x.v ≡ w = cc in same)
    go false None rest f = absurd (cc)
    go false (Some both) rest f = inr (rest both.0 f)

pub decided_dup : (base have : ℕ) (here : Option (List ℕ)) (u : Update) (past : List Passed) (w : ℕ) → decided_of base have here u past ≡ Dup w → AnyIn (λ (x : Passed). x.v ≡ w) past
decided_dup base have here u past w e = first_test (nat_lt have u.v) (nat_lt u.v base || nat_lt (u.v + 100) have) e
  where
    by_fit : (o : List Comp) (next : List ℕ) (b : Bool) → (if b then Refused (TooLong (length next)) else Applied have o) ≡ Dup w → AnyIn (λ (x : Passed). x.v ≡ w) past
    by_fit o next true e = absurd (cc)
    by_fit o next false e = absurd (cc)

    by_next : (o : List Comp) (r : Option (List ℕ)) → fitted have o r ≡ Dup w → AnyIn (λ (x : Passed). x.v ≡ w) past
    by_next o None e = absurd (cc)
    by_next o (Some next) e = by_fit o next (nat_lt longest (length next)) e

    by_scan : (s : Scan) → scanned u.dup u.op past ≡ s → concluded have here s ≡ Dup w → AnyIn (λ (x : Passed). x.v ≡ w) past
    by_scan (Twin z) moves e = let same : z ≡ w = cc in twin_in u.dup u.op w past (moves ∙ ap Twin same)
    by_scan Stuck moves e = absurd (cc)
    by_scan (Moved o) moves e = by_next o (option_and_then (λ now. applied_all now o) here) e

    first_test : (a b : Bool) → (if a then Refused (Future have) else if b then Refused (TooOld have) else concluded have here (scanned u.dup u.op past)) ≡ Dup w → AnyIn (λ (x : Passed). x.v ≡ w) past
    first_test true b e = absurd (cc)
    first_test false true e = absurd (cc)
    first_test false false e = by_scan (scanned u.dup u.op past) refl e
