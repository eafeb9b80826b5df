-- An update whose operation applies to the text of its own version is no mismatch.
use Rattle.std.proofs.Common.{◌≡◌, ℕ, ◌+◌, ◌-◌, List, [], ◌∷◌, length, map, Bool, true, false, ◌||◌, refl, sym, ap, ◌∙◌, subst, arith, take, drop}
use Rattle.std.specs.Prelude.{Option, Some, None, if◌then◌else◌, nat_lt}
use Rattle.std.specs.Option.{option_and_then}
use Rattle.ot_op.specs.declared.comp.Comp.{Comp}
use Rattle.ot_op.specs.Apply.{applied_all}
use Rattle.ot_transform.specs.Crossing.{crossed}
use Rattle.ot_transform.proofs.Converging.{Meets}
use Rattle.ot_transform.proofs.Cases.{convergence}
use Rattle.journal_entries.specs.declared.update.Update.{Update}
use Rattle.journal_entries.specs.declared.update.Outcome.TheVariants.{Applied, Refused}
use Rattle.journal_entries.specs.declared.update.Cause.TheVariants.{Future, TooOld, Mismatch, TooLong}
use Rattle.journal_entries.specs.declared.act.Entry.{Entry}
use Rattle.journal_rules.specs.Documents.{Item, applied_list, base, first, version, text, text_at, replayed, is_in}
use Rattle.journal_rules.specs.Deciding.{passed_of, concluded, fitted, scanned, moved_on, Scan, Twin, Moved, longest}
use Rattle.journal_rules.specs.Legal.{IsLegal}
use Rattle.journal_laws.specs.Mismatch.{AppliesAtItsVersion, IsNoMismatch}
use Rattle.journal_rules.specs.Documents.{IsMade}
use Rattle.journal_rules.proofs.Lists.{cut_at_length, some_same}
use Rattle.journal_rules.proofs.Replaying.{ops, replayed_first}
use Rattle.journal_laws.proofs.ClientsOn.{text_exists}
use Rattle.journal_laws.proofs.Everything.{world}
use Rattle.journal_laws.proofs.Laws.{text_there}

-- a scan of items that lead from one text to another, of an operation that applies to the first
data Passes (there : List ℕ) : Scan → Type 0 where
  Found : (w : ℕ) → Passes there (Twin w)
  Through : (o : List Comp) (to : List ℕ) → applied_all there o ≡ Some to → Passes there (Moved o)

scan_on : (dup : List ℕ) (op : List Comp) (here to there : List ℕ) (xs : List Item) → applied_all here op ≡ Some to → replayed here (ops xs) ≡ Some there → Passes there (scanned dup op (map passed_of xs))
scan_on dup op here to there [] a r = let same : here ≡ there = some_same here there r in Through op to (ap (λ (t : List ℕ). applied_all t op) (sym same) ∙ a)
scan_on dup op here to there (x ∷ xs) a r = go (is_in x.update.source dup) (applied_all here x.op) refl r (λ both next to2 b s. scan_on dup both next to2 there xs b s)
  where
    met : (next : List ℕ) → applied_all here x.op ≡ Some next → Meets (crossed op x.op) to next
    met next e = convergence here to next op x.op a e

    go : (b : Bool) (o : Option (List ℕ)) → applied_all here x.op ≡ o → option_and_then (λ next. replayed next (ops xs)) o ≡ Some there
        → ((both : List Comp) (next to2 : List ℕ) → applied_all next both ≡ Some to2 → replayed next (ops xs) ≡ Some there → Passes there (scanned dup both (map passed_of xs)))
        → Passes there (if b then Twin x.v else moved_on (crossed op x.op) (λ next. scanned dup next (map passed_of xs)))
    go true o e r rest = Found x.v
    go false None e r rest = absurd (cc)
    go false (Some next) e r rest =
        let m : Meets (crossed op x.op) to next = met next e in
        subst (λ o. Passes there (moved_on o (λ next. scanned dup next (map passed_of xs)))) (sym m.is) (rest m.both.0 next m.to m.from_right r)

pub never_mismatch : (j : List Entry) → IsLegal j → (d : ℕ) (u : Update) → IsMade d j → AppliesAtItsVersion j d u → IsNoMismatch j d u
never_mismatch j legal d u made fits e = first_test (nat_lt (version d j) u.v) e
  where
    rest : List Item
    rest = drop (u.v - base d j) (applied_list d j)

    whole : (t : List ℕ) × (replayed (first d j) (ops (applied_list d j)) ≡ Some t)
    whole = text_exists d j ((world j legal).items d made)

    text_is : text d j ≡ Some whole.0
    text_is = whole.1

    passes : Passes whole.0 (scanned u.dup u.op (map passed_of rest))
    passes =
        let low = fits.low in let high = fits.high in
        let c = cut_at_length (u.v - base d j) (applied_list d j) (omega (arith, low, high)) in
        let l = c.1 in
        let r = replayed_first (first d j) whole.0 (take (u.v - base d j) (applied_list d j)) rest (ap (λ l. replayed (first d j) (ops l)) (sym c.0) ∙ whole.1) in
        let there : text_at d u.v j ≡ Some r.0 = text_there d u.v j (take (u.v - base d j) (applied_list d j)) rest c.0 (omega (arith, l, low)) ∙ r.1 in
        let same : fits.here ≡ r.0 = some_same fits.here r.0 (sym fits.here_is ∙ there) in
        scan_on u.dup u.op r.0 fits.to whole.0 rest (ap (λ (t : List ℕ). applied_all t u.op) (sym same) ∙ fits.applies) r.2

    by_fit : (o : List Comp) (next : List ℕ) (b : Bool) → (if b then Refused (TooLong (length next)) else Applied (version d j) o) ≡ Refused Mismatch → ⊥
    by_fit o next true e = cc
    by_fit o next false e = cc

    by_scan : (s : Scan) → Passes whole.0 s → concluded (version d j) (text d j) s ≡ Refused Mismatch → ⊥
    by_scan s (Found w) e = cc
    by_scan s (Through o to' a) e =
        let f : fitted (version d j) o (Some to') ≡ Refused Mismatch = ap (fitted (version d j) o) (sym (ap (option_and_then (λ here. applied_all here o)) text_is ∙ a)) ∙ e in
        by_fit o to' (nat_lt longest (length to')) f

    second_test : (b : Bool) → (if b then Refused (TooOld (version d j)) else concluded (version d j) (text d j) (scanned u.dup u.op (map passed_of rest))) ≡ Refused Mismatch → ⊥
    second_test true e = cc
    second_test false e = by_scan (scanned u.dup u.op (map passed_of rest)) passes e

    first_test : (b : Bool) → (if b then Refused (Future (version d j)) else if nat_lt u.v (base d j) || nat_lt (u.v + 100) (version d j) then Refused (TooOld (version d j)) else concluded (version d j) (text d j) (scanned u.dup u.op (map passed_of rest))) ≡ Refused Mismatch → ⊥
    first_test true e = cc
    first_test false e = second_test (nat_lt u.v (base d j) || nat_lt (u.v + 100) (version d j)) e
