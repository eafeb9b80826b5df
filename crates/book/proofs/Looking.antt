-- The decision by a document as it stands is the decision by the journal.
use Rattle.std.proofs.Common.{◌≡◌, ℕ, zero, suc, ◌+◌, ◌-◌, ◌≤◌, List, [], ◌∷◌, Bool, true, false, ◌||◌, ◌&&◌, length, map, drop, refl, sym, ap, ap₂, ◌∙◌, arith}
use Rattle.std.specs.Prelude.{Some, None, nat_lt, nat_le, if◌then◌else◌}
use Rattle.std.proofs.lemmas.Bool.{and_from, ltb-false, le-leb}
use Rattle.std.proofs.lemmas.List.{drop-map, length-map}
use Rattle.dup_check.specs.declared.past.Past.{Past}
use Rattle.dup_check.specs.Window.{Recent, reaches, since_in}
use Rattle.dup_check.specs.Snapshot.{numbered}
use Rattle.dup_check.proofs.Windows.{since_in-recent}
use Rattle.journal_entries.specs.declared.update.Update.{Update}
use Rattle.journal_entries.specs.declared.update.Outcome.{Outcome}
use Rattle.journal_entries.specs.declared.act.Entry.{Entry}
use Rattle.journal_rules.specs.Documents.{applied_list, base, version, text}
use Rattle.journal_rules.specs.Deciding.{passed_of, passed_since, scanned, concluded, decided_of, decided}
use Rattle.book.specs.declared.document.Document.{Document}
use Rattle.book.specs.Passing.{past_or_none, passed_by}
use Rattle.book.specs.Standing.{past_of, pasts, IsWindowOf, decision_on}

numbered-drop : (v k : ℕ) (xs : List Past) → drop k (numbered v xs) ≡ numbered (v + k) (drop k xs)
numbered-drop v zero xs = ap (λ n. numbered n xs) (let z : v ≡ v + 0 = omega arith in z)
numbered-drop v (suc k) [] = refl
numbered-drop v (suc k) (x ∷ xs) = numbered-drop (v + 1) k xs ∙ ap (λ n. numbered n (drop k xs)) (let z : v + 1 + k ≡ v + suc k = omega arith in z)

-- an update that is neither from the future nor too old is decided on by what passed since
same_decision : (a b c : Bool) (x y z w : Outcome) → (a ≡ false → b ≡ false → c ≡ false → z ≡ w) → (if a then x else if b || c then y else z) ≡ (if a then x else if b || c then y else w)
same_decision true b c x y z w same = refl
same_decision false true c x y z w same = refl
same_decision false false true x y z w same = refl
same_decision false false false x y z w same = same refl refl refl

-- a window that reaches back to a version has what passed since
pub passed_is : (d v : ℕ) (window : Recent) (j : List Entry) → IsWindowOf d window j → nat_lt window.version v ≡ false → nat_lt v window.base ≡ false → nat_lt (v + 100) window.version ≡ false → passed_by window v ≡ passed_since d v j
passed_is d v window j is below above recent =
    let low : window.base ≤ v = ltb-false v window.base above in
    let high : v ≤ window.version = ltb-false window.version v below in
    let young : window.version ≤ v + 100 = ltb-false (v + 100) window.version recent in
    let reached : reaches window.base window.version v ≡ true = and_from (nat_le window.base v) (nat_le v window.version && nat_le window.version (v + 100)) (le-leb window.base v low)
    (and_from (nat_le v window.version) (nat_le window.version (v + 100)) (le-leb v window.version high) (le-leb window.version (v + 100) young)) in
    let count : window.version ≡ window.base + length (pasts d j) =
    is.version_is ∙ ap₂ (λ (b n : ℕ). b + n) (sym is.base_is) (sym (length-map (applied_list d j) past_of)) in
    let found : since_in window v ≡ Some (drop (v - window.base) (pasts d j)) =
    since_in-recent window (pasts d j) v is.last_is count ∙ ap (λ b. if b then Some (drop (v - window.base) (pasts d j)) else None) reached in
    let start : base d j + (v - window.base) ≡ v = (let b = is.base_is in omega (arith, b, low)) in
    ap (λ o. numbered v (past_or_none o)) found
    ∙ ap (λ n. numbered n (drop (v - window.base) (pasts d j))) (sym start)
    ∙ sym (numbered-drop (base d j) (v - window.base) (pasts d j))
    ∙ ap (drop (v - window.base)) (sym is.numbered_are)
    ∙ drop-map passed_of (v - window.base) (applied_list d j)
    ∙ ap (λ b. map passed_of (drop (v - b) (applied_list d j))) is.base_is

pub decision_is : (d : ℕ) (document : Document) (j : List Entry) (u : Update) → text d j ≡ Some document.text → IsWindowOf d document.window j → decision_on document u ≡ decided j d u
decision_is d document j u text_is is =
    let b = document.window.base in
    let have = document.window.version in
    same_decision (nat_lt have u.v) (nat_lt u.v b) (nat_lt (u.v + 100) have) _ _
    (concluded have (Some document.text) (scanned u.dup u.op (passed_by document.window u.v))) (concluded have (Some document.text) (scanned u.dup u.op (passed_since d u.v j)))
    (λ below above recent. ap (λ p. concluded have (Some document.text) (scanned u.dup u.op p)) (passed_is d u.v document.window j is below above recent))
    ∙ ap₂ (λ (n m : ℕ). decided_of n m (Some document.text) u (passed_since d u.v j)) is.base_is is.version_is
    ∙ ap (λ t. decided_of (base d j) (version d j) t u (passed_since d u.v j)) (sym text_is)
