-- The lines of a report, cut where the writing stands.
use Rattle.std.proofs.Common.{◌≡◌, ◌⊎◌, ℕ, zero, suc, ◌+◌, ◌<◌, ◌≤◌, List, [], ◌∷◌, ◌++◌, length, take, drop, get_or, refl, sym, ap, ap₂, ◌∙◌, subst, arith, append-nil, append_assoc, inl, inr}
use Rattle.std.specs.Prelude.{slice_get, Option, None, Some, unwrap_or}
use Rattle.std.proofs.lemmas.Option.{get_or_from_slice_get, slice_get_within}
use Rattle.std.proofs.lemmas.Bool.{cases_lt}
use Rattle.std.proofs.lemmas.List.{take_more, take-append-drop, length-take-le}
use Rattle.json_lines.specs.Object.{line_of}
use Rattle.source_sink.specs.Buffered.{Delivered, DeliveredPrefix}
use Rattle.journal_entries.specs.declared.act.Entry.{Entry}
use Rattle.journal_rules.specs.Documents.{name, text, version}
use Rattle.journal_rules.specs.Keeping.{kept}
use Rattle.journal_rules.specs.Tracking.{cells}
use Rattle.ranges_tracker.specs.Shown.{shown}
use Rattle.report_text.specs.declared.document_end.DocEnd.{DocEnd}
use Rattle.report_text.specs.Documents.{document_members}
use Rattle.report_text.specs.Entries.{entry_members}
use Rattle.ranges_tracker.specs.declared.change.Change.{Change}
use Rattle.ranges_tracker.specs.declared.comment.Comment.{Comment}
use Rattle.project_histories.specs.Handing.{items_of}
use Rattle.run_rules.specs.Report.{client_line, client_lines, entry_lines, project_line, project_lines_of}
use Rattle.session_runner.specs.Report.{document_end, document_line, document_lines}

-- what is a part of a front is a part of the whole
pub longer : (start now : Option (List ℕ)) (held text front back whole : List ℕ) → front ++ back ≡ whole → DeliveredPrefix start now held (text ++ front) → DeliveredPrefix start now held (text ++ whole)
longer start now held text front back whole cut d = record {
  prefix = d.prefix;
  lost = d.lost ++ back;
  parts = sym (append_assoc d.prefix d.lost back) ∙ ap (λ l. l ++ back) d.parts ∙ append_assoc text front back ∙ ap (λ l. text ++ l) cut;
  delivered = d.delivered;
}

-- all that was delivered, and no more was to be
pub whole_prefix : (start now : Option (List ℕ)) (held text : List ℕ) → Delivered start now held text → DeliveredPrefix start now held text
whole_prefix start now held text d = record { prefix = text; lost = []; parts = append-nil text; delivered = d }

-- ---- the lines of entries
-- an entry's line, behind those before
abbrev pub entry_line : List Entry → Entry → List ℕ
entry_line before e = line_of (entry_members 0 (length before) (items_of before e.act) e)

entry_lines-append : (before xs ys : List Entry) → entry_lines before (xs ++ ys) ≡ entry_lines before xs ++ entry_lines (before ++ xs) ys
entry_lines-append before [] ys = ap (λ b. entry_lines b ys) (sym (append-nil before))
entry_lines-append before (x ∷ xs) ys =
    ap (λ l. entry_line before x ++ l) (entry_lines-append (before ++ x ∷ []) xs ys ∙ ap (λ b. entry_lines (before ++ x ∷ []) xs ++ entry_lines b ys) (append_assoc before (x ∷ []) xs))
    ∙ sym (append_assoc (entry_line before x) (entry_lines (before ++ x ∷ []) xs) (entry_lines (before ++ x ∷ xs) ys))

pub entries_more : (j : List Entry) (k : ℕ) (e : Entry) → k < length j → e ≡ get_or j k e → entry_lines [] (take (k + 1) j) ≡ entry_lines [] (take k j) ++ line_of (entry_members 0 k (items_of (take k j) e.act) e)
entries_more j k e lt is =
    ap (entry_lines []) (take_more j k e lt ∙ ap (λ x. take k j ++ x ∷ []) (sym is))
    ∙ entry_lines-append [] (take k j) (e ∷ [])
    ∙ ap (λ l. entry_lines [] (take k j) ++ l) (append-nil (entry_line (take k j) e))
    ∙ ap (λ n. entry_lines [] (take k j) ++ line_of (entry_members 0 n (items_of (take k j) e.act) e)) (length-take-le k j (omega (arith, lt)))

pub entries_cut : (j : List Entry) (k : ℕ) → entry_lines [] (take k j) ++ entry_lines (take k j) (drop k j) ≡ entry_lines [] j
entries_cut j k = sym (entry_lines-append [] (take k j) (drop k j)) ∙ ap (entry_lines []) (take-append-drop k j)

-- ---- the lines of documents

pub documents_cut : (j : List Entry) (k n : ℕ) → k ≤ n → (rest : List ℕ) × (document_lines k j ++ rest ≡ document_lines n j)
documents_cut j k zero le = ([], append-nil (document_lines k j) ∙ ap (λ n. document_lines n j) (let z : k ≡ 0 = omega (arith, le) in z))
documents_cut j k (suc n) le = by (λ below. documents_cut j k n below) (cases_lt k (suc n))
  where
    by : (k ≤ n → (rest : List ℕ) × (document_lines k j ++ rest ≡ document_lines n j)) → (k < suc n) ⊎ (suc n ≤ k) → (rest : List ℕ) × (document_lines k j ++ rest ≡ document_lines (suc n) j)
    by fewer (inl lt) =
        let r = fewer (omega (arith, lt)) in
        (r.0 ++ document_line n j, sym (append_assoc (document_lines k j) r.0 (document_line n j)) ∙ ap (λ l. l ++ document_line n j) r.1)
    by fewer (inr ge) = ([], append-nil (document_lines k j) ∙ ap (λ n. document_lines n j) (let z : k ≡ suc n = omega (arith, le, ge) in z))

pub documents_more : (j : List Entry) (k : ℕ) → document_lines (k + 1) j ≡ document_lines k j ++ document_line k j
documents_more j k = ap (λ n. document_lines n j) (let z : k + 1 ≡ suc k = omega arith in z)

-- a document's line is that of the journal
pub document_line_is : (d : ℕ) (j : List Entry) (k : Option ℕ) (n t : List ℕ) (r : List Change × List Comment) (v : ℕ) → k ≡ kept d j → n ≡ name d j → text d j ≡ Some t → r ≡ shown (cells d j) → v ≡ version d j
    → line_of (document_members (record { b = 0; doc = d; kept = k; name = n; ranges = r; text = t; v = v })) ≡ document_line d j
document_line_is d j k n t r v kept_is name_is text_is ranges_are version_is =
    ap (λ (end : DocEnd). line_of (document_members end)) (
    ap₂ (λ (n : List ℕ) (t : List ℕ). record { b = 0; doc = d; kept = k; name = n; ranges = r; text = t; v = v }) name_is (sym (ap (λ (o : Option (List ℕ)). unwrap_or o []) text_is))
    ∙ ap₂ (λ (r : List Change × List Comment) (v : ℕ). record { b = 0; doc = d; kept = k; name = name d j; ranges = r; text = unwrap_or (text d j) []; v = v }) ranges_are version_is
    ∙ ap (λ o. record { b = 0; doc = d; kept = o; name = name d j; ranges = shown (cells d j); text = unwrap_or (text d j) []; v = version d j }) kept_is
    )

-- one line more, put beside those before it
pub regrouped : (start now : Option (List ℕ)) (held text front line more : List ℕ) → more ≡ front ++ line → Delivered start now held ((text ++ front) ++ line) → Delivered start now held (text ++ more)
regrouped start now held text front line more is d = subst (λ l. Delivered start now held l) (append_assoc text front line ∙ ap (λ l. text ++ l) (sym is)) d

pub regrouped_prefix : (start now : Option (List ℕ)) (held text front line more : List ℕ) → more ≡ front ++ line → DeliveredPrefix start now held ((text ++ front) ++ line) → DeliveredPrefix start now held (text ++ more)
regrouped_prefix start now held text front line more is d = subst (λ l. DeliveredPrefix start now held l) (append_assoc text front line ∙ ap (λ l. text ++ l) (sym is)) d

-- ---- the lines of clients
client_lines-append : (c : ℕ) (xs ys : List (List ℕ)) (j : List Entry) → client_lines c (xs ++ ys) j ≡ client_lines c xs j ++ client_lines (c + length xs) ys j
client_lines-append c [] ys j = ap (λ k. client_lines k ys j) (let z : c ≡ c + 0 = omega arith in z)
client_lines-append c (x ∷ xs) ys j =
    let same : c + 1 + length xs ≡ c + suc (length xs) = omega arith in
    ap (λ l. client_line c x j ++ l) (client_lines-append (c + 1) xs ys j ∙ ap (λ k. client_lines (c + 1) xs j ++ client_lines k ys j) same)
    ∙ sym (append_assoc (client_line c x j) (client_lines (c + 1) xs j) (client_lines (c + suc (length xs)) ys j))

pub clients_more : (names : List (List ℕ)) (j : List Entry) (k : ℕ) (n : List ℕ) → k < length names → n ≡ get_or names k n → client_lines 0 (take (k + 1) names) j ≡ client_lines 0 (take k names) j ++ client_line k n j
clients_more names j k n lt is =
    let long : length (take k names) ≡ k = length-take-le k names (omega (arith, lt)) in
    let at : 0 + length (take k names) ≡ k = omega (arith, long) in
    ap (λ l. client_lines 0 l j) (take_more names k n lt ∙ ap (λ x. take k names ++ x ∷ []) (sym is))
    ∙ client_lines-append 0 (take k names) (n ∷ []) j
    ∙ ap (λ m. client_lines 0 (take k names) j ++ (client_line m n j ++ [])) at
    ∙ ap (λ l. client_lines 0 (take k names) j ++ l) (append-nil (client_line k n j))

pub clients_cut : (names : List (List ℕ)) (j : List Entry) (k : ℕ) → client_lines 0 (take k names) j ++ client_lines (0 + length (take k names)) (drop k names) j ≡ client_lines 0 names j
clients_cut names j k = sym (client_lines-append 0 (take k names) (drop k names) j) ∙ ap (λ l. client_lines 0 l j) (take-append-drop k names)

-- ---- the lines of projects
project_lines-append : (xs ys : List (List ℕ)) (j : List Entry) → project_lines_of (xs ++ ys) j ≡ project_lines_of xs j ++ project_lines_of ys j
project_lines-append [] ys j = refl
project_lines-append (x ∷ xs) ys j = ap (λ l. project_line x j ++ l) (project_lines-append xs ys j) ∙ sym (append_assoc (project_line x j) (project_lines_of xs j) (project_lines_of ys j))

pub projects_more : (ps : List (List ℕ)) (j : List Entry) (k : ℕ) (p : List ℕ) → slice_get ps k ≡ Some p → project_lines_of (take (k + 1) ps) j ≡ project_lines_of (take k ps) j ++ project_line p j
projects_more ps j k p at =
    ap (λ l. project_lines_of l j) (take_more ps k [] (slice_get_within ps k p at) ∙ ap (λ x. take k ps ++ x ∷ []) (get_or_from_slice_get ps k p [] at))
    ∙ project_lines-append (take k ps) (p ∷ []) j
    ∙ ap (λ l. project_lines_of (take k ps) j ++ l) (append-nil (project_line p j))

pub projects_cut : (ps : List (List ℕ)) (j : List Entry) (k : ℕ) → project_lines_of (take k ps) j ++ project_lines_of (drop k ps) j ≡ project_lines_of ps j
projects_cut ps j k = sym (project_lines-append (take k ps) (drop k ps) j) ∙ ap (λ l. project_lines_of l j) (take-append-drop k ps)
