-- The lines of journals, and of what stands at the end, are read as these.
use Rattle.std.proofs.Common.{◌≡◌, ℕ, ◌+◌, List, [], ◌∷◌, ◌++◌, Option, Some, None, Ok, length, map, refl, sym, ap, ap₂, ◌∙◌, append-nil, append_assoc, arith}
use Rattle.std.specs.List.{All, flat_map}
use Rattle.std.specs.Prelude.{◌≢◌, option_map}
use Rattle.std.proofs.lemmas.List.{length_push}
use Rattle.std.proofs.lemmas.List.Elements.{All-head, All-tail}
use Rattle.history_queue.specs.declared.item.Item.{Item}
use Rattle.journal_entries.specs.declared.act.Entry.{Entry}
use Rattle.report_text.specs.declared.client_end.ClientEnd.{ClientEnd}
use Rattle.report_text.specs.declared.document_end.DocEnd.{DocEnd}
use Rattle.report_text.specs.declared.project_end.ProjectEnd.{ProjectEnd}
use Rattle.report_reader.specs.declared.piece.Piece.{Piece}
use Rattle.report_reader.specs.declared.piece.Piece.TheVariants as piece
use Rattle.report_reader.specs.Fields.{and_then}
use Rattle.report_reader.specs.Laws.{Shown, board_pieces, boards_pieces, entries_shown, items_shown, piece_line, run_pieces, run_told, with_pieces}
use Rattle.report_reader.specs.Reports.{Told, nothing, report_of, with_entry, with_piece}
use Rattle.report_reader.specs.Typed.{IsTyped}
use Rattle.report_reader.proofs.Placed.{on_same}
use Rattle.report_reader.proofs.Whole.{reports_back}

chained_from : (o : Option Told) (ps qs : List Piece) → ((more : Told) → with_pieces (ps ++ qs) more ≡ and_then (with_pieces ps more) (with_pieces qs)) → and_then o (with_pieces (ps ++ qs)) ≡ and_then (and_then o (with_pieces ps)) (with_pieces qs)
chained_from None ps qs h = refl
chained_from (Some more) ps qs h = h more

chained : (ps qs : List Piece) (s : Told) → with_pieces (ps ++ qs) s ≡ and_then (with_pieces ps s) (with_pieces qs)
chained [] qs s = refl
chained (p ∷ ps) qs s = chained_from (with_piece s p) ps qs (λ more. chained ps qs more)

-- where the first pieces lead, and where those behind them lead on
leads : (ps qs : List Piece) (s t u : Told) → with_pieces ps s ≡ Some t → with_pieces qs t ≡ Some u → with_pieces (ps ++ qs) s ≡ Some u
leads ps qs s t u e f = chained ps qs s ∙ ap (λ o. and_then o (with_pieces qs)) e ∙ f

-- ---- entries

abbrev told : List (List Entry) → List Item → Told
told js is = record { journals = js; items = is; docs = []; clients = []; projects = [] }

new_board : (done : List (List Entry)) (e : Entry) → with_entry (length done) 0 e done ≡ Some (done ++ (e ∷ []) ∷ [])
new_board [] e = refl
new_board (d ∷ done) e = ap (option_map (λ more. d ∷ more)) (new_board done e)

goes_on : (done : List (List Entry)) (es : List Entry) (is : List Item) (b n : ℕ) (xs : Shown) → b ≡ length done → n ≡ length es
    → with_pieces (board_pieces b n xs) (told (done ++ es ∷ []) is) ≡ Some (told (done ++ (es ++ entries_shown xs) ∷ []) (is ++ items_shown xs))
goes_on done es is b n [] board number = ap₂ (λ e i. Some (told (done ++ e ∷ []) i)) (sym (append-nil es)) (sym (append-nil is))
goes_on done es is b n (x ∷ xs) board number =
    let placed : with_entry b n x.0 (done ++ es ∷ []) ≡ Some (done ++ (es ++ x.0 ∷ []) ∷ []) = rw (board, number) (on_same done es x.0) in
    let l = length_push es x.0 in
    ap (λ o. and_then (option_map (λ js. told js (is ++ x.1)) o) (with_pieces (board_pieces b (n + 1) xs))) placed
    ∙ goes_on done (es ++ x.0 ∷ []) (is ++ x.1) b (n + 1) xs board (omega (arith, number, l))
    ∙ ap₂ (λ e i. Some (told (done ++ e ∷ []) i)) (append_assoc es (x.0 ∷ []) (entries_shown xs)) (append_assoc is x.1 (items_shown xs))

opens : (done : List (List Entry)) (is : List Item) (b : ℕ) (xs : Shown) → b ≡ length done → xs ≢ []
    → with_pieces (board_pieces b 0 xs) (told done is) ≡ Some (told (done ++ entries_shown xs ∷ []) (is ++ items_shown xs))
opens done is b [] board some = absurd (some refl)
opens done is b (x ∷ xs) board some =
    let placed : with_entry b 0 x.0 done ≡ Some (done ++ (x.0 ∷ []) ∷ []) = rw board (new_board done x.0) in
    ap (λ o. and_then (option_map (λ js. told js (is ++ x.1)) o) (with_pieces (board_pieces b (0 + 1) xs))) placed
    ∙ goes_on done (x.0 ∷ []) (is ++ x.1) b (0 + 1) xs board (omega arith)
    ∙ ap (λ i. Some (told (done ++ entries_shown (x ∷ xs) ∷ []) i)) (append_assoc is x.1 (items_shown xs))

boards : (done : List (List Entry)) (is : List Item) (b : ℕ) (js : List Shown) → b ≡ length done → All (λ j. j ≢ []) js
    → with_pieces (boards_pieces b js) (told done is) ≡ Some (told (done ++ map entries_shown js) (is ++ flat_map items_shown js))
boards done is b [] board all = ap₂ (λ d i. Some (told d i)) (sym (append-nil done)) (sym (append-nil is))
boards done is b (j ∷ js) board all =
    let P : Shown → Type 0 = λ k. k ≢ [] in
    let l = length_push done (entries_shown j) in
    leads (board_pieces b 0 j) (boards_pieces (b + 1) js) (told done is) (told (done ++ entries_shown j ∷ []) (is ++ items_shown j)) _
    (opens done is b j board (All-head P j js all))
    (boards (done ++ entries_shown j ∷ []) (is ++ items_shown j) (b + 1) js (omega (arith, board, l)) (All-tail P j js all))
    ∙ ap₂ (λ d i. Some (told d i)) (append_assoc done (entries_shown j ∷ []) (map entries_shown js)) (append_assoc is (items_shown j) (flat_map items_shown js))

-- ---- what stands at the end

module _ (js : List (List Entry)) (is : List Item) where
  abbrev ended : List DocEnd → List ClientEnd → List ProjectEnd → Told
  ended docs clients projects = record { journals = js; items = is; docs = docs; clients = clients; projects = projects }

  documents : (before docs : List DocEnd) → with_pieces (map piece.Document docs) (ended before [] []) ≡ Some (ended (before ++ docs) [] [])
  documents before [] = ap (λ ds. Some (ended ds [] [])) (sym (append-nil before))
  documents before (d ∷ docs) = documents (before ++ d ∷ []) docs ∙ ap (λ ds. Some (ended ds [] [])) (append_assoc before (d ∷ []) docs)

  clients : (docs : List DocEnd) (before more : List ClientEnd) → with_pieces (map piece.Client more) (ended docs before []) ≡ Some (ended docs (before ++ more) [])
  clients docs before [] = ap (λ cs. Some (ended docs cs [])) (sym (append-nil before))
  clients docs before (c ∷ more) = clients docs (before ++ c ∷ []) more ∙ ap (λ cs. Some (ended docs cs [])) (append_assoc before (c ∷ []) more)

  projects : (docs : List DocEnd) (all : List ClientEnd) (before more : List ProjectEnd) → with_pieces (map piece.Project more) (ended docs all before) ≡ Some (ended docs all (before ++ more))
  projects docs all before [] = ap (λ ps. Some (ended docs all ps)) (sym (append-nil before))
  projects docs all before (p ∷ more) = projects docs all (before ++ p ∷ []) more ∙ ap (λ ps. Some (ended docs all ps)) (append_assoc before (p ∷ []) more)

pub runs_back : (js : List Shown) (docs : List DocEnd) (all : List ClientEnd) (ps : List ProjectEnd) → All (λ j. j ≢ []) js → All IsTyped (run_pieces js docs all ps)
    → report_of (flat_map piece_line (run_pieces js docs all ps)) ≡ Ok (run_told js docs all ps)
runs_back js docs all ps some typed =
    let es = map entries_shown js in
    let is = flat_map items_shown js in
    reports_back (run_pieces js docs all ps) (run_told js docs all ps) typed
    (leads (boards_pieces 0 js ++ map piece.Document docs ++ map piece.Client all) (map piece.Project ps) nothing (ended es is docs all []) (run_told js docs all ps)
    (leads (boards_pieces 0 js ++ map piece.Document docs) (map piece.Client all) nothing (ended es is docs [] []) (ended es is docs all [])
    (leads (boards_pieces 0 js) (map piece.Document docs) nothing (told es is) (ended es is docs [] []) (boards [] [] 0 js refl some) (documents es is [] docs))
    (clients es is docs [] all))
    (projects es is docs all [] ps))
