-- Lines that are written one behind the other are read as what they show.
use Rattle.std.proofs.Common.{◌≡◌, ℕ, ◌+◌, ◌-◌, List, [], ◌∷◌, ◌++◌, true, false, ◌&&◌, Option, Some, None, Result, Ok, Err, length, map, refl, sym, ap, ◌∙◌, append-nil, append_assoc, arith}
use Rattle.std.specs.List.{All, flat_map, slice_get}
use Rattle.std.specs.Prelude.{if◌then◌else◌}
use Rattle.std.proofs.lemmas.Bool.{and_parts, or_from}
use Rattle.std.proofs.lemmas.List.{length_push}
use Rattle.std.proofs.lemmas.List.Elements.{All-head, All-tail}
use Rattle.serde_json.specs.Data.{unsigned, negative, float, Data, null, boolean, number, string, array, object, Items, no_items, item, Members, no_members, member}
use Rattle.serde_json.specs.Written.{compact_text, has_float, items_have_float, members_have_float}
use Rattle.json_lines.specs.Formed.{all_above, is_formed, items_are_formed, members_are_formed}
use Rattle.json_lines.specs.Lines.{lines_of}
use Rattle.json_lines.proofs.Cutting.{cut_back}
use Rattle.json_lines.proofs.OneLine.{stays_on_a_line}
use Rattle.report_reader.specs.declared.fault.ReportFault.{ReportFault}
use Rattle.report_reader.specs.declared.fault.ReportFault.TheVariants.{Line}
use Rattle.report_reader.specs.declared.piece.Piece.{Piece}
use Rattle.report_reader.specs.Fields.{and_then}
use Rattle.report_reader.specs.Laws.{piece_line, with_pieces}
use Rattle.report_reader.specs.Pieces.{piece_members}
use Rattle.report_reader.specs.Reports.{Told, if_whole, is_feed_or_none, is_whole, nothing, or_line, report_of, then_lines, with_lines, with_piece}
use Rattle.report_reader.specs.Typed.{IsTyped}
use Rattle.report_reader.proofs.Back.{lines_back, piece_fine}

-- ---- formed data has no float

mutual
  plain : (d : Data) → is_formed d ≡ true → has_float d ≡ false
  plain null h = refl
  plain (boolean b) h = refl
  plain (number (unsigned n)) h = refl
  plain (number (negative z)) h = absurd cc
  plain (number (float x)) h = absurd cc
  plain (string s) h = refl
  plain (array ds) h = items_plain ds h
  plain (object ms) h = members_plain ms h

  items_plain : (ds : Items) → items_are_formed ds ≡ true → items_have_float ds ≡ false
  items_plain no_items h = refl
  items_plain (item d ds) h = let p = and_parts (is_formed d) (items_are_formed ds) h in or_from (has_float d) (items_have_float ds) (plain d p.0) (items_plain ds p.1)

  members_plain : (ms : Members) → members_are_formed ms ≡ true → members_have_float ms ≡ false
  members_plain no_members h = refl
  members_plain (member k d ms) h =
      let p = and_parts (is_formed d) (members_are_formed ms) (and_parts (all_above k ms) (is_formed d && members_are_formed ms) h).1 in
      or_from (has_float d) (members_have_float ms) (plain d p.0) (members_plain ms p.1)

-- ---- lines

abbrev pub piece_text : Piece → List ℕ
piece_text p = compact_text (object (piece_members p))

lines_cut : (ps : List Piece) → All IsTyped ps → lines_of (flat_map piece_line ps) ≡ map piece_text ps
lines_cut [] all = refl
lines_cut (p ∷ ps) all =
    let fine = piece_fine p (All-head IsTyped p ps all) in
    let rest = flat_map piece_line ps in
    ap lines_of (append_assoc (piece_text p) (10 ∷ []) rest)
    ∙ cut_back (piece_text p) rest (stays_on_a_line (object (piece_members p)) (members_plain (piece_members p) fine.formed))
    ∙ ap (λ ls. piece_text p ∷ ls) (lines_cut ps (All-tail IsTyped p ps all))

last_at : (xs : List ℕ) (x : ℕ) → slice_get (xs ++ x ∷ []) (length xs) ≡ Some x
last_at [] x = refl
last_at (y ∷ xs) x = last_at xs x

whole_end : (xs : List ℕ) → is_whole (xs ++ 10 ∷ []) ≡ true
whole_end xs =
    let l = length_push xs 10 in
    let at : length (xs ++ 10 ∷ []) - 1 ≡ length xs = omega (arith, l) in
    ap (λ i. is_feed_or_none (slice_get (xs ++ 10 ∷ []) i)) at ∙ ap is_feed_or_none (last_at xs 10)

ends : (p : Piece) (ps : List Piece) → (xs : List ℕ) × (flat_map piece_line (p ∷ ps) ≡ xs ++ 10 ∷ [])
ends p [] = (piece_text p, append-nil (piece_line p))
ends p (q ∷ ps) =
    let rest = ends q ps in
    (piece_line p ++ rest.0, ap (λ s. piece_line p ++ s) rest.1 ∙ sym (append_assoc (piece_line p) rest.0 (10 ∷ [])))

written_whole : (ps : List Piece) → is_whole (flat_map piece_line ps) ≡ true
written_whole [] = refl
written_whole (p ∷ ps) = let end = ends p ps in ap is_whole end.1 ∙ whole_end end.0

-- ---- the report

then_read : (o : Option Told) (n : ℕ) (t : Told) (next : Told → Option Told) (more : Told → Result Told ReportFault) → ((s : Told) → next s ≡ Some t → more s ≡ Ok t) → and_then o next ≡ Some t → then_lines more (or_line n o) ≡ Ok t
then_read None n t next more h e = absurd cc
then_read (Some s) n t next more h e = h s e

pieces_read : (ps : List Piece) (n : ℕ) (s t : Told) → All IsTyped ps → with_pieces ps s ≡ Some t → with_lines n (map piece_text ps) s ≡ Ok t
pieces_read [] n s t all e = ap (λ o. or_line n o) e
pieces_read (p ∷ ps) n s t all e =
    ap (λ o. then_lines (with_lines (n + 1) (map piece_text ps)) (or_line n (and_then o (with_piece s)))) (lines_back p (All-head IsTyped p ps all))
    ∙ then_read (with_piece s p) n t (with_pieces ps) (with_lines (n + 1) (map piece_text ps)) (λ more h. pieces_read ps (n + 1) more t (All-tail IsTyped p ps all) h) e

pub reports_back : (ps : List Piece) (t : Told) → All IsTyped ps → with_pieces ps nothing ≡ Some t → report_of (flat_map piece_line ps) ≡ Ok t
reports_back ps t all e =
    let bytes = flat_map piece_line ps in
    ap (λ ls. then_lines (if_whole bytes) (with_lines 1 ls nothing)) (lines_cut ps all)
    ∙ ap (then_lines (if_whole bytes)) (pieces_read ps 1 nothing t all e)
    ∙ ap (λ b. if b then Ok t else Err (Line (length (lines_of bytes)))) (written_whole ps)
