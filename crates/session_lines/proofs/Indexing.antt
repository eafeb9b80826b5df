-- The index of the lines with one more.
use Rattle.std.proofs.Common.{◌≡◌, ℕ, List, [], ◌∷◌, ◌++◌, Bool, true, false, ◌&&◌, Option, Some, None, refl, sym, ap, ◌∙◌}
use Rattle.std.specs.Prelude.{IsTrue, not, if◌then◌else◌}
use Rattle.std.specs.List.{list_all, filter_map}
use Rattle.std.proofs.lemmas.Bool.{and_parts, not-true}
use Rattle.std.proofs.lemmas.List.{append-nil}
use Rattle.std.proofs.lemmas.List.Elements.{filter_map-append}
use Rattle.std.proofs.lemmas.List.Folds.{list_all-append}
use Rattle.session_lines.specs.Command.{first_of}
use Rattle.session_lines.specs.Earlier.{IsIndexed, with_optional_name}
use Rattle.session_lines.specs.Script.{documents_of, home_document, join_of, joined_by, made_document, makes_document, may_follow, may_make}
use Rattle.session_lines.specs.declared.line.Line.{Line}

first_of_none : {A : Type 0} (o : Option A) → first_of o None ≡ o
first_of_none (Some x) = refl
first_of_none None = refl

first_of_assoc : {A : Type 0} (o p q : Option A) → first_of o (first_of p q) ≡ first_of (first_of o p) q
first_of_assoc (Some x) p q = refl
first_of_assoc None p q = refl

home_more : (s : ℕ) (lines : List Line) (l : Line) → home_document s (lines ++ l ∷ []) ≡ first_of (home_document s lines) (joined_by s (join_of l))
home_more s [] l = first_of_none (joined_by s (join_of l))
home_more s (k ∷ ks) l = ap (first_of (joined_by s (join_of k))) (home_more s ks l) ∙ first_of_assoc (joined_by s (join_of k)) (home_document s ks) (joined_by s (join_of l))

documents_one : (l : Line) (o : Option (List ℕ)) → made_document l ≡ o → documents_of (l ∷ []) ≡ filter_map (λ p. p) (o ∷ [])
documents_one l o e = rw e refl

documents_step : (lines : List Line) (o : Option (List ℕ)) → IsTrue (may_make lines o) → with_optional_name (documents_of lines) o ≡ documents_of lines ++ filter_map (λ p. p) (o ∷ [])
documents_step lines None h = sym (append-nil (documents_of lines))
documents_step lines (Some doc) h =
    let few = (and_parts _ _ (and_parts _ _ h).1).1 in
    ap (λ b. if b then documents_of lines else documents_of lines ++ doc ∷ []) (not-true _ few)

documents_more : (lines : List Line) (l : Line) → IsTrue (may_make lines (made_document l)) → with_optional_name (documents_of lines) (made_document l) ≡ documents_of (lines ++ l ∷ [])
documents_more lines l h =
    documents_step lines (made_document l) h
    ∙ ap (λ more. documents_of lines ++ more) (sym (documents_one l (made_document l) refl))
    ∙ sym (filter_map-append made_document lines (l ∷ []))

and_true : (b : Bool) → (b && true) ≡ b
and_true true = refl
and_true false = refl

only_more : (lines : List Line) (l : Line) → (list_all makes_document lines && makes_document l) ≡ list_all makes_document (lines ++ l ∷ [])
only_more lines l = ap (λ b. list_all makes_document lines && b) (sym (and_true (makes_document l))) ∙ sym (list_all-append makes_document lines (l ∷ []))

pub indexed_more : (lines more : List Line) (l : Line) (documents documents' : List (List ℕ)) (homes homes' : ℕ → Option (List ℕ)) (only only' : Bool)
    → IsIndexed lines documents homes only → IsTrue (may_follow lines l) → more ≡ lines ++ l ∷ []
    → documents' ≡ with_optional_name documents (made_document l)
    → ((s : ℕ) → homes' s ≡ first_of (homes s) (joined_by s (join_of l)))
    → only' ≡ (only && makes_document l)
    → IsIndexed more documents' homes' only'
indexed_more lines more l documents documents' homes homes' only only' is may is_more is_documents is_homes is_only = record {
  documents_are = is_documents ∙ ap (λ ds. with_optional_name ds (made_document l)) is.documents_are ∙ documents_more lines l (and_parts _ _ may).0 ∙ ap documents_of (sym is_more);
  homes_are = λ s. is_homes s ∙ ap (λ h. first_of h (joined_by s (join_of l))) (is.homes_are s) ∙ sym (home_more s lines l) ∙ ap (home_document s) (sym is_more);
  only_documents_is = is_only ∙ ap (λ b. b && makes_document l) is.only_documents_is ∙ only_more lines l ∙ ap (list_all makes_document) (sym is_more);
}
