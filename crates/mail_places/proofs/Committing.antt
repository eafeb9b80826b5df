-- Whom a commit is told.
use Rattle.std.proofs.Common.{◌≡◌, ◌≢◌, ℕ, List, [], ◌∷◌, ◌++◌, length, Bool, true, false, ◌&&◌, refl, sym, ap, ap₂, ◌∙◌, subst, ⊎_elim, eqb, eq-eqb, ne_eqb}
use Rattle.std.specs.Prelude.{Option, Some, None, if◌then◌else◌, option_map}
use Rattle.std.proofs.Math.Bool.{and-false}
use Rattle.std.proofs.lemmas.Bool.{cases_eq}
use Rattle.journal_entries.specs.declared.update.Update.{Update}
use Rattle.journal_entries.specs.declared.update.Outcome.{Outcome}
use Rattle.journal_entries.specs.declared.update.Outcome.TheVariants.{Applied, Dup, Refused}
use Rattle.journal_entries.specs.declared.message.Msg.{Msg}
use Rattle.journal_entries.specs.declared.message.Msg.TheVariants.{Op, Ack, Error}
use Rattle.journal_entries.specs.declared.act.Act.TheVariants.{Committed}
use Rattle.journal_entries.specs.declared.act.Entry.{Entry}
use Rattle.journal_rules.specs.Documents.{update_at}
use Rattle.journal_rules.specs.Mail.{told, told_of}
use Rattle.journal_rules.specs.Client.{is_of}
use Rattle.journal_rules.proofs.Lists.{some_same}
use Rattle.journal_rules.proofs.Waits.{waits_sent}
use Rattle.journal_laws.proofs.World.{is_of_same}
use Rattle.mail_places.specs.Places.{Placed, is_told, with_place, placed_if_told, placed_by, placed, placed_in, placed_own, placed_of, IsOwnUpdate}
use Rattle.mail_places.proofs.Placing.{placed-push}
use Rattle.mail_places.proofs.Sources.{own_update}
use Rattle.loading_rules.specs.LegalBut.{IsLegalBut, IsAllowedBut}
use Rattle.loading_rules.proofs.Legality.{legal_front, allowed_next}

-- what commits is of the document of its update
pub committed_doc : (j : List Entry) (e : Entry) (doc token ticket : ℕ) (outcome : Outcome) (u : Update) → IsLegalBut (j ++ e ∷ []) → e.act ≡ Committed doc token ticket outcome → update_at j ticket ≡ Some u → u.doc ≡ doc
committed_doc j e doc token ticket outcome u legal is known =
    let row : IsAllowedBut j e.seat (Committed doc token ticket outcome) = subst (λ a. IsAllowedBut j e.seat a) is (allowed_next j e [] legal) in
    let s = waits_sent doc ticket j row.rest row.first in
    ap (λ (x : Update). x.doc) (some_same u s.0 (sym known ∙ s.1)) ∙ s.2

eqb_swap : (a b : ℕ) → eqb a b ≡ eqb b a
eqb_swap a b = ⊎_elim {C = eqb a b ≡ eqb b a} (λ (same : a ≡ b). eq-eqb a b same ∙ sym (eq-eqb b a (sym same))) (λ (apart : a ≢ b). ne_eqb a b apart ∙ sym (ne_eqb b a (λ is. apart (sym is)))) (cases_eq a b)

module _ (c : ℕ) (u : Update) (at : ℕ) (box : Placed) (own : u.source ≡ box.source → IsOwnUpdate c box u) where
  whole_room : (b : Bool) (ack op : Msg) → (if eqb u.doc box.doc && is_told (if b then ack ∷ [] else op ∷ []) then with_place at box else box) ≡ placed_in u.doc at box
  whole_room b ack op =
      ap (λ x. if eqb u.doc box.doc && x then with_place at box else box) (either b)
      ∙ ap (λ x. if x then with_place at box else box) (alone_true (eqb u.doc box.doc) ∙ eqb_swap u.doc box.doc)
    where
      either : (b : Bool) → is_told (if b then ack ∷ [] else op ∷ []) ≡ true
      either true = refl
      either false = refl

      alone_true : (b : Bool) → (b && true) ≡ b
      alone_true true = refl
      alone_true false = refl

  alone : (msg : Msg) → (if eqb u.doc box.doc && is_told (if eqb u.source box.source then msg ∷ [] else []) then with_place at box else box) ≡ placed_own c u at box
  alone msg = ⊎_elim {C = (if eqb u.doc box.doc && is_told (if eqb u.source box.source then msg ∷ [] else []) then with_place at box else box) ≡ placed_own c u at box} mine others (cases_eq u.source box.source)
    where
      mine : u.source ≡ box.source → (if eqb u.doc box.doc && is_told (if eqb u.source box.source then msg ∷ [] else []) then with_place at box else box) ≡ placed_own c u at box
      mine same =
          let o = own same in
          ap₂ (λ a b. if a && is_told (if b then msg ∷ [] else []) then with_place at box else box) (eq-eqb u.doc box.doc o.1) (eq-eqb u.source box.source same)
          ∙ sym (ap₂ (λ a b. if a && b then with_place at box else box) (is_of_same c u.client o.0) (eq-eqb box.source u.source (sym same)))

      others : u.source ≢ box.source → (if eqb u.doc box.doc && is_told (if eqb u.source box.source then msg ∷ [] else []) then with_place at box else box) ≡ placed_own c u at box
      others apart =
          ap (λ b. if eqb u.doc box.doc && is_told (if b then msg ∷ [] else []) then with_place at box else box) (ne_eqb u.source box.source apart)
          ∙ ap (λ b. if b then with_place at box else box) (and-false (eqb u.doc box.doc))
          ∙ sym (ap (λ b. if is_of c u.client && b then with_place at box else box) (ne_eqb box.source u.source (λ is. apart (sym is)))
          ∙ ap (λ b. if b then with_place at box else box) (and-false (is_of c u.client)))

  by_outcome : (outcome : Outcome) → (if eqb u.doc box.doc && is_told (told box.source u outcome) then with_place at box else box) ≡ placed_of c u at outcome box
  by_outcome (Applied v op) = whole_room (eqb u.source box.source) (Ack v u.number) (Op v op u.source)
  by_outcome (Dup v) = alone (Ack v u.number)
  by_outcome (Refused cause) = alone (Error u.number cause)

-- the law
pub placed-committed : (c : ℕ) (j : List Entry) (e : Entry) (doc token ticket : ℕ) (outcome : Outcome) (u : Update) → IsLegalBut (j ++ e ∷ []) → e.act ≡ Committed doc token ticket outcome → update_at j ticket ≡ Some u → placed c (j ++ e ∷ []) ≡ option_map (placed_of c u (length j) outcome) (placed c j)
placed-committed c j e doc token ticket outcome u legal is known =
    placed-push c j e ∙ ap (λ a. placed_by c j a (placed c j)) is ∙ go (placed c j) refl
  where
    go : (o : Option Placed) → placed c j ≡ o → option_map (placed_if_told doc j ticket outcome) o ≡ option_map (placed_of c u (length j) outcome) o
    go None at = refl
    go (Some box) at =
        ap (λ (b : Placed). Some b)
        (ap₂ (λ d o. if eqb d box.doc && is_told (told_of box.source o outcome) then with_place (length j) box else box) (sym (committed_doc j e doc token ticket outcome u legal is known)) known
        ∙ by_outcome c u (length j) box (λ same. own_update c j (legal_front j (e ∷ []) legal) box at ticket u known same) outcome)
