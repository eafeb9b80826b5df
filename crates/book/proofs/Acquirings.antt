-- Each acquiring is known by its token, and which tokens were used.
use Rattle.std.proofs.Common.{◌≡◌, ℕ, suc, List, [], ◌∷◌, ◌++◌, Bool, true, false, ◌||◌, refl, sym, ap, ap₂, ◌∙◌, subst, arith, eqb, append-nil, append_assoc, All}
use Rattle.std.specs.Prelude.{Some}
use Rattle.std.proofs.lemmas.Bool.{eqb-true}
use Rattle.std.proofs.lemmas.List.Elements.{All-append}
use Rattle.journal_laws.proofs.Joins.{is_in-append}
use Rattle.journal_entries.specs.declared.update.Outcome.{Outcome}
use Rattle.journal_entries.specs.declared.act.Act.{Act}
use Rattle.journal_entries.specs.declared.act.Act.TheVariants.{Committed}
use Rattle.journal_entries.specs.declared.act.Entry.{Entry}
use Rattle.journal_rules.specs.Documents.{is_in}
use Rattle.journal_rules.specs.Locks.{Acquiring, last_acquiring, next_token, used_by, used}
use Rattle.journal_rules.specs.Legal.{IsAllowed, IsLegal}
use Rattle.journal_rules.proofs.Pushing.{used-push}
use Rattle.journal_rules.proofs.Legality.{legal_front, allowed_next}
use Rattle.journal_rules.proofs.Waits.{all_none, all_one}
use Rattle.book.specs.Looking.{IsNoCommit}
pub use Rattle.loading_rules.proofs.Acquirings.{IsKnown, known_more, known_on, known_same}
use Rattle.loading_rules.proofs.Acquirings as but
use Rattle.loading_rules.proofs.Weakening.{legal_but}
use Rattle.dup_check.specs.declared.snapshot.Snapshot.{Snapshot}

-- the last acquiring of a document is known
pub last_known : (d : ℕ) (j : List Entry) → IsLegal j → (a : Acquiring) → last_acquiring d j ≡ Some a → IsKnown a j
last_known d j legal = but.last_known d j (legal_but j legal)

pub next_unused : (j : List Entry) → IsLegal j → is_in (next_token j) (used j) ≡ false
next_unused j legal = but.next_unused j (legal_but j legal)

-- a token that no entry behind uses stays unused
pub unused_more : (token : ℕ) (more j : List Entry) → is_in token (used j) ≡ false → All (λ (e : Entry). is_in token (used_by e.act) ≡ false) more → is_in token (used (j ++ more)) ≡ false
unused_more token [] j was all = ap (λ k. is_in token (used k)) (append-nil j) ∙ was
unused_more token (e ∷ es) j was all =
    let here : is_in token (used (j ++ e ∷ [])) ≡ false = ap (is_in token) (used-push j e) ∙ is_in-append token (used j) (used_by e.act) ∙ both (is_in token (used j)) (is_in token (used_by e.act)) was (all 0 e (omega arith)) in
    sym (ap (λ k. is_in token (used k)) (append_assoc j (e ∷ []) es)) ∙ unused_more token es (j ++ e ∷ []) here (λ k x l. all (suc k) x (omega arith))
  where
    both : (a b : Bool) → a ≡ false → b ≡ false → (a || b) ≡ false
    both a b f g = ap₂ (λ x y. x || y) f g

-- a token is used by the seat that acquired it alone
pub unused_behind : (look : Snapshot) (a : Acquiring) (more h : List Entry) → IsLegal (h ++ more) → IsKnown a h → a.token ≡ look.token → a.seat ≡ look.seat → All (IsNoCommit look) more → All (λ (e : Entry). is_in look.token (used_by e.act) ≡ false) more
unused_behind look a [] h legal is token_is seat_is all = all_none (λ (e : Entry). is_in look.token (used_by e.act) ≡ false)
unused_behind look a (e ∷ es) h legal is token_is seat_is all =
    let P : Entry → Type 0 = λ e. is_in look.token (used_by e.act) ≡ false in
    let again : (h ++ e ∷ []) ++ es ≡ h ++ e ∷ es = append_assoc h (e ∷ []) es in
    All-append P (e ∷ []) es (all_one P e (one e.act refl (allowed_next h e es legal) (all 0 e (omega arith))))
    (unused_behind look a es (h ++ e ∷ []) (subst IsLegal (sym again) legal) (known_on a h e is) token_is seat_is (λ k x l. all (suc k) x (omega arith)))
  where
    low : IsLegal h
    low = legal_front h (e ∷ es) legal

    by : (doc token ticket : ℕ) (outcome : Outcome) → IsAllowed h e.seat (Committed doc token ticket outcome) → (e.seat ≡ look.seat → is_in look.token (token ∷ []) ≡ false) → (b : Bool) → eqb token look.token ≡ b → is_in look.token (token ∷ []) ≡ false
    by doc token ticket outcome may behind false other = ap (λ b. b || false) other
    by doc token ticket outcome may behind true same =
        let mine = last_known doc h low may.holds.acquiring may.holds.held.last in
        let t : a.token ≡ may.holds.acquiring.token = token_is ∙ sym (eqb-true token look.token same) ∙ sym may.holds.token_is in
        behind (sym may.holds.seat_is ∙ ap (λ (x : Acquiring). x.seat) (sym (known_same a may.holds.acquiring h is mine t)) ∙ seat_is)

    one : (act : Act) → e.act ≡ act → IsAllowed h e.seat e.act → IsNoCommit look e → is_in look.token (used_by e.act) ≡ false
    one (Committed doc token ticket outcome) act_is may behind =
        ap (λ x. is_in look.token (used_by x)) act_is
        ∙ by doc token ticket outcome (subst (IsAllowed h e.seat) act_is may) (λ s. sym (ap (λ x. is_in look.token (used_by x)) act_is) ∙ behind s) (eqb token look.token) refl
    one _ act_is may behind = ap (λ x. is_in look.token (used_by x)) act_is
