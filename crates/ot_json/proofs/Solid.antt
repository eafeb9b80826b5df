-- No insert or delete of the empty text is kept.
use Rattle.std.proofs.Common.{◌≡◌, ℕ, List, Bool, true, false, Option, Some, None, cond, refl, ap, sym, ◌∙◌}
use Rattle.ot_op.specs.declared.comp.Comp.{Comp}
use Rattle.ot_op.specs.declared.comp.Comp.TheVariants.{Ins, Del, Com}
use Rattle.ot_op.specs.Operation.{is_void}
use Rattle.ot_units.specs.Text.{exact_units, sanitized_units}
use Rattle.ot_json.specs.declared.reading.Grammar.{Grammar}
use Rattle.ot_json.specs.declared.reading.Grammar.TheVariants.{Sent, Stored}
use Rattle.ot_json.specs.declared.reading.Reading.{Reading}
use Rattle.ot_json.specs.declared.reading.Reading.TheVariants.{Kept, Dropped, Supplementary, OutOfForm}
use Rattle.ot_json.specs.Form.{Written, insert, delete, comment}
use Rattle.ot_json.specs.Reading.{exactly, reading_of, unless_void}

same : (c d : Comp) → Kept c ≡ Kept d → c ≡ d
same c d e = cc

one_solid : (b : Bool) (void : Reading) (c d : Comp) → is_void c ≡ b → (void ≡ Kept d → ⊥) → cond b void (Kept c) ≡ Kept d → is_void d ≡ false
one_solid true void c d v void_is e = absurd (void_is e)
one_solid false void c d v void_is e = ap is_void (sym (same c d e)) ∙ v

exact_solid : (o : Option (List ℕ)) (make : List ℕ → Comp) (void other : Reading) (d : Comp) → (void ≡ Kept d → ⊥) → (other ≡ Kept d → ⊥)
    → exactly (λ us. unless_void void (make us)) other o ≡ Kept d → is_void d ≡ false
exact_solid None make void other d void_is other_is e = absurd (other_is e)
exact_solid (Some us) make void other d void_is other_is e = one_solid (is_void (make us)) void (make us) d refl void_is e

comment_solid : (o : Option (List ℕ)) (p t : ℕ) (d : Comp) → exactly (λ us. Kept (Com p us t)) Supplementary o ≡ Kept d → is_void d ≡ false
comment_solid None p t d e = cc
comment_solid (Some us) p t d e = ap is_void (sym (same (Com p us t) d e))

pub kept_solid : (grammar : Grammar) (w : Option Written) (c : Comp) → reading_of grammar w ≡ Kept c → is_void c ≡ false
kept_solid grammar None c e = cc
kept_solid Sent (Some (insert s p)) c e = one_solid (is_void (Ins p (sanitized_units s))) Dropped (Ins p (sanitized_units s)) c refl (λ h. cc) e
kept_solid Sent (Some (delete s p)) c e = exact_solid (exact_units s) (λ us. Del p us) Dropped Supplementary c (λ h. cc) (λ h. cc) e
kept_solid Sent (Some (comment s p t)) c e = comment_solid (exact_units s) p t c e
kept_solid Stored (Some (insert s p)) c e = exact_solid (exact_units s) (λ us. Ins p us) OutOfForm OutOfForm c (λ h. cc) (λ h. cc) e
kept_solid Stored (Some (delete s p)) c e = exact_solid (exact_units s) (λ us. Del p us) OutOfForm Supplementary c (λ h. cc) (λ h. cc) e
kept_solid Stored (Some (comment s p t)) c e = comment_solid (exact_units s) p t c e
