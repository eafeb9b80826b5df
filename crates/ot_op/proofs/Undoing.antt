-- The inverse of an operation undoes it.
use Rattle.std.proofs.Common.{◌≡◌, ℕ, false, List, [], ◌∷◌, ◌++◌, refl, ap, sym, ◌∙◌, Some, None, Option, append-nil}
use Rattle.std.specs.Prelude.{Result, Ok, Err, IfOk, reverse}
use Rattle.std.specs.List.{flat_map}
use Rattle.std.specs.Option.{option_and_then}
use Rattle.std.proofs.lemmas.List.{reverse-append}
use Rattle.std.proofs.lemmas.Grind.{flat_map-append}
use Rattle.ot_op.specs.declared.comp.Comp.{Comp}
use Rattle.ot_op.specs.declared.comp.Comp.TheVariants.{Ins, Del, Com}
use Rattle.ot_op.specs.Operation.{is_void}
use Rattle.ot_op.specs.Apply.{applied, applied_all}
use Rattle.ot_op.specs.Invert.{undoing, inverted, Undoes}
use Rattle.ot_op.proofs.Applying.{applied_all-append}
use Rattle.ot_op.proofs.Pieces.{ins_as, del_as, ins_cut, del_cut, com_cut}

-- one component undone
undoing_does : (text next : List ℕ) (c : Comp) → applied text c ≡ Some next → applied_all next (undoing c) ≡ Some text
undoing_does text next (Ins at part) e =
    let a = ins_cut text at part next e in
    del_as next a.0.front part a.0.back text at a.1 (sym a.0.len) a.0.is
undoing_does text next (Del at part) e =
    let a = del_cut text at part next e in
    ins_as next a.0.front part a.0.back text at a.1 (sym a.0.len) a.0.is
undoing_does text next (Com at part thread) e = ap (λ (x : List ℕ). Some x) (com_cut text at part thread next e).1

pub inverted-cons : (c : Comp) (cs : List Comp) → inverted (c ∷ cs) ≡ inverted cs ++ undoing c
inverted-cons c cs =
    ap (flat_map undoing) (reverse-append (c ∷ []) cs) ∙ flat_map-append undoing (reverse cs) (c ∷ []) ∙ ap (λ (xs : List Comp). inverted cs ++ xs) (append-nil (undoing c))

pub inverted_undoes : (comps : List Comp) → Undoes comps (inverted comps)
inverted_undoes [] text to e = sym e
inverted_undoes (c ∷ cs) text to e = go (λ next f. inverted_undoes cs next to f) (applied text c) refl e
  where
    back : (next : List ℕ) → applied text c ≡ Some next → applied_all to (inverted cs) ≡ Some next → applied_all to (inverted (c ∷ cs)) ≡ Some text
    back next h whole = rw (inverted-cons c cs, applied_all-append to (inverted cs) (undoing c), whole) (undoing_does text next c h)

    go : ((next : List ℕ) → applied_all next cs ≡ Some to → applied_all to (inverted cs) ≡ Some next) → (o : Option (List ℕ)) → applied text c ≡ o → option_and_then (λ next. applied_all next cs) o ≡ Some to → applied_all to (inverted (c ∷ cs)) ≡ Some text
    go within None h f = cc
    go within (Some next) h f = back next h (within next f)

-- an undone component is not void where the component is not
pub undoing_solid : (c : Comp) (undo : Comp) → undo ∷ [] ≡ undoing c → is_void c ≡ false → is_void undo ≡ false
undoing_solid (Ins at part) undo e v = cc
undoing_solid (Del at part) undo e v = cc
undoing_solid (Com at part thread) undo e v = cc

-- the same, of what was made
pub undoes_on : {E : Type 0} (r : Result (List Comp) E) (comps : List Comp) → IfOk r (λ made. made ≡ inverted comps) → IfOk r (λ made. Undoes comps made)
undoes_on (Ok made) comps e = λ text to applies. rw e (inverted_undoes comps text to applies)
undoes_on (Err x) comps e = tt
