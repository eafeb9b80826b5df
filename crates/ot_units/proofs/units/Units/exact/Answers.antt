use Rattle.std.proofs.Common.{◌≡◌, ℕ, List, sym, ap, map-id, ◌∙◌, false, true, Some, None, refl, arith, length, ◌<◌, get_or}
use Rattle.std.specs.List.{list_all}
use Rattle.std.specs.Str.{chars}
use Rattle.std.proofs.lemmas.Bool.Decides.{nat_tests}
use Rattle.std.proofs.lemmas.Iterator.{YieldsList-from_chars}
use Rattle.std.proofs.lemmas.Iterator.Consumers.{YieldsList-turn, YieldsList-end}
use Rattle.std.proofs.lemmas.List.Recursion.{and_fails_at}
use Rattle.ot_units.specs.Text.{is_basic, exact_units}
use Rattle.ot_units.proofs.units.Units.exact.Goals as goal

not_basic : (bytes : List ℕ) (i c : ℕ) → (i < length (chars bytes)) × (c ≡ get_or (chars bytes) i c) → is_basic c ≡ false → exact_units bytes ≡ None
not_basic bytes i c t e =
    let f : list_all is_basic (chars bytes) ≡ false = and_fails_at (list_all is_basic) is_basic refl (λ _ _. refl) (chars bytes) i c t.0 (ap is_basic (sym t.1) ∙ e) in
    rw f

pub returns-then-code-ge-FIRST_SUPPLEMENTARY : goal.returns-then-code-ge-FIRST_SUPPLEMENTARY
returns-then-code-ge-FIRST_SUPPLEMENTARY c =
    let t = YieldsList-turn (YieldsList-from_chars c.args.text.now c.utf8.text cc) c.loop-c.yielded _ c.loop-c.yielded_by _ _ c.in-Some.c c.in-Some.is c.next.ensures.steps in
    sym (not_basic c.args.text.now _ _ t (grind (arith, nat_tests)))

pub returns : goal.returns
returns c =
    let t = YieldsList-end (YieldsList-from_chars c.args.text.now c.utf8.text cc) c.loop-c.yielded _ c.loop-c.yielded_by _ _ c.in-None.is c.next.ensures.steps in
    let all : c.loop-c.yielded ≡ chars c.args.text.now = sym (map-id c.loop-c.yielded) ∙ t.0 in
    let b : list_all is_basic (chars c.args.text.now) ≡ true = ap (list_all is_basic) (sym all) ∙ c.loop-c.invariant.basic in
    rw b (ap (λ (us : List ℕ). Some us) (c.loop-c.invariant.made ∙ all))
