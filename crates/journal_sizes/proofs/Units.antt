-- How many units the texts of what is pending have: each comment's text stands in the client's text.
use Rattle.std.proofs.Common.{◌≡◌, ℕ, ◌+◌, ◌*◌, ◌^◌, ◌<◌, ◌≤◌, List, [], ◌∷◌, ◌++◌, length, true, ap, ◌∙◌, arith, length-append}
use Rattle.std.specs.Prelude.{Some}
use Rattle.std.specs.Option.{option_and_then}
use Rattle.std.proofs.lemmas.List.Sums.{sum_by-cons}
use Rattle.ot_op.specs.declared.comp.Comp.{Comp}
use Rattle.ot_op.specs.declared.comp.Comp.TheVariants.{Ins, Del, Com}
use Rattle.ot_op.specs.Apply.{applied, applied_all}
use Rattle.ot_op.specs.Operation.{units_of, total_units}
use Rattle.ot_op.proofs.Applying.{First, first_of_all}
use Rattle.ot_op.proofs.Pieces.{com_cut}
use Rattle.ot_transform.specs.Size.{edit_units, edit_units_in, comment_count, comments_in}
use Rattle.journal_entries.specs.declared.act.Entry.{Entry}
use Rattle.journal_rules.specs.Client.{client, is_alive}
use Rattle.journal_rules.specs.Legal.{IsLegal}
use Rattle.journal_rules.proofs.Sizes.{all_size}
use Rattle.journal_laws.specs.ClientLaw.{Shows}
use Rattle.journal_laws.proofs.Laws.{shows}
use Rattle.journal_laws.proofs.Staying.{small}
use Rattle.journal_sizes.proofs.Clients.{text_short, under_flight}

-- the greatest length of a text to which a component of a client is applied: a document's, and as many units as flight and pending may put in
one_units : (text next : List ℕ) (c : Comp) → applied text c ≡ Some next → length text ≤ 2228224 → units_of c ≤ edit_units c + 2228224 * comment_count c
one_units text next (Ins p s) e le = omega arith
one_units text next (Del p s) e le = omega arith
one_units text next (Com p s k) e le =
    let c = com_cut text p s k next e in
    let t : length text ≡ length c.0.front + (length s + length c.0.back) = ap length c.0.is ∙ length-append c.0.front (s ++ c.0.back) ∙ ap (λ k. length c.0.front + k) (length-append s c.0.back) in
    omega (arith, t, le)

all_units : (text next : List ℕ) (cs : List Comp) → applied_all text cs ≡ Some next → length text + edit_units_in cs ≤ 2228224 → total_units cs ≤ edit_units_in cs + 2228224 * comments_in cs
all_units text next [] e le = omega arith
all_units text next (c ∷ cs) e le =
    let f : First text c cs next = first_of_all text c cs next e in
    let u = sum_by-cons edit_units c cs in
    let n = sum_by-cons comment_count c cs in
    let t = sum_by-cons units_of c cs in
    let alone : applied_all text (c ∷ []) ≡ Some f.mid = ap (λ o. option_and_then (λ (t : List ℕ). applied_all t []) o) f.here in
    let v = sum_by-cons edit_units c [] in
    let b = (all_size text f.mid (c ∷ []) alone (omega (arith, u, v, le))).0 in
    let one = one_units text f.mid c f.here (omega (arith, u, le)) in
    let rest = all_units f.mid next cs f.rest (omega (arith, b, u, v, le)) in
    omega (arith, u, n, t, one, rest)

pub pending_units : (c : ℕ) (j : List Entry) → IsLegal j → is_alive (client c j).state ≡ true → total_units (client c j).pending < 2 ^ 32
pending_units c j legal lives =
    let s = client c j in
    let sh : Shows c j s = shows c j legal lives in
    let light = small c j legal in
    let short = text_short s.doc s.version j sh.here legal sh.made sh.here_is in
    let l = (under_flight s.flight sh.here sh.there sh.flight_is light.0 short).0 in
    let u = light.1.0 in let n = light.1.1 in
    let all = all_units sh.there s.text s.pending sh.text_is (omega (arith, l, u)) in
    omega (arith, all, u, n)
