-- An operation that a client sent is within the limits.
use Rattle.std.proofs.Common.{◌≡◌, ℕ, ◌<◌, ◌≤◌, List, [], ◌∷◌, Bool, true, false, refl, subst, arith, All, length}
use Rattle.std.specs.Prelude.{Option, Some, None, Result, Ok, Err, IfOk, nat_le, ◌&&◌, ◌==◌, codes, if◌then◌else◌}
use Rattle.std.specs.List.{cons_option, filter_map, position_from}
use Rattle.std.proofs.lemmas.Bool.{leb-true, and_parts}
use Rattle.serde_json.specs.Data.{Data, Items, no_items, item}
use Rattle.serde_json.specs.Find.{as_array}
use Rattle.json_lines.specs.Reading.{key_count, text_at}
use Rattle.ot_units.specs.Text.{exact_units, sanitized_units}
use Rattle.ot_op.specs.declared.comp.Comp.{Comp}
use Rattle.ot_op.specs.declared.comp.Comp.TheVariants.{Ins, Del, Com}
use Rattle.ot_op.specs.declared.fault.FormFault.{FormFault}
use Rattle.ot_op.specs.Operation.{is_void, place, total_units, IsWithinLimits}
use Rattle.ot_json.specs.declared.reading.Grammar.TheVariants.{Sent}
use Rattle.ot_json.specs.declared.reading.Reading.{Reading}
use Rattle.ot_json.specs.declared.reading.Reading.TheVariants.{Kept, Dropped, Supplementary, OutOfForm}
use Rattle.ot_op.specs.declared.limits.TheConstants.{MAX_PLACE}
use Rattle.ot_json.specs.Form.{Written, insert, delete, comment, place_at, thread_at, insert_of, delete_of, comment_of, written_of}
use Rattle.ot_json.specs.Reading.{unless_void, exactly, sent_reading, reading_of}
use Rattle.ot_json.specs.Grammar.{kept, readings, is_out_of_form, is_supplementary, unless_faulty, components_or_fault, array_or_fault, unless_large, operation_of}
use Rattle.ot_json.proofs.Given.{IfGiven, all_none, given_then, given_map_with, given_with, given_choice, given_or, whole_given, all_given}

abbrev InReach : Comp → Type 0
InReach c = place c ≤ 1000000000

abbrev IsNear : Written → Type 0
IsNear (insert s p) = p ≤ MAX_PLACE
IsNear (delete s p) = p ≤ MAX_PLACE
IsNear (comment s p t) = p ≤ MAX_PLACE

insert_near : (d : Data) → IfGiven IsNear (insert_of d)
insert_near d = given_then IsNear _ (text_at (codes "i") d) (λ s. given_map_with (λ p. p ≤ MAX_PLACE) IsNear (λ p. insert s p) (place_at d) (whole_given MAX_PLACE (codes "p") d) (λ p h. h))

delete_near : (d : Data) → IfGiven IsNear (delete_of d)
delete_near d = given_then IsNear _ (text_at (codes "d") d) (λ s. given_map_with (λ p. p ≤ MAX_PLACE) IsNear (λ p. delete s p) (place_at d) (whole_given MAX_PLACE (codes "p") d) (λ p h. h))

comment_near : (d : Data) → IfGiven IsNear (comment_of d)
comment_near d = given_then IsNear _ (text_at (codes "c") d) (λ s. given_with (λ p. p ≤ MAX_PLACE) IsNear _ (place_at d) (whole_given MAX_PLACE (codes "p") d)
    (λ p h. given_map_with (λ t. t ≤ 4294967295) IsNear (λ t. comment s p t) (thread_at d) (whole_given 4294967295 (codes "t") d) (λ t _. h)))

written_near : (d : Data) → IfGiven IsNear (written_of d)
written_near d = given_choice IsNear (key_count d == 2) _ _ (given_or IsNear (insert_of d) (delete_of d) (insert_near d) (delete_near d)) (given_choice IsNear (key_count d == 3) _ _ (comment_near d) tt)

solid_near : (b : Bool) (c : Comp) → InReach c → IfGiven InReach (kept (if b then Dropped else Kept c))
solid_near true c h = tt
solid_near false c h = h

exact_near : (read : List ℕ → Reading) (o : Option (List ℕ)) → ((us : List ℕ) → IfGiven InReach (kept (read us))) → IfGiven InReach (kept (exactly read Supplementary o))
exact_near read None h = tt
exact_near read (Some us) h = h us

sent_near : (w : Written) → IsNear w → IfGiven InReach (kept (sent_reading w))
sent_near (insert s p) h = solid_near (is_void (Ins p (sanitized_units s))) (Ins p (sanitized_units s)) h
sent_near (delete s p) h = exact_near (λ us. unless_void Dropped (Del p us)) (exact_units s) (λ us. solid_near (is_void (Del p us)) (Del p us) h)
sent_near (comment s p t) h = exact_near (λ us. Kept (Com p us t)) (exact_units s) (λ us. h)

read_near : (o : Option Written) → IfGiven IsNear o → IfGiven InReach (kept (reading_of Sent o))
read_near None h = tt
read_near (Some w) h = sent_near w h

kept_near : (ds : Items) → All InReach (filter_map kept (readings Sent ds))
kept_near no_items = all_none InReach
kept_near (item d ds) = all_given InReach (kept (reading_of Sent (written_of d))) (filter_map kept (readings Sent ds)) (read_near (written_of d) (written_near d)) (kept_near ds)

unless_near : (o p : Option ℕ) (comps : List Comp) → All InReach comps → IfOk (unless_faulty o p comps) (λ cs. All InReach cs)
unless_near (Some k) p comps all = tt
unless_near None (Some k) comps all = tt
unless_near None None comps all = all

array_near : (o : Option Items) → IfOk (array_or_fault Sent o) (λ cs. All InReach cs)
array_near None = tt
array_near (Some ds) = unless_near (position_from is_out_of_form 0 (readings Sent ds)) (position_from is_supplementary 0 (readings Sent ds)) (filter_map kept (readings Sent ds)) (kept_near ds)

within_limits : (b : Bool) (comps : List Comp) (fault : FormFault) → (b ≡ true → IsWithinLimits comps) → IfOk (if b then Ok comps else Err fault) IsWithinLimits
within_limits true comps fault h = h refl
within_limits false comps fault h = tt

limits_near : (r : Result (List Comp) FormFault) → IfOk r (λ cs. All InReach cs) → IfOk (unless_large r) IsWithinLimits
limits_near (Err f) all = tt
limits_near (Ok comps) all = within_limits (nat_le (length comps) 1000 && nat_le (total_units comps) 65536) comps _ (λ is.
    let parts = and_parts (nat_le (length comps) 1000) (nat_le (total_units comps) 65536) is in
    record { few = leb-true (length comps) 1000 parts.0; short = leb-true (total_units comps) 65536 parts.1; in_reach = all })

pub operation_within : (d : Data) → IfOk (operation_of d) IsWithinLimits
operation_within d = limits_near (array_or_fault Sent (as_array d)) (array_near (as_array d))

pub read_within : (d : Data) (op : List Comp) → operation_of d ≡ Ok op → IsWithinLimits op
read_within d op is = subst (λ (r : Result (List Comp) FormFault). IfOk r IsWithinLimits) is (operation_within d)
