-- No float stands among members that are put in one by one.
use Rattle.std.proofs.Common.{◌≡◌, ℕ, List, false, Ordering, Less, Equal, Greater}
use Rattle.std.proofs.lemmas.Bool.{or_parts}
use Rattle.std.specs.Ordering.{nat_cmp, match_ordering}
use Rattle.std.specs.Cmp.Lexicographic.{slice_cmp}
use Rattle.serde_json.specs.Data.{Data, Members, no_members, member, put}
use Rattle.serde_json.specs.Written.{has_float, members_have_float}
use Rattle.json_lines.specs.Object.{with_member}

chosen : (o : Ordering) (a b c : Members) → members_have_float a ≡ false → members_have_float b ≡ false → members_have_float c ≡ false → members_have_float (match_ordering o a b c) ≡ false
chosen Less a b c p q r = p
chosen Equal a b c p q r = q
chosen Greater a b c p q r = r

put_plain : (k : List ℕ) (d : Data) (ms : Members) → has_float d ≡ false → members_have_float ms ≡ false → members_have_float (put k d ms) ≡ false
put_plain k d no_members p q = rw p
put_plain k d (member l e ms) p q =
    let parts = or_parts (has_float e) _ q in
    chosen (slice_cmp nat_cmp k l) _ _ _ (rw (p, parts.0, parts.1)) (rw (p, parts.1)) (rw (parts.0, put_plain k d ms p parts.1))

pub with_member_plain : (k : List ℕ) (d : Data) (ms : Members) → has_float d ≡ false → members_have_float ms ≡ false → members_have_float (with_member k d ms) ≡ false
unfolding with_member
with_member_plain k d ms p q = put_plain k d ms p q
