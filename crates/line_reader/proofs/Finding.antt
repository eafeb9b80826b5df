-- Fields by their keys.
use Rattle.std.proofs.Common.{◌≡◌, ℕ, ◌+◌, ◌<◌, suc, List, [], ◌∷◌, ◌++◌, length, take, get_or, Option, None, Some, Ordering, Less, Equal, Greater, nat_cmp, refl, ap, sym, subst, ◌∙◌}
use Rattle.std.specs.Ordering.{match_ordering}
use Rattle.std.specs.Cmp.Lexicographic.{slice_cmp}
use Rattle.std.proofs.lemmas.List.{take_more}
use Rattle.serde_json.specs.Data.{Data, Members, no_members, member, put}
use Rattle.serde_json.specs.Events.{members_len}
use Rattle.serde_json.specs.Find.{get_member}
use Rattle.serde_json.proofs.Views.{get_member-put, get_member-put_other}
use Rattle.line_reader.specs.Fields.{all_put, content_data}
use Rattle.line_reader.specs.declared.field.Field.{Field}
use Rattle.line_reader.proofs.Reading.{one_field}

one_longer_at : (o : Ordering) (k l : List ℕ) (d e : Data) (ms : Members) → match_ordering o (get_member k ms) (Some e) (get_member k ms) ≡ None → (get_member k ms ≡ None → members_len (put k d ms) ≡ suc (members_len ms))
    → members_len (match_ordering o (member k d (member l e ms)) (member l d ms) (member l e (put k d ms))) ≡ suc (members_len (member l e ms))
one_longer_at Less k l d e ms none later = refl
one_longer_at Equal k l d e ms none later = absurd (cc)
one_longer_at Greater k l d e ms none later = ap suc (later none)

-- a member at a key that isn't there is one more
pub one_longer : (k : List ℕ) (d : Data) (ms : Members) → get_member k ms ≡ None → members_len (put k d ms) ≡ suc (members_len ms)
one_longer k d no_members none = refl
one_longer k d (member l e ms) none = one_longer_at (slice_cmp nat_cmp k l) k l d e ms none (one_longer k d ms)

module _ (fs : List Field) (n : ℕ) (f : Field) (small : n < length fs) (is : f ≡ get_or fs n f) where
  next_put : all_put (take (n + 1) fs) no_members ≡ put f.key.now (content_data f.value) (all_put (take n fs) no_members)
  next_put = ap (λ xs. all_put xs no_members) (take_more fs n f small ∙ ap (λ x. take n fs ++ x ∷ []) (sym is)) ∙ one_field (take n fs) f no_members

  pub found_here : (k : List ℕ) → f.key.now ≡ k → Some (content_data f.value) ≡ get_member k (all_put (take (n + 1) fs) no_members)
  found_here k same = sym (ap (get_member k) next_put ∙ subst (λ x. get_member x (put f.key.now (content_data f.value) (all_put (take n fs) no_members)) ≡ Some (content_data f.value)) same (get_member-put f.key.now (content_data f.value) (all_put (take n fs) no_members)))

  pub found_before : (k : List ℕ) (o : Option Data) → (k ≡ f.key.now → ⊥) → o ≡ get_member k (all_put (take n fs) no_members) → o ≡ get_member k (all_put (take (n + 1) fs) no_members)
  found_before k o other before = before ∙ sym (ap (get_member k) next_put ∙ get_member-put_other k f.key.now (content_data f.value) (all_put (take n fs) no_members) other)
