-- Worked rows: what the definitions say of small operations, by computation.
use Rattle.std.proofs.Common.{◌≡◌, ℕ, [], ◌∷◌, refl, Some, None}
use Rattle.ot_op.specs.declared.comp.Comp.TheVariants.{Ins, Del, Com}
use Rattle.ot_op.specs.Apply.{applied_all}
use Rattle.ot_op.specs.Compose.{appended, composed}
use Rattle.ot_op.specs.Invert.{inverted}

-- a, b, c, the inserted X and z
abbrev a : ℕ
a = 97

abbrev b : ℕ
b = 98

abbrev c : ℕ
c = 99

abbrev X : ℕ
X = 88

abbrev z : ℕ
z = 122

insert_into_an_insert : composed (Ins 1 (a ∷ b ∷ []) ∷ []) (Ins 2 (X ∷ []) ∷ []) ≡ Ins 1 (a ∷ X ∷ b ∷ []) ∷ []
insert_into_an_insert = refl

insert_behind_an_insert : appended (Ins 1 (a ∷ []) ∷ []) (Ins 2 (b ∷ [])) ≡ Ins 1 (a ∷ b ∷ []) ∷ []
insert_behind_an_insert = refl

insert_past_an_insert : appended (Ins 1 (a ∷ []) ∷ []) (Ins 3 (b ∷ [])) ≡ Ins 1 (a ∷ []) ∷ Ins 3 (b ∷ []) ∷ []
insert_past_an_insert = refl

delete_before_a_delete : appended (Del 2 (c ∷ []) ∷ []) (Del 1 (b ∷ [])) ≡ Del 1 (b ∷ c ∷ []) ∷ []
delete_before_a_delete = refl

delete_around_a_delete : appended (Del 1 (b ∷ []) ∷ []) (Del 0 (a ∷ c ∷ [])) ≡ Del 0 (a ∷ b ∷ c ∷ []) ∷ []
delete_around_a_delete = refl

empty_insert_is_dropped : appended (Del 2 (c ∷ []) ∷ []) (Ins 9 []) ≡ Del 2 (c ∷ []) ∷ []
empty_insert_is_dropped = refl

comment_goes_last : appended (Ins 0 (a ∷ []) ∷ []) (Com 0 (a ∷ []) 7) ≡ Ins 0 (a ∷ []) ∷ Com 0 (a ∷ []) 7 ∷ []
comment_goes_last = refl

inverse_in_reversed_order : inverted (Ins 1 (X ∷ []) ∷ Com 0 [] 1 ∷ Del 0 (a ∷ []) ∷ []) ≡ Ins 0 (a ∷ []) ∷ Del 1 (X ∷ []) ∷ []
inverse_in_reversed_order = refl

another_text_stands_there : applied_all (a ∷ b ∷ c ∷ []) (Del 0 (X ∷ []) ∷ []) ≡ None
another_text_stands_there = refl

insert_past_the_end : applied_all (a ∷ b ∷ c ∷ []) (Ins 4 (z ∷ []) ∷ []) ≡ None
insert_past_the_end = refl

insert_at_the_end : applied_all (a ∷ b ∷ c ∷ []) (Ins 3 (z ∷ []) ∷ []) ≡ Some (a ∷ b ∷ c ∷ z ∷ [])
insert_at_the_end = refl

empty_comment_at_the_end : applied_all (a ∷ b ∷ c ∷ []) (Com 3 [] 1 ∷ []) ≡ Some (a ∷ b ∷ c ∷ [])
empty_comment_at_the_end = refl

empty_comment_past_the_end : applied_all (a ∷ b ∷ c ∷ []) (Com 4 [] 1 ∷ []) ≡ None
empty_comment_past_the_end = refl
