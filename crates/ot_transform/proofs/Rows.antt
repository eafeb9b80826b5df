-- Worked rows, computed: the left one is crossed past the right one.
use Rattle.std.proofs.Common.{◌≡◌, [], ◌∷◌, Some, None, refl}
use Rattle.std.specs.Option.{option_map}
use Rattle.ot_op.specs.declared.comp.Comp.TheVariants.{Ins, Del, Com}
use Rattle.ot_transform.specs.Crossing.{crossed}

tie : option_map (λ both. both.0) (crossed (Ins 1 (89 ∷ []) ∷ []) (Ins 1 (88 ∷ []) ∷ [])) ≡ Some (Ins 1 (89 ∷ []) ∷ [])
unfolding crossed
tie = refl

split : option_map (λ both. both.0) (crossed (Del 1 (98 ∷ 99 ∷ 100 ∷ 101 ∷ []) ∷ []) (Ins 3 (88 ∷ 89 ∷ []) ∷ [])) ≡ Some (Del 1 (98 ∷ 99 ∷ []) ∷ Del 3 (100 ∷ 101 ∷ []) ∷ [])
unfolding crossed
split = refl

overlap : option_map (λ both. both.0) (crossed (Del 2 (99 ∷ 100 ∷ 101 ∷ []) ∷ []) (Del 1 (98 ∷ 99 ∷ 100 ∷ []) ∷ [])) ≡ Some (Del 1 (101 ∷ []) ∷ [])
unfolding crossed
overlap = refl

equal : option_map (λ both. both.0) (crossed (Del 1 (98 ∷ []) ∷ []) (Del 1 (98 ∷ []) ∷ [])) ≡ Some []
unfolding crossed
equal = refl

-- a comment takes in what is inserted into its text
lengthened : crossed (Com 1 (98 ∷ 99 ∷ []) 7 ∷ []) (Ins 2 (88 ∷ []) ∷ []) ≡ Some (Com 1 (98 ∷ 88 ∷ 99 ∷ []) 7 ∷ [], Ins 2 (88 ∷ []) ∷ [])
unfolding crossed
lengthened = refl

-- and loses what is deleted of it
shortened : crossed (Com 1 (98 ∷ 99 ∷ []) 7 ∷ []) (Del 0 (97 ∷ 98 ∷ []) ∷ []) ≡ Some (Com 0 (99 ∷ []) 7 ∷ [], Del 0 (97 ∷ 98 ∷ []) ∷ [])
unfolding crossed
shortened = refl

-- two texts at one place
differing : crossed (Del 0 (97 ∷ []) ∷ []) (Del 0 (98 ∷ []) ∷ []) ≡ None
unfolding crossed
differing = refl

-- the right list is rebuilt, so that its inserts merge
rebuilt : crossed [] (Ins 0 (97 ∷ []) ∷ Ins 0 (98 ∷ []) ∷ []) ≡ Some ([], Ins 0 (98 ∷ 97 ∷ []) ∷ [])
unfolding crossed
rebuilt = refl

-- what a crossing within another one answers is appended to the lists as a whole
as_a_whole : crossed (Ins 2 (121 ∷ []) ∷ Del 2 (121 ∷ []) ∷ []) (Del 3 (100 ∷ 101 ∷ []) ∷ Del 1 (98 ∷ 99 ∷ []) ∷ []) ≡ Some (Ins 1 (121 ∷ []) ∷ Del 1 (121 ∷ []) ∷ [], Del 1 (98 ∷ 99 ∷ 100 ∷ 101 ∷ []) ∷ [])
unfolding crossed
as_a_whole = refl
