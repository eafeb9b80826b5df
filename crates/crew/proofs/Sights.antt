-- What the seats of places saw last, one place after the other.
use Rattle.std.proofs.Common.{◌≡◌, ℕ, ◌+◌, ◌<◌, zero, suc, List, [], ◌∷◌, ◌++◌, length, All, Bool, true, false, ◌&&◌, refl, ap, ◌∙◌, arith, get_or, length-append}
use Rattle.std.specs.List.{list_all}
use Rattle.std.proofs.lemmas.Bool.{and_parts}
use Rattle.std.proofs.lemmas.List.Folds.{list_all-append}
use Rattle.journal_entries.specs.declared.act.Entry.{Entry}
use Rattle.crew.specs.declared.place.Place.{Place}
use Rattle.crew.specs.Places.{has_closed, sight_of, sights_of}

-- what holds of a whole holds of its parts
pub all_parts : {X : Type 0} (P : X → Type 0) (xs ys : List X) → All P (xs ++ ys) → All P xs × All P ys
all_parts P [] ys all = (λ k d h. absurd (omega (arith, h)), all)
all_parts P (x ∷ xs) ys all =
    let rest = all_parts P xs ys (λ k d h. all (suc k) d (omega (arith, h))) in
    (first rest.0, rest.1)
  where
    first : All P xs → All P (x ∷ xs)
    first more zero d h = all zero d (omega arith)
    first more (suc k) d h = more k d (omega (arith, h))

pub all_each : {X : Type 0} (p : X → Bool) (xs : List X) → list_all p xs ≡ true → (i : ℕ) (d : X) → i < length xs → p (get_or xs i d) ≡ true
all_each p [] all i d lt = absurd (omega (arith, lt))
all_each p (x ∷ xs) all zero d lt = (and_parts (p x) (list_all p xs) all).0
all_each p (x ∷ xs) all (suc i) d lt = all_each p xs (and_parts (p x) (list_all p xs) all).1 i d (omega (arith, lt))

module _ {K : Type 0} where
  pub sights-push : (places : List (Place K)) (place : Place K) → sights_of (places ++ place ∷ []) ≡ sight_of place ∷ sights_of places
  sights-push [] place = refl
  sights-push (p ∷ ps) place = ap (λ (xs : List (ℕ × List Entry)). xs ++ sight_of p ∷ []) (sights-push ps place)

  pub sights-length : (places : List (Place K)) → length (sights_of places) ≡ length places
  sights-length [] = refl
  sights-length (p ∷ ps) = length-append (sights_of ps) (sight_of p ∷ []) ∙ (let n = sights-length ps in omega (arith, n))

  pub each_sight : (P : ℕ × List Entry → Type 0) (places : List (Place K)) → All P (sights_of places) → (w : ℕ) (d : Place K) → w < length places → P (sight_of (get_or places w d))
  each_sight P [] all w d lt = absurd (omega (arith, lt))
  each_sight P (p ∷ ps) all zero d lt = (all_parts P (sights_of ps) (sight_of p ∷ []) all).1 0 (sight_of p) (omega arith)
  each_sight P (p ∷ ps) all (suc w) d lt = each_sight P ps (all_parts P (sights_of ps) (sight_of p ∷ []) all).0 w d (omega (arith, lt))

  pub closed-push : (places : List (Place K)) (place : Place K) (all : Bool) → (list_all has_closed (places ++ place ∷ []) && all) ≡ (list_all has_closed places && (has_closed place && all))
  closed-push places place all =
      ap (λ (b : Bool). b && all) (list_all-append has_closed places (place ∷ [])) ∙ three (list_all has_closed places) (has_closed place)
    where
      three : (a b : Bool) → ((a && (b && true)) && all) ≡ (a && (b && all))
      three true true = refl
      three true false = refl
      three false b = refl

  -- what was joined: the driver's seat, the places', and the flusher's
  pub joined_all : (places : List (Place K)) (driver flusher : ℕ × List Entry) (j0 j1 j2 j3 : List (ℕ × List Entry)) → j0 ≡ [] → j1 ≡ j0 ++ driver ∷ [] → j2 ≡ j1 ++ sights_of places → j3 ≡ j2 ++ flusher ∷ []
      → (j3 ≡ driver ∷ sights_of places ++ flusher ∷ []) × (length j3 ≡ length places + 2)
  joined_all places driver flusher j0 j1 j2 j3 none first next last =
      let is : j3 ≡ driver ∷ sights_of places ++ flusher ∷ [] =
      last ∙ ap (λ (xs : List (ℕ × List Entry)). xs ++ flusher ∷ []) (next ∙ ap (λ (xs : List (ℕ × List Entry)). xs ++ sights_of places) (first ∙ ap (λ (xs : List (ℕ × List Entry)). xs ++ driver ∷ []) none)) in
      let many : length j3 ≡ suc (length (sights_of places ++ flusher ∷ [])) = ap length is in
      let more : length (sights_of places ++ flusher ∷ []) ≡ length (sights_of places) + 1 = length-append (sights_of places) (flusher ∷ []) in
      let size = sights-length places in
      (is, omega (arith, many, more, size))

  -- and where the crew doesn't go: the places' and then the driver's
  pub taken_back : (places : List (Place K)) (driver : ℕ × List Entry) (j0 j1 j2 : List (ℕ × List Entry)) → j0 ≡ [] → j1 ≡ j0 ++ sights_of places → j2 ≡ j1 ++ driver ∷ [] → length j2 ≡ length places + 1
  taken_back places driver j0 j1 j2 none first last =
      let is : j2 ≡ sights_of places ++ driver ∷ [] = last ∙ ap (λ (xs : List (ℕ × List Entry)). xs ++ driver ∷ []) (first ∙ ap (λ (xs : List (ℕ × List Entry)). xs ++ sights_of places) none) in
      let many : length j2 ≡ length (sights_of places) + 1 = ap length is ∙ length-append (sights_of places) (driver ∷ []) in
      let size = sights-length places in
      omega (arith, many, size)
