-- Texts replayed, operations past others, and scans, one item more.
use Rattle.std.proofs.Common.{◌≡◌, ℕ, List, [], ◌∷◌, ◌++◌, map, Bool, true, false, refl, ap, ◌∙◌, inl, inr}
use Rattle.std.specs.Prelude.{Option, Some, None, if◌then◌else◌}
use Rattle.std.specs.Option.{option_and_then}
use Rattle.ot_op.specs.declared.comp.Comp.{Comp}
use Rattle.ot_op.specs.Apply.{applied_all}
use Rattle.ot_transform.specs.Crossing.{crossed, Crossed}
use Rattle.journal_rules.specs.Documents.{Item, replayed, is_in}
use Rattle.ot_transform.specs.Crossing.{through}
use Rattle.journal_rules.specs.Deciding.{passed_of, scanned, moved_on, Twin, Moved}
use Rattle.journal_rules.proofs.Lists.{AllIn, AnyIn}

abbrev pub ops : List Item → List (List Comp)
ops xs = map (λ (x : Item). x.op) xs

pub ops-append : (xs ys : List Item) → ops (xs ++ ys) ≡ ops xs ++ ops ys
ops-append [] ys = refl
ops-append (x ∷ xs) ys = ap (λ l. x.op ∷ l) (ops-append xs ys)

pub replayed-push : (text : List ℕ) (os : List (List Comp)) (o : List Comp) → replayed text (os ++ o ∷ []) ≡ option_and_then (λ here. applied_all here o) (replayed text os)
replayed-push text [] o = go (applied_all text o)
  where
    go : (r : Option (List ℕ)) → option_and_then (λ next. Some next) r ≡ r
    go None = refl
    go (Some next) = refl
replayed-push text (x ∷ xs) o =
    elim (applied_all text x) as (λ r. option_and_then (λ next. replayed next (xs ++ o ∷ [])) r ≡ option_and_then (λ here. applied_all here o) (option_and_then (λ next. replayed next xs) r))
    [ None ↦ refl | Some next ↦ replayed-push next xs o ]

pub replays_on : (text here next : List ℕ) (xs : List Item) (x : Item) → replayed text (ops xs) ≡ Some here → applied_all here x.op ≡ Some next → replayed text (ops (xs ++ x ∷ [])) ≡ Some next
replays_on text here next xs x a b =
    ap (replayed text) (ops-append xs (x ∷ [])) ∙ replayed-push text (ops xs) x.op ∙ ap (option_and_then (λ here. applied_all here x.op)) a ∙ b

-- where more was replayed, a first part was
given_next : (text to : List ℕ) (x : Item) (xs ys : List Item) → ((next : List ℕ) → replayed next (ops (xs ++ ys)) ≡ Some to → (here : List ℕ) × (replayed next (ops xs) ≡ Some here) × (replayed here (ops ys) ≡ Some to))
    → (r : Option (List ℕ)) → applied_all text x.op ≡ r → option_and_then (λ next. replayed next (ops (xs ++ ys))) r ≡ Some to → (here : List ℕ) × (replayed text (ops (x ∷ xs)) ≡ Some here) × (replayed here (ops ys) ≡ Some to)
given_next text to x xs ys rest None h f = absurd (cc)
given_next text to x xs ys rest (Some next) h f = let r = rest next f in (r.0, ap (option_and_then (λ n. replayed n (ops xs))) h ∙ r.1, r.2)

pub replayed_first : (text to : List ℕ) (xs ys : List Item) → replayed text (ops (xs ++ ys)) ≡ Some to → (here : List ℕ) × (replayed text (ops xs) ≡ Some here) × (replayed here (ops ys) ≡ Some to)
replayed_first text to [] ys e = (text, refl, e)
replayed_first text to (x ∷ xs) ys e = given_next text to x xs ys (λ next f. replayed_first next to xs ys f) (applied_all text x.op) refl e

pub through-push : (op : List Comp) (os : List (List Comp)) (o : List Comp) → through op (os ++ o ∷ []) ≡ option_and_then (λ f. option_and_then (λ both. Some both.0) (crossed f o)) (through op os)
through-push op [] o = refl
through-push op (x ∷ xs) o =
    elim (crossed op x) as (λ r. option_and_then (λ both. through both.0 (xs ++ o ∷ [])) r ≡ option_and_then (λ f. option_and_then (λ both. Some both.0) (crossed f o)) (option_and_then (λ both. through both.0 xs) r))
    [ None ↦ refl | Some both ↦ through-push both.0 xs o ]

pub goes_through : (op flight next o : List Comp) (xs : List Item) (x : Item) (other : List Comp) → through op (ops xs) ≡ Some flight → crossed flight x.op ≡ Some (next, other) → through op (ops (xs ++ x ∷ [])) ≡ Some next
goes_through op flight next o xs x other a b =
    ap (through op) (ops-append xs (x ∷ [])) ∙ through-push op (ops xs) x.op ∙ ap (option_and_then (λ f. option_and_then (λ both. Some both.0) (crossed f x.op))) a ∙ ap (option_and_then (λ both. Some both.0)) b

-- a scan that comes through meets no source of the list, and is the operation past the others
pub record Passes (dup : List ℕ) (op : List Comp) (xs : List Item) (to : List Comp) : Type 0 where
  pub free : AllIn (λ x. is_in x.update.source dup ≡ false) xs
  pub is : through op (ops xs) ≡ Some to

pub passes : (dup : List ℕ) (op to : List Comp) (xs : List Item) → scanned dup op (map passed_of xs) ≡ Moved to → Passes dup op xs to
passes dup op to [] e = let same : op ≡ to = cc in record { free = tt; is = ap (λ (o : List Comp). Some o) same }
passes dup op to (x ∷ xs) e = go (is_in x.update.source dup) refl (crossed op x.op) refl (λ next f. passes dup next to xs f) e
  where
    go : (b : Bool) → is_in x.update.source dup ≡ b → (r : Crossed) → crossed op x.op ≡ r → ((next : List Comp) → scanned dup next (map passed_of xs) ≡ Moved to → Passes dup next xs to)
        → (if b then Twin x.v else moved_on r (λ next. scanned dup next (map passed_of xs))) ≡ Moved to → Passes dup op (x ∷ xs) to
    go true h r g rest f = absurd (cc)
    go false h None g rest f = absurd (cc)
    go false h (Some both) g rest f = let p = rest both.0 f in record { free = (h, p.free); is = ap (option_and_then (λ (b : List Comp × List Comp). through b.0 (ops xs))) g ∙ p.is }

-- a scan that ends at a twin ends at the version of one of the items
pub twin_of : (dup : List ℕ) (op : List Comp) (w : ℕ) (xs : List Item) → scanned dup op (map passed_of xs) ≡ Twin w → AnyIn (λ x. x.v ≡ w) xs
twin_of dup op w [] e = absurd (cc)
twin_of dup op w (x ∷ xs) e = go (is_in x.update.source dup) (crossed op x.op) (λ next f. twin_of dup next w xs f) e
  where
    go : (b : Bool) (r : Crossed) → ((next : List Comp) → scanned dup next (map passed_of xs) ≡ Twin w → AnyIn (λ x. x.v ≡ w) xs) → (if b then Twin x.v else moved_on r (λ next. scanned dup next (map passed_of xs))) ≡ Twin w → AnyIn (λ x. x.v ≡ w) (x ∷ xs)
    go true r rest f = inl (let same : x.v ≡ w = cc in same)
    go false None rest f = absurd (cc)
    go false (Some both) rest f = inr (rest both.0 f)
