-- The names of a journal's projects: no two are the same, and they are those of its documents.
use Rattle.std.proofs.Common.{◌≡◌, ◌⊎◌, inl, inr, ℕ, zero, suc, List, [], ◌∷◌, ◌++◌, length, Bool, true, false, ◌||◌, refl, sym, ap, ◌∙◌, subst}
use Rattle.std.specs.Prelude.{slice_get, sum, drop, Some, if◌then◌else◌}
use Rattle.std.specs.List.{list_any}
use Rattle.std.specs.Str.{bytes_eq}
use Rattle.std.proofs.lemmas.Bool.{or_parts, or_right}
use Rattle.std.proofs.lemmas.List.Folds.{list_any-append}
use Rattle.std.proofs.lemmas.Slice.Eq.{bytes_eq-Decides}
use Rattle.journal_entries.specs.declared.act.Act.{Act}
use Rattle.journal_entries.specs.declared.act.Act.TheVariants.{Committed, Handed}
use Rattle.journal_entries.specs.declared.act.Entry.{Entry}
use Rattle.journal_rules.specs.Documents.{Making, making_of, makings, update_at}
use Rattle.journal_rules.specs.History.{all_history, handed, handed_by, history, history_by, history_of, is_of_project}
use Rattle.journal_rules.specs.Legal.{IsAllowed, IsLegal, is_project}
use Rattle.journal_rules.proofs.Legality.{Keeps, by_last, last_or}
use Rattle.journal_rules.proofs.Pushing.{all_history-none, all_history-push, handed-none, handed-push, makings-none, makings-push}
use Rattle.project_histories.specs.Handing.{projects_of, with_project, with_projects}
use Rattle.project_histories.proofs.Lists.{same_item}

-- ---- no two are the same
abbrev pub AreApart : List (List ℕ) → Type 0
AreApart ns = (a b : ℕ) (x : List ℕ) → slice_get ns a ≡ Some x → slice_get ns b ≡ Some x → a ≡ b

absent : (p : List ℕ) (ns : List (List ℕ)) (i : ℕ) → list_any (bytes_eq p) ns ≡ false → slice_get ns i ≡ Some p → ⊥
absent p [] i none at = absurd (cc)
absent p (n ∷ ns) zero none at =
    let here : bytes_eq p n ≡ true = (bytes_eq-Decides p n).1 (sym (same_item n p at)) in
    let apart = (or_parts (bytes_eq p n) (list_any (bytes_eq p) ns) none).0 in
    absurd (cc)
absent p (n ∷ ns) (suc i) none at = absent p ns i (or_parts (bytes_eq p n) (list_any (bytes_eq p) ns) none).1 at

pub present : (p : List ℕ) (ns : List (List ℕ)) (i : ℕ) → slice_get ns i ≡ Some p → list_any (bytes_eq p) ns ≡ true
present p ns i at = by (list_any (bytes_eq p) ns) refl
  where
    by : (b : Bool) → list_any (bytes_eq p) ns ≡ b → b ≡ true
    by true is = refl
    by false is = absurd (absent p ns i is at)

apart_with : (ns : List (List ℕ)) (p : List ℕ) → AreApart ns → AreApart (with_project ns p)
apart_with ns p apart = by (list_any (bytes_eq p) ns) refl
  where
    ends : list_any (bytes_eq p) ns ≡ false → (a b : ℕ) (x : List ℕ) → (slice_get ns a ≡ Some x) ⊎ ((a ≡ length ns) × (x ≡ p)) → (slice_get ns b ≡ Some x) ⊎ ((b ≡ length ns) × (x ≡ p)) → a ≡ b
    ends is a b x (inl s) (inl t) = apart a b x s t
    ends is a b x (inr s) (inr t) = s.0 ∙ sym t.0
    ends is a b x (inl s) (inr t) = absurd (absent p ns a is (s ∙ ap (λ (y : List ℕ). Some y) t.1))
    ends is a b x (inr s) (inl t) = absurd (absent p ns b is (t ∙ ap (λ (y : List ℕ). Some y) s.1))

    by : (b : Bool) → list_any (bytes_eq p) ns ≡ b → AreApart (if b then ns else ns ++ p ∷ [])
    by true is = apart
    by false is = λ a b x at_a at_b. ends is a b x (last_or ns p a x at_a) (last_or ns p b x at_b)

apart_all : (ms : List Making) (ns : List (List ℕ)) → AreApart ns → AreApart (with_projects ns ms)
apart_all [] ns apart = apart
apart_all (m ∷ ms) ns apart = apart_all ms (with_project ns m.project) (apart_with ns m.project apart)

pub projects_apart : (j : List Entry) → AreApart (projects_of j)
projects_apart j = apart_all (makings j) [] (λ a b x at_a at_b. absurd (cc))

-- ---- an entry more
with_all : (ns : List (List ℕ)) (xs ys : List Making) → with_projects ns (xs ++ ys) ≡ with_projects (with_projects ns xs) ys
with_all ns [] ys = refl
with_all ns (x ∷ xs) ys = with_all (with_project ns x.project) xs ys

pub projects_of-push : (j : List Entry) (e : Entry) → projects_of (j ++ e ∷ []) ≡ with_projects (projects_of j) (making_of e.act)
projects_of-push j e = ap (with_projects []) (makings-push j e) ∙ with_all [] (makings j) (making_of e.act)

pub projects_of-none : projects_of [] ≡ []
projects_of-none = ap (with_projects []) makings-none

-- ---- they are those of the documents
or_none : (b : Bool) → (b || false) ≡ b
or_none true = refl
or_none false = refl

or_twice : (a b c : Bool) → ((a || b) || c) ≡ (a || (b || c))
or_twice true b c = refl
or_twice false b c = refl

either_way : (x y : List ℕ) → bytes_eq x y ≡ bytes_eq y x
either_way x y = by (bytes_eq x y) (bytes_eq y x) refl refl
  where
    by : (b c : Bool) → bytes_eq x y ≡ b → bytes_eq y x ≡ c → b ≡ c
    by true true s t = refl
    by false false s t = refl
    by true false s t = let f = (bytes_eq-Decides y x).1 (sym ((bytes_eq-Decides x y).0 s)) in absurd (cc)
    by false true s t = let f = (bytes_eq-Decides x y).1 (sym ((bytes_eq-Decides y x).0 t)) in absurd (cc)

known_with : (p q : List ℕ) (ns : List (List ℕ)) → list_any (bytes_eq p) (with_project ns q) ≡ (list_any (bytes_eq p) ns || bytes_eq q p)
known_with p q ns = by (list_any (bytes_eq q) ns) refl
  where
    there : (b : Bool) → bytes_eq q p ≡ b → list_any (bytes_eq q) ns ≡ true → list_any (bytes_eq p) ns ≡ (list_any (bytes_eq p) ns || b)
    there false s is = sym (or_none (list_any (bytes_eq p) ns))
    there true s is =
        let found : list_any (bytes_eq p) ns ≡ true = subst (λ (x : List ℕ). list_any (bytes_eq x) ns ≡ true) ((bytes_eq-Decides q p).0 s) is in
        found ∙ sym (or_right (list_any (bytes_eq p) ns) true refl)

    by : (b : Bool) → list_any (bytes_eq q) ns ≡ b → list_any (bytes_eq p) (if b then ns else ns ++ q ∷ []) ≡ (list_any (bytes_eq p) ns || bytes_eq q p)
    by true is = there (bytes_eq q p) refl is
    by false is = list_any-append (bytes_eq p) ns (q ∷ []) ∙ ap (λ b. list_any (bytes_eq p) ns || b) (or_none (bytes_eq p q) ∙ either_way p q)

known_all : (p : List ℕ) (ms : List Making) (ns : List (List ℕ)) → list_any (bytes_eq p) (with_projects ns ms) ≡ (list_any (bytes_eq p) ns || list_any (λ m. bytes_eq m.project p) ms)
known_all p [] ns = sym (or_none (list_any (bytes_eq p) ns))
known_all p (m ∷ ms) ns =
    known_all p ms (with_project ns m.project) ∙ ap (λ b. b || list_any (λ m. bytes_eq m.project p) ms) (known_with p m.project ns)
    ∙ or_twice (list_any (bytes_eq p) ns) (bytes_eq m.project p) (list_any (λ m. bytes_eq m.project p) ms)

pub known : (p : List ℕ) (j : List Entry) → list_any (bytes_eq p) (projects_of j) ≡ is_project p j
known p j = known_all p (makings j) []

-- ---- a project that isn't known has no history
of_none : (p : List ℕ) (ms : List Making) (d : ℕ) → list_any (λ m. bytes_eq m.project p) ms ≡ false → is_of_project p (slice_get ms d) ≡ false
of_none p [] d none = refl
of_none p (m ∷ ms) zero none = (or_parts (bytes_eq m.project p) (list_any (λ m. bytes_eq m.project p) ms) none).0
of_none p (m ∷ ms) (suc d) none = of_none p ms d (or_parts (bytes_eq m.project p) (list_any (λ m. bytes_eq m.project p) ms) none).1

record HasNone (p : List ℕ) (j : List Entry) : Type 0 where
  all : all_history p j ≡ []
  out : handed p j ≡ []

unknown_none : (p : List ℕ) (j : List Entry) → IsLegal j → is_project p j ≡ false → HasNone p j
unknown_none p = by_last (λ j. is_project p j ≡ false → HasNone p j) (λ none. record { all = all_history-none p; out = handed-none p }) more
  where
    applies : (h : List Entry) (a : Act) → is_project p h ≡ false → history_by p h a ≡ []
    applies h (Committed doc token ticket outcome) none = ap (λ b. if b then history_of doc h (update_at h ticket) outcome else []) (of_none p (makings h) doc none)
    applies h _ none = refl

    hands : (h : List Entry) (seat : ℕ) (a : Act) → IsAllowed h seat a → is_project p h ≡ false → handed_by p a ≡ []
    hands h seat (Handed q count) may none = by (bytes_eq q p) refl
      where
        by : (b : Bool) → bytes_eq q p ≡ b → (if b then count ∷ [] else []) ≡ []
        by false is = refl
        by true is = let f : is_project p h ≡ true = subst (λ (x : List ℕ). is_project x h ≡ true) ((bytes_eq-Decides q p).0 is) may.known in absurd (cc)
    hands h seat _ may none = refl

    more : Keeps (λ j. is_project p j ≡ false → HasNone p j)
    more h e legal may were none =
        let split : (is_project p h || list_any (λ m. bytes_eq m.project p) (making_of e.act)) ≡ false = sym (ap (list_any (λ m. bytes_eq m.project p)) (makings-push h e) ∙ list_any-append (λ m. bytes_eq m.project p) (makings h) (making_of e.act)) ∙ none in
        let before = (or_parts (is_project p h) (list_any (λ m. bytes_eq m.project p) (making_of e.act)) split).0 in
        let w = were before in
        record {
          all = all_history-push p h e ∙ ap (λ l. l ++ history_by p h e.act) w.all ∙ applies h e.act before;
          out = handed-push p h e ∙ ap (λ l. l ++ handed_by p e.act) w.out ∙ hands h e.seat e.act may before;
        }

-- none is left, and none was handed out
pub none_left : (p : List ℕ) (j : List Entry) → IsLegal j → is_project p j ≡ false → history p j ≡ []
none_left p j legal none = let w = unknown_none p j legal none in dropped (sum (handed p j)) (all_history p j) w.all
  where
    dropped : {A : Type 0} (n : ℕ) (l : List A) → l ≡ [] → drop n l ≡ []
    dropped zero l is = is
    dropped (suc n) [] is = refl
    dropped (suc n) (x ∷ xs) is = absurd (cc)

pub none_handed : (p : List ℕ) (j : List Entry) → IsLegal j → is_project p j ≡ false → handed p j ≡ []
none_handed p j legal none = (unknown_none p j legal none).out
