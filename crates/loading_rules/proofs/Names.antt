-- Two documents have two names.
use Rattle.std.proofs.Common.{◌≡◌, ◌≢◌, ◌⊎◌, inl, inr, ℕ, zero, suc, ◌<◌, List, [], ◌∷◌, ◌++◌, length, true, false, refl, sym, ap, ◌∙◌, subst, arith, append-nil}
use Rattle.std.specs.Prelude.{slice_get, Some}
use Rattle.std.specs.List.{list_any}
use Rattle.std.proofs.lemmas.Bool.{or_parts}
use Rattle.std.proofs.lemmas.Slice.Eq.{bytes_eq-Decides}
use Rattle.journal_entries.specs.declared.act.Act.{Act}
use Rattle.journal_entries.specs.declared.act.Act.TheVariants.{Made}
use Rattle.journal_entries.specs.declared.act.Entry.{Entry}
use Rattle.journal_rules.specs.Documents.{IsMade, Making, base, is_named, making_of, makings, name, name_in}
use Rattle.journal_rules.proofs.Lists.{some_same}
use Rattle.journal_rules.proofs.Pushing.{makings-none, makings-push}
use Rattle.loading_rules.specs.LegalBut.{IsLegalBut, IsAllowedBut}
use Rattle.journal_rules.proofs.Legality.{last_or}
use Rattle.loading_rules.proofs.Legality.{Keeps, by_last}

-- ---- two documents have two names
abbrev AreApart : List Making → Type 0
AreApart ms = (a b : ℕ) (x y : Making) → slice_get ms a ≡ Some x → slice_get ms b ≡ Some y → x.name ≡ y.name → a ≡ b

not_named : (called : List ℕ) (ms : List Making) (i : ℕ) (x : Making) → list_any (λ m. is_named called m) ms ≡ false → slice_get ms i ≡ Some x → called ≡ x.name → ⊥
not_named called [] i x none at same = absurd (cc)
not_named called (m ∷ ms) zero x none at same =
    let here : is_named called m ≡ true = (bytes_eq-Decides called m.name).1 (same ∙ ap (λ (y : Making). y.name) (sym (some_same m x at))) in
    let apart = (or_parts (is_named called m) (list_any (λ m. is_named called m) ms) none).0 in
    absurd (cc)
not_named called (m ∷ ms) (suc i) x none at same = not_named called ms i x (or_parts (is_named called m) (list_any (λ m. is_named called m) ms) none).1 at same

apart_more : (ms : List Making) (m : Making) → list_any (λ x. is_named m.name x) ms ≡ false → AreApart ms → AreApart (ms ++ m ∷ [])
apart_more ms m new apart a b x y at_a at_b same = by (last_or ms m a x at_a) (last_or ms m b y at_b)
  where
    by : (slice_get ms a ≡ Some x) ⊎ ((a ≡ length ms) × (x ≡ m)) → (slice_get ms b ≡ Some y) ⊎ ((b ≡ length ms) × (y ≡ m)) → a ≡ b
    by (inl s) (inl t) = apart a b x y s t same
    by (inr s) (inr t) = s.0 ∙ sym t.0
    by (inl s) (inr t) = absurd (not_named m.name ms a x new s (sym (same ∙ ap (λ (z : Making). z.name) t.1)))
    by (inr s) (inl t) = absurd (not_named m.name ms b y new t (sym (ap (λ (z : Making). z.name) s.1) ∙ same))

names_apart : (j : List Entry) → IsLegalBut j → AreApart (makings j)
names_apart = by_last (λ j. AreApart (makings j)) none more
  where
    none : AreApart (makings [])
    none = subst AreApart (sym makings-none) (λ a b x y at_a at_b same. absurd (cc))

    one : (h : List Entry) (seat : ℕ) (a : Act) → IsAllowedBut h seat a → AreApart (makings h) → AreApart (makings h ++ making_of a)
    one h seat (Made doc called project first base) may were = apart_more (makings h) _ may.new were
    one h seat _ may were = subst AreApart (sym (append-nil (makings h))) were

    more : Keeps (λ j. AreApart (makings j))
    more h e legal may were = subst AreApart (sym (makings-push h e)) (one h e.seat e.act may were)

made_at : (ms : List Making) (i : ℕ) → i < length ms → (m : Making) × (slice_get ms i ≡ Some m)
made_at [] i lt = absurd (omega (arith, lt))
made_at (m ∷ ms) zero lt = (m, refl)
made_at (m ∷ ms) (suc i) lt = made_at ms i (omega (arith, lt))

pub names_differ : (j : List Entry) (a b : ℕ) → IsLegalBut j → IsMade a j → IsMade b j → a ≢ b → name a j ≢ name b j
names_differ j a b legal made_a made_b apart same =
    let x = made_at (makings j) a made_a in
    let y = made_at (makings j) b made_b in
    apart (names_apart j legal a b x.0 y.0 x.1 y.1 (sym (ap name_in x.1) ∙ same ∙ ap name_in y.1))
