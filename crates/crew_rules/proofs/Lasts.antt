-- The last entry of a kind, and the last acquiring of a document.
use Rattle.std.proofs.Common.{◌≡◌, ℕ, ◌==◌, List, [], ◌∷◌, ◌++◌, Bool, true, false, ◌&&◌, refl, sym, ap, ◌∙◌, true≢false}
use Rattle.std.specs.Prelude.{Option, Some, None, if◌then◌else◌}
use Rattle.std.specs.List.{list_all}
use Rattle.journal_entries.specs.declared.act.Act.{Act}
use Rattle.journal_entries.specs.declared.act.Act.TheVariants.{Acquired}
use Rattle.journal_entries.specs.declared.act.Entry.{Entry}
use Rattle.journal_rules.specs.Folds.{folded_behind}
use Rattle.journal_rules.specs.Locks.{Acquiring, acquired_by, last_acquiring}
use Rattle.seat_turns.specs.Seats.{is_acquiring}

abbrev pub or_before : Option Entry → Option Entry → Option Entry
or_before (Some e) before = Some e
or_before None before = before

abbrev pub only_if : Bool → Entry → Option Entry
only_if true e = Some e
only_if false e = None

abbrev pub last_where : (Entry → Bool) → List Entry → Option Entry
last_where q [] = None
last_where q (e ∷ es) = or_before (last_where q es) (only_if (q e) e)

or_assoc : (a b c : Option Entry) → or_before (or_before a b) c ≡ or_before a (or_before b c)
or_assoc (Some e) b c = refl
or_assoc None b c = refl

or_none : (a : Option Entry) → or_before a None ≡ a
or_none (Some e) = refl
or_none None = refl

pub last-append : (q : Entry → Bool) (xs ys : List Entry) → last_where q (xs ++ ys) ≡ or_before (last_where q ys) (last_where q xs)
last-append q [] ys = sym (or_none (last_where q ys))
last-append q (e ∷ es) ys = ap (λ (o : Option Entry). or_before o (only_if (q e) e)) (last-append q es ys) ∙ or_assoc (last_where q ys) (last_where q es) (only_if (q e) e)

abbrev pub Is : (Entry → Bool) → Option Entry → Type 0
Is r (Some e) = r e ≡ true
Is r None = Unit {0}

-- what is last is of its kind
pub last_is : (q : Entry → Bool) (es : List Entry) → Is q (last_where q es)
last_is q [] = tt
last_is q (e ∷ es) = go (last_where q es) (q e) refl (last_is q es)
  where
    go : (l : Option Entry) (b : Bool) → q e ≡ b → Is q l → Is q (or_before l (only_if b e))
    go (Some x) b is h = h
    go None true is h = is
    go None false is h = tt

-- what holds of all holds of the last
pub last_has : (q r : Entry → Bool) (es : List Entry) → list_all r es ≡ true → Is r (last_where q es)
last_has q r [] all = tt
last_has q r (e ∷ es) all = go (r e) (last_where q es) (q e) refl all (last_has q r es)
  where
    go : (h : Bool) (l : Option Entry) (b : Bool) → r e ≡ h → (h && list_all r es) ≡ true → (list_all r es ≡ true → Is r l) → Is r (or_before l (only_if b e))
    go false l b is bad rest = absurd (true≢false (sym bad))
    go true (Some x) b is all rest = rest all
    go true None true is all rest = is
    go true None false is all rest = tt

some_not_none : (e : Entry) → Some e ≡ None → ⊥
some_not_none e is = true≢false (ap is_some is)
  where
    is_some : Option Entry → Bool
    is_some (Some e) = true
    is_some None = false

abbrev entry_or : Entry → Option Entry → Entry
entry_or d (Some e) = e
entry_or d None = d

none_narrow : (q r : Entry → Bool) (es : List Entry) → last_where q es ≡ None → last_where (λ x. q x && r x) es ≡ None
none_narrow q r [] is = refl
none_narrow q r (x ∷ xs) is = go (last_where q xs) refl (q x) is (none_narrow q r xs)
  where
    go : (l : Option Entry) → last_where q xs ≡ l → (b : Bool) → or_before l (only_if b x) ≡ None → (last_where q xs ≡ None → last_where (λ x. q x && r x) xs ≡ None)
        → or_before (last_where (λ x. q x && r x) xs) (only_if (b && r x) x) ≡ None
    go (Some y) lis b is rest = absurd (some_not_none y is)
    go None lis true is rest = absurd (some_not_none x is)
    go None lis false is rest = ap (λ (o : Option Entry). or_before o None) (rest lis)

-- the last of a kind is also the last of a narrower kind that it is of
pub last_narrow : (q r : Entry → Bool) (es : List Entry) (e : Entry) → last_where q es ≡ Some e → r e ≡ true → last_where (λ x. q x && r x) es ≡ Some e
last_narrow q r [] e is has = is
last_narrow q r (x ∷ xs) e is has = go (last_where q xs) refl (q x) is (last_narrow q r xs e)
  where
    go : (l : Option Entry) → last_where q xs ≡ l → (b : Bool) → or_before l (only_if b x) ≡ Some e → (last_where q xs ≡ Some e → r e ≡ true → last_where (λ x. q x && r x) xs ≡ Some e)
        → or_before (last_where (λ x. q x && r x) xs) (only_if (b && r x) x) ≡ Some e
    go (Some y) lis b is rest = ap (λ (o : Option Entry). or_before o (only_if (b && r x) x)) (rest (lis ∙ is) has)
    go None lis true is rest =
        let same : x ≡ e = ap (entry_or x) is in
        ap (λ (o : Option Entry). or_before o (only_if (r x) x)) (none_narrow q r xs lis) ∙ ap (λ (b : Bool). only_if b x) (ap r same ∙ has) ∙ is
    go None lis false is rest = absurd (some_not_none e (sym is))

-- the last acquiring of a document is its last entry that acquires it
abbrev pub is_last : ℕ → Entry → Bool
is_last d e = is_acquiring d e.act

abbrev onto : ℕ → Option Entry → Option Acquiring → Option Acquiring
onto d None now = now
onto d (Some e) now = acquired_by d e.seat e.act now

absorbs : (d seat : ℕ) (act : Act) (n m : Option Acquiring) → is_acquiring d act ≡ true → acquired_by d seat act n ≡ acquired_by d seat act m
absorbs d seat (Acquired doc token until) n m is = go (doc == d) is
  where
    go : (b : Bool) → b ≡ true → (if b then Some (record { seat = seat; doc = doc; token = token; until = until }) else n) ≡ (if b then Some (record { seat = seat; doc = doc; token = token; until = until }) else m)
    go true is = refl
    go false bad = absurd (true≢false (sym bad))
absorbs d seat _ n m is = absurd (true≢false (sym is))

keeps : (d seat : ℕ) (act : Act) (n : Option Acquiring) → is_acquiring d act ≡ false → acquired_by d seat act n ≡ n
keeps d seat (Acquired doc token until) n is = go (doc == d) is
  where
    go : (b : Bool) → b ≡ false → (if b then Some (record { seat = seat; doc = doc; token = token; until = until }) else n) ≡ n
    go true bad = absurd (true≢false bad)
    go false is = refl
keeps d seat _ n is = refl

folds : (d : ℕ) (before es : List Entry) (now : Option Acquiring) → folded_behind (λ before e now. acquired_by d e.seat e.act now) before now es ≡ onto d (last_where (is_last d) es) now
folds d before [] now = refl
folds d before (e ∷ es) now =
    folds d (before ++ e ∷ []) es (acquired_by d e.seat e.act now) ∙ go (last_where (is_last d) es) (is_acquiring d e.act) refl (last_is (is_last d) es)
  where
    go : (l : Option Entry) (b : Bool) → is_acquiring d e.act ≡ b → Is (is_last d) l → onto d l (acquired_by d e.seat e.act now) ≡ onto d (or_before l (only_if b e)) now
    go (Some x) b is h = absorbs d x.seat x.act _ _ h
    go None true is h = refl
    go None false is h = keeps d e.seat e.act now is

pub last_is_where : (d : ℕ) (j : List Entry) → last_acquiring d j ≡ onto d (last_where (is_last d) j) None
unfolding last_acquiring
last_is_where d j = folds d [] j None

abbrev seat_in : Option Acquiring → ℕ
seat_in (Some a) = a.seat
seat_in None = 0

abbrev is_found : Option Acquiring → Bool
is_found (Some a) = true
is_found None = false

-- and is by the same seat
pub last_seat : (d : ℕ) (j : List Entry) (a : Acquiring) → last_acquiring d j ≡ Some a → (e : Entry) × (last_where (is_last d) j ≡ Some e) × (is_last d e ≡ true) × (e.seat ≡ a.seat)
last_seat d j a is = go (last_where (is_last d) j) refl (last_is (is_last d) j) (sym (last_is_where d j) ∙ is)
  where
    by_act : (seat : ℕ) (act : Act) → is_acquiring d act ≡ true → acquired_by d seat act None ≡ Some a → seat ≡ a.seat
    by_act seat (Acquired doc token until) is made = if_so (doc == d) is made
      where
        if_so : (b : Bool) → b ≡ true → (if b then Some (record { seat = seat; doc = doc; token = token; until = until }) else None) ≡ Some a → seat ≡ a.seat
        if_so true is made = ap seat_in made
        if_so false bad made = absurd (true≢false (sym bad))
    by_act seat _ is made = absurd (true≢false (sym is))

    go : (l : Option Entry) → last_where (is_last d) j ≡ l → Is (is_last d) l → onto d l None ≡ Some a → (e : Entry) × (last_where (is_last d) j ≡ Some e) × (is_last d e ≡ true) × (e.seat ≡ a.seat)
    go (Some e) lis h made = (e, lis, h, by_act e.seat e.act h made)
    go None lis h made = absurd (true≢false (sym (ap is_found made)))
