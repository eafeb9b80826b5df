-- A seat holds no lock but those that it acquires, and lets go.
use Rattle.std.proofs.Common.{◌≡◌, ◌≢◌, ℕ, ◌+◌, ◌==◌, List, [], ◌∷◌, ◌++◌, map, Bool, true, false, not, ◌&&◌, ◌||◌, refl, sym, ap, ap₂, ◌∙◌, subst, inl, inr, append_assoc, append-nil, eqb-true, eq-eqb, true≢false}
use Rattle.std.specs.Prelude.{Option, Some, None, if◌then◌else◌}
use Rattle.std.specs.List.{list_all}
use Rattle.std.proofs.lemmas.List.Folds.{list_all-append, list_any-append}
use Rattle.std.proofs.lemmas.Bool.{not-true, and_parts, or_parts}
use Rattle.expiring_lock.specs.declared.lock.TheConstants.{LOCK_LIFE}
use Rattle.journal_entries.specs.declared.act.Act.{Act}
use Rattle.journal_entries.specs.declared.act.Act.TheVariants.{Acquired}
use Rattle.journal_entries.specs.declared.act.Entry.{Entry}
use Rattle.journal_rules.specs.Documents.{is_in}
use Rattle.journal_rules.specs.Locks.{Acquiring, HeldBy, clock, acquired_by, last_acquiring, last_token, token_in, next_token, released, released_by}
use Rattle.journal_rules.proofs.Pushing.{last_acquiring-push, released-push}
use Rattle.turn_rules.specs.Draining.{Under, IsRelease}
use Rattle.turn_rules.specs.Locking.{acquired}
use Rattle.turn_rules.specs.Turns.{Among, Turn, entry_by}
use Rattle.run_rules.specs.Threads.{is_by}
use Rattle.seat_turns.specs.Seats.{HoldsNoLock, acquires, is_acquiring}

-- a journal has grown, and a seat acquired this document no more
abbrev pub Quiet : ℕ → ℕ → List Entry → List Entry → Type 0
Quiet seat d a b = (more : List Entry) × (b ≡ a ++ more) × (list_all (λ e. not (acquires seat d e)) more ≡ true)

-- no lock is held by this seat but one, of this document and under this token
abbrev pub HoldsBut : ℕ → ℕ → ℕ → List Entry → Type 0
HoldsBut seat doc token j = (d : ℕ) (a : Acquiring) → HeldBy d a j → a.seat ≡ seat → (d ≡ doc) × (a.token ≡ token)

abbrev seat_in : Option Acquiring → ℕ
seat_in (Some a) = a.seat
seat_in None = 0

-- others' entries acquire nothing for this seat
not_acquired : (seat doc : ℕ) (es : List Entry) → list_all (λ e. not (is_by seat e)) es ≡ true → list_all (λ e. not (acquires seat doc e)) es ≡ true
not_acquired seat doc [] all = refl
not_acquired seat doc (e ∷ es) all = go (is_acquiring doc e.act) (is_by seat e) all (not_acquired seat doc es)
  where
    go : (a o : Bool) → (not o && list_all (λ e. not (is_by seat e)) es) ≡ true → (list_all (λ e. not (is_by seat e)) es ≡ true → list_all (λ e. not (acquires seat doc e)) es ≡ true)
        → (not (a && o) && list_all (λ e. not (acquires seat doc e)) es) ≡ true
    go a true bad rest = absurd (true≢false (sym bad))
    go true false all rest = rest all
    go false false all rest = rest all

module _ (seat d : ℕ) where
  pub quiet_on : (a b c : List Entry) → Quiet seat d a b → Quiet seat d b c → Quiet seat d a c
  quiet_on a b c x y = (
    x.0 ++ y.0,
    y.1 ∙ ap (λ (j : List Entry). j ++ y.0) x.1 ∙ append_assoc a x.0 y.0,
    list_all-append (λ e. not (acquires seat d e)) x.0 y.0 ∙ ap₂ (λ (p q : Bool). p && q) x.2 y.2,
  )

  pub quiet_among : (a b : List Entry) → Among (is_by seat) a b → Quiet seat d a b
  quiet_among a b x = (x.0, x.1, not_acquired seat d x.0 x.2)

  -- acts that acquire nothing
  pub quiet_map : (acts : List Act) → list_all (λ x. not (is_acquiring d x)) acts ≡ true → list_all (λ e. not (acquires seat d e)) (map (entry_by seat None) acts) ≡ true
  quiet_map [] all = refl
  quiet_map (x ∷ xs) all =
      ap₂ (λ (p q : Bool). p && q)
      (ap (λ (b : Bool). not (b && (seat == seat))) (not-true (is_acquiring d x) (and_parts (not (is_acquiring d x)) (list_all (λ x. not (is_acquiring d x)) xs) all).0))
      (quiet_map xs (and_parts (not (is_acquiring d x)) (list_all (λ x. not (is_acquiring d x)) xs) all).1)

  pub quiet_turn : (Makes : List Entry → List Entry → Type 0) → ((look made : List Entry) → Makes look made → Quiet seat d look (look ++ made)) → (left last : List Entry) → Turn (Among (is_by seat)) Makes left last → Quiet seat d left last
  quiet_turn Makes made left last t =
      quiet_on left t.0 last (quiet_among left t.0 t.2) (subst (λ (j : List Entry). Quiet seat d t.0 j) (sym t.4) (made t.0 t.1 t.3))

  pub quiet_made : (acts : List Act) (look made : List Entry) → made ≡ map (entry_by seat None) acts → list_all (λ x. not (is_acquiring d x)) acts ≡ true → Quiet seat d look (look ++ made)
  quiet_made acts look made is all = (made, refl, subst (λ (m : List Entry). list_all (λ e. not (acquires seat d e)) m ≡ true) (sym is) (quiet_map acts all))

  pub quiet_release : (doc token : ℕ) (look made : List Entry) → Under (entry_by seat None) doc token (IsRelease doc token) look made → Quiet seat d look (look ++ made)
  quiet_release doc token look made (inl x) = quiet_made (x.0 ∷ []) look made x.2 (subst (λ (a : Act). list_all (λ x. not (is_acquiring d x)) (a ∷ []) ≡ true) (sym x.1) refl)
  quiet_release doc token look made (inr x) = quiet_made [] look made x.1 refl

  -- a lock that is held by the seat was held before it grew so
  before_it : (by : ℕ) (act : Act) (n : Option Acquiring) (a : Acquiring) → not (is_acquiring d act && by == seat) ≡ true → a.seat ≡ seat → acquired_by d by act n ≡ Some a → n ≡ Some a
  before_it by (Acquired doc token until) n a none is last = go (doc == d) none last
    where
      go : (b : Bool) → not (b && by == seat) ≡ true → (if b then Some (record { seat = by; doc = doc; token = token; until = until }) else n) ≡ Some a → n ≡ Some a
      go true none last = absurd (true≢false (sym (eq-eqb by seat (ap seat_in last ∙ is)) ∙ not-true (by == seat) none))
      go false none last = last
  before_it by _ n a none is last = last

  pub held_before : (a : Acquiring) (j : List Entry) (e : Entry) → not (acquires seat d e) ≡ true → a.seat ≡ seat → HeldBy d a (j ++ e ∷ []) → HeldBy d a j
  held_before a j e none is h = record {
    last = before_it e.seat e.act (last_acquiring d j) a none is (sym (last_acquiring-push d j e) ∙ h.last);
    standing = (or_parts (is_in a.token (released j)) (is_in a.token (released_by e.act))
        (sym (list_any-append (λ y. y == a.token) (released j) (released_by e.act)) ∙ ap (is_in a.token) (sym (released-push j e)) ∙ h.standing)).0;
  }

  held_behind : (a : Acquiring) (j more : List Entry) → list_all (λ e. not (acquires seat d e)) more ≡ true → a.seat ≡ seat → HeldBy d a (j ++ more) → HeldBy d a j
  held_behind a j [] all is h = subst (λ (k : List Entry). HeldBy d a k) (append-nil j) h
  held_behind a j (e ∷ es) all is h =
      held_before a j e (and_parts (not (acquires seat d e)) (list_all (λ e. not (acquires seat d e)) es) all).0 is
      (held_behind a (j ++ e ∷ []) es (and_parts (not (acquires seat d e)) (list_all (λ e. not (acquires seat d e)) es) all).1 is
      (subst (λ (k : List Entry). HeldBy d a k) (sym (append_assoc j (e ∷ []) es)) h))

  pub held_back : (a : Acquiring) (j k : List Entry) → Quiet seat d j k → a.seat ≡ seat → HeldBy d a k → HeldBy d a j
  held_back a j k q is h = held_behind a j q.0 q.2 is (subst (λ (k : List Entry). HeldBy d a k) q.1 h)

-- no lock is held, and then none either
pub none_among : (seat : ℕ) (a b : List Entry) → Among (is_by seat) a b → HoldsNoLock seat a → HoldsNoLock seat b
none_among seat a b x none d by held is = none d by (held_back seat d by a b (quiet_among seat d a b x) is held) is

pub but_on : (seat doc token : ℕ) (a b : List Entry) → ((d : ℕ) → Quiet seat d a b) → HoldsBut seat doc token a → HoldsBut seat doc token b
but_on seat doc token a b q but d by held is = but d by (held_back seat d by a b (q d) is held) is

-- the lock that is acquired is the only one
pub but_acquired : (seat doc : ℕ) (look : List Entry) → HoldsNoLock seat look → HoldsBut seat doc (next_token look) (look ++ entry_by seat None (acquired doc look) ∷ [])
but_acquired seat doc look none d by held is = go (doc == d) refl held (sym (last_acquiring-push d look (entry_by seat None (acquired doc look))) ∙ held.last)
  where
    go : (b : Bool) → (doc == d) ≡ b → HeldBy d by (look ++ entry_by seat None (acquired doc look) ∷ []) → acquired_by d seat (acquired doc look) (last_acquiring d look) ≡ Some by → (d ≡ doc) × (by.token ≡ next_token look)
    go true same here last = (sym (eqb-true doc d same), ap token_in (sym last) ∙ ap (λ (b : Bool). token_in (if b then Some (record { seat = seat; doc = doc; token = next_token look; until = clock look + LOCK_LIFE }) else last_acquiring d look)) same)
    go false other here last = absurd (none d by (held_before seat d by look (entry_by seat None (acquired doc look)) (ap (λ (b : Bool). not (b && (seat == seat))) other) is here) is)

-- and then it is let go, or another acquired it since
pub none_released : (seat doc token : ℕ) (look made : List Entry) → HoldsBut seat doc token look → Under (entry_by seat None) doc token (IsRelease doc token) look made → HoldsNoLock seat (look ++ made)
none_released seat doc token look made but (inl x) d by held is =
    let act = x.1 in
    let made_is : look ++ made ≡ look ++ entry_by seat None x.0 ∷ [] = ap (λ (m : List Entry). look ++ m) x.2 in
    let t = but d by (held_back seat d by look (look ++ made) (quiet_release seat d doc token look made (inl x)) is held) is in
    let out : is_in by.token (released_by x.0) ≡ false = (or_parts (is_in by.token (released look)) (is_in by.token (released_by x.0))
    (sym (list_any-append (λ y. y == by.token) (released look) (released_by x.0)) ∙ ap (is_in by.token) (sym (released-push look (entry_by seat None x.0))) ∙ ap (λ (j : List Entry). is_in by.token (released j)) (sym made_is) ∙ held.standing)).1 in
    let stands : ((token == by.token) || false) ≡ false = ap (λ (a : Act). is_in by.token (released_by a)) (sym act) ∙ out in
    true≢false (sym (eq-eqb token by.token (sym t.1)) ∙ (or_parts (token == by.token) false stands).0)
none_released seat doc token look made but (inr x) d by held is =
    let same : look ++ made ≡ look = ap (λ (m : List Entry). look ++ m) x.1 ∙ append-nil look in
    let here : HeldBy d by look = subst (λ (k : List Entry). HeldBy d by k) same held in
    let t = but d by here is in
    x.0 (ap (λ (o : ℕ). last_token o look) (sym t.0) ∙ ap token_in here.last ∙ t.1)

pub none_releases : (seat doc token : ℕ) (left last : List Entry) → HoldsBut seat doc token left → Turn (Among (is_by seat)) (Under (entry_by seat None) doc token (IsRelease doc token)) left last → HoldsNoLock seat last
none_releases seat doc token left last but t =
    subst (λ (j : List Entry). HoldsNoLock seat j) (sym t.4) (none_released seat doc token t.0 t.1 (but_on seat doc token left t.0 (λ d. quiet_among seat d left t.0 t.2) but) t.3)
