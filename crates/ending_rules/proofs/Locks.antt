-- At the end of a run each lock can be acquired, and a drained update leaves it so and takes the first that waits.
use Rattle.std.proofs.Common.{◌≡◌, ◌≢◌, ℕ, suc, zero, ◌+◌, ◌≤◌, List, [], ◌∷◌, ◌++◌, length, Bool, true, false, true≢false, not, ◌||◌, refl, sym, ap, ◌∙◌, subst, inl, inr, ⊎_elim, arith, eqb, eq-eqb, ne_eqb, append-nil, append_assoc, All}
use Rattle.std.specs.Prelude.{Option, Some, None, if◌then◌else◌, nat_le}
use Rattle.std.proofs.lemmas.Bool.Decides.{nat_tests}
use Rattle.std.proofs.lemmas.List.Elements.{All-append}
use native.Mathlib.Decide.{ℕ_discrete}
use Rattle.expiring_lock.specs.declared.lock.TheConstants.{LOCK_LIFE}
use Rattle.journal_entries.specs.declared.act.Act.{Act}
use Rattle.journal_entries.specs.declared.act.Act.TheVariants.{Ticked, Acquired, Loaded, LoadFailed, LoadDiffers, Committed, Released}
use Rattle.journal_entries.specs.declared.act.Entry.{Entry}
use Rattle.journal_rules.specs.Documents.{sends, ticket_of, waiting, is_in}
use Rattle.journal_rules.specs.Locks.{Acquiring, acquired_by, last_acquiring, released_by, released, ticked, clock, is_held_in, is_expired_in}
use Rattle.journal_rules.specs.Legal.{IsAllowed, IsLegal}
use Rattle.journal_rules.proofs.Pushing.{last_acquiring-push, last_acquiring-none, released-push, clock-push}
use Rattle.journal_rules.proofs.Legality.{legal_front, allowed_next, by_last}
use Rattle.journal_rules.proofs.Lists.{some_same}
use Rattle.journal_rules.proofs.Waits.{all_map, all_none, all_one, one_if, committed_below, waiting-more, waiting-committed, waits_still}
use Rattle.journal_laws.proofs.ClientsOn.{if_true, if_false}
use Rattle.ending_rules.proofs.Shapes.{is_of_drain}
use Rattle.ending_rules.specs.Drained.{TakesFirst}
use Rattle.ending_rules.proofs.Drained.{IsFree, IsLoadUnder, IsDrainedUpdate, AreDrainedUpdates}
use Rattle.ending_rules.proofs.Apart.{goes_by}
use Rattle.journal_laws.proofs.Joins.{is_in-append}

-- ---- the clock
ticked_grows : (a : Act) (now : ℕ) → now ≤ ticked a now
ticked_grows (Ticked ms) now = omega arith
ticked_grows _ now = omega arith

clock_grows : (h : List Entry) (e : Entry) → clock h ≤ clock (h ++ e ∷ [])
clock_grows h e = let g = ticked_grows e.act (clock h) in let p = clock-push h e in omega (arith, g, p)

-- no lock lasts longer from now on than a lock's life
abbrev EndsWithin : ℕ → List Entry → Type 0
EndsWithin d j = (a : Acquiring) → last_acquiring d j ≡ Some a → a.until ≤ clock j + LOCK_LIFE

ends_within : (d : ℕ) (j : List Entry) → IsLegal j → EndsWithin d j
ends_within d = by_last (λ j. EndsWithin d j)
    (λ a is. (let f : None ≡ Some a = sym (last_acquiring-none d) ∙ is in absurd (cc)))
    (λ h e legal may p a is. by h e p a e.act refl may (sym (last_acquiring-push d h e) ∙ is))
  where
    by : (h : List Entry) (e : Entry) → EndsWithin d h → (a : Acquiring) (b : Act) → e.act ≡ b → IsAllowed h e.seat b → acquired_by d e.seat b (last_acquiring d h) ≡ Some a → a.until ≤ clock (h ++ e ∷ []) + LOCK_LIFE
    by h e p a (Acquired doc token until) b_is row is = go (eqb doc d) is
      where
        go : (same : Bool) → (if same then Some (record { seat = e.seat; doc = doc; token = token; until = until }) else last_acquiring d h) ≡ Some a → a.until ≤ clock (h ++ e ∷ []) + LOCK_LIFE
        go true is =
            let x : Acquiring = record { seat = e.seat; doc = doc; token = token; until = until } in
            let q : until ≡ a.until = ap (λ (y : Acquiring). y.until) (some_same x a is) in
            let u = row.until_is in let g = clock_grows h e in omega (arith, q, u, g)
        go false is = let l = p a is in let g = clock_grows h e in omega (arith, l, g)
    by h e p a _ b_is row is = let l = p a is in let g = clock_grows h e in omega (arith, l, g)

-- behind a tick of a lock's life each lock is free
pub expire : (j : List Entry) (e : Entry) → IsLegal (j ++ e ∷ []) → e.act ≡ Ticked LOCK_LIFE → (d : ℕ) → IsFree d (j ++ e ∷ [])
expire j e legal is d = go (last_acquiring d (j ++ e ∷ [])) refl
  where
    low : IsLegal j
    low = legal_front j (e ∷ []) legal

    same : last_acquiring d (j ++ e ∷ []) ≡ last_acquiring d j
    same = last_acquiring-push d j e ∙ ap (λ a. acquired_by d e.seat a (last_acquiring d j)) is

    later : clock (j ++ e ∷ []) ≡ clock j + LOCK_LIFE
    later = clock-push j e ∙ ap (λ a. ticked a (clock j)) is

    go : (o : Option Acquiring) → last_acquiring d (j ++ e ∷ []) ≡ o → IsFree d (j ++ e ∷ [])
    go None at = inl (ap (λ o. is_held_in o (released (j ++ e ∷ []))) at)
    go (Some a) at =
        let l = ends_within d j low a (sym same ∙ at) in
        let past : a.until ≤ clock (j ++ e ∷ []) = omega (arith, l, later) in
        inr (ap (λ o. is_expired_in o (clock (j ++ e ∷ []))) at ∙ is_past a.until (clock (j ++ e ∷ [])) past)
      where
        is_past : (a b : ℕ) → a ≤ b → nat_le a b ≡ true
        is_past a b le = grind (arith, nat_tests)

-- ---- an entry that acquires no lock of the document
free_on : (d : ℕ) (h : List Entry) (e : Entry) → acquired_by d e.seat e.act (last_acquiring d h) ≡ last_acquiring d h → IsFree d h → IsFree d (h ++ e ∷ [])
free_on d h e kept free = ⊎_elim {C = IsFree d (h ++ e ∷ [])}
    (λ unheld. inl (ap (λ o. is_held_in o (released (h ++ e ∷ []))) same ∙ ap (is_held_in (last_acquiring d h)) (released-push h e) ∙ unheld_on (last_acquiring d h) unheld))
    (λ expired. inr (ap (λ o. is_expired_in o (clock (h ++ e ∷ []))) same ∙ expired_on (last_acquiring d h) expired))
    free
  where
    same : last_acquiring d (h ++ e ∷ []) ≡ last_acquiring d h
    same = last_acquiring-push d h e ∙ kept

    or_left : (a b : Bool) → not a ≡ false → not (a || b) ≡ false
    or_left true b e = refl
    or_left false b e = absurd (true≢false e)

    unheld_on : (o : Option Acquiring) → is_held_in o (released h) ≡ false → is_held_in o (released h ++ released_by e.act) ≡ false
    unheld_on None n = refl
    unheld_on (Some a) n = ap not (is_in-append a.token (released h) (released_by e.act)) ∙ or_left (is_in a.token (released h)) (is_in a.token (released_by e.act)) n

    le_on : (a b c : ℕ) → b ≤ c → nat_le a b ≡ true → nat_le a c ≡ true
    le_on a b c le e = grind (arith, nat_tests)

    expired_on : (o : Option Acquiring) → is_expired_in o (clock h) ≡ true → is_expired_in o (clock (h ++ e ∷ [])) ≡ true
    expired_on None x = absurd (true≢false (sym x))
    expired_on (Some a) x = le_on a.until (clock h) (clock (h ++ e ∷ [])) (clock_grows h e) x

-- ---- a drained update
load_of_drain : (d token : ℕ) (a : Act) → IsLoadUnder d token a → is_of_drain d a ≡ true
load_of_drain d token (Loaded doc holder v) l = eq-eqb doc d l.0
load_of_drain d token (LoadFailed doc holder from to) l = eq-eqb doc d l.0
load_of_drain d token (LoadDiffers doc holder had got) l = eq-eqb doc d l.0
load_of_drain d token _ l = absurd l

pub update_of_drain : (d : ℕ) (es : List Entry) → IsDrainedUpdate d es → All (λ e. is_of_drain d e.act ≡ true) es
update_of_drain d es x =
    let Q : Entry → Type 0 = λ e. is_of_drain d e.act ≡ true in
    let one : (e : Entry) (a : Act) → e.act ≡ a → is_of_drain d a ≡ true → Q e = λ e a is of. ap (is_of_drain d) is ∙ of in
    let here = eq-eqb d d refl in
    subst (All Q) (sym x.cut)
    (All-append Q (x.acquires ∷ []) (x.loads ++ x.commits ∷ x.releases ∷ []) (all_one Q x.acquires (one x.acquires (Acquired d x.token x.until) x.acquires_is here))
    (All-append Q x.loads (x.commits ∷ x.releases ∷ []) (all_map (λ (e : Entry). IsLoadUnder d x.token e.act) Q x.loads (λ e l. load_of_drain d x.token e.act l) x.loads_are)
    (All-append Q (x.commits ∷ []) (x.releases ∷ []) (all_one Q x.commits (one x.commits (Committed d x.token x.ticket x.outcome) x.commits_is here)) (all_one Q x.releases (one x.releases (Released d x.token) x.releases_is here)))))

pub updates_of_drain : (d n : ℕ) (es : List Entry) → AreDrainedUpdates d n es → All (λ e. is_of_drain d e.act ≡ true) es
updates_of_drain d zero es none = subst (All (λ (e : Entry). is_of_drain d e.act ≡ true)) (sym none) (all_none (λ (e : Entry). is_of_drain d e.act ≡ true))
updates_of_drain d (suc n) es x = subst (All (λ (e : Entry). is_of_drain d e.act ≡ true)) (sym x.2) (All-append (λ (e : Entry). is_of_drain d e.act ≡ true) x.0 x.1 (updates_of_drain d n x.0 x.3) (update_of_drain d x.1 x.4))

-- what an entry of a drained update is that takes no lock and commits nothing
record Still (a : Act) : Type 0 where
  ticket_none : ticket_of a ≡ []
  sends_not : (k : ℕ) → sends k a ≡ false
  takes_not : (k seat : ℕ) (l : Option Acquiring) → acquired_by k seat a l ≡ l

load_still : (d token : ℕ) (a : Act) → IsLoadUnder d token a → Still a
load_still d token (Loaded doc holder v) l = record { ticket_none = refl; sends_not = λ k. refl; takes_not = λ k seat l. refl }
load_still d token (LoadFailed doc holder from to) l = record { ticket_none = refl; sends_not = λ k. refl; takes_not = λ k seat l. refl }
load_still d token (LoadDiffers doc holder had got) l = record { ticket_none = refl; sends_not = λ k. refl; takes_not = λ k seat l. refl }
load_still d token _ l = absurd l

module _ (d : ℕ) (h es : List Entry) (legal : IsLegal (h ++ es)) (x : IsDrainedUpdate d es) where
  abbrev taken : List Entry
  taken = h ++ x.acquires ∷ []

  abbrev loaded : List Entry
  loaded = taken ++ x.loads

  abbrev done : List Entry
  done = loaded ++ x.commits ∷ []

  abbrev given_back : List Entry
  given_back = done ++ x.releases ∷ []

  all_of : given_back ≡ h ++ es
  all_of =
      append_assoc loaded (x.commits ∷ []) (x.releases ∷ [])
      ∙ append_assoc taken x.loads (x.commits ∷ x.releases ∷ [])
      ∙ append_assoc h (x.acquires ∷ []) (x.loads ++ x.commits ∷ x.releases ∷ [])
      ∙ ap (λ l. h ++ l) (sym x.cut)

  legal4 : IsLegal given_back
  legal4 = subst IsLegal (sym all_of) legal

  legal3 : IsLegal done
  legal3 = legal_front done (x.releases ∷ []) legal4

  legal2 : IsLegal loaded
  legal2 = legal_front loaded (x.commits ∷ []) legal3

  legal1 : IsLegal taken
  legal1 = legal_front taken x.loads legal2

  legal0 : IsLegal h
  legal0 = legal_front h (x.acquires ∷ []) legal1

  row : IsAllowed loaded x.commits.seat (Committed d x.token x.ticket x.outcome)
  row = subst (λ a. IsAllowed loaded x.commits.seat a) x.commits_is (allowed_next loaded x.commits [] legal3)

  waits_loaded : waiting d loaded ≡ waiting d h
  waits_loaded =
      goes_by (λ e. IsLoadUnder d x.token e.act) (λ j. waiting d j ≡ waiting d taken) (λ j e l may is same. (let s = load_still d x.token e.act is in waits_still d j e l s.ticket_none (s.sends_not d) ∙ same)) x.loads taken x.loads_are legal2 refl
      ∙ waits_still d h x.acquires legal0 (ap ticket_of x.acquires_is) (ap (sends d) x.acquires_is)

  pub takes_first : TakesFirst d h (h ++ es)
  takes_first = record {
    ticket = x.ticket;
    rest = row.rest;
    waited = sym waits_loaded ∙ row.first;
    waits = ap (waiting d) (sym all_of)
        ∙ waits_still d done x.releases legal3 (ap ticket_of x.releases_is) (ap (sends d) x.releases_is)
        ∙ waiting-committed d loaded x.commits x.ticket row.rest (ap (sends d) x.commits_is) (ap ticket_of x.commits_is) row.first;
  }

  -- the lock of the document was released, and the others are as they were
  own_lock : last_acquiring d done ≡ Some (record { seat = x.acquires.seat; doc = d; token = x.token; until = x.until })
  own_lock =
      last_acquiring-push d loaded x.commits ∙ ap (λ a. acquired_by d x.commits.seat a (last_acquiring d loaded)) x.commits_is
      ∙ goes_by (λ e. IsLoadUnder d x.token e.act) (λ j. last_acquiring d j ≡ last_acquiring d taken)
      (λ j e l may is same. last_acquiring-push d j e ∙ (load_still d x.token e.act is).takes_not d e.seat (last_acquiring d j) ∙ same) x.loads taken x.loads_are legal2 refl
      ∙ last_acquiring-push d h x.acquires ∙ ap (λ a. acquired_by d x.acquires.seat a (last_acquiring d h)) x.acquires_is
      ∙ if_true (eqb d d) (Some (record { seat = x.acquires.seat; doc = d; token = x.token; until = x.until })) (last_acquiring d h) (eq-eqb d d refl)

  own_free : IsFree d given_back
  own_free =
      let last : last_acquiring d given_back ≡ Some (record { seat = x.acquires.seat; doc = d; token = x.token; until = x.until }) =
      last_acquiring-push d done x.releases ∙ ap (λ a. acquired_by d x.releases.seat a (last_acquiring d done)) x.releases_is ∙ own_lock in
      let gone : released given_back ≡ released done ++ x.token ∷ [] = released-push done x.releases ∙ ap (λ a. released done ++ released_by a) x.releases_is in
      inl (ap (λ o. is_held_in o (released given_back)) last ∙ ap (λ l. not (is_in x.token l)) gone ∙ ap not (is_in-append x.token (released done) (x.token ∷ [])) ∙ by_token (is_in x.token (released done)) (eqb x.token x.token) (eq-eqb x.token x.token refl))
    where
      by_token : (a b : Bool) → b ≡ true → not (a || (b || false)) ≡ false
      by_token true b e = refl
      by_token false true e = refl
      by_token false false e = absurd (true≢false (sym e))

  other_free : (k : ℕ) → d ≢ k → IsFree k h → IsFree k given_back
  other_free k apart free =
      let one : IsFree k taken = free_on k h x.acquires
      (ap (λ a. acquired_by k x.acquires.seat a (last_acquiring k h)) x.acquires_is ∙ if_false (eqb d k) (Some (record { seat = x.acquires.seat; doc = d; token = x.token; until = x.until })) (last_acquiring k h) (ne_eqb d k apart)) free in
      let two : IsFree k loaded = goes_by (λ e. IsLoadUnder d x.token e.act) (λ j. IsFree k j)
      (λ j e l may is was. free_on k j e ((load_still d x.token e.act is).takes_not k e.seat (last_acquiring k j)) was) x.loads taken x.loads_are legal2 one in
      let three : IsFree k done = free_on k loaded x.commits (ap (λ a. acquired_by k x.commits.seat a (last_acquiring k loaded)) x.commits_is) two in
      free_on k done x.releases (ap (λ a. acquired_by k x.releases.seat a (last_acquiring k done)) x.releases_is) three

  pub free_still : (k : ℕ) → IsFree k h → IsFree k (h ++ es)
  free_still k free = subst (IsFree k) all_of (go (ℕ_discrete d k))
    where
      go : Dec (d ≡ k) → IsFree k given_back
      go (yes same) = subst (λ n. IsFree n given_back) same own_free
      go (no apart) = other_free k apart free

pub update_leaves : (d : ℕ) (h es : List Entry) → IsLegal (h ++ es) → IsDrainedUpdate d es → TakesFirst d h (h ++ es) × ((k : ℕ) → IsFree k h → IsFree k (h ++ es))
update_leaves d h es legal x = (takes_first d h es legal x, free_still d h es legal x)

-- an entry that takes no lock, as in a client's turn
pub free_stays : (k : ℕ) (h : List Entry) (e : Entry) → ((seat : ℕ) (l : Option Acquiring) → acquired_by k seat e.act l ≡ l) → IsFree k h → IsFree k (h ++ e ∷ [])
free_stays k h e takes_not free = free_on k h e (takes_not e.seat (last_acquiring k h)) free
