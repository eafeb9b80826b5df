-- One among others: no other loads, or fails to, under one's token.
use Rattle.std.proofs.Common.{◌≡◌, ℕ, ◌<◌, ◌≤◌, ◌+◌, ◌==◌, not, List, [], ◌∷◌, ◌++◌, length, Bool, true, false, true≢false, refl, sym, ap, ◌∙◌, subst, arith, append_assoc, append-nil, eq-eqb}
use Rattle.std.specs.Prelude.{Option, Some, None, map, if◌then◌else◌}
use Rattle.std.specs.List.{list_all}
use Rattle.std.proofs.lemmas.Bool.{eqb-true, and_parts}
use Rattle.std.proofs.lemmas.List.{length-append}
use Rattle.expiring_lock.specs.declared.lock.TheConstants.{LOCK_LIFE}
use Rattle.journal_entries.specs.declared.act.Act.{Act}
use Rattle.journal_entries.specs.declared.act.Act.TheVariants.{Acquired, Loaded, LoadFailed, LoadDiffers}
use Rattle.journal_entries.specs.declared.act.Entry.{Entry}
use Rattle.journal_rules.specs.Keeping.{cached, loading, loading_by, Loading, Succeeded, FailedUnder}
use Rattle.journal_rules.specs.Legal.{HoldsIfAny, IsAllowed, IsLegal}
use Rattle.journal_rules.specs.Locks.{Acquiring, acquired_by, clock, acquirings, acquiring_of, last_acquiring, next_token}
use Rattle.journal_rules.proofs.Legality.{allowed_next, legal_front}
use Rattle.journal_rules.proofs.Lists.{some_same}
use Rattle.journal_rules.proofs.Pushing.{acquirings-push, last_acquiring-push, loading-push}
use Rattle.session_lines.specs.declared.line.Line.{Line}
use Rattle.run_rules.specs.Determined.{Answered, AreByOthers, ShareFaults}
use Rattle.turn_rules.specs.Draining.{Caches, TakesUp}
use Rattle.run_rules.specs.Keeping.{Preparations}
use Rattle.run_rules.specs.Lines.{Leads}
use Rattle.turn_rules.specs.Locking.{acquired}
use Rattle.turn_rules.specs.Turns.{entry_by}
use Rattle.run_rules.proofs.OneAlone.{unfailed_there}
use Rattle.run_rules.proofs.OneLine.{IsUnfailed, leads_same}
use Rattle.run_rules.proofs.Pinned.{not_below}

next_more : (h : List Entry) (e : Entry) → next_token h ≤ next_token (h ++ e ∷ [])
next_more h e = let l = ap length (acquirings-push h e) ∙ length-append (acquirings h) (acquiring_of e.seat e.act) in omega (arith, l)

module _ (seat doc token : ℕ) where
  -- one's token was given, to one's seat, and no loading failed under it
  abbrev IsOwn : Option Acquiring → Type 0
  IsOwn now = (a : Acquiring) → now ≡ Some a → a.token ≡ token → a.seat ≡ seat

  abbrev IsUntouched : Loading → Type 0
  IsUntouched l = l ≡ FailedUnder (Some token) → ⊥

  abbrev Stands : List Entry → Type 0
  Stands j = (token < next_token j) × IsOwn (last_acquiring doc j) × IsUntouched (loading doc j)

  own_by : (h : List Entry) (by : ℕ) (act : Act) (now : Option Acquiring) → token < next_token h → IsAllowed h by act → IsOwn now → IsOwn (acquired_by doc by act now)
  own_by h by (Acquired d t until) now given may own = go (d == doc)
    where
      go : (same : Bool) → IsOwn (if same then Some (record { seat = by; doc = d; token = t; until = until }) else now)
      go true a is token_is =
          let e : t ≡ a.token = ap (λ (x : Acquiring). x.token) (some_same (record { seat = by; doc = d; token = t; until = until }) a is) in
          let next = may.token_is in
          absurd (omega (arith, given, e, token_is, next))
      go false a is token_is = own a is token_is
  own_by h by _ now given may own = own

  failed_by_another : (h : List Entry) (by d : ℕ) (t : Option ℕ) (now : Loading) → (by ≡ seat → ⊥) → HoldsIfAny by d t h → IsOwn (last_acquiring doc h) → IsUntouched now → IsUntouched (if d == doc then FailedUnder t else now)
  failed_by_another h by d t now other holds own un = go (d == doc) refl t holds
    where
      go : (same : Bool) → (d == doc) ≡ same → (t : Option ℕ) → HoldsIfAny by d t h → IsUntouched (if same then FailedUnder t else now)
      go true same None holds e = absurd (cc)
      go true same (Some n) holds e =
          let d_is : d ≡ doc = eqb-true d doc same in
          let n_is : n ≡ token = under n token e in
          other (sym holds.seat_is ∙ own holds.acquiring (subst (λ (k : ℕ). last_acquiring k h ≡ Some holds.acquiring) d_is holds.held.last) (holds.token_is ∙ n_is))
        where
          under : (n m : ℕ) → FailedUnder (Some n) ≡ FailedUnder (Some m) → n ≡ m
          under n m e = cc
      go false same t holds e = un e

  untouched_by : (h : List Entry) (by : ℕ) (act : Act) (now : Loading) → (by ≡ seat → ⊥) → IsAllowed h by act → IsOwn (last_acquiring doc h) → IsUntouched now → IsUntouched (loading_by doc act now)
  untouched_by h by (Loaded d t v) now other may own un = go (d == doc)
    where
      go : (same : Bool) → IsUntouched (if same then Succeeded else now)
      go true e = absurd (cc)
      go false e = un e
  untouched_by h by (LoadFailed d t from to) now other may own un = failed_by_another h by d t now other may.loads.holds own un
  untouched_by h by (LoadDiffers d t had got) now other may own un = failed_by_another h by d t now other may.loads.holds own un
  untouched_by h by _ now other may own un = un

  stands_on : (h : List Entry) (e : Entry) → (e.seat ≡ seat → ⊥) → IsAllowed h e.seat e.act → Stands h → Stands (h ++ e ∷ [])
  stands_on h e other may s =
      let more = next_more h e in
      let given = s.0 in (
        omega (arith, more, given),
        subst IsOwn (sym (last_acquiring-push doc h e)) (own_by h e.seat e.act (last_acquiring doc h) s.0 may s.1),
        subst IsUntouched (sym (loading-push doc h e)) (untouched_by h e.seat e.act (loading doc h) other may s.1 s.2),
      )

  not_own : (e : Entry) → not (e.seat == seat) ≡ true → e.seat ≡ seat → ⊥
  not_own e other is = true≢false (sym other ∙ ap not (eq-eqb e.seat seat is))

  stands_among : (es h : List Entry) → list_all (λ e. not (e.seat == seat)) es ≡ true → IsLegal (h ++ es) → Stands h → Stands (h ++ es)
  stands_among [] h others legal s = subst Stands (sym (append-nil h)) s
  stands_among (e ∷ es) h others legal s =
      let again : (h ++ e ∷ []) ++ es ≡ h ++ e ∷ es = append_assoc h (e ∷ []) es in
      let two = and_parts (not (e.seat == seat)) (list_all (λ e. not (e.seat == seat)) es) others in
      subst Stands again (stands_among es (h ++ e ∷ []) two.1 (subst IsLegal (sym again) legal) (stands_on h e (not_own e two.0) (allowed_next h e es legal) s))

-- so it is behind a turn that took the lock
module _ (seat : ℕ) (line : Option ℕ) where
  abbrev by : Act → Entry
  by = entry_by seat line

  abbrev IsGiven : ℕ → ℕ → List Entry → Type 0
  IsGiven doc token j = (token < next_token j) × IsOwn seat doc token (last_acquiring doc j)

  locked_given : (doc : ℕ) (left : List Entry) → IsGiven doc (next_token left) (left ++ by (acquired doc left) ∷ [])
  locked_given doc left =
      let l = ap length (acquirings-push left (by (acquired doc left))) ∙ length-append (acquirings left) (acquiring_of seat (acquired doc left)) in
      (omega (arith, l), subst (IsOwn seat doc (next_token left)) (sym (last_acquiring-push doc left (by (acquired doc left)))) (go (doc == doc) (eq-eqb doc doc refl)))
    where
      go : (same : Bool) → same ≡ true → IsOwn seat doc (next_token left) (if same then Some (record { seat = seat; doc = doc; token = next_token left; until = clock left + LOCK_LIFE }) else last_acquiring doc left)
      go true is a e token_is = sym (ap (λ (x : Acquiring). x.seat) (some_same (record { seat = seat; doc = doc; token = next_token left; until = clock left + LOCK_LIFE }) a e))
      go false is a e token_is = absurd (true≢false (sym is))

  loaded_given : (doc token : ℕ) (j : List Entry) (here : Bool) (acts : List Act) → Caches here doc (Some token) true acts → IsGiven doc token j → IsGiven doc token (j ++ map by acts)
  loaded_given doc token j true acts c g = subst (IsGiven doc token) (sym (ap (λ (xs : List Act). j ++ map by xs) c.1 ∙ append-nil j)) g
  loaded_given doc token j false acts c g =
      let load : Act = Loaded doc (Some token) c.1.0 in
      let is : acts ≡ load ∷ [] = c.2 ∙ ap (λ (a : Act). a ∷ []) c.1.1 in
      let more = next_more j (by load) in
      let given = g.0 in
      subst (λ (xs : List Act). IsGiven doc token (j ++ map by xs)) (sym is) (omega (arith, more, given), subst (IsOwn seat doc token) (sym (last_acquiring-push doc j (by load))) g.1)

  taken_given : (doc token : ℕ) (left made : List Entry) → TakesUp by doc token true left made → IsGiven doc token (left ++ made)
  taken_given doc token left made t =
      let locked : List Entry = left ++ by (acquired doc left) ∷ [] in
      let at : left ++ made ≡ locked ++ map by t.loading =
      ap (λ (m : List Entry). left ++ m) t.made_is ∙ sym (append_assoc left (by (acquired doc left) ∷ []) (map by (t.loading ++ []))) ∙ ap (λ (acts : List Act). locked ++ map by acts) (append-nil t.loading) in
      subst (IsGiven doc token) (sym at) (loaded_given doc token locked (cached doc left) t.loading t.caches (subst (λ (n : ℕ). IsGiven doc n locked) (sym t.token_is) (locked_given doc left)))

  among_unfailed : (answers : List Entry → List Entry) → AreByOthers seat answers → IsUnfailed (Answered answers) seat line
  among_unfailed answers others doc token left made look legal t next failed =
      let more = answers (left ++ made) in
      let at : IsLegal ((left ++ made) ++ more) = subst IsLegal next legal in
      let given = taken_given doc token left made t in
      let none = not_below token (loading doc (left ++ made)) (unfailed_there seat line doc token left made (legal_front left made (legal_front (left ++ made) more at)) t) in
      let s = stands_among seat doc token more (left ++ made) (others (left ++ made)) at (given.0, given.1, none) in
      s.2 (ap (loading doc) (sym next) ∙ failed)

pub lines_among : (seat : ℕ) (answers : List Entry → List Entry) → AreByOthers seat answers → (lines : List (ℕ × Line)) (kept : Preparations) (left one other : List Entry) → IsLegal one → IsLegal other → ShareFaults one other
    → Leads seat (Answered answers) lines kept left one → Leads seat (Answered answers) lines kept left other → one ≡ other
lines_among seat answers others lines kept left one other legal legal2 shared x y =
    leads_same (Answered answers) (λ j a b e f. e ∙ sym f) (λ j a e. (answers j, e)) seat (λ line. among_unfailed seat line answers others) lines kept left one other (legal, legal2, shared) x y
