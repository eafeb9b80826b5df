-- What an entry of a legal journal is, by the entries before it: one load, commit or flush alone is allowed, but for faults.
use Rattle.std.proofs.Common.{◌≡◌, ◌⊎◌, ℕ, ◌<◌, ◌≤◌, ◌||◌, List, [], ◌∷◌, ◌++◌, length, Bool, true, false, not, true≢false, refl, sym, ap, ap₂, ◌∙◌, subst, inl, inr, arith, append_assoc, append-nil, eq-eqb}
use Rattle.std.specs.Prelude.{Option, Some, None, map, ⊤, ◌==◌, if◌then◌else◌}
use Rattle.std.proofs.lemmas.List.{length-append}
use Rattle.std.proofs.lemmas.List.Folds.{list_any-append}
use Rattle.journal_entries.specs.declared.update.Update.{Update}
use Rattle.journal_entries.specs.declared.update.Outcome.{Outcome}
use Rattle.journal_entries.specs.declared.update.Outcome.TheVariants.{Refused}
use Rattle.journal_entries.specs.declared.update.Cause.TheVariants.{Memory}
use Rattle.journal_entries.specs.declared.act.Act.{Act}
use Rattle.journal_entries.specs.declared.act.Act.TheVariants.{Loaded, LoadFailed, LoadDiffers, Committed, Flushed}
use Rattle.journal_entries.specs.declared.act.Entry.{Entry}
use Rattle.journal_rules.specs.Deciding.{decided}
use Rattle.journal_rules.specs.Documents.{update_at, version, waiting}
use Rattle.journal_rules.specs.Keeping.{loading, loading_by, Loading, NeverTried, Succeeded, FailedUnder}
use Rattle.journal_rules.specs.Legal.{HoldsIfAny, IsAllowed, IsLegal, IsOutcome}
use Rattle.journal_rules.specs.Locks.{acquirings, acquiring_of, last_acquiring, next_token, token_in}
use Rattle.journal_rules.proofs.Fencing.{token_bound}
use Rattle.journal_rules.proofs.Legality.{allowed_next, by_last, legal_front}
use Rattle.journal_rules.proofs.Pushing.{acquirings-push, loading-push, loading-none}
use Rattle.run_rules.specs.Determined.{is_fault, has_fault, ShareFaults}
use Rattle.turn_rules.specs.Draining.{IsLoad, Caches}
use Rattle.turn_rules.specs.Flushing.{IsPut}
use Rattle.turn_rules.specs.Locking.{acquired}
use Rattle.turn_rules.specs.Turns.{entry_by}
use Rattle.run_rules.proofs.Growing.{Extends}
use Rattle.journal_laws.proofs.Updates.{or_false}

-- ---- two legal journals with the same faults
abbrev pub Pair : List Entry → List Entry → Type 0
Pair a b = IsLegal a × IsLegal b × ShareFaults a b

pub pair_front : (a x b y : List Entry) → Pair (a ++ x) (b ++ y) → Pair a b
pair_front a x b y p = (
  legal_front a x p.0,
  legal_front b y p.1,
  λ before more rest e f at at2 fault.
      p.2 before (more ++ x) (rest ++ y) e f (ap (λ (j : List Entry). j ++ x) at ∙ append_assoc before (e ∷ more) x) (ap (λ (j : List Entry). j ++ y) at2 ∙ append_assoc before (f ∷ rest) y) fault,
)

pub pair_same : (a b c d : List Entry) → a ≡ c → b ≡ d → Pair a b → Pair c d
pair_same a b c d e f p = subst (λ (j : List Entry). Pair c j) f (subst (λ (j : List Entry). Pair j b) e p)

pub pair_before : (a b c d : List Entry) → Extends a c → Extends b d → Pair c d → Pair a b
pair_before a b c d x y p = pair_front a x.0 b y.0 (pair_same c d (a ++ x.0) (b ++ y.0) x.1 y.1 p)

-- the next of both
abbrev pub Shares : Act → Act → Type 0
Shares x y = (is_fault x || is_fault y) ≡ true → x ≡ y

pub record AreNext (look : List Entry) (seat : ℕ) (x y : Act) : Type 0 where
  pub one : IsAllowed look seat x
  pub other : IsAllowed look seat y
  pub shared : Shares x y

pub pair_next : (seat : ℕ) (line : Option ℕ) (look : List Entry) (x y : Act) (more rest : List Entry) → Pair (look ++ entry_by seat line x ∷ more) (look ++ entry_by seat line y ∷ rest) → AreNext look seat x y
pair_next seat line look x y more rest p =
    record {
      one = allowed_next look (entry_by seat line x) more p.0;
      other = allowed_next look (entry_by seat line y) rest p.1;
      shared = λ fault. ap (λ (e : Entry). e.act) (p.2 look more rest (entry_by seat line x) (entry_by seat line y) refl refl fault);
    }

-- an act is this one, or a fault
abbrev pub IsThis : Act → Act → Type 0
IsThis act p = (act ≡ p) ⊎ (is_fault act ≡ true)

pub this_same : (x y p : Act) → IsThis x p → IsThis y p → Shares x y → x ≡ y
this_same x y p (inl e) (inl f) shared = e ∙ sym f
this_same x y p (inr e) other shared = shared (ap (λ (b : Bool). b || is_fault y) e)
this_same x y p (inl e) (inr f) shared = shared (ap (λ (b : Bool). is_fault x || b) f ∙ or_true (is_fault x))
  where
    or_true : (b : Bool) → (b || true) ≡ true
    or_true true = refl
    or_true false = refl

-- ---- a loading failed under a token that was given
abbrev pub IsBelow : ℕ → Loading → Type 0
IsBelow n (FailedUnder (Some t)) = t < n
IsBelow n _ = ⊤

below_more : (n m : ℕ) (l : Loading) → n ≤ m → IsBelow n l → IsBelow m l
below_more n m (FailedUnder (Some t)) le b = omega (arith, le, b)
below_more n m (FailedUnder None) le b = tt
below_more n m NeverTried le b = tt
below_more n m Succeeded le b = tt

below_failed : (n d doc : ℕ) (token : Option ℕ) (h : List Entry) (seat : ℕ) (now : Loading) → IsLegal h → next_token h ≤ n → HoldsIfAny seat doc token h → IsBelow n now → IsBelow n (if doc == d then FailedUnder token else now)
below_failed n d doc token h seat now legal le holds b = go (doc == d) token holds
  where
    go : (same : Bool) (token : Option ℕ) → HoldsIfAny seat doc token h → IsBelow n (if same then FailedUnder token else now)
    go true None holds = tt
    go true (Some t) holds =
        let bound = token_bound doc h legal in
        let last : token_in (last_acquiring doc h) ≡ holds.acquiring.token = ap token_in holds.held.last in
        let is = holds.token_is in
        omega (arith, le, bound, last, is)
    go false token holds = b

below_by : (n d : ℕ) (h : List Entry) (seat : ℕ) (act : Act) (now : Loading) → IsLegal h → next_token h ≤ n → IsAllowed h seat act → IsBelow n now → IsBelow n (loading_by d act now)
below_by n d h seat (Loaded doc token v) now legal le may b = go (doc == d)
  where
    go : (same : Bool) → IsBelow n (if same then Succeeded else now)
    go true = tt
    go false = b
below_by n d h seat (LoadFailed doc token from to) now legal le may b = below_failed n d doc token h seat now legal le may.loads.holds b
below_by n d h seat (LoadDiffers doc token had got) now legal le may b = below_failed n d doc token h seat now legal le may.loads.holds b
below_by n d h seat _ now legal le may b = b

pub below : (d : ℕ) (j : List Entry) → IsLegal j → IsBelow (next_token j) (loading d j)
below d = by_last (λ j. IsBelow (next_token j) (loading d j)) (subst (IsBelow (next_token [])) (sym (loading-none d)) tt) step
  where
    step : (h : List Entry) (e : Entry) → IsLegal h → IsAllowed h e.seat e.act → IsBelow (next_token h) (loading d h) → IsBelow (next_token (h ++ e ∷ [])) (loading d (h ++ e ∷ []))
    step h e legal may b =
        let l = ap length (acquirings-push h e) ∙ length-append (acquirings h) (acquiring_of e.seat e.act) in
        let le : next_token h ≤ next_token (h ++ e ∷ []) = omega (arith, l) in
        subst (IsBelow (next_token (h ++ e ∷ []))) (sym (loading-push d h e))
        (below_by (next_token (h ++ e ∷ [])) d h e.seat e.act (loading d h) legal le may (below_more (next_token h) (next_token (h ++ e ∷ [])) (loading d h) le b))

pub not_below : (n : ℕ) (l : Loading) → IsBelow n l → l ≡ FailedUnder (Some n) → ⊥
not_below n l b e = let c : n < n = subst (IsBelow n) e b in omega (arith, c)

-- ---- a commit
abbrev pub first_ticket : List ℕ → ℕ
first_ticket [] = 0
first_ticket (t ∷ ts) = t

abbrev pub outcome_on : List Entry → ℕ → Option Update → Outcome
outcome_on look doc (Some u) = decided look doc u
outcome_on look doc None = Refused Memory

abbrev pub committed_at : ℕ → ℕ → List Entry → Act
committed_at doc token look = Committed doc token (first_ticket (waiting doc look)) (outcome_on look doc (update_at look (first_ticket (waiting doc look))))

pub commit_is : (look : List Entry) (seat doc token ticket : ℕ) (outcome : Outcome) → (loading doc look ≡ FailedUnder (Some token) → ⊥) → IsAllowed look seat (Committed doc token ticket outcome) → IsThis (Committed doc token ticket outcome) (committed_at doc token look)
commit_is look seat doc token ticket outcome unfailed c = of_outcome c.ends
  where
    ticket_is : ticket ≡ first_ticket (waiting doc look)
    ticket_is = sym (ap first_ticket c.first)

    of_outcome : IsOutcome look doc token ticket outcome → IsThis (Committed doc token ticket outcome) (committed_at doc token look)
    of_outcome (inl d) = inl (ap₂ (λ (t : ℕ) (o : Outcome). Committed doc token t o) ticket_is (d.outcome_is ∙ sym (ap (outcome_on look doc) (ap (update_at look) (sym ticket_is) ∙ d.named))))
    of_outcome (inr (inl m)) = inr (ap (λ (o : Outcome). is_fault (Committed doc token ticket o)) m)
    of_outcome (inr (inr u)) = absurd (unfailed u.failed)

-- ---- a load
load_is : (ready : Bool) (doc : ℕ) (token : Option ℕ) (act : Act) (look : List Entry) (seat : ℕ) → IsLoad doc token ready act → IsAllowed look seat act → IsThis act (Loaded doc token (version doc look))
load_is true doc token act look seat l may = inl (l.1 ∙ ap (λ (v : ℕ). Loaded doc token v) (of_load (subst (λ (a : Act). IsAllowed look seat a) l.1 may)))
  where
    of_load : IsAllowed look seat (Loaded doc token l.0) → l.0 ≡ version doc look
    of_load x = x.v_is
load_is false doc token act look seat (inl l) may = inr (ap is_fault l.2)
load_is false doc token act look seat (inr l) may = inr (ap is_fault l.2)

-- it tells whether the document is ready
load_tells : (ready : Bool) (doc : ℕ) (token : Option ℕ) (act : Act) → IsLoad doc token ready act → ready ≡ not (is_fault act)
load_tells true doc token act l = sym (ap (λ (a : Act). not (is_fault a)) l.1)
load_tells false doc token act (inl l) = sym (ap (λ (a : Act). not (is_fault a)) l.2)
load_tells false doc token act (inr l) = sym (ap (λ (a : Act). not (is_fault a)) l.2)

module _ (seat : ℕ) (line : Option ℕ) where
  abbrev by : Act → Entry
  by = entry_by seat line

  pub caches_same : (here : Bool) (doc : ℕ) (token : Option ℕ) (r s : Bool) (xs ys : List Act) (look : List Entry) → Caches here doc token r xs → Caches here doc token s ys → Pair (look ++ map by xs) (look ++ map by ys) → (r ≡ s) × (xs ≡ ys)
  caches_same true doc token r s xs ys look c d p = (c.0 ∙ sym d.0, c.1 ∙ sym d.1)
  caches_same false doc token r s xs ys look c d p =
      let at = pair_same (look ++ map by xs) (look ++ map by ys) (look ++ by c.0 ∷ []) (look ++ by d.0 ∷ []) (ap (λ (acts : List Act). look ++ map by acts) c.2) (ap (λ (acts : List Act). look ++ map by acts) d.2) p in
      let n = pair_next seat line look c.0 d.0 [] [] at in
      let e : c.0 ≡ d.0 = this_same c.0 d.0 (Loaded doc token (version doc look)) (load_is r doc token c.0 look seat c.1 n.one) (load_is s doc token d.0 look seat d.1 n.other) n.shared in
      (load_tells r doc token c.0 c.1 ∙ ap (λ (a : Act). not (is_fault a)) e ∙ sym (load_tells s doc token d.0 d.1), c.2 ∙ ap (λ (a : Act). a ∷ []) e ∙ sym d.2)

  -- behind a lock that was taken, and a load that didn't fail, no loading has failed under its token
  pub below_taken : (doc : ℕ) (left : List Entry) (here : Bool) (acts : List Act) → IsLegal left → Caches here doc (Some (next_token left)) true acts
      → IsBelow (next_token left) (loading doc ((left ++ by (acquired doc left) ∷ []) ++ map by acts))
  below_taken doc left here acts legal c =
      let at_lock : IsBelow (next_token left) (loading doc (left ++ by (acquired doc left) ∷ [])) = subst (IsBelow (next_token left)) (sym (loading-push doc left (by (acquired doc left)))) (below doc left legal) in
      by_case here acts c at_lock
    where
      by_case : (here : Bool) (acts : List Act) → Caches here doc (Some (next_token left)) true acts → IsBelow (next_token left) (loading doc (left ++ by (acquired doc left) ∷ [])) → IsBelow (next_token left) (loading doc ((left ++ by (acquired doc left) ∷ []) ++ map by acts))
      by_case true acts c low = subst (λ (j : List Entry). IsBelow (next_token left) (loading doc j)) (sym (ap (λ (xs : List Act). (left ++ by (acquired doc left) ∷ []) ++ map by xs) c.1 ∙ append-nil (left ++ by (acquired doc left) ∷ []))) low
      by_case false acts c low =
          let locked : List Entry = left ++ by (acquired doc left) ∷ [] in
          let load : Act = Loaded doc (Some (next_token left)) c.1.0 in
          let is : acts ≡ load ∷ [] = c.2 ∙ ap (λ (a : Act). a ∷ []) c.1.1 in
          let succeeded : loading doc (locked ++ by load ∷ []) ≡ Succeeded = loading-push doc locked (by load) ∙ ap (λ (b : Bool). if b then Succeeded else loading doc locked) (eq-eqb doc doc refl) in
          subst (λ (xs : List Act). IsBelow (next_token left) (loading doc (locked ++ map by xs))) (sym is) (subst (IsBelow (next_token left)) (sym succeeded) tt)

  -- ---- a flush
  put_is : (doc token : ℕ) (act : Act) (look : List Entry) → IsPut doc token act → IsAllowed look seat act → IsThis act (Flushed doc token (version doc look))
  put_is doc token act look (inl x) may = inl (x.1 ∙ ap (λ (v : ℕ). Flushed doc token v) (of_flush x.0 (subst (λ (a : Act). IsAllowed look seat a) x.1 may)))
    where
      of_flush : (v : ℕ) → IsAllowed look seat (Flushed doc token v) → v ≡ version doc look
      of_flush v x = x.v_is
  put_is doc token act look (inr x) may = inr (ap is_fault x.2)

  pub put_same : (doc token : ℕ) (x y : Act) (look : List Entry) → IsPut doc token x → IsPut doc token y → AreNext look seat x y → x ≡ y
  put_same doc token x y look p q n = this_same x y (Flushed doc token (version doc look)) (put_is doc token x look p n.one) (put_is doc token y look q n.other) n.shared

next_faultless : (before more j : List Entry) (e : Entry) → j ≡ before ++ e ∷ more → has_fault j ≡ false → is_fault e.act ≡ false
next_faultless before more j e at none =
    let all : (has_fault before || has_fault (e ∷ more)) ≡ false = sym (ap has_fault at ∙ list_any-append (λ e. is_fault e.act) before (e ∷ more)) ∙ none in
    (or_false (is_fault e.act) (has_fault more) (or_false (has_fault before) (has_fault (e ∷ more)) all).1).0

pub share_none : (one other : List Entry) → has_fault one ≡ false → has_fault other ≡ false → ShareFaults one other
share_none one other none none2 before more rest e f at at2 fault =
    absurd (true≢false (sym fault ∙ ap₂ (λ (a b : Bool). a || b) (next_faultless before more one e at none) (next_faultless before rest other f at2 none2)))
