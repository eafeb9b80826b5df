-- What each of a crew did and saw makes up the whole.
use Rattle.std.proofs.Common.{◌≡◌, ◌⊎◌, ℕ, ◌+◌, ◌<◌, zero, suc, List, [], ◌∷◌, ◌++◌, All, Bool, true, false, not, ◌&&◌, ◌||◌, refl, sym, ap, ap₂, ◌∙◌, subst, inl, inr, true≢false, arith, eq-eqb, lt-ltb, le-leb}
use Rattle.std.specs.Prelude.{◌==◌, nat_lt, nat_le, if◌then◌else◌}
use Rattle.std.specs.List.{list_all}
use Rattle.std.proofs.lemmas.Bool.{and_parts}
use Rattle.std.proofs.lemmas.Bool.Decides.{eqb_tells}
use Rattle.journal_entries.specs.declared.act.Entry.{Entry}
use Rattle.journal_rules.specs.Documents.{is_in}
use Rattle.journal_rules.specs.Legal.{closed}
use Rattle.session_lines.specs.declared.line.Line.{Line}
use Rattle.turn_rules.specs.Owning.{IsEachClosed, MayEnd, driver_count}
use Rattle.turn_rules.specs.Turns.{Alone}
use Rattle.turn_rules.proofs.Owning.{closed_behind, closed_more}
use Rattle.run_rules.specs.Ending.{Ends}
use Rattle.run_rules.specs.Keeping.{nothing_kept}
use Rattle.run_rules.specs.Lines.{Leads}
use Rattle.run_rules.specs.Threads.{Crew, driver_seat, worker_seat, flusher_seat, is_of_crew, is_by, closing, document_lines, DriverFollows, WorkerFollows, FlusherFollows, FollowsTogether, IsSwept}
use Rattle.run_rules.proofs.Growing.{extends_on}
use Rattle.crew_rules.specs.Courses.{HasCourses}
use Rattle.crew_rules.specs.Together.{GoesTogether}
use Rattle.crew_rules.proofs.Seen.{begins_among, driver_grows, driver_on, flusher_on, saw_among, swept_on, worker_on}
use Rattle.crew_rules.proofs.Sweeping.{swept}

-- ---- none but the crew
-- an entry of a seat that was given, and not of seat 0, is of the crew
one_of_crew : (crew : Crew) (seat : ℕ) → seat < flusher_seat crew + 1 → not (seat == 0) ≡ true → is_of_crew crew seat ≡ true
one_of_crew crew zero low other = absurd (true≢false (sym other))
one_of_crew crew (suc s) low other =
    let a : nat_lt 0 (suc s) ≡ true = lt-ltb 0 (suc s) (omega arith) in
    let b : nat_le (suc s) (flusher_seat crew) ≡ true = le-leb (suc s) (flusher_seat crew) (omega (arith, low)) in
    ap₂ (λ (p q : Bool). p && q) a b

all_of_crew : (crew : Crew) (start es : List Entry) → All (λ (e : Entry). e.seat < flusher_seat crew + 1) (start ++ es) → list_all (λ e. not (is_by 0 e)) es ≡ true → list_all (λ e. is_of_crew crew e.seat) es ≡ true
all_of_crew crew (s ∷ start) es given others = all_of_crew crew start es (λ k d h. given (suc k) d (omega (arith, h))) others
all_of_crew crew [] [] given others = refl
all_of_crew crew [] (e ∷ es) given others =
    let both = and_parts (not (is_by 0 e)) (list_all (λ e. not (is_by 0 e)) es) others in
    ap₂ (λ (p q : Bool). p && q) (one_of_crew crew e.seat (given 0 e (omega arith)) both.0) (all_of_crew crew [] es (λ k d h. given (suc k) d (omega (arith, h))) both.1)

pub courses : (crew : Crew) (lines : List Line) (start journal : List Entry) → HasCourses crew lines start journal → GoesTogether crew lines start journal
courses crew lines start journal c =
    let first = c.driver 0 c.driven in
    let begins = extends_on start first.0 journal (driver_grows crew lines start first.0 0 first.1) first.2.0 in
    let behind = begins_among 0 start journal begins c.first in
    let between = behind.0 in
    record {
      between = between;
      journal_is = behind.1;
      crew_only = all_of_crew crew start between (subst (λ (j : List Entry). All (λ (e : Entry). e.seat < flusher_seat crew + 1) j) behind.1 c.given) behind.2;
      driver = λ d low. let s = c.driver d low in driver_on crew lines start s.0 journal d s.1 (saw_among (driver_seat d) s.0 journal s.2);
      worker = λ w low. let s = c.worker w low in worker_on crew start s.0 journal w s.1.0 (saw_among (worker_seat crew w) s.0 journal s.2);
      flusher = let s = c.flusher in flusher_on crew start s.0 journal s.1 (saw_among (flusher_seat crew) s.0 journal s.2);
      swept = λ doc made. swept crew journal doc (λ w low. let s = c.worker w low in swept_on crew start s.0 journal w doc made s.1.0 s.1.1 (saw_among (worker_seat crew w) s.0 journal s.2)) c.worked;
    }

-- ---- behind the crew
pub follows : (crew : Crew) (lines : List Line) (sessions : ℕ) (start between journal : List Entry) → Leads 0 Alone (document_lines lines) nothing_kept [] start → GoesTogether crew lines start between → Ends sessions between journal → FollowsTogether crew lines sessions journal
follows crew lines sessions start between journal makes t ends = record {
  start = start;
  makes = makes;
  between = t.between;
  crew_only = t.crew_only;
  driver = λ d low. subst (λ (j : List Entry). DriverFollows crew lines start j d) t.journal_is (t.driver d low);
  worker = λ w low. subst (λ (j : List Entry). WorkerFollows crew start j w) t.journal_is (t.worker w low);
  flusher = subst (λ (j : List Entry). FlusherFollows crew start j) t.journal_is t.flusher;
  swept = λ doc made. subst (λ (j : List Entry). IsSwept crew j doc) t.journal_is (t.swept doc made);
  ends = subst (λ (j : List Entry). Ends sessions j journal) t.journal_is ends;
}

closed_at_end : (crew : Crew) (lines : List Line) (start journal : List Entry) (d : ℕ) → DriverFollows crew lines start journal d → is_in d (closed journal) ≡ true
closed_at_end crew lines start journal d f =
    let one : is_in d (closed (f.look ++ closing d ∷ [])) ≡ true = closed_more d f.look (closing d) ∙ ap (λ (b : Bool). is_in d (closed f.look) || (b || false)) (eq-eqb d d refl) ∙ either (is_in d (closed f.look)) in
    subst (λ (j : List Entry). is_in d (closed j) ≡ true) (sym f.more.1) (closed_behind d (f.look ++ closing d ∷ []) f.more.0 one)
  where
    either : (b : Bool) → (b || true) ≡ true
    either true = refl
    either false = refl

count_is : (drivers : ℕ) → 0 < drivers → driver_count drivers ≡ drivers
count_is drivers some = go (eqb_tells drivers 0)
  where
    go : (((drivers == 0) ≡ true) × (drivers ≡ 0)) ⊎ (((drivers == 0) ≡ false) × (drivers ≡ 0 → ⊥)) → driver_count drivers ≡ drivers
    go (inl t) = let none = t.1 in absurd (omega (arith, some, none))
    go (inr t) = ap (λ (b : Bool). if b then 1 else drivers) t.0

pub may_end : (crew : Crew) (lines : List Line) (start journal : List Entry) → 0 < crew.drivers → GoesTogether crew lines start journal → MayEnd crew.drivers journal
may_end crew lines start journal some t client =
    inr (refl, subst (λ (n : ℕ). IsEachClosed n journal) (sym (count_is crew.drivers some)) (λ d low. closed_at_end crew lines start journal d (t.driver d low)))
