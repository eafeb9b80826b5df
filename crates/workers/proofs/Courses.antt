-- Sweeping goes on from one document to the next.
use Rattle.std.proofs.Common.{◌≡◌, ◌≢◌, ℕ, ◌+◌, ◌<◌, ◌≤◌, List, length, refl, subst, sym, arith}
use Rattle.journal_entries.specs.declared.act.Entry.{Entry}
use Rattle.journal_rules.specs.Documents.{makings}
use Rattle.turn_rules.specs.Turns.{Among}
use Rattle.run_rules.specs.Threads.{is_by}
use Rattle.book.specs.declared.faults.AcquireFault.{AcquireFault}
use Rattle.book.specs.declared.faults.AcquireFault.TheVariants as fault
use Rattle.workers.specs.Draining.{DrainsSome, IsWhyNoMore, Works}
use Rattle.seat_turns.specs.Closings.{IfClosed, IsEachClosed}
use Rattle.seat_turns.specs.Seats.{HoldsNoLock}
use Rattle.seat_turns.specs.declared.ending.WorkerEnd.{WorkerEnd}
use Rattle.seat_turns.specs.declared.ending.WorkerEnd.TheVariants.{Closed, Memory}
use Rattle.seat_turns.proofs.Growing.{closed_on, made_on}
use Rattle.seat_turns.proofs.Holding.{none_among, quiet_among}
use Rattle.workers.specs.Sweeping.{AreSwept, IsSweptBy}
use Rattle.workers.proofs.Holding.{none_of, none_on, swept_quiet}
use Rattle.workers.proofs.Works.{looked_on, works_more}
use Rattle.workers.proofs.Sweeping.{grown_of, swept_more}

-- where this seat held no lock at the start, it holds none now, and the documents below this number are swept
abbrev pub Sweeps : ℕ → ℕ → List Entry → ℕ → List Entry → Type 0
Sweeps drivers n start doc seen = HoldsNoLock n start → HoldsNoLock n seen × ((d : ℕ) → d < doc → IsSweptBy drivers n d seen)

module _ (drivers n : ℕ) (start : List Entry) where
  pub sweeps_none : Sweeps drivers n start 0 start
  sweeps_none none = (none, λ d low. absurd {A = IsSweptBy drivers n d start} (omega (arith, low)))

  -- others go on; the number of the seat is known by an equation
  pub sweeps_among : (m doc : ℕ) (a b : List Entry) → m ≡ n → Among (is_by m) a b → Sweeps drivers n start doc a → Sweeps drivers n start doc b
  sweeps_among m doc a b is x sweeps none =
      let y = subst (λ (k : ℕ). Among (is_by k) a b) is x in
      let s = sweeps none in
      (none_among n a b y s.0, λ d low. swept_quiet n d drivers a b (s.1 d low) (quiet_among n d a b y))

  -- one document more
  pub sweeps_one : (m doc : ℕ) (a b : List Entry) → m ≡ n → DrainsSome m doc a b → IsEachClosed drivers b → (f : AcquireFault) → IsWhyNoMore doc b f → f ≢ fault.Memory → doc < length (makings a) → Sweeps drivers n start doc a → Sweeps drivers n start (doc + 1) b
  sweeps_one m doc a b is x closed f why so made sweeps none =
      let y = subst (λ (k : ℕ). DrainsSome k doc a b) is x in
      let s = sweeps none in
      let free = none_of n doc y.0 a b s.0 y.1 in
      (free, swept_more n drivers doc y.0 a b closed free y.1 f why so (made_on doc a b (grown_of n doc y.0 a b y.1) made) s.1)

  pub sweeps_all : (doc : ℕ) (seen : List Entry) → length (makings seen) ≤ doc → Sweeps drivers n start doc seen → HoldsNoLock n start → AreSwept drivers n seen
  sweeps_all doc seen few sweeps none d low = (sweeps none).1 d (omega (arith, few, low))

-- what was closed stays so
pub closed_drained : (drivers m doc : ℕ) (a b : List Entry) → DrainsSome m doc a b → IsEachClosed drivers a → IsEachClosed drivers b
closed_drained drivers m doc a b x each = closed_on drivers a b (grown_of m doc x.0 a b x.1) each

-- whoever held no lock holds none behind its course
pub unlocked_behind : (n : ℕ) (a b : List Entry) → Works n a b → HoldsNoLock n a → HoldsNoLock n b
unlocked_behind n a b w none = none_on n w.0 a b none w.1

-- the whole course: a first turn, the wakes, and the sweep
pub course : (n m : ℕ) (a b c : List Entry) → m ≡ n → Among (is_by n) a b → Works m b c → Works n a c
course n m a b c is x w = looked_on n n a b c refl x (subst (λ (k : ℕ). Works k b c) is w)

pub course_swept : (n m o : ℕ) (a b c d : List Entry) → m ≡ n → o ≡ n → Among (is_by n) a b → Works m b c → Works o c d → Works n a d
course_swept n m o a b c d is same x w v = works_more n a c d (course n m a b c is x w) (subst (λ (k : ℕ). Works k c d) same v)

pub swept_at : (n m drivers : ℕ) (a c d : List Entry) (e : WorkerEnd) → m ≡ n → (n ≢ 0 → Works n a c) → IfClosed e (HoldsNoLock m c → AreSwept drivers m d) → IfClosed e (n ≢ 0 → HoldsNoLock n a → AreSwept drivers n d)
swept_at n m drivers a c d Closed is w swept = λ other none.
    subst (λ (k : ℕ). AreSwept drivers k d) is (swept (subst (λ (k : ℕ). HoldsNoLock k c) (sym is) (unlocked_behind n a c (w other) none)))
swept_at n m drivers a c d Memory is w swept = tt
