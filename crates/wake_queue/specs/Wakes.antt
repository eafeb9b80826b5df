-- The rule of a queue of wakes, and what a contract sees of a pass.
use Rattle.std.specs.Prelude.{◌≡◌, ℕ, ◌+◌, ◌<◌, ◌==◌, List, [], ◌∷◌, ◌++◌, length, map, filter, slice_set, All}
use mathlib.Core.Option.{some}
use lib.ListN.{get_elem?}
use Rattle.std.specs.declared.alloc.Global.{Global}
use Rattle.crossbeam_queue.specs.SegTies.{SegId}
use Rattle.wake_queue.specs.declared.rule.Done.{Done}

abbrev pub done : List ℕ → List ℕ → ℕ → Done
done pushed popped empties = record { pushed = pushed; popped = popped; empties = empties }

-- after a push, a pop, and a step that found the queue empty
abbrev pub puts : Done → ℕ → Done
puts v x = done (v.pushed ++ x ∷ []) v.popped v.empties

abbrev pub takes : Done → ℕ → Done
takes v x = done v.pushed (v.popped ++ x ∷ []) v.empties

abbrev pub found : Done → Done
found v = done v.pushed v.popped (v.empties + 1)

-- what the pass of this number has done
abbrev pub At : List Done → ℕ → Done → Type 0
At views k v = get_elem? views k ≡ some v

-- of pushes or pops, each with its pass, the numbers of one pass, in order
abbrev pub done_by : ℕ → List (ℕ × ℕ) → List ℕ
done_by pass log = map (λ x. x.1) (filter (λ x. x.0 == pass) log)

-- all pushes stand in one row, and all pops, each with its pass. What was popped is the front of what was
-- pushed, and the queue holds the rest
pub record IsFifo (items : List ℕ) (views : List Done) : Type 0 where
  pub pushes : List (ℕ × ℕ)
  pub pops : List (ℕ × ℕ)
  pub in_order : map (λ x. x.1) pushes ≡ map (λ x. x.1) pops ++ items
  pub each : (k : ℕ) (v : Done) → At views k v → (v.pushed ≡ done_by k pushes) × (v.popped ≡ done_by k pops)
  pub known : All (λ x. x.0 < length views) pushes × All (λ x. x.0 < length views) pops

module _ (past : List ℕ → List Done → Type 0) where
  -- the order stands, in a state of the past
  abbrev pub Kept : List ℕ → List Done → Type 0
  Kept items views = IsFifo items views × past items views

  -- the queue once held these, at a moment at which this was all that the pass of this number had done
  abbrev pub Was : ℕ → Done → List ℕ → Type 0
  Was number v items = (views : List Done) × Kept items views × At views number v

  -- the same, with this in front
  abbrev pub WasFirst : ℕ → Done → ℕ → Type 0
  WasFirst number v x = (rest : List ℕ) × Was number v (x ∷ rest)

  -- the states that follow by a step of the pass of this number. Its count goes up only where the queue was
  -- empty, at a moment at which the pass had done all that it has done before
  pub record Steps (number : ℕ) : Type 0 where
    pub push : (items : List ℕ) (views : List Done) (v : Done) (x : ℕ) → past items views → At views number v → past (items ++ x ∷ []) (slice_set views number (puts v x))
    pub pop : (items : List ℕ) (views : List Done) (v : Done) (x : ℕ) → past (x ∷ items) views → At views number v → past items (slice_set views number (takes v x))
    pub another : (items : List ℕ) (views : List Done) (v : Done) → past items views → At views number v → past items (slice_set views number v ++ done [] [] 0 ∷ [])
    pub find : (items : List ℕ) (views : List Done) (v : Done) → past items views → At views number v → Was number v [] → past items (slice_set views number (found v) ++ done [] [] 0 ∷ [])

-- where nothing is asked of the past, each step may be taken
pub any : (number : ℕ) → Steps (λ items views. Unit {0}) number
any number = record {
  push = λ items views v x p at. tt;
  pop = λ items views v x p at. tt;
  another = λ items views v p at. tt;
  find = λ items views v p at was. tt;
}

-- a pass, as a contract sees it
pub record Pass : Type 0 where
  pub queue : SegId Global
  pub number : ℕ
  pub pushed : List ℕ
  pub popped : List ℕ
  pub empties : ℕ

-- a pass that has done nothing
abbrev pub fresh : SegId Global → ℕ → Pass
fresh queue number = record { queue = queue; number = number; pushed = []; popped = []; empties = 0 }

-- the queue was empty, at a moment at which this was all that the pass had done
abbrev pub WasEmpty : (List ℕ → List Done → Type 0) → Pass → Type 0
WasEmpty past pass = Was past pass.number (done pass.pushed pass.popped pass.empties) []

-- this number was in front, at such a moment
abbrev pub HadFirst : (List ℕ → List Done → Type 0) → Pass → ℕ → Type 0
HadFirst past pass doc = WasFirst past pass.number (done pass.pushed pass.popped pass.empties) doc
