-- How what was written goes on from write to write.
use Rattle.std.proofs.Common.{ℕ, ◌+◌, ◌-◌, ◌≤◌, List, take, drop, length}
use Rattle.std.proofs.Math.Seq.{take-add}
use Rattle.std.proofs.lemmas.List.{take_rest}
use Rattle.std.specs.declared.option.Option.{Option}
use Rattle.std.specs.Io.KnownBytes.{Appends}
use Rattle.std.proofs.KnownBytes.{Appends-trans}

-- after some writes the first `done` bytes stand at the end of the sink
pub record WrittenSoFar (before now : Option (List ℕ)) (faults_before faults_now : ℕ) (bytes : List ℕ) (done : ℕ) : Type 0 where
  pub written : Appends before now (take done bytes)
  pub within : done ≤ length bytes
  pub later : faults_before ≤ faults_now

-- the piece that was passed is `&bytes[done..]`
pub writes_more : (a b c : Option (List ℕ)) (bytes : List ℕ) (done n : ℕ) → Appends a b (take done bytes) → Appends b c (take n (take (length bytes - done) (drop done bytes))) → Appends a c (take (done + n) bytes)
writes_more a b c bytes done n first second = rw take-add (Appends-trans a b c _ _ first (rw take_rest at second))
