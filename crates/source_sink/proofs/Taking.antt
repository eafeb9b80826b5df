-- How what was taken from a source goes on from read to read.
use Rattle.std.proofs.Common.{refl, ℕ, ◌+◌, ◌<◌, ◌≤◌, List, ◌++◌, length, Err, arith, length-append}
use Rattle.std.specs.declared.option.Option.{Option}
use Rattle.std.specs.Io.KnownBytes.{Consumes}
use Rattle.std.proofs.KnownBytes.{Consumes-trans}
use Rattle.source_sink.specs.declared.read.ReadFault.TheVariants.{TooLong, Memory}
use Rattle.source_sink.specs.Outside.{Took}

-- after some reads these bytes have been taken, and they are within the limit
pub record TakenSoFar (before now : Option (List ℕ)) (faults_before faults_now : ℕ) (taken : List ℕ) : Type 0 where
  pub consumed : Consumes before now taken
  pub within : length taken ≤ 16777216
  pub later : faults_before ≤ faults_now

-- a piece more within the limit, for which memory was wanting
pub took_in_vain : (limit : ℕ) (old mid new : Option (List ℕ)) (held front : List ℕ) → Consumes old mid held → Consumes mid new front → length held + length front ≤ limit → Took limit old new (Err Memory)
took_in_vain limit old mid new held front first second few = record {
  taken = held ++ front;
  consumed = Consumes-trans old mid new held front first second;
  ok = tt;
  too_long = ((λ e. cc), (λ more. absurd (omega (arith, length-append held front, more))));
}

-- a piece more that goes past the limit
pub took_too_long : (limit : ℕ) (old mid new : Option (List ℕ)) (held front : List ℕ) → Consumes old mid held → Consumes mid new front → limit < length held + length front → Took limit old new (Err TooLong)
took_too_long limit old mid new held front first second many = record {
  taken = held ++ front;
  consumed = Consumes-trans old mid new held front first second;
  ok = tt;
  too_long = ((λ e. omega (arith, length-append held front)), (λ more. refl));
}
