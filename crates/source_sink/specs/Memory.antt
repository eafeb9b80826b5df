-- What the source and the sink in memory are, to a caller.
use Rattle.std.specs.Prelude.{ℕ, List}

-- A source in memory. Calls are counted from 1; the counts of calls and faults stop at 2^64 - 1.
pub record MemorySource : Type 0 where
  -- the bytes that are still to be read
  pub left : List ℕ
  -- the numbers of the calls that fail
  pub fails : List ℕ
  -- how many calls there were
  pub calls : ℕ
  pub faults : ℕ

-- A sink in memory, with its calls counted in the same way.
pub record MemorySink : Type 0 where
  pub written : List ℕ
  pub fails : List ℕ
  pub calls : ℕ
  pub faults : ℕ
