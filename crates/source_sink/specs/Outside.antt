-- What is taken from a source that is read to its end, and what a sink is given.
use Rattle.std.specs.Prelude.{ℕ, ◌≡◌, ◌<◌, ◌≤◌, ◌↔◌, List, length, take, Option, Result, IsErrOf, IfOk, IsOk, Vec}
use Rattle.std.specs.declared.alloc.Global.{Global}
use Rattle.std.specs.Io.KnownBytes.{Consumes, Appends, IsAtEnd}
use Rattle.source_sink.specs.declared.read.ReadFault.{ReadFault}
use Rattle.source_sink.specs.declared.read.ReadFault.TheVariants.{TooLong}

-- The bytes that were taken. At `Ok` they are all of the source, and were answered; `TooLong` comes
-- exactly where they are more than the limit.
pub record Took (limit : ℕ) (before after : Option (List ℕ)) (result : Result (Vec ℕ Global) ReadFault) : Type 0 where
  pub taken : List ℕ
  pub consumed : Consumes before after taken
  pub ok : IfOk result (λ bytes. (bytes.items ≡ taken) × IsAtEnd after)
  pub too_long : IsErrOf result TooLong ↔ (limit < length taken)

-- a prefix of the bytes was written, and at `Ok` all of them
pub record Wrote {T E : Type 0} (before after : Option (List ℕ)) (bytes : List ℕ) (result : Result T E) : Type 0 where
  pub count : ℕ
  pub within : count ≤ length bytes
  pub written : Appends before after (take count bytes)
  pub whole : IsOk result → count ≡ length bytes
