-- What a piece adds to a record of bytes.
use Rattle.std.specs.Prelude.{ℕ, List}
use Rattle.source_sink.specs.declared.recorded.Piece.{Piece}
use Rattle.source_sink.specs.declared.recorded.Piece.TheVariants.{Bytes}

abbrev pub bytes_of : Piece → List ℕ
bytes_of (Bytes bytes) = bytes.now
