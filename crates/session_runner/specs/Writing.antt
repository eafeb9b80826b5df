-- What a sink has been given of a text.
use Rattle.std.specs.Prelude.{ℕ, List, Option, Result, Ok, Err}
use Rattle.source_sink.specs.Buffered.{Delivered, DeliveredPrefix}
use Rattle.session_runner.specs.declared.report.WriteFault.{WriteFault}

-- the whole text has gone to a buffer before the sink, or a part of it
abbrev pub Pushed : {A : Type 0} → Option (List ℕ) → Option (List ℕ) → List ℕ → List ℕ → Result A WriteFault → Type 0
Pushed start now held text (Ok done) = Delivered start now held text
Pushed start now held text (Err fault) = DeliveredPrefix start now held text
