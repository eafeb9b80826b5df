-- A pass between two calls.
use Rattle.std.specs.Prelude.{◌≡◌, None}
use Rattle.atomic_blocks.specs.declared.web.Seat.{Seat}

-- it carries nothing
abbrev pub IsFree : {S D A : Type 0} → Seat S D A → Type 0
IsFree pass = (pass.me.hand ≡ None) × (pass.me.spare ≡ None)
