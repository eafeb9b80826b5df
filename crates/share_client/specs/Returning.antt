-- What a client becomes by the operations that it missed.
use Rattle.std.specs.Prelude.{List, [], ◌∷◌}
use Rattle.journal_entries.specs.declared.message.Msg.TheVariants.{Op}
use Rattle.journal_rules.specs.Client.{Client, delivered}
use Rattle.share_client.specs.declared.returning.Missed.{Missed}

-- one of them is delivered at its version
abbrev pub with_missed : Client → Missed → Client
with_missed s m = delivered s (Op s.version m.op m.source)

-- and all of them in turn
abbrev pub with_all : Client → List Missed → Client
with_all s [] = s
with_all s (m ∷ ms) = with_all (with_missed s m) ms
