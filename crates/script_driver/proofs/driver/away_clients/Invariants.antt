use Rattle.std.proofs.Common.{◌≡◌, ℕ, length}
use Rattle.std.specs.Prelude.{slice_get, Some}
use Rattle.journal_rules.specs.Client.{away}
use Rattle.share_client.specs.Clients.{Numbered}
use Rattle.script_driver.proofs.driver.away_clients.Given as goal

abbrev pub invariant-loop-number : goal.invariant-loop-number
invariant-loop-number l = (length l.clients.items ≡ l.number) × ((c : ℕ) (x : Numbered) → slice_get l.clients.items c ≡ Some x → x ≡ record { client = c; now = away })
