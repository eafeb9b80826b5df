-- Places of the changes of one kind have the room of all.
use Rattle.std.proofs.Common.{◌≡◌, ℕ, ◌+◌, ◌<◌, List, subst, sym}
use Rattle.std.specs.Prelude.{filter}
use Rattle.std.specs.List.{All}
use Rattle.std.proofs.lemmas.List.Elements.{All-filter}
use Rattle.ranges_tracker.specs.declared.change.Change.{Change}
use Rattle.ranges_tracker.specs.declared.change.ChangeKind.{ChangeKind}
use Rattle.ranges_tracker.specs.Shown.{same_kind}

pub room_of : (kind : ChangeKind) (n : ℕ) (cs ds : List Change) → ds ≡ filter (λ (c : Change). same_kind c.kind kind) cs → All (λ (c : Change). c.at + n < 4294967296) cs → All (λ (c : Change). c.at + n < 4294967296) ds
room_of kind n cs ds e h = subst (λ (x : List Change). All (λ (c : Change). c.at + n < 4294967296) x) (sym e) (All-filter (λ (c : Change). same_kind c.kind kind) (λ (c : Change). c.at + n < 4294967296) cs h)
