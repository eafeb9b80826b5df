-- What components make of the shown ranges.
use Rattle.std.specs.Prelude.{ℕ, ◌+◌, ◌^◌, ◌<◌, List, [], ◌∷◌}
use Rattle.std.specs.List.{All}
use Rattle.ot_op.specs.declared.comp.Comp.{Comp}
use Rattle.ot_op.specs.Operation.{place, units_of}
use Rattle.ranges_tracker.specs.Cells.{Stamp}
use Rattle.ranges_tracker.specs.declared.change.Change.{Change}
use Rattle.ranges_tracker.specs.declared.comment.Comment.{Comment}
use Rattle.ranges_tracker.specs.Tracked.{inserts_of, deletes_of, changes_in}
use Rattle.ranges_tracker.specs.Ordered.{Lined, Rising}
use Rattle.ranges_tracker.specs.Commented.{comments_in}

-- what a component makes of the shown ranges
abbrev pub ranges_in : List Change × List Comment → Comp → Stamp → ℕ → List Change × List Comment
ranges_in ranges comp stamp k = ((changes_in ranges.0 comp stamp k).changes, comments_in ranges.1 comp)

-- ranges and the count of marks after an operation
pub record Ranged : Type 0 where
  pub ranges : List Change × List Comment
  pub marks : ℕ

abbrev pub ranges_all : List Change × List Comment → List Comp → Stamp → ℕ → Ranged
ranges_all ranges [] stamp k = record { ranges = ranges; marks = k }
ranges_all ranges (c ∷ cs) stamp k = ranges_all (ranges_in ranges c stamp k) cs stamp (changes_in ranges.0 c stamp k).marks

-- the changes are in order, and the places stay below 2 ^ 32 through a component
pub record Roomy (ranges : List Change × List Comment) (comp : Comp) (k : ℕ) : Type 0 where
  pub place_fits : place comp + units_of comp < 2 ^ 32
  pub changes_fit : All (λ (c : Change). c.at + units_of comp < 2 ^ 32) ranges.0
  pub comments_fit : All (λ (c : Comment). c.at + units_of comp < 2 ^ 32) ranges.1
  pub few : k + 2 < 2 ^ 32
  pub inserts_lined : Lined 0 (inserts_of ranges.0)
  pub deletes_rise : Rising 0 (deletes_of ranges.0)

-- and through all
abbrev pub RoomyAll : List Change × List Comment → List Comp → Stamp → ℕ → Type 0
RoomyAll ranges [] stamp k = Unit {0}
RoomyAll ranges (c ∷ cs) stamp k = Roomy ranges c k × RoomyAll (ranges_in ranges c stamp k) cs stamp (changes_in ranges.0 c stamp k).marks
