use Rattle.std.proofs.Common.{◌≡◌, ◌++◌, ◌&&◌, All, vec_len}
use Rattle.std.specs.List.{list_all}
use Rattle.crew.specs.Places.{IsSeated, has_closed, sights_of}
use Rattle.crew.specs.Seats.{IsFirst, IsSameFirst}
use Rattle.crew.proofs.seating.take_in.Given as goal

abbrev pub invariant-loop-place : goal.invariant-loop-place
invariant-loop-place g l = record {
  first : IsFirst l.board l.seat × IsSameFirst l.initial.seat l.seat;
  count : l.seat.view.count ≡ l.initial.seat.view.count;
  seated : All (IsSeated l.board) l.places.items;
  joined : l.seat.view.joined ++ sights_of l.places.items ≡ l.initial.seat.view.joined ++ sights_of l.initial.places.items;
  closed : (list_all has_closed l.places.items && l.all) ≡ list_all has_closed l.initial.places.items;
}

abbrev pub decreases-loop-place : goal.decreases-loop-place
decreases-loop-place g l = vec_len l.places
