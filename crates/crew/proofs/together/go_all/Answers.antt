use Rattle.std.proofs.Crossing.{crosses, sync as heap_sync}
use denote.Param.{param}
use denote.Param.Send.{IsSend, IsSync, sendable}
use Rattle.crew.proofs.Crossing.{book_send}
use Rattle.crew.proofs.Sending.{board_sync, flushed_send, place_send, seat_send, wakes_sync}
use Rattle.crew.proofs.together.go_all.Goals as goal

pub join-flushed-requires-send-A : goal.join-flushed-requires-send-A
join-flushed-requires-send-A g c = search (flushed_send, place_send, crosses, sendable) depth 20

-- the bounds by name, since so many other facts are at hand
pub join-flushed-requires-send-F : goal.join-flushed-requires-send-F
join-flushed-requires-send-F g c =
    let keeper : IsSend (param 0 g.row.K) = c.type_bounds.send-K in
    let gate : IsSync (param 1 g.row.G) = c.type_bounds.sync-G in
    let threads : IsSync (param 2 g.row.R) = c.type_bounds.sync-R in
    λ k lives. search (place_send, seat_send, board_sync, wakes_sync, book_send, heap_sync, crosses, sendable) depth 30
