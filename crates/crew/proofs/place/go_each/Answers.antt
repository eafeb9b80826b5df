use Rattle.std.proofs.Crossing.{crosses, sync as heap_sync}
use denote.Param.Send.{sendable}
use Rattle.crew.proofs.Crossing.{book_send}
use Rattle.crew.proofs.Sending.{board_sync, place_send, wakes_sync}
use Rattle.crew.proofs.place.go_each.Goals as goal

pub for_each_mut-requires-send-T : goal.for_each_mut-requires-send-T
for_each_mut-requires-send-T g c = search (place_send, sendable) depth 20

pub for_each_mut-requires-sync-F : goal.for_each_mut-requires-sync-F
for_each_mut-requires-sync-F g c = λ k lives. search (board_sync, book_send, wakes_sync, heap_sync, crosses, sendable) depth 30
