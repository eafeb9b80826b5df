use Rattle.std.proofs.Crossing.{crosses, sync as heap_sync}
use denote.Param.Send.{sendable}
use Rattle.crew.proofs.Crossing.{book_send}
use Rattle.crew.proofs.Sending.{board_sync, flushed_send, seat_send}
use Rattle.crew.proofs.together.go_beside.Goals as goal

pub join-requires-send-A : goal.join-requires-send-A
join-requires-send-A g c = search (flushed_send, sendable) depth 20

pub join-requires-send-F : goal.join-requires-send-F
join-requires-send-F g c = search (seat_send, board_sync, book_send, heap_sync, crosses, sendable) depth 30
