-- What crosses threads as a crew goes: seats, passes, places and what each leaves at its end.
use denote.RattleType.{RattleType}
use denote.Param.Send.{IsSend, IsSync, sendable}
use Rattle.std.proofs.Crossing.{crosses, send as heap_send, sync as heap_sync}
use Rattle.atomic_blocks.proofs.web.Seat.TheSendSync.{the_send as web_seat_send}
use Rattle.atomic_blocks.proofs.web.Web.TheSendSync.{the_sync as web_sync}
use Rattle.atomic_table.proofs.send_lease.SendLease.TheSendSync.{the_sync as lease_sync}
use Rattle.atomic_table.proofs.shared.Seat.TheSendSync.{the_send as table_seat_send}
use Rattle.atomic_table.proofs.shared.Shared.TheSendSync.{the_sync as shared_sync}
use Rattle.board.specs.contracts.board.Board as Board
use Rattle.board.specs.contracts.seat.Seat as Seat
use Rattle.board.specs.declared.journaled.Journaled.{Ghosts as BoardGhosts}
use Rattle.flusher.specs.contracts.rounds.FlusherDone as FlusherDone
use Rattle.keeper.specs.declared.keeper.Keeper.{Ghosts}
use Rattle.wake_queue.specs.contracts.queue.WakePass as WakePass
use Rattle.wake_queue.specs.contracts.queue.WakeQueue as WakeQueue
use Rattle.wake_queue.specs.declared.past.QueuePast.{Ghosts as PastGhosts}
use Rattle.crew.specs.contracts.place.Place as Place
use Rattle.crew.proofs.Crossing.{book_send}

module _ (B : RattleType) (b : BoardGhosts B.Denot) where
  pub seat_send : IsSend B → IsSend (Seat.the_field B b).row
  seat_send s = search (table_seat_send, crosses, sendable) depth 30

  pub board_sync : IsSend B → IsSync (Board.the_field B b).row
  board_sync s = search (shared_sync, lease_sync, heap_send, heap_sync, crosses, sendable) depth 30

module _ (N : RattleType) (n : PastGhosts N.Denot) where
  pub pass_send : IsSend (WakePass.the_field N n).row
  pass_send = search (web_seat_send, heap_send, crosses, sendable) depth 40

  pub wakes_sync : IsSync (WakeQueue.the_field N n).row
  wakes_sync = search (web_sync, heap_send, heap_sync, crosses, sendable) depth 40

module _ (K : RattleType) (k : Ghosts K.Denot) where
  pub place_send : IsSend K → IsSend (Place.the_field K k).row
  place_send s = search (seat_send, book_send, pass_send, crosses, sendable) depth 30

  pub flushed_send : IsSend K → IsSend (FlusherDone.the_field K k).row
  flushed_send s = search (seat_send, book_send, crosses, sendable) depth 30
