use Rattle.wake_queue.proofs.queue.WakeQueue.pop.Given as goal

abbrev pub ghosts-pop_as_number : goal.ghosts-pop_as_number
ghosts-pop_as_number g a = record { number = a.pass.now.id }
