use Rattle.flusher.proofs.Flushes.{course}
use Rattle.flusher.proofs.Holding.{none_by}
use Rattle.flusher.proofs.Visiting.{gone_at}
use Rattle.flusher.proofs.rounds.flush_loop.Goals as goal

pub returns-clause-flushes : goal.returns-clause-flushes
returns-clause-flushes g c = λ other. course _ _ _ _ _ _ c.sit_down.ensures.same.0 (c.sit_down.ensures.among other) c.go_rounds-end.ensures.flushes

pub returns-clause-unlocked : goal.returns-clause-unlocked
returns-clause-unlocked g c = λ other none.
    none_by _ c.go_rounds-end.result _ _ (course _ _ _ _ _ _ c.sit_down.ensures.same.0 (c.sit_down.ensures.among other) c.go_rounds-end.ensures.flushes) none

pub returns-clause-round : goal.returns-clause-round
returns-clause-round g c = gone_at c.go_rounds-end.result _ _ _ _ _ c.sit_down.ensures.same.0 c.sit_down.ensures.among c.go_rounds-end.ensures.round
