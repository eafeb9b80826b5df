use Rattle.std.proofs.Common.{◌∙◌}
use Rattle.workers.proofs.Courses.{course, course_swept, swept_at, unlocked_behind}
use Rattle.workers.proofs.working.work.Goals as goal

pub returns-in-Memory-clause-works : goal.returns-in-Memory-clause-works
returns-in-Memory-clause-works g c = λ other. course _ _ _ _ _ c.sit_down.ensures.same.0 (c.sit_down.ensures.among other) c.follow_wakes-followed.ensures.works

pub returns-in-Memory-clause-unlocked : goal.returns-in-Memory-clause-unlocked
returns-in-Memory-clause-unlocked g c = λ other none.
    unlocked_behind _ _ _ (course _ _ _ _ _ c.sit_down.ensures.same.0 (c.sit_down.ensures.among other) c.follow_wakes-followed.ensures.works) none

pub returns-in-Closed-clause-works : goal.returns-in-Closed-clause-works
returns-in-Closed-clause-works g c = λ other.
    let s = c.sit_down.ensures in
    let f = c.follow_wakes-followed.ensures in
    course_swept _ _ _ _ _ _ _ s.same.0 (f.same.0 ∙ s.same.0) (s.among other) f.works c.sweep-end.ensures.works

pub returns-in-Closed-clause-unlocked : goal.returns-in-Closed-clause-unlocked
returns-in-Closed-clause-unlocked g c = λ other none.
    let s = c.sit_down.ensures in
    let f = c.follow_wakes-followed.ensures in
    unlocked_behind _ _ _ (course_swept _ _ _ _ _ _ _ s.same.0 (f.same.0 ∙ s.same.0) (s.among other) f.works c.sweep-end.ensures.works) none

pub returns-in-Closed-clause-swept : goal.returns-in-Closed-clause-swept
returns-in-Closed-clause-swept g c =
    let s = c.sit_down.ensures in
    let f = c.follow_wakes-followed.ensures in
    swept_at _ _ _ _ _ _ c.sweep-end.result (f.same.0 ∙ s.same.0) (λ other. course _ _ _ _ _ s.same.0 (s.among other) f.works) c.sweep-end.ensures.swept
