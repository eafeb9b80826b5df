-- What a component makes of the comments as they are shown.
use Rattle.std.specs.Prelude.{ℕ, ◌+◌, ◌-◌, List, [], ◌∷◌, ◌++◌, length, take, drop, map, ◌==◌, nat_le, nat_lt, if◌then◌else◌}
use Rattle.ot_units.specs.Text.{put_at}
use Rattle.ot_op.specs.declared.comp.Comp.{Comp}
use Rattle.ot_op.specs.declared.comp.Comp.TheVariants.{Ins, Del, Com}
use Rattle.ranges_tracker.specs.Cells.{squashed}
use Rattle.ranges_tracker.specs.declared.comment.Comment.{Comment}

abbrev pub comment_of : ℕ → ℕ → List ℕ → Comment
comment_of thread at text = record { thread = thread; at = at; text = text }

abbrev pub comment_with : ℕ → List ℕ → Comment → Comment
comment_with at part c = if nat_le at c.at then comment_of c.thread (c.at + length part) c.text
    else if nat_lt (at - c.at) (length c.text) then comment_of c.thread c.at (put_at c.text (at - c.at) part) else c

abbrev pub comment_without : ℕ → ℕ → Comment → Comment
comment_without at n c = comment_of c.thread (squashed at n c.at) (take (at - c.at) c.text ++ drop (at + n - c.at) c.text)

abbrev pub comment_past : Comp → Comment → Comment
comment_past (Ins at part) c = comment_with at part c
comment_past (Del at part) c = comment_without at (length part) c
comment_past (Com at part thread) c = c

abbrev pub comment_set : ℕ → ℕ → List ℕ → List Comment → List Comment
comment_set thread at text [] = comment_of thread at text ∷ []
comment_set thread at text (c ∷ cs) = if c.thread == thread then comment_of thread at text ∷ cs else c ∷ comment_set thread at text cs

abbrev pub comments_in : List Comment → Comp → List Comment
comments_in cs (Ins at part) = map (comment_past (Ins at part)) cs
comments_in cs (Del at part) = map (comment_without at (length part)) cs
comments_in cs (Com at part thread) = comment_set thread at part cs
