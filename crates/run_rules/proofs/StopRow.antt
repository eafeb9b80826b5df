-- A drain among others that finds nothing left, while another still holds the lock.
use Rattle.std.proofs.Common.{List, [], ◌∷◌, ◌++◌, false, refl, inl}
use Rattle.std.specs.Prelude.{Some, None}
use Rattle.ot_op.specs.declared.comp.Comp.TheVariants as comp
use Rattle.journal_entries.specs.declared.update.Outcome.TheVariants.{Applied}
use Rattle.journal_entries.specs.declared.act.Act.TheVariants as act
use Rattle.journal_entries.specs.declared.act.Entry.{Entry}
use Rattle.journal_rules.specs.Documents.{makings, sent, committed}
use Rattle.journal_rules.specs.Locks.{clock, last_acquiring, released}
use Rattle.session_lines.specs.declared.line.Line.TheVariants as line
use Rattle.turn_rules.specs.Draining.{Done, HeldUp, StopsAt}
use Rattle.run_rules.specs.Keeping.{nothing_kept}
use Rattle.run_rules.specs.Lines.{Does}
use Rattle.run_rules.specs.Threads.{is_by}
use Rattle.turn_rules.specs.Turns.{Among, entry_by}

-- what the driver of seat 1 sees first: one update waits
abbrev pub one_waits : List Entry
one_waits =
    entry_by 0 (Some 1) (act.Made 0 (97 ∷ []) (112 ∷ []) (97 ∷ []) 0)
    ∷ entry_by 1 (Some 2) (act.Sent (record { doc = 0; client = None; number = 0; source = 7; dup = []; user = 117 ∷ []; track = false; ms = 0; v = 0; op = comp.Ins 1 (88 ∷ []) ∷ [] }))
    ∷ []

-- and then: the worker of seat 2 committed it, and hasn't released the lock
abbrev pub by_another : List Entry
by_another = entry_by 2 None (act.Acquired 0 1 30000) ∷ entry_by 2 None (act.Committed 0 1 1 (Applied 0 (comp.Ins 1 (88 ∷ []) ∷ []))) ∷ []

silent : Does 1 (Among (is_by 1)) 3 (line.Drain 0 (97 ∷ [])) nothing_kept one_waits (one_waits ++ by_another) nothing_kept
unfolding makings sent committed clock last_acquiring released
silent = ((one_waits, ([], refl, refl), (one_waits ++ by_another, Done, inl ((by_another, refl, refl), refl), refl)), refl)

-- it isn't held up there
pub not_held_up : StopsAt 0 (one_waits ++ by_another) (HeldUp (record { token = 1; until = 30000 })) → ⊥
unfolding makings sent committed clock last_acquiring released
not_held_up e = absurd (cc)
