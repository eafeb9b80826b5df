-- Worked rows with workers: these journals follow their scripts.
use Rattle.std.proofs.Common.{◌≡◌, ℕ, List, [], ◌∷◌, ◌++◌, true, false, refl, inl, inr, take, drop, ◌<◌, zero, suc, length, arith}
use Rattle.std.specs.Prelude.{Some, None, Ok}
use Rattle.ot_op.specs.declared.comp.Comp.TheVariants as comp
use Rattle.ot_transform.specs.Crossing.{crossed}
use Rattle.expiring_lock.specs.declared.refusal.Stale.TheVariants as stale
use Rattle.journal_entries.specs.declared.update.Outcome.TheVariants.{Applied}
use Rattle.journal_entries.specs.declared.message.Brief.TheVariants as brief
use Rattle.journal_entries.specs.declared.why.Why.TheVariants as why
use Rattle.journal_entries.specs.declared.act.Act.TheVariants as act
use Rattle.journal_entries.specs.declared.act.Entry.{Entry}
use Rattle.journal_rules.specs.Documents.{makings, applied_list, sent, committed}
use Rattle.journal_rules.specs.Legal.{closed}
use Rattle.journal_rules.specs.Locks.{clock, acquirings, last_acquiring, released, used}
use Rattle.journal_rules.specs.Mail.{outbox}
use Rattle.journal_rules.specs.Client.{client}
use Rattle.journal_rules.specs.Keeping.{kept, cached, loading}
use Rattle.journal_rules.specs.History.{all_history, handed}
use Rattle.session_lines.specs.declared.line.Line.{Line}
use Rattle.session_lines.specs.declared.line.Line.TheVariants as line
use Rattle.turn_rules.specs.Draining.{Done}
use Rattle.run_rules.specs.Ending.{Ends}
use Rattle.run_rules.specs.Keeping.{nothing_kept}
use Rattle.run_rules.specs.Lines.{Leads}
use Rattle.run_rules.specs.Threads.{Crew, document_lines, is_by, lines_of_driver, DriverFollows, DrainsOn, WorkerFollows, FlushesOn, IsClosed, IsSwept, FollowsTogether}
use Rattle.turn_rules.specs.Turns.{Alone, Among, entry_by}

abbrev pub crossed_locks_e0 : Entry
crossed_locks_e0 = entry_by 0 (Some 1) (act.Made 0 (97 ∷ []) (112 ∷ []) (97 ∷ 98 ∷ 99 ∷ []) 0)

abbrev pub crossed_locks_e1 : Entry
crossed_locks_e1 = entry_by 1 (Some 2) (act.Joined 0 0 (117 ∷ []) false None 1000001 0)

abbrev pub crossed_locks_e2 : Entry
crossed_locks_e2 = entry_by 1 (Some 3) (act.Edited 0 (comp.Ins 1 (88 ∷ [])))

abbrev pub crossed_locks_e3 : Entry
crossed_locks_e3 = entry_by 1 (Some 4) (act.Sent (record { doc = 0; client = (Some 0); number = 1; source = 1000001; dup = []; user = 117 ∷ []; track = false; ms = 0; v = 0; op = ((comp.Ins 1 (88 ∷ [])) ∷ []) }))

abbrev pub crossed_locks_e4 : Entry
crossed_locks_e4 = entry_by 3 None (act.Acquired 0 1 30000)

abbrev pub crossed_locks_e5 : Entry
crossed_locks_e5 = entry_by 3 None (act.Flushed 0 1 0)

abbrev pub crossed_locks_e6 : Entry
crossed_locks_e6 = entry_by 1 (Some 5) (act.Ticked 30000)

abbrev pub crossed_locks_e7 : Entry
crossed_locks_e7 = entry_by 2 None (act.Acquired 0 2 60000)

abbrev pub crossed_locks_e8 : Entry
crossed_locks_e8 = entry_by 2 None (act.Committed 0 2 3 (Applied 0 ((comp.Ins 1 (88 ∷ [])) ∷ [])))

abbrev pub crossed_locks_e9 : Entry
crossed_locks_e9 = entry_by 2 None (act.Released 0 2)

abbrev pub crossed_locks_e10 : Entry
crossed_locks_e10 = entry_by 1 (Some 6) (act.Got 0 (brief.Ack 0))

abbrev pub crossed_locks_e11 : Entry
crossed_locks_e11 = entry_by 1 (Some 7) (act.Acquired 0 3 60000)

abbrev pub crossed_locks_e12 : Entry
crossed_locks_e12 = entry_by 1 (Some 7) (act.Flushed 0 3 1)

abbrev pub crossed_locks_e13 : Entry
crossed_locks_e13 = entry_by 1 (Some 7) (act.Released 0 3)

abbrev pub crossed_locks_e14 : Entry
crossed_locks_e14 = entry_by 1 None (act.Closed 0)

abbrev pub crossed_locks_e15 : Entry
crossed_locks_e15 = entry_by 0 None (act.Ticked 30000)

abbrev pub crossed_locks : List Entry
crossed_locks = crossed_locks_e0 ∷ crossed_locks_e1 ∷ crossed_locks_e2 ∷ crossed_locks_e3 ∷ crossed_locks_e4 ∷ crossed_locks_e5 ∷ crossed_locks_e6 ∷ crossed_locks_e7 ∷ crossed_locks_e8 ∷ crossed_locks_e9 ∷ crossed_locks_e10 ∷ crossed_locks_e11 ∷ crossed_locks_e12 ∷ crossed_locks_e13 ∷ crossed_locks_e14 ∷ crossed_locks_e15 ∷ []

abbrev pub crossed_locks_lines : List Line
crossed_locks_lines =
    line.Doc (97 ∷ []) (112 ∷ []) (97 ∷ 98 ∷ 99 ∷ []) 0
    ∷ line.Join 0 (97 ∷ []) (117 ∷ []) false
    ∷ line.Ins 0 1 (88 ∷ [])
    ∷ line.Send 0
    ∷ line.Tick 0 30000
    ∷ line.Sync 0
    ∷ line.Flush 0 (97 ∷ [])
    ∷ []

abbrev pub crossed_locks_crew : Crew
crossed_locks_crew = record { drivers = 1; workers = 1 }

crossed_locks_makes : Leads 0 Alone (document_lines crossed_locks_lines) nothing_kept [] (take 1 crossed_locks)
unfolding makings applied_list sent committed clock acquirings last_acquiring released used outbox client kept cached loading all_history handed closed crossed
crossed_locks_makes = (
  (take 1 crossed_locks),
  nothing_kept,
  (((take 0 crossed_locks), (crossed_locks_e0 ∷ []), refl, refl, refl), refl),
  refl,
)

crossed_locks_driver_0_leads : Leads 1 (Among (is_by 1)) (lines_of_driver crossed_locks_crew 0 crossed_locks_lines) nothing_kept (take 1 crossed_locks) (take 14 crossed_locks)
unfolding makings applied_list sent committed clock acquirings last_acquiring released used outbox client kept cached loading all_history handed closed crossed
crossed_locks_driver_0_leads = (
  (take 2 crossed_locks),
  nothing_kept,
  (((take 1 crossed_locks), (crossed_locks_e1 ∷ []), (([]), refl, refl), (true, [], (refl, refl), refl), refl), refl),
  (
    (take 3 crossed_locks),
    nothing_kept,
    (((take 2 crossed_locks), (crossed_locks_e2 ∷ []), (([]), refl, refl), refl, refl), refl),
    (
      (take 4 crossed_locks),
      nothing_kept,
      (((take 3 crossed_locks), (crossed_locks_e3 ∷ []), (([]), refl, refl), refl, refl), refl),
      (
        (take 7 crossed_locks),
        nothing_kept,
        (((take 6 crossed_locks), (crossed_locks_e6 ∷ []), ((crossed_locks_e4 ∷ crossed_locks_e5 ∷ []), refl, refl), refl, refl), refl),
        (
          (take 11 crossed_locks),
          nothing_kept,
          (((take 10 crossed_locks), ((crossed_locks_e7 ∷ crossed_locks_e8 ∷ crossed_locks_e9 ∷ []), refl, refl), ((take 10 crossed_locks), Done, (refl, refl), (1, ((take 11 crossed_locks), ((take 10 crossed_locks), (crossed_locks_e10 ∷ []), (([]), refl, refl), (_, _, refl, refl), refl), ((([]), refl, refl), refl))))), refl),
          (
            (take 14 crossed_locks),
            nothing_kept,
            (((take 11 crossed_locks), (([]), refl, refl), ((take 12 crossed_locks), (([]), refl, refl), inl ((act.Flushed 0 3 1), inl (1, refl), ((take 13 crossed_locks), (crossed_locks_e13 ∷ []), (([]), refl, refl), inl ((act.Released 0 3), refl, refl), refl)))), refl),
            refl,
          ),
        ),
      ),
    ),
  ),
)

crossed_locks_driver_0 : DriverFollows crossed_locks_crew crossed_locks_lines (take 1 crossed_locks) (take 1 crossed_locks ++ take 14 (drop 1 crossed_locks)) 0
crossed_locks_driver_0 = record { done = (take 14 crossed_locks); leads = crossed_locks_driver_0_leads; look = (take 14 crossed_locks); next = (([]), refl, refl); more = (([]), refl, refl) }

crossed_locks_worker_0 : DrainsOn 2 1 (take 1 crossed_locks) (take 1 crossed_locks ++ take 14 (drop 1 crossed_locks))
unfolding makings applied_list sent committed clock acquirings last_acquiring released used outbox client kept cached loading all_history handed closed crossed
crossed_locks_worker_0 = (0, (take 10 crossed_locks), (2, true, (take 8 crossed_locks), ((take 7 crossed_locks), (crossed_locks_e7 ∷ []), ((crossed_locks_e1 ∷ crossed_locks_e2 ∷ crossed_locks_e3 ∷ crossed_locks_e4 ∷ crossed_locks_e5 ∷ crossed_locks_e6 ∷ []), refl, refl), (record { free = refl; ticket = 3; rest = []; first = refl; token_is = refl; loading = []; caches = (refl, refl); made_is = refl }), refl), ((take 9 crossed_locks), ((take 8 crossed_locks), (crossed_locks_e8 ∷ []), (([]), refl, refl), inl ((act.Committed 0 2 3 (Applied 0 ((comp.Ins 1 (88 ∷ [])) ∷ []))), (3, (Applied 0 ((comp.Ins 1 (88 ∷ [])) ∷ [])), refl), refl), refl), ((take 9 crossed_locks), (crossed_locks_e9 ∷ []), (([]), refl, refl), inl ((act.Released 0 2), refl, refl), refl))), ((crossed_locks_e10 ∷ crossed_locks_e11 ∷ crossed_locks_e12 ∷ crossed_locks_e13 ∷ crossed_locks_e14 ∷ []), refl, refl))

crossed_locks_flusher : FlushesOn 3 1 (take 1 crossed_locks) (take 1 crossed_locks ++ take 14 (drop 1 crossed_locks))
unfolding makings applied_list sent committed clock acquirings last_acquiring released used outbox client kept cached loading all_history handed closed crossed
crossed_locks_flusher = (0, (take 4 crossed_locks), (take 8 crossed_locks), ((crossed_locks_e1 ∷ crossed_locks_e2 ∷ crossed_locks_e3 ∷ []), refl, refl), refl, ((take 5 crossed_locks), (([]), refl, refl), inl ((act.Flushed 0 1 0), inl (0, refl), ((take 8 crossed_locks), [], ((crossed_locks_e6 ∷ crossed_locks_e7 ∷ []), refl, refl), inr ((λ (e : 2 ≡ 1). omega (arith, e)), refl), refl))), ((crossed_locks_e8 ∷ crossed_locks_e9 ∷ crossed_locks_e10 ∷ crossed_locks_e11 ∷ crossed_locks_e12 ∷ crossed_locks_e13 ∷ crossed_locks_e14 ∷ []), refl, refl))

crossed_locks_closed_at_15 : IsClosed crossed_locks_crew (take 15 crossed_locks)
unfolding makings applied_list sent committed clock acquirings last_acquiring released used outbox client kept cached loading all_history handed closed crossed
crossed_locks_closed_at_15 zero h = refl
crossed_locks_closed_at_15 (suc n) h = absurd (omega (arith, h))

crossed_locks_swept : (doc : ℕ) → doc < length (makings (take 1 crossed_locks)) → IsSwept crossed_locks_crew (take 1 crossed_locks ++ take 14 (drop 1 crossed_locks)) doc
unfolding makings applied_list sent committed clock acquirings last_acquiring released used outbox client kept cached loading all_history handed closed crossed
crossed_locks_swept zero h = record { seen = take 15 crossed_locks; rest = take 0 (drop 15 crossed_locks); journal_is = refl; closed = crossed_locks_closed_at_15; left = inl refl }
crossed_locks_swept (suc n) h = absurd (omega (arith, h))

crossed_locks_drivers : (d : ℕ) → d < 1 → DriverFollows crossed_locks_crew crossed_locks_lines (take 1 crossed_locks) (take 1 crossed_locks ++ take 14 (drop 1 crossed_locks)) d
unfolding makings applied_list sent committed clock acquirings last_acquiring released used outbox client kept cached loading all_history handed closed crossed
crossed_locks_drivers zero h = crossed_locks_driver_0
crossed_locks_drivers (suc n) h = absurd (omega (arith, h))

crossed_locks_workers : (w : ℕ) → w < 1 → WorkerFollows crossed_locks_crew (take 1 crossed_locks) (take 1 crossed_locks ++ take 14 (drop 1 crossed_locks)) w
unfolding makings applied_list sent committed clock acquirings last_acquiring released used outbox client kept cached loading all_history handed closed crossed
crossed_locks_workers zero h = (1, crossed_locks_worker_0)
crossed_locks_workers (suc n) h = absurd (omega (arith, h))

crossed_locks_ends : Ends 1 (take 1 crossed_locks ++ take 14 (drop 1 crossed_locks)) crossed_locks
unfolding makings applied_list sent committed clock acquirings last_acquiring released used outbox client kept cached loading all_history handed closed crossed
crossed_locks_ends = ((take 16 crossed_locks), inl (refl, refl), ((take 16 crossed_locks), refl, refl))

crossed_locks_follows : FollowsTogether crossed_locks_crew crossed_locks_lines 1 crossed_locks
crossed_locks_follows = record { start = take 1 crossed_locks; makes = crossed_locks_makes; between = take 14 (drop 1 crossed_locks); crew_only = refl; driver = crossed_locks_drivers; worker = crossed_locks_workers; flusher = (1, crossed_locks_flusher); swept = crossed_locks_swept; ends = crossed_locks_ends }

abbrev pub taken_over_e0 : Entry
taken_over_e0 = entry_by 0 (Some 1) (act.Made 0 (97 ∷ []) (112 ∷ []) (97 ∷ 98 ∷ 99 ∷ []) 0)

abbrev pub taken_over_e1 : Entry
taken_over_e1 = entry_by 1 (Some 2) (act.Sent (record { doc = 0; client = None; number = 0; source = 1; dup = []; user = 117 ∷ []; track = false; ms = 0; v = 0; op = ((comp.Ins 1 (88 ∷ [])) ∷ []) }))

abbrev pub taken_over_e2 : Entry
taken_over_e2 = entry_by 3 None (act.Acquired 0 1 30000)

abbrev pub taken_over_e3 : Entry
taken_over_e3 = entry_by 2 (Some 3) (act.Ticked 30000)

abbrev pub taken_over_e4 : Entry
taken_over_e4 = entry_by 1 (Some 4) (act.Acquired 0 2 60000)

abbrev pub taken_over_e5 : Entry
taken_over_e5 = entry_by 1 (Some 4) (act.Committed 0 2 1 (Applied 0 ((comp.Ins 1 (88 ∷ [])) ∷ [])))

abbrev pub taken_over_e6 : Entry
taken_over_e6 = entry_by 1 (Some 4) (act.Released 0 2)

abbrev pub taken_over_e7 : Entry
taken_over_e7 = entry_by 1 None (act.Closed 0)

abbrev pub taken_over_e8 : Entry
taken_over_e8 = entry_by 2 None (act.Closed 1)

abbrev pub taken_over_e9 : Entry
taken_over_e9 = entry_by 4 None (act.Acquired 0 3 60000)

abbrev pub taken_over_e10 : Entry
taken_over_e10 = entry_by 4 None (act.Flushed 0 3 1)

abbrev pub taken_over_e11 : Entry
taken_over_e11 = entry_by 4 None (act.Released 0 3)

abbrev pub taken_over_e12 : Entry
taken_over_e12 = entry_by 0 None (act.Ticked 30000)

abbrev pub taken_over : List Entry
taken_over = taken_over_e0 ∷ taken_over_e1 ∷ taken_over_e2 ∷ taken_over_e3 ∷ taken_over_e4 ∷ taken_over_e5 ∷ taken_over_e6 ∷ taken_over_e7 ∷ taken_over_e8 ∷ taken_over_e9 ∷ taken_over_e10 ∷ taken_over_e11 ∷ taken_over_e12 ∷ []

abbrev pub taken_over_lines : List Line
taken_over_lines =
    line.Doc (97 ∷ []) (112 ∷ []) (97 ∷ 98 ∷ 99 ∷ []) 0
    ∷ line.Raw 0 (97 ∷ []) (117 ∷ []) 1 ([]) false 0 (Ok ((comp.Ins 1 (88 ∷ [])) ∷ []))
    ∷ line.Tick 1 30000
    ∷ line.Drain 0 (97 ∷ [])
    ∷ []

abbrev pub taken_over_crew : Crew
taken_over_crew = record { drivers = 2; workers = 1 }

taken_over_makes : Leads 0 Alone (document_lines taken_over_lines) nothing_kept [] (take 1 taken_over)
unfolding makings applied_list sent committed clock acquirings last_acquiring released used outbox client kept cached loading all_history handed closed crossed
taken_over_makes = (
  (take 1 taken_over),
  nothing_kept,
  (((take 0 taken_over), (taken_over_e0 ∷ []), refl, refl, refl), refl),
  refl,
)

taken_over_driver_0_leads : Leads 1 (Among (is_by 1)) (lines_of_driver taken_over_crew 0 taken_over_lines) nothing_kept (take 1 taken_over) (take 7 taken_over)
unfolding makings applied_list sent committed clock acquirings last_acquiring released used outbox client kept cached loading all_history handed closed crossed
taken_over_driver_0_leads = (
  (take 2 taken_over),
  nothing_kept,
  (((take 1 taken_over), (taken_over_e1 ∷ []), (([]), refl, refl), refl, refl), refl),
  (
    (take 7 taken_over),
    nothing_kept,
    (((take 4 taken_over), ((taken_over_e2 ∷ taken_over_e3 ∷ []), refl, refl), ((take 7 taken_over), Done, inr ((take 7 taken_over), (2, true, (take 5 taken_over), ((take 4 taken_over), (taken_over_e4 ∷ []), (([]), refl, refl), (record { free = refl; ticket = 1; rest = []; first = refl; token_is = refl; loading = []; caches = (refl, refl); made_is = refl }), refl), ((take 6 taken_over), ((take 5 taken_over), (taken_over_e5 ∷ []), (([]), refl, refl), inl ((act.Committed 0 2 1 (Applied 0 ((comp.Ins 1 (88 ∷ [])) ∷ []))), (1, (Applied 0 ((comp.Ins 1 (88 ∷ [])) ∷ [])), refl), refl), refl), ((take 6 taken_over), (taken_over_e6 ∷ []), (([]), refl, refl), inl ((act.Released 0 2), refl, refl), refl))), (refl, refl)), refl)), refl),
    refl,
  ),
)

taken_over_driver_0 : DriverFollows taken_over_crew taken_over_lines (take 1 taken_over) (take 1 taken_over ++ take 11 (drop 1 taken_over)) 0
taken_over_driver_0 = record { done = (take 7 taken_over); leads = taken_over_driver_0_leads; look = (take 7 taken_over); next = (([]), refl, refl); more = ((taken_over_e8 ∷ taken_over_e9 ∷ taken_over_e10 ∷ taken_over_e11 ∷ []), refl, refl) }

taken_over_driver_1_leads : Leads 2 (Among (is_by 2)) (lines_of_driver taken_over_crew 1 taken_over_lines) nothing_kept (take 1 taken_over) (take 4 taken_over)
unfolding makings applied_list sent committed clock acquirings last_acquiring released used outbox client kept cached loading all_history handed closed crossed
taken_over_driver_1_leads = (
  (take 4 taken_over),
  nothing_kept,
  (((take 3 taken_over), (taken_over_e3 ∷ []), ((taken_over_e1 ∷ taken_over_e2 ∷ []), refl, refl), refl, refl), refl),
  refl,
)

taken_over_driver_1 : DriverFollows taken_over_crew taken_over_lines (take 1 taken_over) (take 1 taken_over ++ take 11 (drop 1 taken_over)) 1
taken_over_driver_1 = record { done = (take 4 taken_over); leads = taken_over_driver_1_leads; look = (take 8 taken_over); next = ((taken_over_e4 ∷ taken_over_e5 ∷ taken_over_e6 ∷ taken_over_e7 ∷ []), refl, refl); more = ((taken_over_e9 ∷ taken_over_e10 ∷ taken_over_e11 ∷ []), refl, refl) }

taken_over_worker_0 : DrainsOn 3 1 (take 1 taken_over) (take 1 taken_over ++ take 11 (drop 1 taken_over))
unfolding makings applied_list sent committed clock acquirings last_acquiring released used outbox client kept cached loading all_history handed closed crossed
taken_over_worker_0 = (0, (take 5 taken_over), (1, true, (take 3 taken_over), ((take 2 taken_over), (taken_over_e2 ∷ []), ((taken_over_e1 ∷ []), refl, refl), (record { free = refl; ticket = 1; rest = []; first = refl; token_is = refl; loading = []; caches = (refl, refl); made_is = refl }), refl), ((take 5 taken_over), ((take 5 taken_over), [], ((taken_over_e3 ∷ taken_over_e4 ∷ []), refl, refl), inr ((λ (e : 2 ≡ 1). omega (arith, e)), refl), refl), ((take 5 taken_over), [], (([]), refl, refl), inr ((λ (e : 2 ≡ 1). omega (arith, e)), refl), refl))), ((taken_over_e5 ∷ taken_over_e6 ∷ taken_over_e7 ∷ taken_over_e8 ∷ taken_over_e9 ∷ taken_over_e10 ∷ taken_over_e11 ∷ []), refl, refl))

taken_over_flusher : FlushesOn 4 1 (take 1 taken_over) (take 1 taken_over ++ take 11 (drop 1 taken_over))
unfolding makings applied_list sent committed clock acquirings last_acquiring released used outbox client kept cached loading all_history handed closed crossed
taken_over_flusher = (0, (take 9 taken_over), (take 12 taken_over), ((taken_over_e1 ∷ taken_over_e2 ∷ taken_over_e3 ∷ taken_over_e4 ∷ taken_over_e5 ∷ taken_over_e6 ∷ taken_over_e7 ∷ taken_over_e8 ∷ []), refl, refl), refl, ((take 10 taken_over), (([]), refl, refl), inl ((act.Flushed 0 3 1), inl (1, refl), ((take 11 taken_over), (taken_over_e11 ∷ []), (([]), refl, refl), inl ((act.Released 0 3), refl, refl), refl))), (([]), refl, refl))

taken_over_closed_at_9 : IsClosed taken_over_crew (take 9 taken_over)
unfolding makings applied_list sent committed clock acquirings last_acquiring released used outbox client kept cached loading all_history handed closed crossed
taken_over_closed_at_9 zero h = refl
taken_over_closed_at_9 (suc zero) h = refl
taken_over_closed_at_9 (suc (suc n)) h = absurd (omega (arith, h))

taken_over_swept : (doc : ℕ) → doc < length (makings (take 1 taken_over)) → IsSwept taken_over_crew (take 1 taken_over ++ take 11 (drop 1 taken_over)) doc
unfolding makings applied_list sent committed clock acquirings last_acquiring released used outbox client kept cached loading all_history handed closed crossed
taken_over_swept zero h = record { seen = take 9 taken_over; rest = take 3 (drop 9 taken_over); journal_is = refl; closed = taken_over_closed_at_9; left = inl refl }
taken_over_swept (suc n) h = absurd (omega (arith, h))

taken_over_drivers : (d : ℕ) → d < 2 → DriverFollows taken_over_crew taken_over_lines (take 1 taken_over) (take 1 taken_over ++ take 11 (drop 1 taken_over)) d
unfolding makings applied_list sent committed clock acquirings last_acquiring released used outbox client kept cached loading all_history handed closed crossed
taken_over_drivers zero h = taken_over_driver_0
taken_over_drivers (suc zero) h = taken_over_driver_1
taken_over_drivers (suc (suc n)) h = absurd (omega (arith, h))

taken_over_workers : (w : ℕ) → w < 1 → WorkerFollows taken_over_crew (take 1 taken_over) (take 1 taken_over ++ take 11 (drop 1 taken_over)) w
unfolding makings applied_list sent committed clock acquirings last_acquiring released used outbox client kept cached loading all_history handed closed crossed
taken_over_workers zero h = (1, taken_over_worker_0)
taken_over_workers (suc n) h = absurd (omega (arith, h))

taken_over_ends : Ends 2 (take 1 taken_over ++ take 11 (drop 1 taken_over)) taken_over
unfolding makings applied_list sent committed clock acquirings last_acquiring released used outbox client kept cached loading all_history handed closed crossed
taken_over_ends = ((take 13 taken_over), inl (refl, refl), ((take 13 taken_over), refl, refl))

taken_over_follows : FollowsTogether taken_over_crew taken_over_lines 2 taken_over
taken_over_follows = record { start = take 1 taken_over; makes = taken_over_makes; between = take 11 (drop 1 taken_over); crew_only = refl; driver = taken_over_drivers; worker = taken_over_workers; flusher = (1, taken_over_flusher); swept = taken_over_swept; ends = taken_over_ends }

abbrev pub too_late_e0 : Entry
too_late_e0 = entry_by 0 (Some 1) (act.Made 0 (97 ∷ []) (112 ∷ []) (97 ∷ 98 ∷ 99 ∷ []) 0)

abbrev pub too_late_e1 : Entry
too_late_e1 = entry_by 1 (Some 2) (act.Acquired 0 1 30000)

abbrev pub too_late_e2 : Entry
too_late_e2 = entry_by 2 (Some 3) (act.Ticked 30000)

abbrev pub too_late_e3 : Entry
too_late_e3 = entry_by 4 None (act.Acquired 0 2 60000)

abbrev pub too_late_e4 : Entry
too_late_e4 = entry_by 4 None (act.Flushed 0 2 0)

abbrev pub too_late_e5 : Entry
too_late_e5 = entry_by 2 (Some 4) (act.Declined 1 (why.Busy (record { token = 2; until = 60000 })))

abbrev pub too_late_e6 : Entry
too_late_e6 = entry_by 4 None (act.Released 0 2)

abbrev pub too_late_e7 : Entry
too_late_e7 = entry_by 2 None (act.Closed 1)

abbrev pub too_late_e8 : Entry
too_late_e8 = entry_by 1 (Some 2) (act.Declined 0 (why.Stale (stale.Other 2)))

abbrev pub too_late_e9 : Entry
too_late_e9 = entry_by 1 None (act.Closed 0)

abbrev pub too_late_e10 : Entry
too_late_e10 = entry_by 0 None (act.Ticked 30000)

abbrev pub too_late : List Entry
too_late = too_late_e0 ∷ too_late_e1 ∷ too_late_e2 ∷ too_late_e3 ∷ too_late_e4 ∷ too_late_e5 ∷ too_late_e6 ∷ too_late_e7 ∷ too_late_e8 ∷ too_late_e9 ∷ too_late_e10 ∷ []

abbrev pub too_late_lines : List Line
too_late_lines =
    line.Doc (97 ∷ []) (112 ∷ []) (97 ∷ 98 ∷ 99 ∷ []) 0
    ∷ line.Flush 0 (97 ∷ [])
    ∷ line.Tick 1 30000
    ∷ line.Flush 1 (97 ∷ [])
    ∷ []

abbrev pub too_late_crew : Crew
too_late_crew = record { drivers = 2; workers = 1 }

too_late_makes : Leads 0 Alone (document_lines too_late_lines) nothing_kept [] (take 1 too_late)
unfolding makings applied_list sent committed clock acquirings last_acquiring released used outbox client kept cached loading all_history handed closed crossed
too_late_makes = (
  (take 1 too_late),
  nothing_kept,
  (((take 0 too_late), (too_late_e0 ∷ []), refl, refl, refl), refl),
  refl,
)

too_late_driver_0_leads : Leads 1 (Among (is_by 1)) (lines_of_driver too_late_crew 0 too_late_lines) nothing_kept (take 1 too_late) (take 9 too_late)
unfolding makings applied_list sent committed clock acquirings last_acquiring released used outbox client kept cached loading all_history handed closed crossed
too_late_driver_0_leads = (
  (take 9 too_late),
  nothing_kept,
  (((take 1 too_late), (([]), refl, refl), ((take 8 too_late), ((too_late_e2 ∷ too_late_e3 ∷ too_late_e4 ∷ too_late_e5 ∷ too_late_e6 ∷ too_late_e7 ∷ []), refl, refl), inr ((λ (e : 2 ≡ 1). omega (arith, e)), refl))), refl),
  refl,
)

too_late_driver_0 : DriverFollows too_late_crew too_late_lines (take 1 too_late) (take 1 too_late ++ take 9 (drop 1 too_late)) 0
too_late_driver_0 = record { done = (take 9 too_late); leads = too_late_driver_0_leads; look = (take 9 too_late); next = (([]), refl, refl); more = (([]), refl, refl) }

too_late_driver_1_leads : Leads 2 (Among (is_by 2)) (lines_of_driver too_late_crew 1 too_late_lines) nothing_kept (take 1 too_late) (take 6 too_late)
unfolding makings applied_list sent committed clock acquirings last_acquiring released used outbox client kept cached loading all_history handed closed crossed
too_late_driver_1_leads = (
  (take 3 too_late),
  nothing_kept,
  (((take 2 too_late), (too_late_e2 ∷ []), ((too_late_e1 ∷ []), refl, refl), refl, refl), refl),
  (
    (take 6 too_late),
    nothing_kept,
    (((take 5 too_late), ((too_late_e3 ∷ too_late_e4 ∷ []), refl, refl), refl), refl),
    refl,
  ),
)

too_late_driver_1 : DriverFollows too_late_crew too_late_lines (take 1 too_late) (take 1 too_late ++ take 9 (drop 1 too_late)) 1
too_late_driver_1 = record { done = (take 6 too_late); leads = too_late_driver_1_leads; look = (take 7 too_late); next = ((too_late_e6 ∷ []), refl, refl); more = ((too_late_e8 ∷ too_late_e9 ∷ []), refl, refl) }

too_late_worker_0 : DrainsOn 3 0 (take 1 too_late) (take 1 too_late ++ take 9 (drop 1 too_late))
unfolding makings applied_list sent committed clock acquirings last_acquiring released used outbox client kept cached loading all_history handed closed crossed
too_late_worker_0 = ((too_late_e1 ∷ too_late_e2 ∷ too_late_e3 ∷ too_late_e4 ∷ too_late_e5 ∷ too_late_e6 ∷ too_late_e7 ∷ too_late_e8 ∷ too_late_e9 ∷ []), refl, refl)

too_late_flusher : FlushesOn 4 1 (take 1 too_late) (take 1 too_late ++ take 9 (drop 1 too_late))
unfolding makings applied_list sent committed clock acquirings last_acquiring released used outbox client kept cached loading all_history handed closed crossed
too_late_flusher = (0, (take 3 too_late), (take 7 too_late), ((too_late_e1 ∷ too_late_e2 ∷ []), refl, refl), refl, ((take 4 too_late), (([]), refl, refl), inl ((act.Flushed 0 2 0), inl (0, refl), ((take 6 too_late), (too_late_e6 ∷ []), ((too_late_e5 ∷ []), refl, refl), inl ((act.Released 0 2), refl, refl), refl))), ((too_late_e7 ∷ too_late_e8 ∷ too_late_e9 ∷ []), refl, refl))

too_late_closed_at_10 : IsClosed too_late_crew (take 10 too_late)
unfolding makings applied_list sent committed clock acquirings last_acquiring released used outbox client kept cached loading all_history handed closed crossed
too_late_closed_at_10 zero h = refl
too_late_closed_at_10 (suc zero) h = refl
too_late_closed_at_10 (suc (suc n)) h = absurd (omega (arith, h))

too_late_swept : (doc : ℕ) → doc < length (makings (take 1 too_late)) → IsSwept too_late_crew (take 1 too_late ++ take 9 (drop 1 too_late)) doc
unfolding makings applied_list sent committed clock acquirings last_acquiring released used outbox client kept cached loading all_history handed closed crossed
too_late_swept zero h = record { seen = take 10 too_late; rest = take 0 (drop 10 too_late); journal_is = refl; closed = too_late_closed_at_10; left = inl refl }
too_late_swept (suc n) h = absurd (omega (arith, h))

too_late_drivers : (d : ℕ) → d < 2 → DriverFollows too_late_crew too_late_lines (take 1 too_late) (take 1 too_late ++ take 9 (drop 1 too_late)) d
unfolding makings applied_list sent committed clock acquirings last_acquiring released used outbox client kept cached loading all_history handed closed crossed
too_late_drivers zero h = too_late_driver_0
too_late_drivers (suc zero) h = too_late_driver_1
too_late_drivers (suc (suc n)) h = absurd (omega (arith, h))

too_late_workers : (w : ℕ) → w < 1 → WorkerFollows too_late_crew (take 1 too_late) (take 1 too_late ++ take 9 (drop 1 too_late)) w
unfolding makings applied_list sent committed clock acquirings last_acquiring released used outbox client kept cached loading all_history handed closed crossed
too_late_workers zero h = (0, too_late_worker_0)
too_late_workers (suc n) h = absurd (omega (arith, h))

too_late_ends : Ends 2 (take 1 too_late ++ take 9 (drop 1 too_late)) too_late
unfolding makings applied_list sent committed clock acquirings last_acquiring released used outbox client kept cached loading all_history handed closed crossed
too_late_ends = ((take 11 too_late), inl (refl, refl), ((take 11 too_late), refl, refl))

too_late_follows : FollowsTogether too_late_crew too_late_lines 2 too_late
too_late_follows = record { start = take 1 too_late; makes = too_late_makes; between = take 9 (drop 1 too_late); crew_only = refl; driver = too_late_drivers; worker = too_late_workers; flusher = (1, too_late_flusher); swept = too_late_swept; ends = too_late_ends }
