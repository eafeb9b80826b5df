-- Keepers that fail: their journals follow too.
use Rattle.std.proofs.Common.{List, [], ◌∷◌, ◌++◌, true, false, refl, inl, inr, take}
use Rattle.std.specs.Prelude.{Some, None, Ok}
use Rattle.ot_op.specs.declared.comp.Comp.TheVariants as comp
use Rattle.ot_transform.specs.Crossing.{crossed}
use Rattle.journal_entries.specs.declared.update.Outcome.TheVariants.{Applied, Refused}
use Rattle.journal_entries.specs.declared.update.Cause.TheVariants as cause
use Rattle.journal_entries.specs.declared.message.Brief.TheVariants as brief
use Rattle.journal_entries.specs.declared.why.Why.TheVariants as why
use Rattle.journal_entries.specs.declared.act.Act.TheVariants as act
use Rattle.journal_entries.specs.declared.act.Entry.{Entry}
use Rattle.journal_rules.specs.Documents.{makings, applied_list, sent, committed}
use Rattle.journal_rules.specs.Legal.{closed}
use Rattle.journal_rules.specs.Locks.{clock, acquirings, last_acquiring, released, used}
use Rattle.journal_rules.specs.Mail.{outbox}
use Rattle.journal_rules.specs.Client.{client}
use Rattle.journal_rules.specs.Keeping.{kept, cached, loading}
use Rattle.journal_rules.specs.History.{all_history, handed}
use Rattle.session_lines.specs.declared.line.Line.{Line}
use Rattle.session_lines.specs.declared.line.Line.TheVariants as line
use Rattle.turn_rules.specs.Draining.{Done}
use Rattle.run_rules.specs.Ending.{Ends}
use Rattle.run_rules.specs.Follows.{Follows}
use Rattle.run_rules.specs.Keeping.{nothing_kept, keeping}
use Rattle.run_rules.specs.Lines.{Leads, numbered}
use Rattle.turn_rules.specs.Turns.{Alone, entry_by}

abbrev pub failing_e0 : Entry
failing_e0 = entry_by 0 (Some 1) (act.Made 0 (97 ∷ []) (112 ∷ []) (97 ∷ 98 ∷ []) 0)

abbrev pub failing_e1 : Entry
failing_e1 = entry_by 0 (Some 2) (act.Sent (record { doc = 0; client = None; number = 0; source = 1; dup = []; user = 117 ∷ []; track = false; ms = 0; v = 0; op = ((comp.Ins 0 (120 ∷ [])) ∷ []) }))

abbrev pub failing_e2 : Entry
failing_e2 = entry_by 0 (Some 3) (act.Acquired 0 1 30000)

abbrev pub failing_e3 : Entry
failing_e3 = entry_by 0 (Some 3) (act.Committed 0 1 1 (Applied 0 ((comp.Ins 0 (120 ∷ [])) ∷ [])))

abbrev pub failing_e4 : Entry
failing_e4 = entry_by 0 (Some 3) (act.Released 0 1)

abbrev pub failing_e5 : Entry
failing_e5 = entry_by 0 (Some 4) (act.Acquired 0 2 30000)

abbrev pub failing_e6 : Entry
failing_e6 = entry_by 0 (Some 4) (act.Flushed 0 2 1)

abbrev pub failing_e7 : Entry
failing_e7 = entry_by 0 (Some 4) (act.Released 0 2)

abbrev pub failing_e8 : Entry
failing_e8 = entry_by 0 (Some 5) (act.Acquired 0 3 30000)

abbrev pub failing_e9 : Entry
failing_e9 = entry_by 0 (Some 5) (act.Unloaded 0 3)

abbrev pub failing_e10 : Entry
failing_e10 = entry_by 0 (Some 5) (act.Released 0 3)

abbrev pub failing_e11 : Entry
failing_e11 = entry_by 0 (Some 6) (act.Sent (record { doc = 0; client = None; number = 0; source = 2; dup = []; user = 117 ∷ []; track = false; ms = 0; v = 1; op = ((comp.Ins 0 (121 ∷ [])) ∷ []) }))

abbrev pub failing_e12 : Entry
failing_e12 = entry_by 0 (Some 7) (act.Acquired 0 4 30000)

abbrev pub failing_e13 : Entry
failing_e13 = entry_by 0 (Some 7) (act.Loaded 0 (Some 4) 1)

abbrev pub failing_e14 : Entry
failing_e14 = entry_by 0 (Some 7) (act.Committed 0 4 11 (Applied 1 ((comp.Ins 0 (121 ∷ [])) ∷ [])))

abbrev pub failing_e15 : Entry
failing_e15 = entry_by 0 (Some 7) (act.Released 0 4)

abbrev pub failing_e16 : Entry
failing_e16 = entry_by 0 (Some 8) (act.Acquired 0 5 30000)

abbrev pub failing_e17 : Entry
failing_e17 = entry_by 0 (Some 8) (act.Flushed 0 5 2)

abbrev pub failing_e18 : Entry
failing_e18 = entry_by 0 (Some 8) (act.Released 0 5)

abbrev pub failing_e19 : Entry
failing_e19 = entry_by 0 (Some 9) (act.Acquired 0 6 30000)

abbrev pub failing_e20 : Entry
failing_e20 = entry_by 0 (Some 9) (act.Unloaded 0 6)

abbrev pub failing_e21 : Entry
failing_e21 = entry_by 0 (Some 9) (act.Released 0 6)

abbrev pub failing_e22 : Entry
failing_e22 = entry_by 0 (Some 10) (act.Sent (record { doc = 0; client = None; number = 0; source = 3; dup = []; user = 117 ∷ []; track = false; ms = 0; v = 2; op = ((comp.Ins 0 (122 ∷ [])) ∷ []) }))

abbrev pub failing_e23 : Entry
failing_e23 = entry_by 0 (Some 11) (act.Acquired 0 7 30000)

abbrev pub failing_e24 : Entry
failing_e24 = entry_by 0 (Some 11) (act.LoadFailed 0 (Some 7) 0 1)

abbrev pub failing_e25 : Entry
failing_e25 = entry_by 0 (Some 11) (act.Committed 0 7 22 (Refused cause.StoreFault))

abbrev pub failing_e26 : Entry
failing_e26 = entry_by 0 (Some 11) (act.Released 0 7)

abbrev pub failing_e27 : Entry
failing_e27 = entry_by 0 (Some 12) (act.Sent (record { doc = 0; client = None; number = 0; source = 4; dup = []; user = 117 ∷ []; track = false; ms = 0; v = 2; op = ((comp.Ins 0 (122 ∷ [])) ∷ []) }))

abbrev pub failing_e28 : Entry
failing_e28 = entry_by 0 (Some 13) (act.Acquired 0 8 30000)

abbrev pub failing_e29 : Entry
failing_e29 = entry_by 0 (Some 13) (act.Loaded 0 (Some 8) 2)

abbrev pub failing_e30 : Entry
failing_e30 = entry_by 0 (Some 13) (act.Committed 0 8 27 (Applied 2 ((comp.Ins 0 (122 ∷ [])) ∷ [])))

abbrev pub failing_e31 : Entry
failing_e31 = entry_by 0 (Some 13) (act.Released 0 8)

abbrev pub failing_e32 : Entry
failing_e32 = entry_by 0 None (act.Closed 0)

abbrev pub failing_e33 : Entry
failing_e33 = entry_by 0 None (act.Ticked 30000)

abbrev pub failing_e34 : Entry
failing_e34 = entry_by 0 None (act.Acquired 0 9 60000)

abbrev pub failing_e35 : Entry
failing_e35 = entry_by 0 None (act.Flushed 0 9 3)

abbrev pub failing_e36 : Entry
failing_e36 = entry_by 0 None (act.Released 0 9)

abbrev pub failing : List Entry
failing = failing_e0 ∷ failing_e1 ∷ failing_e2 ∷ failing_e3 ∷ failing_e4 ∷ failing_e5 ∷ failing_e6 ∷ failing_e7 ∷ failing_e8 ∷ failing_e9 ∷ failing_e10 ∷ failing_e11 ∷ failing_e12 ∷ failing_e13 ∷ failing_e14 ∷ failing_e15 ∷ failing_e16 ∷ failing_e17 ∷ failing_e18 ∷ failing_e19 ∷ failing_e20 ∷ failing_e21 ∷ failing_e22 ∷ failing_e23 ∷ failing_e24 ∷ failing_e25 ∷ failing_e26 ∷ failing_e27 ∷ failing_e28 ∷ failing_e29 ∷ failing_e30 ∷ failing_e31 ∷ failing_e32 ∷ failing_e33 ∷ failing_e34 ∷ failing_e35 ∷ failing_e36 ∷ []

abbrev pub failing_lines : List Line
failing_lines =
    line.Doc (97 ∷ []) (112 ∷ []) (97 ∷ 98 ∷ []) 0
    ∷ line.Raw 0 (97 ∷ []) (117 ∷ []) 1 ([]) false 0 (Ok ((comp.Ins 0 (120 ∷ [])) ∷ []))
    ∷ line.Drain 0 (97 ∷ [])
    ∷ line.Flush 0 (97 ∷ [])
    ∷ line.Unload 0 (97 ∷ [])
    ∷ line.Raw 0 (97 ∷ []) (117 ∷ []) 2 ([]) false 1 (Ok ((comp.Ins 0 (121 ∷ [])) ∷ []))
    ∷ line.Drain 0 (97 ∷ [])
    ∷ line.Flush 0 (97 ∷ [])
    ∷ line.Unload 0 (97 ∷ [])
    ∷ line.Raw 0 (97 ∷ []) (117 ∷ []) 3 ([]) false 2 (Ok ((comp.Ins 0 (122 ∷ [])) ∷ []))
    ∷ line.Drain 0 (97 ∷ [])
    ∷ line.Raw 0 (97 ∷ []) (117 ∷ []) 4 ([]) false 2 (Ok ((comp.Ins 0 (122 ∷ [])) ∷ []))
    ∷ line.Drain 0 (97 ∷ [])
    ∷ []

failing_leads : Leads 0 Alone (numbered 1 failing_lines) nothing_kept [] (take 32 failing)
unfolding makings applied_list sent committed clock acquirings last_acquiring released used outbox client kept cached loading all_history handed closed crossed
failing_leads = (
  (take 1 failing),
  nothing_kept,
  (((take 0 failing), (failing_e0 ∷ []), refl, refl, refl), refl),
  (
    (take 2 failing),
    nothing_kept,
    (((take 1 failing), (failing_e1 ∷ []), refl, refl, refl), refl),
    (
      (take 5 failing),
      nothing_kept,
      (((take 2 failing), refl, ((take 5 failing), Done, inr ((take 5 failing), (1, true, (take 3 failing), ((take 2 failing), (failing_e2 ∷ []), refl, (record { free = refl; ticket = 1; rest = []; first = refl; token_is = refl; loading = []; caches = (refl, refl); made_is = refl }), refl), ((take 4 failing), ((take 3 failing), (failing_e3 ∷ []), refl, inl ((act.Committed 0 1 1 (Applied 0 ((comp.Ins 0 (120 ∷ [])) ∷ []))), (1, (Applied 0 ((comp.Ins 0 (120 ∷ [])) ∷ [])), refl), refl), refl), ((take 4 failing), (failing_e4 ∷ []), refl, inl ((act.Released 0 1), refl, refl), refl))), (refl, refl)), refl)), refl),
      (
        (take 8 failing),
        nothing_kept,
        (((take 5 failing), refl, ((take 6 failing), refl, inl ((act.Flushed 0 2 1), inl (1, refl), ((take 7 failing), (failing_e7 ∷ []), refl, inl ((act.Released 0 2), refl, refl), refl)))), refl),
        (
          (take 11 failing),
          nothing_kept,
          (((take 8 failing), (failing_e8 ∷ failing_e9 ∷ failing_e10 ∷ []), refl, refl, refl), refl),
          (
            (take 12 failing),
            nothing_kept,
            (((take 11 failing), (failing_e11 ∷ []), refl, refl, refl), refl),
            (
              (take 16 failing),
              nothing_kept,
              (((take 12 failing), refl, ((take 16 failing), Done, inr ((take 16 failing), (4, true, (take 14 failing), ((take 12 failing), (failing_e12 ∷ failing_e13 ∷ []), refl, (record { free = refl; ticket = 11; rest = []; first = refl; token_is = refl; loading = ((act.Loaded 0 (Some 4) 1) ∷ []); caches = ((act.Loaded 0 (Some 4) 1), (1, refl), refl); made_is = refl }), refl), ((take 15 failing), ((take 14 failing), (failing_e14 ∷ []), refl, inl ((act.Committed 0 4 11 (Applied 1 ((comp.Ins 0 (121 ∷ [])) ∷ []))), (11, (Applied 1 ((comp.Ins 0 (121 ∷ [])) ∷ [])), refl), refl), refl), ((take 15 failing), (failing_e15 ∷ []), refl, inl ((act.Released 0 4), refl, refl), refl))), (refl, refl)), refl)), refl),
              (
                (take 19 failing),
                nothing_kept,
                (((take 16 failing), refl, ((take 17 failing), refl, inl ((act.Flushed 0 5 2), inl (2, refl), ((take 18 failing), (failing_e18 ∷ []), refl, inl ((act.Released 0 5), refl, refl), refl)))), refl),
                (
                  (take 22 failing),
                  nothing_kept,
                  (((take 19 failing), (failing_e19 ∷ failing_e20 ∷ failing_e21 ∷ []), refl, refl, refl), refl),
                  (
                    (take 23 failing),
                    nothing_kept,
                    (((take 22 failing), (failing_e22 ∷ []), refl, refl, refl), refl),
                    (
                      (take 27 failing),
                      nothing_kept,
                      (((take 23 failing), refl, ((take 27 failing), Done, inr ((take 27 failing), (7, false, (take 26 failing), ((take 23 failing), (failing_e23 ∷ failing_e24 ∷ failing_e25 ∷ []), refl, (record { free = refl; ticket = 22; rest = []; first = refl; token_is = refl; loading = ((act.LoadFailed 0 (Some 7) 0 1) ∷ []); caches = ((act.LoadFailed 0 (Some 7) 0 1), inl (0, 1, refl), refl); made_is = refl }), refl), ((take 26 failing), (failing_e26 ∷ []), refl, inl ((act.Released 0 7), refl, refl), refl)), (refl, refl)), refl)), refl),
                      (
                        (take 28 failing),
                        nothing_kept,
                        (((take 27 failing), (failing_e27 ∷ []), refl, refl, refl), refl),
                        (
                          (take 32 failing),
                          nothing_kept,
                          (((take 28 failing), refl, ((take 32 failing), Done, inr ((take 32 failing), (8, true, (take 30 failing), ((take 28 failing), (failing_e28 ∷ failing_e29 ∷ []), refl, (record { free = refl; ticket = 27; rest = []; first = refl; token_is = refl; loading = ((act.Loaded 0 (Some 8) 2) ∷ []); caches = ((act.Loaded 0 (Some 8) 2), (2, refl), refl); made_is = refl }), refl), ((take 31 failing), ((take 30 failing), (failing_e30 ∷ []), refl, inl ((act.Committed 0 8 27 (Applied 2 ((comp.Ins 0 (122 ∷ [])) ∷ []))), (27, (Applied 2 ((comp.Ins 0 (122 ∷ [])) ∷ [])), refl), refl), refl), ((take 31 failing), (failing_e31 ∷ []), refl, inl ((act.Released 0 8), refl, refl), refl))), (refl, refl)), refl)), refl),
                          refl,
                        ),
                      ),
                    ),
                  ),
                ),
              ),
            ),
          ),
        ),
      ),
    ),
  ),
)

failing_ends : Ends 1 ((take 32 failing) ++ entry_by 0 None (act.Closed 0) ∷ []) failing
unfolding makings applied_list sent committed clock acquirings last_acquiring released used outbox client kept cached loading all_history handed closed crossed
failing_ends = ((take 34 failing), inl (refl, refl), ((take 34 failing), refl, ((take 35 failing), refl, inl ((act.Flushed 0 9 3), inl (3, refl), ((take 36 failing), (failing_e36 ∷ []), refl, inl ((act.Released 0 9), refl, refl), refl)))))

failing_follows : Follows failing_lines 1 failing
failing_follows = record { done = (take 32 failing); leads = failing_leads; ends = failing_ends }

abbrev pub failing_holds_e0 : Entry
failing_holds_e0 = entry_by 0 (Some 1) (act.Made 0 (97 ∷ []) (112 ∷ []) (97 ∷ 98 ∷ []) 0)

abbrev pub failing_holds_e1 : Entry
failing_holds_e1 = entry_by 0 (Some 2) (act.Acquired 0 1 30000)

abbrev pub failing_holds_e2 : Entry
failing_holds_e2 = entry_by 0 (Some 2) (act.FlushFailed 0 1 0 1)

abbrev pub failing_holds_e3 : Entry
failing_holds_e3 = entry_by 0 (Some 2) (act.Released 0 1)

abbrev pub failing_holds_e4 : Entry
failing_holds_e4 = entry_by 0 (Some 3) (act.Acquired 0 2 30000)

abbrev pub failing_holds_e5 : Entry
failing_holds_e5 = entry_by 0 (Some 3) (act.Flushed 0 2 0)

abbrev pub failing_holds_e6 : Entry
failing_holds_e6 = entry_by 0 (Some 3) (act.Released 0 2)

abbrev pub failing_holds_e7 : Entry
failing_holds_e7 = entry_by 0 (Some 4) (act.Acquired 0 3 30000)

abbrev pub failing_holds_e8 : Entry
failing_holds_e8 = entry_by 0 (Some 4) (act.Unloaded 0 3)

abbrev pub failing_holds_e9 : Entry
failing_holds_e9 = entry_by 0 (Some 4) (act.Released 0 3)

abbrev pub failing_holds_e10 : Entry
failing_holds_e10 = entry_by 0 (Some 5) (act.Sent (record { doc = 0; client = None; number = 0; source = 1; dup = []; user = 117 ∷ []; track = false; ms = 0; v = 0; op = ((comp.Ins 0 (120 ∷ [])) ∷ []) }))

abbrev pub failing_holds_e11 : Entry
failing_holds_e11 = entry_by 0 (Some 6) (act.LoadFailed 0 None 1 2)

abbrev pub failing_holds_e12 : Entry
failing_holds_e12 = entry_by 0 (Some 6) (act.Declined 1 why.StoreFault)

abbrev pub failing_holds_e13 : Entry
failing_holds_e13 = entry_by 0 (Some 7) (act.Acquired 0 4 30000)

abbrev pub failing_holds_e14 : Entry
failing_holds_e14 = entry_by 0 (Some 7) (act.LoadFailed 0 (Some 4) 2 3)

abbrev pub failing_holds_e15 : Entry
failing_holds_e15 = entry_by 0 (Some 7) (act.Committed 0 4 10 (Refused cause.StoreFault))

abbrev pub failing_holds_e16 : Entry
failing_holds_e16 = entry_by 0 (Some 7) (act.Released 0 4)

abbrev pub failing_holds_e17 : Entry
failing_holds_e17 = entry_by 0 (Some 8) (act.Declined 0 why.Empty)

abbrev pub failing_holds_e18 : Entry
failing_holds_e18 = entry_by 0 (Some 9) (act.Sent (record { doc = 0; client = None; number = 0; source = 2; dup = []; user = 117 ∷ []; track = false; ms = 0; v = 0; op = ((comp.Ins 0 (121 ∷ [])) ∷ []) }))

abbrev pub failing_holds_e19 : Entry
failing_holds_e19 = entry_by 0 (Some 10) (act.Acquired 0 5 30000)

abbrev pub failing_holds_e20 : Entry
failing_holds_e20 = entry_by 0 (Some 10) (act.Loaded 0 (Some 5) 0)

abbrev pub failing_holds_e21 : Entry
failing_holds_e21 = entry_by 0 (Some 11) (act.Declined 0 why.Holding)

abbrev pub failing_holds_e22 : Entry
failing_holds_e22 = entry_by 0 (Some 12) (act.Joined 1 0 (117 ∷ []) false None 1000022 0)

abbrev pub failing_holds_e23 : Entry
failing_holds_e23 = entry_by 0 (Some 13) (act.Committed 0 5 18 (Applied 0 ((comp.Ins 0 (121 ∷ [])) ∷ [])))

abbrev pub failing_holds_e24 : Entry
failing_holds_e24 = entry_by 0 (Some 13) (act.Released 0 5)

abbrev pub failing_holds_e25 : Entry
failing_holds_e25 = entry_by 0 (Some 14) (act.Got 1 (brief.Op 0))

abbrev pub failing_holds_e26 : Entry
failing_holds_e26 = entry_by 0 None (act.Closed 0)

abbrev pub failing_holds_e27 : Entry
failing_holds_e27 = entry_by 0 None (act.Ticked 30000)

abbrev pub failing_holds_e28 : Entry
failing_holds_e28 = entry_by 0 None (act.Acquired 0 6 60000)

abbrev pub failing_holds_e29 : Entry
failing_holds_e29 = entry_by 0 None (act.Flushed 0 6 1)

abbrev pub failing_holds_e30 : Entry
failing_holds_e30 = entry_by 0 None (act.Released 0 6)

abbrev pub failing_holds : List Entry
failing_holds = failing_holds_e0 ∷ failing_holds_e1 ∷ failing_holds_e2 ∷ failing_holds_e3 ∷ failing_holds_e4 ∷ failing_holds_e5 ∷ failing_holds_e6 ∷ failing_holds_e7 ∷ failing_holds_e8 ∷ failing_holds_e9 ∷ failing_holds_e10 ∷ failing_holds_e11 ∷ failing_holds_e12 ∷ failing_holds_e13 ∷ failing_holds_e14 ∷ failing_holds_e15 ∷ failing_holds_e16 ∷ failing_holds_e17 ∷ failing_holds_e18 ∷ failing_holds_e19 ∷ failing_holds_e20 ∷ failing_holds_e21 ∷ failing_holds_e22 ∷ failing_holds_e23 ∷ failing_holds_e24 ∷ failing_holds_e25 ∷ failing_holds_e26 ∷ failing_holds_e27 ∷ failing_holds_e28 ∷ failing_holds_e29 ∷ failing_holds_e30 ∷ []

abbrev pub failing_holds_lines : List Line
failing_holds_lines =
    line.Doc (97 ∷ []) (112 ∷ []) (97 ∷ 98 ∷ []) 0
    ∷ line.Flush 0 (97 ∷ [])
    ∷ line.Flush 0 (97 ∷ [])
    ∷ line.Unload 0 (97 ∷ [])
    ∷ line.Raw 0 (97 ∷ []) (117 ∷ []) 1 ([]) false 0 (Ok ((comp.Ins 0 (120 ∷ [])) ∷ []))
    ∷ line.Join 1 (97 ∷ []) (117 ∷ []) false
    ∷ line.Hold 0 (97 ∷ [])
    ∷ line.Hold 0 (97 ∷ [])
    ∷ line.Raw 0 (97 ∷ []) (117 ∷ []) 2 ([]) false 0 (Ok ((comp.Ins 0 (121 ∷ [])) ∷ []))
    ∷ line.Hold 0 (97 ∷ [])
    ∷ line.Hold 0 (97 ∷ [])
    ∷ line.Join 1 (97 ∷ []) (117 ∷ []) false
    ∷ line.Finish 0
    ∷ line.Sync 1
    ∷ []

failing_holds_leads : Leads 0 Alone (numbered 1 failing_holds_lines) nothing_kept [] (take 26 failing_holds)
unfolding makings applied_list sent committed clock acquirings last_acquiring released used outbox client kept cached loading all_history handed closed crossed
failing_holds_leads = (
  (take 1 failing_holds),
  nothing_kept,
  (((take 0 failing_holds), (failing_holds_e0 ∷ []), refl, refl, refl), refl),
  (
    (take 4 failing_holds),
    nothing_kept,
    (((take 1 failing_holds), refl, ((take 2 failing_holds), refl, inl ((act.FlushFailed 0 1 0 1), inr (0, 1, refl), ((take 3 failing_holds), (failing_holds_e3 ∷ []), refl, inl ((act.Released 0 1), refl, refl), refl)))), refl),
    (
      (take 7 failing_holds),
      nothing_kept,
      (((take 4 failing_holds), refl, ((take 5 failing_holds), refl, inl ((act.Flushed 0 2 0), inl (0, refl), ((take 6 failing_holds), (failing_holds_e6 ∷ []), refl, inl ((act.Released 0 2), refl, refl), refl)))), refl),
      (
        (take 10 failing_holds),
        nothing_kept,
        (((take 7 failing_holds), (failing_holds_e7 ∷ failing_holds_e8 ∷ failing_holds_e9 ∷ []), refl, refl, refl), refl),
        (
          (take 11 failing_holds),
          nothing_kept,
          (((take 10 failing_holds), (failing_holds_e10 ∷ []), refl, refl, refl), refl),
          (
            (take 13 failing_holds),
            nothing_kept,
            (((take 11 failing_holds), (failing_holds_e11 ∷ failing_holds_e12 ∷ []), refl, (false, ((act.LoadFailed 0 None 1 2) ∷ []), ((act.LoadFailed 0 None 1 2), inl (1, 2, refl), refl), refl), refl), refl),
            (
              (take 17 failing_holds),
              nothing_kept,
              ((take 13 failing_holds), refl, (4, false, (failing_holds_e13 ∷ failing_holds_e14 ∷ failing_holds_e15 ∷ []), (record { free = refl; ticket = 10; rest = []; first = refl; token_is = refl; loading = ((act.LoadFailed 0 (Some 4) 2 3) ∷ []); caches = ((act.LoadFailed 0 (Some 4) 2 3), inl (2, 3, refl), refl); made_is = refl }), (((take 16 failing_holds), (failing_holds_e16 ∷ []), refl, inl ((act.Released 0 4), refl, refl), refl), refl))),
              (
                (take 18 failing_holds),
                nothing_kept,
                ((take 17 failing_holds), refl, (refl, refl)),
                (
                  (take 19 failing_holds),
                  nothing_kept,
                  (((take 18 failing_holds), (failing_holds_e18 ∷ []), refl, refl, refl), refl),
                  (
                    (take 21 failing_holds),
                    (keeping 0 (Some (record { doc = 0; token = 5 })) nothing_kept),
                    ((take 19 failing_holds), refl, (5, true, (failing_holds_e19 ∷ failing_holds_e20 ∷ []), (record { free = refl; ticket = 18; rest = []; first = refl; token_is = refl; loading = ((act.Loaded 0 (Some 5) 0) ∷ []); caches = ((act.Loaded 0 (Some 5) 0), (0, refl), refl); made_is = refl }), (refl, refl))),
                    (
                      (take 22 failing_holds),
                      (keeping 0 (Some (record { doc = 0; token = 5 })) nothing_kept),
                      ((take 21 failing_holds), refl, (refl, refl)),
                      (
                        (take 23 failing_holds),
                        (keeping 0 (Some (record { doc = 0; token = 5 })) nothing_kept),
                        (((take 22 failing_holds), (failing_holds_e22 ∷ []), refl, (true, [], (refl, refl), refl), refl), refl),
                        (
                          (take 25 failing_holds),
                          (keeping 0 None (keeping 0 (Some (record { doc = 0; token = 5 })) nothing_kept)),
                          (((take 23 failing_holds), (failing_holds_e23 ∷ failing_holds_e24 ∷ []), refl, (18, (Applied 0 ((comp.Ins 0 (121 ∷ [])) ∷ [])), record { update = _; named = refl; cached_is = refl; outcome_is = refl }, refl), refl), refl),
                          (
                            (take 26 failing_holds),
                            (keeping 0 None (keeping 0 (Some (record { doc = 0; token = 5 })) nothing_kept)),
                            (((take 25 failing_holds), refl, ((take 25 failing_holds), Done, (refl, refl), (1, ((take 26 failing_holds), ((take 25 failing_holds), (failing_holds_e25 ∷ []), refl, (_, _, refl, refl), refl), (refl, refl))))), refl),
                            refl,
                          ),
                        ),
                      ),
                    ),
                  ),
                ),
              ),
            ),
          ),
        ),
      ),
    ),
  ),
)

failing_holds_ends : Ends 2 ((take 26 failing_holds) ++ entry_by 0 None (act.Closed 0) ∷ []) failing_holds
unfolding makings applied_list sent committed clock acquirings last_acquiring released used outbox client kept cached loading all_history handed closed crossed
failing_holds_ends = ((take 28 failing_holds), inl (refl, refl), ((take 28 failing_holds), refl, ((take 29 failing_holds), refl, inl ((act.Flushed 0 6 1), inl (1, refl), ((take 30 failing_holds), (failing_holds_e30 ∷ []), refl, inl ((act.Released 0 6), refl, refl), refl)))))

failing_holds_follows : Follows failing_holds_lines 2 failing_holds
failing_holds_follows = record { done = (take 26 failing_holds); leads = failing_holds_leads; ends = failing_holds_ends }
