-- Worked rows: these journals follow their scripts.
use Rattle.std.proofs.Common.{List, [], ◌∷◌, ◌++◌, true, false, refl, inl, inr, take}
use Rattle.std.specs.Prelude.{Some, None, Ok}
use Rattle.ot_op.specs.declared.comp.Comp.TheVariants as comp
use Rattle.ot_transform.specs.Crossing.{crossed}
use Rattle.expiring_lock.specs.declared.refusal.Stale.TheVariants as stale
use Rattle.journal_entries.specs.declared.update.Outcome.TheVariants.{Applied, Dup}
use Rattle.journal_entries.specs.declared.message.Brief.TheVariants as brief
use Rattle.journal_entries.specs.declared.why.Why.TheVariants as why
use Rattle.journal_entries.specs.declared.act.Act.TheVariants as act
use Rattle.journal_entries.specs.declared.act.Entry.{Entry}
use Rattle.journal_rules.specs.Documents.{makings, applied_list, sent, committed}
use Rattle.journal_rules.specs.Legal.{closed}
use Rattle.journal_rules.specs.Locks.{clock, acquirings, last_acquiring, released, used}
use Rattle.journal_rules.specs.Mail.{outbox}
use Rattle.journal_rules.specs.Client.{client}
use Rattle.journal_rules.specs.Keeping.{kept, cached, loading}
use Rattle.journal_rules.specs.History.{all_history, handed}
use Rattle.session_lines.specs.declared.line.Line.{Line}
use Rattle.session_lines.specs.declared.line.Line.TheVariants as line
use Rattle.turn_rules.specs.Draining.{Done}
use Rattle.run_rules.specs.Ending.{Ends}
use Rattle.run_rules.specs.Follows.{Follows}
use Rattle.run_rules.specs.Keeping.{nothing_kept, keeping}
use Rattle.run_rules.specs.Lines.{Leads, numbered}
use Rattle.turn_rules.specs.Turns.{Alone, entry_by}

abbrev pub takeover_e0 : Entry
takeover_e0 = entry_by 0 (Some 1) (act.Made 0 (97 ∷ []) (112 ∷ []) (97 ∷ 98 ∷ 99 ∷ []) 0)

abbrev pub takeover_e1 : Entry
takeover_e1 = entry_by 0 (Some 2) (act.Sent (record { doc = 0; client = None; number = 0; source = 1; dup = []; user = 117 ∷ []; track = false; ms = 0; v = 0; op = ((comp.Ins 1 (88 ∷ [])) ∷ []) }))

abbrev pub takeover_e2 : Entry
takeover_e2 = entry_by 0 (Some 3) (act.Acquired 0 1 30000)

abbrev pub takeover_e3 : Entry
takeover_e3 = entry_by 0 (Some 4) (act.Ticked 29999)

abbrev pub takeover_e4 : Entry
takeover_e4 = entry_by 0 (Some 5) (act.Declined 3 (why.Busy (record { token = 1; until = 30000 })))

abbrev pub takeover_e5 : Entry
takeover_e5 = entry_by 0 (Some 6) (act.Ticked 1)

abbrev pub takeover_e6 : Entry
takeover_e6 = entry_by 0 (Some 7) (act.Acquired 0 2 60000)

abbrev pub takeover_e7 : Entry
takeover_e7 = entry_by 0 (Some 8) (act.Committed 0 2 1 (Applied 0 ((comp.Ins 1 (88 ∷ [])) ∷ [])))

abbrev pub takeover_e8 : Entry
takeover_e8 = entry_by 0 (Some 8) (act.Released 0 2)

abbrev pub takeover_e9 : Entry
takeover_e9 = entry_by 0 (Some 9) (act.Declined 1 (why.Stale (stale.Other 2)))

abbrev pub takeover_e10 : Entry
takeover_e10 = entry_by 0 None (act.Closed 0)

abbrev pub takeover_e11 : Entry
takeover_e11 = entry_by 0 None (act.Ticked 30000)

abbrev pub takeover_e12 : Entry
takeover_e12 = entry_by 0 None (act.Acquired 0 3 90000)

abbrev pub takeover_e13 : Entry
takeover_e13 = entry_by 0 None (act.Flushed 0 3 1)

abbrev pub takeover_e14 : Entry
takeover_e14 = entry_by 0 None (act.Released 0 3)

abbrev pub takeover : List Entry
takeover = takeover_e0 ∷ takeover_e1 ∷ takeover_e2 ∷ takeover_e3 ∷ takeover_e4 ∷ takeover_e5 ∷ takeover_e6 ∷ takeover_e7 ∷ takeover_e8 ∷ takeover_e9 ∷ takeover_e10 ∷ takeover_e11 ∷ takeover_e12 ∷ takeover_e13 ∷ takeover_e14 ∷ []

abbrev pub takeover_lines : List Line
takeover_lines =
    line.Doc (97 ∷ []) (112 ∷ []) (97 ∷ 98 ∷ 99 ∷ []) 0
    ∷ line.Raw 0 (97 ∷ []) (117 ∷ []) 1 ([]) false 0 (Ok ((comp.Ins 1 (88 ∷ [])) ∷ []))
    ∷ line.Hold 1 (97 ∷ [])
    ∷ line.Tick 2 29999
    ∷ line.Hold 3 (97 ∷ [])
    ∷ line.Tick 2 1
    ∷ line.Hold 3 (97 ∷ [])
    ∷ line.Finish 3
    ∷ line.Finish 1
    ∷ []

takeover_leads : Leads 0 Alone (numbered 1 takeover_lines) nothing_kept [] (take 10 takeover)
unfolding makings applied_list sent committed clock acquirings last_acquiring released used outbox client kept cached loading all_history handed closed crossed
takeover_leads = (
  (take 1 takeover),
  nothing_kept,
  (((take 0 takeover), (takeover_e0 ∷ []), refl, refl, refl), refl),
  (
    (take 2 takeover),
    nothing_kept,
    (((take 1 takeover), (takeover_e1 ∷ []), refl, refl, refl), refl),
    (
      (take 3 takeover),
      (keeping 1 (Some (record { doc = 0; token = 1 })) nothing_kept),
      ((take 2 takeover), refl, (1, true, (takeover_e2 ∷ []), (record { free = refl; ticket = 1; rest = []; first = refl; token_is = refl; loading = []; caches = (refl, refl); made_is = refl }), (refl, refl))),
      (
        (take 4 takeover),
        (keeping 1 (Some (record { doc = 0; token = 1 })) nothing_kept),
        (((take 3 takeover), (takeover_e3 ∷ []), refl, refl, refl), refl),
        (
          (take 5 takeover),
          (keeping 1 (Some (record { doc = 0; token = 1 })) nothing_kept),
          ((take 4 takeover), refl, (refl, refl)),
          (
            (take 6 takeover),
            (keeping 1 (Some (record { doc = 0; token = 1 })) nothing_kept),
            (((take 5 takeover), (takeover_e5 ∷ []), refl, refl, refl), refl),
            (
              (take 7 takeover),
              (keeping 3 (Some (record { doc = 0; token = 2 })) (keeping 1 (Some (record { doc = 0; token = 1 })) nothing_kept)),
              ((take 6 takeover), refl, (2, true, (takeover_e6 ∷ []), (record { free = refl; ticket = 1; rest = []; first = refl; token_is = refl; loading = []; caches = (refl, refl); made_is = refl }), (refl, refl))),
              (
                (take 9 takeover),
                (keeping 3 None (keeping 3 (Some (record { doc = 0; token = 2 })) (keeping 1 (Some (record { doc = 0; token = 1 })) nothing_kept))),
                (((take 7 takeover), (takeover_e7 ∷ takeover_e8 ∷ []), refl, (1, (Applied 0 ((comp.Ins 1 (88 ∷ [])) ∷ [])), record { update = _; named = refl; cached_is = refl; outcome_is = refl }, refl), refl), refl),
                (
                  (take 10 takeover),
                  (keeping 1 None (keeping 3 None (keeping 3 (Some (record { doc = 0; token = 2 })) (keeping 1 (Some (record { doc = 0; token = 1 })) nothing_kept)))),
                  (((take 9 takeover), (takeover_e9 ∷ []), refl, refl, refl), refl),
                  refl,
                ),
              ),
            ),
          ),
        ),
      ),
    ),
  ),
)

takeover_ends : Ends 4 ((take 10 takeover) ++ entry_by 0 None (act.Closed 0) ∷ []) takeover
unfolding makings applied_list sent committed clock acquirings last_acquiring released used outbox client kept cached loading all_history handed closed crossed
takeover_ends = ((take 12 takeover), inl (refl, refl), ((take 12 takeover), refl, ((take 13 takeover), refl, inl ((act.Flushed 0 3 1), inl (1, refl), ((take 14 takeover), (takeover_e14 ∷ []), refl, inl ((act.Released 0 3), refl, refl), refl)))))

takeover_follows : Follows takeover_lines 4 takeover
takeover_follows = record { done = (take 10 takeover); leads = takeover_leads; ends = takeover_ends }

abbrev pub room_e0 : Entry
room_e0 = entry_by 0 (Some 1) (act.Made 0 (97 ∷ []) (112 ∷ []) (97 ∷ 98 ∷ 99 ∷ []) 0)

abbrev pub room_e1 : Entry
room_e1 = entry_by 0 (Some 2) (act.Joined 0 0 (117 ∷ []) false None 1000001 0)

abbrev pub room_e2 : Entry
room_e2 = entry_by 0 (Some 3) (act.Sent (record { doc = 0; client = None; number = 0; source = 1; dup = []; user = 117 ∷ []; track = false; ms = 0; v = 0; op = ((comp.Del 1 (98 ∷ [])) ∷ []) }))

abbrev pub room_e3 : Entry
room_e3 = entry_by 0 (Some 4) (act.Edited 0 (comp.Ins 1 (88 ∷ [])))

abbrev pub room_e4 : Entry
room_e4 = entry_by 0 (Some 5) (act.Sent (record { doc = 0; client = (Some 0); number = 1; source = 1000001; dup = []; user = 117 ∷ []; track = false; ms = 0; v = 0; op = ((comp.Ins 1 (88 ∷ [])) ∷ []) }))

abbrev pub room_e5 : Entry
room_e5 = entry_by 0 (Some 6) (act.Acquired 0 1 30000)

abbrev pub room_e6 : Entry
room_e6 = entry_by 0 (Some 6) (act.Committed 0 1 2 (Applied 0 ((comp.Del 1 (98 ∷ [])) ∷ [])))

abbrev pub room_e7 : Entry
room_e7 = entry_by 0 (Some 6) (act.Released 0 1)

abbrev pub room_e8 : Entry
room_e8 = entry_by 0 (Some 6) (act.Acquired 0 2 30000)

abbrev pub room_e9 : Entry
room_e9 = entry_by 0 (Some 6) (act.Committed 0 2 4 (Applied 1 ((comp.Ins 1 (88 ∷ [])) ∷ [])))

abbrev pub room_e10 : Entry
room_e10 = entry_by 0 (Some 6) (act.Released 0 2)

abbrev pub room_e11 : Entry
room_e11 = entry_by 0 (Some 6) (act.Got 0 (brief.Op 0))

abbrev pub room_e12 : Entry
room_e12 = entry_by 0 (Some 6) (act.Got 0 (brief.Ack 1))

abbrev pub room_e13 : Entry
room_e13 = entry_by 0 None (act.Closed 0)

abbrev pub room_e14 : Entry
room_e14 = entry_by 0 None (act.Ticked 30000)

abbrev pub room_e15 : Entry
room_e15 = entry_by 0 None (act.Acquired 0 3 60000)

abbrev pub room_e16 : Entry
room_e16 = entry_by 0 None (act.Flushed 0 3 2)

abbrev pub room_e17 : Entry
room_e17 = entry_by 0 None (act.Released 0 3)

abbrev pub room : List Entry
room = room_e0 ∷ room_e1 ∷ room_e2 ∷ room_e3 ∷ room_e4 ∷ room_e5 ∷ room_e6 ∷ room_e7 ∷ room_e8 ∷ room_e9 ∷ room_e10 ∷ room_e11 ∷ room_e12 ∷ room_e13 ∷ room_e14 ∷ room_e15 ∷ room_e16 ∷ room_e17 ∷ []

abbrev pub room_lines : List Line
room_lines =
    line.Doc (97 ∷ []) (112 ∷ []) (97 ∷ 98 ∷ 99 ∷ []) 0
    ∷ line.Join 0 (97 ∷ []) (117 ∷ []) false
    ∷ line.Raw 1 (97 ∷ []) (117 ∷ []) 1 ([]) false 0 (Ok ((comp.Del 1 (98 ∷ [])) ∷ []))
    ∷ line.Ins 0 1 (88 ∷ [])
    ∷ line.Send 0
    ∷ line.Sync 0
    ∷ []

room_leads : Leads 0 Alone (numbered 1 room_lines) nothing_kept [] (take 13 room)
unfolding makings applied_list sent committed clock acquirings last_acquiring released used outbox client kept cached loading all_history handed closed crossed
room_leads = (
  (take 1 room),
  nothing_kept,
  (((take 0 room), (room_e0 ∷ []), refl, refl, refl), refl),
  (
    (take 2 room),
    nothing_kept,
    (((take 1 room), (room_e1 ∷ []), refl, (true, [], (refl, refl), refl), refl), refl),
    (
      (take 3 room),
      nothing_kept,
      (((take 2 room), (room_e2 ∷ []), refl, refl, refl), refl),
      (
        (take 4 room),
        nothing_kept,
        (((take 3 room), (room_e3 ∷ []), refl, refl, refl), refl),
        (
          (take 5 room),
          nothing_kept,
          (((take 4 room), (room_e4 ∷ []), refl, refl, refl), refl),
          (
            (take 13 room),
            nothing_kept,
            (((take 5 room), refl, ((take 11 room), Done, inr ((take 8 room), (1, true, (take 6 room), ((take 5 room), (room_e5 ∷ []), refl, (record { free = refl; ticket = 2; rest = 4 ∷ []; first = refl; token_is = refl; loading = []; caches = (refl, refl); made_is = refl }), refl), ((take 7 room), ((take 6 room), (room_e6 ∷ []), refl, inl ((act.Committed 0 1 2 (Applied 0 ((comp.Del 1 (98 ∷ [])) ∷ []))), (2, (Applied 0 ((comp.Del 1 (98 ∷ [])) ∷ [])), refl), refl), refl), ((take 7 room), (room_e7 ∷ []), refl, inl ((act.Released 0 1), refl, refl), refl))), inr ((take 11 room), (2, true, (take 9 room), ((take 8 room), (room_e8 ∷ []), refl, (record { free = refl; ticket = 4; rest = []; first = refl; token_is = refl; loading = []; caches = (refl, refl); made_is = refl }), refl), ((take 10 room), ((take 9 room), (room_e9 ∷ []), refl, inl ((act.Committed 0 2 4 (Applied 1 ((comp.Ins 1 (88 ∷ [])) ∷ []))), (4, (Applied 1 ((comp.Ins 1 (88 ∷ [])) ∷ [])), refl), refl), refl), ((take 10 room), (room_e10 ∷ []), refl, inl ((act.Released 0 2), refl, refl), refl))), (refl, refl))), (2, ((take 12 room), ((take 11 room), (room_e11 ∷ []), refl, (_, _, refl, refl), refl), ((take 13 room), ((take 12 room), (room_e12 ∷ []), refl, (_, _, refl, refl), refl), (refl, refl)))))), refl),
            refl,
          ),
        ),
      ),
    ),
  ),
)

room_ends : Ends 2 ((take 13 room) ++ entry_by 0 None (act.Closed 0) ∷ []) room
unfolding makings applied_list sent committed clock acquirings last_acquiring released used outbox client kept cached loading all_history handed closed crossed
room_ends = ((take 15 room), inl (refl, refl), ((take 15 room), refl, ((take 16 room), refl, inl ((act.Flushed 0 3 2), inl (2, refl), ((take 17 room), (room_e17 ∷ []), refl, inl ((act.Released 0 3), refl, refl), refl)))))

room_follows : Follows room_lines 2 room
room_follows = record { done = (take 13 room); leads = room_leads; ends = room_ends }

abbrev pub resend_e0 : Entry
resend_e0 = entry_by 0 (Some 1) (act.Made 0 (97 ∷ []) (112 ∷ []) (97 ∷ 98 ∷ []) 0)

abbrev pub resend_e1 : Entry
resend_e1 = entry_by 0 (Some 2) (act.Joined 0 0 (117 ∷ []) false None 1000001 0)

abbrev pub resend_e2 : Entry
resend_e2 = entry_by 0 (Some 3) (act.Edited 0 (comp.Ins 1 (88 ∷ [])))

abbrev pub resend_e3 : Entry
resend_e3 = entry_by 0 (Some 4) (act.Sent (record { doc = 0; client = (Some 0); number = 1; source = 1000001; dup = []; user = 117 ∷ []; track = false; ms = 0; v = 0; op = ((comp.Ins 1 (88 ∷ [])) ∷ []) }))

abbrev pub resend_e4 : Entry
resend_e4 = entry_by 0 (Some 5) (act.Sent (record { doc = 0; client = (Some 0); number = 1; source = 1000001; dup = 1000001 ∷ []; user = 117 ∷ []; track = false; ms = 0; v = 0; op = ((comp.Ins 1 (88 ∷ [])) ∷ []) }))

abbrev pub resend_e5 : Entry
resend_e5 = entry_by 0 (Some 6) (act.Acquired 0 1 30000)

abbrev pub resend_e6 : Entry
resend_e6 = entry_by 0 (Some 6) (act.Committed 0 1 3 (Applied 0 ((comp.Ins 1 (88 ∷ [])) ∷ [])))

abbrev pub resend_e7 : Entry
resend_e7 = entry_by 0 (Some 6) (act.Released 0 1)

abbrev pub resend_e8 : Entry
resend_e8 = entry_by 0 (Some 6) (act.Acquired 0 2 30000)

abbrev pub resend_e9 : Entry
resend_e9 = entry_by 0 (Some 6) (act.Committed 0 2 4 (Dup 0))

abbrev pub resend_e10 : Entry
resend_e10 = entry_by 0 (Some 6) (act.Released 0 2)

abbrev pub resend_e11 : Entry
resend_e11 = entry_by 0 (Some 6) (act.Got 0 (brief.Ack 0))

abbrev pub resend_e12 : Entry
resend_e12 = entry_by 0 (Some 6) (act.Got 0 (brief.Ack 0))

abbrev pub resend_e13 : Entry
resend_e13 = entry_by 0 None (act.Closed 0)

abbrev pub resend_e14 : Entry
resend_e14 = entry_by 0 None (act.Ticked 30000)

abbrev pub resend_e15 : Entry
resend_e15 = entry_by 0 None (act.Acquired 0 3 60000)

abbrev pub resend_e16 : Entry
resend_e16 = entry_by 0 None (act.Flushed 0 3 1)

abbrev pub resend_e17 : Entry
resend_e17 = entry_by 0 None (act.Released 0 3)

abbrev pub resend : List Entry
resend = resend_e0 ∷ resend_e1 ∷ resend_e2 ∷ resend_e3 ∷ resend_e4 ∷ resend_e5 ∷ resend_e6 ∷ resend_e7 ∷ resend_e8 ∷ resend_e9 ∷ resend_e10 ∷ resend_e11 ∷ resend_e12 ∷ resend_e13 ∷ resend_e14 ∷ resend_e15 ∷ resend_e16 ∷ resend_e17 ∷ []

abbrev pub resend_lines : List Line
resend_lines =
    line.Doc (97 ∷ []) (112 ∷ []) (97 ∷ 98 ∷ []) 0
    ∷ line.Join 0 (97 ∷ []) (117 ∷ []) false
    ∷ line.Ins 0 1 (88 ∷ [])
    ∷ line.Send 0
    ∷ line.Resend 0
    ∷ line.Sync 0
    ∷ []

resend_leads : Leads 0 Alone (numbered 1 resend_lines) nothing_kept [] (take 13 resend)
unfolding makings applied_list sent committed clock acquirings last_acquiring released used outbox client kept cached loading all_history handed closed crossed
resend_leads = (
  (take 1 resend),
  nothing_kept,
  (((take 0 resend), (resend_e0 ∷ []), refl, refl, refl), refl),
  (
    (take 2 resend),
    nothing_kept,
    (((take 1 resend), (resend_e1 ∷ []), refl, (true, [], (refl, refl), refl), refl), refl),
    (
      (take 3 resend),
      nothing_kept,
      (((take 2 resend), (resend_e2 ∷ []), refl, refl, refl), refl),
      (
        (take 4 resend),
        nothing_kept,
        (((take 3 resend), (resend_e3 ∷ []), refl, refl, refl), refl),
        (
          (take 5 resend),
          nothing_kept,
          (((take 4 resend), (resend_e4 ∷ []), refl, refl, refl), refl),
          (
            (take 13 resend),
            nothing_kept,
            (((take 5 resend), refl, ((take 11 resend), Done, inr ((take 8 resend), (1, true, (take 6 resend), ((take 5 resend), (resend_e5 ∷ []), refl, (record { free = refl; ticket = 3; rest = 4 ∷ []; first = refl; token_is = refl; loading = []; caches = (refl, refl); made_is = refl }), refl), ((take 7 resend), ((take 6 resend), (resend_e6 ∷ []), refl, inl ((act.Committed 0 1 3 (Applied 0 ((comp.Ins 1 (88 ∷ [])) ∷ []))), (3, (Applied 0 ((comp.Ins 1 (88 ∷ [])) ∷ [])), refl), refl), refl), ((take 7 resend), (resend_e7 ∷ []), refl, inl ((act.Released 0 1), refl, refl), refl))), inr ((take 11 resend), (2, true, (take 9 resend), ((take 8 resend), (resend_e8 ∷ []), refl, (record { free = refl; ticket = 4; rest = []; first = refl; token_is = refl; loading = []; caches = (refl, refl); made_is = refl }), refl), ((take 10 resend), ((take 9 resend), (resend_e9 ∷ []), refl, inl ((act.Committed 0 2 4 (Dup 0)), (4, (Dup 0), refl), refl), refl), ((take 10 resend), (resend_e10 ∷ []), refl, inl ((act.Released 0 2), refl, refl), refl))), (refl, refl))), (2, ((take 12 resend), ((take 11 resend), (resend_e11 ∷ []), refl, (_, _, refl, refl), refl), ((take 13 resend), ((take 12 resend), (resend_e12 ∷ []), refl, (_, _, refl, refl), refl), (refl, refl)))))), refl),
            refl,
          ),
        ),
      ),
    ),
  ),
)

resend_ends : Ends 1 ((take 13 resend) ++ entry_by 0 None (act.Closed 0) ∷ []) resend
unfolding makings applied_list sent committed clock acquirings last_acquiring released used outbox client kept cached loading all_history handed closed crossed
resend_ends = ((take 15 resend), inl (refl, refl), ((take 15 resend), refl, ((take 16 resend), refl, inl ((act.Flushed 0 3 1), inl (1, refl), ((take 17 resend), (resend_e17 ∷ []), refl, inl ((act.Released 0 3), refl, refl), refl)))))

resend_follows : Follows resend_lines 1 resend
resend_follows = record { done = (take 13 resend); leads = resend_leads; ends = resend_ends }

abbrev pub plainest_e0 : Entry
plainest_e0 = entry_by 0 (Some 1) (act.Made 0 (97 ∷ []) (112 ∷ []) (97 ∷ 98 ∷ 99 ∷ []) 0)

abbrev pub plainest_e1 : Entry
plainest_e1 = entry_by 0 (Some 2) (act.Sent (record { doc = 0; client = None; number = 0; source = 1; dup = []; user = 117 ∷ []; track = false; ms = 0; v = 0; op = ((comp.Ins 1 (88 ∷ [])) ∷ []) }))

abbrev pub plainest_e2 : Entry
plainest_e2 = entry_by 0 None (act.Closed 0)

abbrev pub plainest_e3 : Entry
plainest_e3 = entry_by 0 None (act.Ticked 30000)

abbrev pub plainest_e4 : Entry
plainest_e4 = entry_by 0 None (act.Acquired 0 1 60000)

abbrev pub plainest_e5 : Entry
plainest_e5 = entry_by 0 None (act.Committed 0 1 1 (Applied 0 ((comp.Ins 1 (88 ∷ [])) ∷ [])))

abbrev pub plainest_e6 : Entry
plainest_e6 = entry_by 0 None (act.Released 0 1)

abbrev pub plainest_e7 : Entry
plainest_e7 = entry_by 0 None (act.Acquired 0 2 60000)

abbrev pub plainest_e8 : Entry
plainest_e8 = entry_by 0 None (act.Flushed 0 2 1)

abbrev pub plainest_e9 : Entry
plainest_e9 = entry_by 0 None (act.Released 0 2)

abbrev pub plainest : List Entry
plainest = plainest_e0 ∷ plainest_e1 ∷ plainest_e2 ∷ plainest_e3 ∷ plainest_e4 ∷ plainest_e5 ∷ plainest_e6 ∷ plainest_e7 ∷ plainest_e8 ∷ plainest_e9 ∷ []

abbrev pub plainest_lines : List Line
plainest_lines =
    line.Doc (97 ∷ []) (112 ∷ []) (97 ∷ 98 ∷ 99 ∷ []) 0
    ∷ line.Raw 0 (97 ∷ []) (117 ∷ []) 1 ([]) false 0 (Ok ((comp.Ins 1 (88 ∷ [])) ∷ []))
    ∷ []

plainest_leads : Leads 0 Alone (numbered 1 plainest_lines) nothing_kept [] (take 2 plainest)
unfolding makings applied_list sent committed clock acquirings last_acquiring released used outbox client kept cached loading all_history handed closed crossed
plainest_leads = (
  (take 1 plainest),
  nothing_kept,
  (((take 0 plainest), (plainest_e0 ∷ []), refl, refl, refl), refl),
  (
    (take 2 plainest),
    nothing_kept,
    (((take 1 plainest), (plainest_e1 ∷ []), refl, refl, refl), refl),
    refl,
  ),
)

plainest_ends : Ends 1 ((take 2 plainest) ++ entry_by 0 None (act.Closed 0) ∷ []) plainest
unfolding makings applied_list sent committed clock acquirings last_acquiring released used outbox client kept cached loading all_history handed closed crossed
plainest_ends = ((take 7 plainest), inr (refl, ((take 7 plainest), ((take 7 plainest), ((take 4 plainest), refl, (1, inr ((take 7 plainest), (1, true, (take 5 plainest), ((take 4 plainest), (plainest_e4 ∷ []), refl, (record { free = refl; ticket = 1; rest = []; first = refl; token_is = refl; loading = []; caches = (refl, refl); made_is = refl }), refl), ((take 6 plainest), ((take 5 plainest), (plainest_e5 ∷ []), refl, inl ((act.Committed 0 1 1 (Applied 0 ((comp.Ins 1 (88 ∷ [])) ∷ []))), (1, (Applied 0 ((comp.Ins 1 (88 ∷ [])) ∷ [])), refl), refl), refl), ((take 6 plainest), (plainest_e6 ∷ []), refl, inl ((act.Released 0 1), refl, refl), refl))), (refl, refl)), refl)), ((take 7 plainest), refl, refl)), inl (refl, refl))), ((take 7 plainest), refl, ((take 8 plainest), refl, inl ((act.Flushed 0 2 1), inl (1, refl), ((take 9 plainest), (plainest_e9 ∷ []), refl, inl ((act.Released 0 2), refl, refl), refl)))))

pub plainest_follows : Follows plainest_lines 1 plainest
plainest_follows = record { done = (take 2 plainest); leads = plainest_leads; ends = plainest_ends }

abbrev pub unload_waiting_e0 : Entry
unload_waiting_e0 = entry_by 0 (Some 1) (act.Made 0 (97 ∷ []) (112 ∷ []) (97 ∷ 98 ∷ []) 0)

abbrev pub unload_waiting_e1 : Entry
unload_waiting_e1 = entry_by 0 (Some 2) (act.Acquired 0 1 30000)

abbrev pub unload_waiting_e2 : Entry
unload_waiting_e2 = entry_by 0 (Some 2) (act.Released 0 1)

abbrev pub unload_waiting_e3 : Entry
unload_waiting_e3 = entry_by 0 (Some 2) (act.Declined 0 (why.Unflushed None 0))

abbrev pub unload_waiting_e4 : Entry
unload_waiting_e4 = entry_by 0 (Some 3) (act.Acquired 0 2 30000)

abbrev pub unload_waiting_e5 : Entry
unload_waiting_e5 = entry_by 0 (Some 3) (act.Flushed 0 2 0)

abbrev pub unload_waiting_e6 : Entry
unload_waiting_e6 = entry_by 0 (Some 3) (act.Released 0 2)

abbrev pub unload_waiting_e7 : Entry
unload_waiting_e7 = entry_by 0 (Some 4) (act.Sent (record { doc = 0; client = None; number = 0; source = 1; dup = []; user = 117 ∷ []; track = false; ms = 0; v = 0; op = ((comp.Ins 0 (120 ∷ [])) ∷ []) }))

abbrev pub unload_waiting_e8 : Entry
unload_waiting_e8 = entry_by 0 (Some 5) (act.Acquired 0 3 30000)

abbrev pub unload_waiting_e9 : Entry
unload_waiting_e9 = entry_by 0 (Some 5) (act.Released 0 3)

abbrev pub unload_waiting_e10 : Entry
unload_waiting_e10 = entry_by 0 (Some 5) (act.Declined 0 (why.Waiting 1))

abbrev pub unload_waiting_e11 : Entry
unload_waiting_e11 = entry_by 0 None (act.Closed 0)

abbrev pub unload_waiting_e12 : Entry
unload_waiting_e12 = entry_by 0 None (act.Ticked 30000)

abbrev pub unload_waiting_e13 : Entry
unload_waiting_e13 = entry_by 0 None (act.Acquired 0 4 60000)

abbrev pub unload_waiting_e14 : Entry
unload_waiting_e14 = entry_by 0 None (act.Committed 0 4 7 (Applied 0 ((comp.Ins 0 (120 ∷ [])) ∷ [])))

abbrev pub unload_waiting_e15 : Entry
unload_waiting_e15 = entry_by 0 None (act.Released 0 4)

abbrev pub unload_waiting_e16 : Entry
unload_waiting_e16 = entry_by 0 None (act.Acquired 0 5 60000)

abbrev pub unload_waiting_e17 : Entry
unload_waiting_e17 = entry_by 0 None (act.Flushed 0 5 1)

abbrev pub unload_waiting_e18 : Entry
unload_waiting_e18 = entry_by 0 None (act.Released 0 5)

abbrev pub unload_waiting : List Entry
unload_waiting = unload_waiting_e0 ∷ unload_waiting_e1 ∷ unload_waiting_e2 ∷ unload_waiting_e3 ∷ unload_waiting_e4 ∷ unload_waiting_e5 ∷ unload_waiting_e6 ∷ unload_waiting_e7 ∷ unload_waiting_e8 ∷ unload_waiting_e9 ∷ unload_waiting_e10 ∷ unload_waiting_e11 ∷ unload_waiting_e12 ∷ unload_waiting_e13 ∷ unload_waiting_e14 ∷ unload_waiting_e15 ∷ unload_waiting_e16 ∷ unload_waiting_e17 ∷ unload_waiting_e18 ∷ []

abbrev pub unload_waiting_lines : List Line
unload_waiting_lines =
    line.Doc (97 ∷ []) (112 ∷ []) (97 ∷ 98 ∷ []) 0
    ∷ line.Unload 0 (97 ∷ [])
    ∷ line.Flush 0 (97 ∷ [])
    ∷ line.Raw 0 (97 ∷ []) (117 ∷ []) 1 ([]) false 0 (Ok ((comp.Ins 0 (120 ∷ [])) ∷ []))
    ∷ line.Unload 0 (97 ∷ [])
    ∷ []

unload_waiting_leads : Leads 0 Alone (numbered 1 unload_waiting_lines) nothing_kept [] (take 11 unload_waiting)
unfolding makings applied_list sent committed clock acquirings last_acquiring released used outbox client kept cached loading all_history handed closed crossed
unload_waiting_leads = (
  (take 1 unload_waiting),
  nothing_kept,
  (((take 0 unload_waiting), (unload_waiting_e0 ∷ []), refl, refl, refl), refl),
  (
    (take 4 unload_waiting),
    nothing_kept,
    (((take 1 unload_waiting), (unload_waiting_e1 ∷ unload_waiting_e2 ∷ unload_waiting_e3 ∷ []), refl, refl, refl), refl),
    (
      (take 7 unload_waiting),
      nothing_kept,
      (((take 4 unload_waiting), refl, ((take 5 unload_waiting), refl, inl ((act.Flushed 0 2 0), inl (0, refl), ((take 6 unload_waiting), (unload_waiting_e6 ∷ []), refl, inl ((act.Released 0 2), refl, refl), refl)))), refl),
      (
        (take 8 unload_waiting),
        nothing_kept,
        (((take 7 unload_waiting), (unload_waiting_e7 ∷ []), refl, refl, refl), refl),
        (
          (take 11 unload_waiting),
          nothing_kept,
          (((take 8 unload_waiting), (unload_waiting_e8 ∷ unload_waiting_e9 ∷ unload_waiting_e10 ∷ []), refl, refl, refl), refl),
          refl,
        ),
      ),
    ),
  ),
)

unload_waiting_ends : Ends 1 ((take 11 unload_waiting) ++ entry_by 0 None (act.Closed 0) ∷ []) unload_waiting
unfolding makings applied_list sent committed clock acquirings last_acquiring released used outbox client kept cached loading all_history handed closed crossed
unload_waiting_ends = ((take 16 unload_waiting), inr (refl, ((take 16 unload_waiting), ((take 16 unload_waiting), ((take 13 unload_waiting), refl, (1, inr ((take 16 unload_waiting), (4, true, (take 14 unload_waiting), ((take 13 unload_waiting), (unload_waiting_e13 ∷ []), refl, (record { free = refl; ticket = 7; rest = []; first = refl; token_is = refl; loading = []; caches = (refl, refl); made_is = refl }), refl), ((take 15 unload_waiting), ((take 14 unload_waiting), (unload_waiting_e14 ∷ []), refl, inl ((act.Committed 0 4 7 (Applied 0 ((comp.Ins 0 (120 ∷ [])) ∷ []))), (7, (Applied 0 ((comp.Ins 0 (120 ∷ [])) ∷ [])), refl), refl), refl), ((take 15 unload_waiting), (unload_waiting_e15 ∷ []), refl, inl ((act.Released 0 4), refl, refl), refl))), (refl, refl)), refl)), ((take 16 unload_waiting), refl, refl)), inl (refl, refl))), ((take 16 unload_waiting), refl, ((take 17 unload_waiting), refl, inl ((act.Flushed 0 5 1), inl (1, refl), ((take 18 unload_waiting), (unload_waiting_e18 ∷ []), refl, inl ((act.Released 0 5), refl, refl), refl)))))

unload_waiting_follows : Follows unload_waiting_lines 1 unload_waiting
unload_waiting_follows = record { done = (take 11 unload_waiting); leads = unload_waiting_leads; ends = unload_waiting_ends }
