-- A usual session: its journal follows its script.
use Rattle.std.proofs.Common.{List, [], ◌∷◌, ◌++◌, true, false, refl, inl, inr, take}
use Rattle.std.specs.Prelude.{Some, None}
use Rattle.ot_op.specs.declared.comp.Comp.TheVariants as comp
use Rattle.ot_transform.specs.Crossing.{crossed}
use Rattle.journal_entries.specs.declared.update.Outcome.TheVariants.{Applied}
use Rattle.journal_entries.specs.declared.message.Brief.TheVariants as brief
use Rattle.journal_entries.specs.declared.act.Act.TheVariants as act
use Rattle.journal_entries.specs.declared.act.Entry.{Entry}
use Rattle.journal_rules.specs.Documents.{makings, applied_list, sent, committed}
use Rattle.journal_rules.specs.Legal.{closed}
use Rattle.journal_rules.specs.Locks.{clock, acquirings, last_acquiring, released, used}
use Rattle.journal_rules.specs.Mail.{outbox}
use Rattle.journal_rules.specs.Client.{client}
use Rattle.journal_rules.specs.Keeping.{kept, cached, loading}
use Rattle.journal_rules.specs.History.{all_history, handed}
use Rattle.session_lines.specs.declared.line.Line.{Line}
use Rattle.session_lines.specs.declared.line.Line.TheVariants as line
use Rattle.turn_rules.specs.Draining.{Done}
use Rattle.run_rules.specs.Ending.{Ends}
use Rattle.run_rules.specs.Follows.{Follows}
use Rattle.run_rules.specs.Keeping.{nothing_kept}
use Rattle.run_rules.specs.Lines.{Leads, numbered}
use Rattle.turn_rules.specs.Turns.{Alone, entry_by}

abbrev pub usual_session_e0 : Entry
usual_session_e0 = entry_by 0 (Some 1) (act.Made 0 (109 ∷ 97 ∷ 105 ∷ 110 ∷ []) (116 ∷ 104 ∷ 101 ∷ 115 ∷ 105 ∷ 115 ∷ []) (92 ∷ 100 ∷ 111 ∷ 99 ∷ 117 ∷ 109 ∷ 101 ∷ 110 ∷ 116 ∷ 99 ∷ 108 ∷ 97 ∷ 115 ∷ 115 ∷ 123 ∷ 97 ∷ 114 ∷ 116 ∷ 105 ∷ 99 ∷ 108 ∷ 101 ∷ 125 ∷ 10 ∷ 92 ∷ 98 ∷ 101 ∷ 103 ∷ 105 ∷ 110 ∷ 123 ∷ 100 ∷ 111 ∷ 99 ∷ 117 ∷ 109 ∷ 101 ∷ 110 ∷ 116 ∷ 125 ∷ 10 ∷ 92 ∷ 115 ∷ 101 ∷ 99 ∷ 116 ∷ 105 ∷ 111 ∷ 110 ∷ 123 ∷ 73 ∷ 110 ∷ 116 ∷ 114 ∷ 111 ∷ 125 ∷ 10 ∷ 87 ∷ 101 ∷ 32 ∷ 109 ∷ 101 ∷ 97 ∷ 115 ∷ 117 ∷ 114 ∷ 101 ∷ 32 ∷ 116 ∷ 105 ∷ 100 ∷ 101 ∷ 115 ∷ 46 ∷ 10 ∷ 92 ∷ 101 ∷ 110 ∷ 100 ∷ 123 ∷ 100 ∷ 111 ∷ 99 ∷ 117 ∷ 109 ∷ 101 ∷ 110 ∷ 116 ∷ 125 ∷ []) 0)

abbrev pub usual_session_e1 : Entry
usual_session_e1 = entry_by 0 (Some 2) (act.Joined 0 0 (97 ∷ 110 ∷ 97 ∷ []) false None 1000001 0)

abbrev pub usual_session_e2 : Entry
usual_session_e2 = entry_by 0 (Some 3) (act.Joined 1 0 (98 ∷ 101 ∷ 110 ∷ []) true None 1000002 0)

abbrev pub usual_session_e3 : Entry
usual_session_e3 = entry_by 0 (Some 4) (act.Edited 0 (comp.Ins 68 (116 ∷ 104 ∷ 101 ∷ 32 ∷ [])))

abbrev pub usual_session_e4 : Entry
usual_session_e4 = entry_by 0 (Some 5) (act.Sent (record { doc = 0; client = (Some 0); number = 1; source = 1000001; dup = []; user = 97 ∷ 110 ∷ 97 ∷ []; track = false; ms = 0; v = 0; op = ((comp.Ins 68 (116 ∷ 104 ∷ 101 ∷ 32 ∷ [])) ∷ []) }))

abbrev pub usual_session_e5 : Entry
usual_session_e5 = entry_by 0 (Some 6) (act.Edited 1 (comp.Ins 73 (32 ∷ 100 ∷ 97 ∷ 105 ∷ 108 ∷ 121 ∷ [])))

abbrev pub usual_session_e6 : Entry
usual_session_e6 = entry_by 0 (Some 7) (act.Edited 1 (comp.Del 60 (109 ∷ 101 ∷ 97 ∷ 115 ∷ 117 ∷ 114 ∷ 101 ∷ [])))

abbrev pub usual_session_e7 : Entry
usual_session_e7 = entry_by 0 (Some 8) (act.Edited 1 (comp.Ins 60 (114 ∷ 101 ∷ 99 ∷ 111 ∷ 114 ∷ 100 ∷ [])))

abbrev pub usual_session_e8 : Entry
usual_session_e8 = entry_by 0 (Some 9) (act.Sent (record { doc = 0; client = (Some 1); number = 1; source = 1000002; dup = []; user = 98 ∷ 101 ∷ 110 ∷ []; track = true; ms = 0; v = 0; op = ((comp.Ins 73 (32 ∷ 100 ∷ 97 ∷ 105 ∷ 108 ∷ 121 ∷ [])) ∷ (comp.Del 60 (109 ∷ 101 ∷ 97 ∷ 115 ∷ 117 ∷ 114 ∷ 101 ∷ [])) ∷ (comp.Ins 60 (114 ∷ 101 ∷ 99 ∷ 111 ∷ 114 ∷ 100 ∷ [])) ∷ []) }))

abbrev pub usual_session_e9 : Entry
usual_session_e9 = entry_by 0 (Some 10) (act.Edited 0 (comp.Com 50 (73 ∷ 110 ∷ 116 ∷ 114 ∷ 111 ∷ []) 1))

abbrev pub usual_session_e10 : Entry
usual_session_e10 = entry_by 0 (Some 11) (act.Acquired 0 1 30000)

abbrev pub usual_session_e11 : Entry
usual_session_e11 = entry_by 0 (Some 11) (act.Committed 0 1 4 (Applied 0 ((comp.Ins 68 (116 ∷ 104 ∷ 101 ∷ 32 ∷ [])) ∷ [])))

abbrev pub usual_session_e12 : Entry
usual_session_e12 = entry_by 0 (Some 11) (act.Released 0 1)

abbrev pub usual_session_e13 : Entry
usual_session_e13 = entry_by 0 (Some 11) (act.Acquired 0 2 30000)

abbrev pub usual_session_e14 : Entry
usual_session_e14 = entry_by 0 (Some 11) (act.Committed 0 2 8 (Applied 1 ((comp.Ins 77 (32 ∷ 100 ∷ 97 ∷ 105 ∷ 108 ∷ 121 ∷ [])) ∷ (comp.Del 60 (109 ∷ 101 ∷ 97 ∷ 115 ∷ 117 ∷ 114 ∷ 101 ∷ [])) ∷ (comp.Ins 60 (114 ∷ 101 ∷ 99 ∷ 111 ∷ 114 ∷ 100 ∷ [])) ∷ [])))

abbrev pub usual_session_e15 : Entry
usual_session_e15 = entry_by 0 (Some 11) (act.Released 0 2)

abbrev pub usual_session_e16 : Entry
usual_session_e16 = entry_by 0 (Some 11) (act.Got 0 (brief.Ack 0))

abbrev pub usual_session_e17 : Entry
usual_session_e17 = entry_by 0 (Some 11) (act.Got 0 (brief.Op 1))

abbrev pub usual_session_e18 : Entry
usual_session_e18 = entry_by 0 (Some 12) (act.Sent (record { doc = 0; client = (Some 0); number = 2; source = 1000001; dup = []; user = 97 ∷ 110 ∷ 97 ∷ []; track = false; ms = 0; v = 2; op = ((comp.Com 50 (73 ∷ 110 ∷ 116 ∷ 114 ∷ 111 ∷ []) 1) ∷ []) }))

abbrev pub usual_session_e19 : Entry
usual_session_e19 = entry_by 0 (Some 13) (act.Acquired 0 3 30000)

abbrev pub usual_session_e20 : Entry
usual_session_e20 = entry_by 0 (Some 13) (act.Committed 0 3 18 (Applied 2 ((comp.Com 50 (73 ∷ 110 ∷ 116 ∷ 114 ∷ 111 ∷ []) 1) ∷ [])))

abbrev pub usual_session_e21 : Entry
usual_session_e21 = entry_by 0 (Some 13) (act.Released 0 3)

abbrev pub usual_session_e22 : Entry
usual_session_e22 = entry_by 0 (Some 13) (act.Got 1 (brief.Op 0))

abbrev pub usual_session_e23 : Entry
usual_session_e23 = entry_by 0 (Some 13) (act.Got 1 (brief.Ack 1))

abbrev pub usual_session_e24 : Entry
usual_session_e24 = entry_by 0 (Some 13) (act.Got 1 (brief.Op 2))

abbrev pub usual_session_e25 : Entry
usual_session_e25 = entry_by 0 (Some 14) (act.Got 0 (brief.Ack 2))

abbrev pub usual_session_e26 : Entry
usual_session_e26 = entry_by 0 (Some 15) (act.Acquired 0 4 30000)

abbrev pub usual_session_e27 : Entry
usual_session_e27 = entry_by 0 (Some 15) (act.Flushed 0 4 3)

abbrev pub usual_session_e28 : Entry
usual_session_e28 = entry_by 0 (Some 15) (act.Released 0 4)

abbrev pub usual_session_e29 : Entry
usual_session_e29 = entry_by 0 (Some 16) (act.Handed (116 ∷ 104 ∷ 101 ∷ 115 ∷ 105 ∷ 115 ∷ []) 2)

abbrev pub usual_session_e30 : Entry
usual_session_e30 = entry_by 0 (Some 17) (act.Left 1)

abbrev pub usual_session_e31 : Entry
usual_session_e31 = entry_by 0 (Some 18) (act.Edited 0 (comp.Ins 0 (37 ∷ 32 ∷ 100 ∷ 114 ∷ 97 ∷ 102 ∷ 116 ∷ 10 ∷ [])))

abbrev pub usual_session_e32 : Entry
usual_session_e32 = entry_by 0 (Some 19) (act.Sent (record { doc = 0; client = (Some 0); number = 3; source = 1000001; dup = []; user = 97 ∷ 110 ∷ 97 ∷ []; track = false; ms = 0; v = 3; op = ((comp.Ins 0 (37 ∷ 32 ∷ 100 ∷ 114 ∷ 97 ∷ 102 ∷ 116 ∷ 10 ∷ [])) ∷ []) }))

abbrev pub usual_session_e33 : Entry
usual_session_e33 = entry_by 0 (Some 20) (act.Joined 1 0 (98 ∷ 101 ∷ 110 ∷ []) true (Some 3) 1000033 3)

abbrev pub usual_session_e34 : Entry
usual_session_e34 = entry_by 0 (Some 21) (act.Acquired 0 5 30000)

abbrev pub usual_session_e35 : Entry
usual_session_e35 = entry_by 0 (Some 21) (act.Committed 0 5 32 (Applied 3 ((comp.Ins 0 (37 ∷ 32 ∷ 100 ∷ 114 ∷ 97 ∷ 102 ∷ 116 ∷ 10 ∷ [])) ∷ [])))

abbrev pub usual_session_e36 : Entry
usual_session_e36 = entry_by 0 (Some 21) (act.Released 0 5)

abbrev pub usual_session_e37 : Entry
usual_session_e37 = entry_by 0 (Some 21) (act.Got 1 (brief.Op 3))

abbrev pub usual_session_e38 : Entry
usual_session_e38 = entry_by 0 None (act.Closed 0)

abbrev pub usual_session_e39 : Entry
usual_session_e39 = entry_by 0 None (act.Ticked 30000)

abbrev pub usual_session_e40 : Entry
usual_session_e40 = entry_by 0 None (act.Got 0 (brief.Ack 3))

abbrev pub usual_session_e41 : Entry
usual_session_e41 = entry_by 0 None (act.Acquired 0 6 60000)

abbrev pub usual_session_e42 : Entry
usual_session_e42 = entry_by 0 None (act.Flushed 0 6 4)

abbrev pub usual_session_e43 : Entry
usual_session_e43 = entry_by 0 None (act.Released 0 6)

abbrev pub usual_session : List Entry
usual_session = usual_session_e0 ∷ usual_session_e1 ∷ usual_session_e2 ∷ usual_session_e3 ∷ usual_session_e4 ∷ usual_session_e5 ∷ usual_session_e6 ∷ usual_session_e7 ∷ usual_session_e8 ∷ usual_session_e9 ∷ usual_session_e10 ∷ usual_session_e11 ∷ usual_session_e12 ∷ usual_session_e13 ∷ usual_session_e14 ∷ usual_session_e15 ∷ usual_session_e16 ∷ usual_session_e17 ∷ usual_session_e18 ∷ usual_session_e19 ∷ usual_session_e20 ∷ usual_session_e21 ∷ usual_session_e22 ∷ usual_session_e23 ∷ usual_session_e24 ∷ usual_session_e25 ∷ usual_session_e26 ∷ usual_session_e27 ∷ usual_session_e28 ∷ usual_session_e29 ∷ usual_session_e30 ∷ usual_session_e31 ∷ usual_session_e32 ∷ usual_session_e33 ∷ usual_session_e34 ∷ usual_session_e35 ∷ usual_session_e36 ∷ usual_session_e37 ∷ usual_session_e38 ∷ usual_session_e39 ∷ usual_session_e40 ∷ usual_session_e41 ∷ usual_session_e42 ∷ usual_session_e43 ∷ []

abbrev pub usual_session_lines : List Line
usual_session_lines =
    line.Doc (109 ∷ 97 ∷ 105 ∷ 110 ∷ []) (116 ∷ 104 ∷ 101 ∷ 115 ∷ 105 ∷ 115 ∷ []) (92 ∷ 100 ∷ 111 ∷ 99 ∷ 117 ∷ 109 ∷ 101 ∷ 110 ∷ 116 ∷ 99 ∷ 108 ∷ 97 ∷ 115 ∷ 115 ∷ 123 ∷ 97 ∷ 114 ∷ 116 ∷ 105 ∷ 99 ∷ 108 ∷ 101 ∷ 125 ∷ 10 ∷ 92 ∷ 98 ∷ 101 ∷ 103 ∷ 105 ∷ 110 ∷ 123 ∷ 100 ∷ 111 ∷ 99 ∷ 117 ∷ 109 ∷ 101 ∷ 110 ∷ 116 ∷ 125 ∷ 10 ∷ 92 ∷ 115 ∷ 101 ∷ 99 ∷ 116 ∷ 105 ∷ 111 ∷ 110 ∷ 123 ∷ 73 ∷ 110 ∷ 116 ∷ 114 ∷ 111 ∷ 125 ∷ 10 ∷ 87 ∷ 101 ∷ 32 ∷ 109 ∷ 101 ∷ 97 ∷ 115 ∷ 117 ∷ 114 ∷ 101 ∷ 32 ∷ 116 ∷ 105 ∷ 100 ∷ 101 ∷ 115 ∷ 46 ∷ 10 ∷ 92 ∷ 101 ∷ 110 ∷ 100 ∷ 123 ∷ 100 ∷ 111 ∷ 99 ∷ 117 ∷ 109 ∷ 101 ∷ 110 ∷ 116 ∷ 125 ∷ []) 0
    ∷ line.Join 0 (109 ∷ 97 ∷ 105 ∷ 110 ∷ []) (97 ∷ 110 ∷ 97 ∷ []) false
    ∷ line.Join 1 (109 ∷ 97 ∷ 105 ∷ 110 ∷ []) (98 ∷ 101 ∷ 110 ∷ []) true
    ∷ line.Ins 0 68 (116 ∷ 104 ∷ 101 ∷ 32 ∷ [])
    ∷ line.Send 0
    ∷ line.Ins 1 73 (32 ∷ 100 ∷ 97 ∷ 105 ∷ 108 ∷ 121 ∷ [])
    ∷ line.Del 1 60 7
    ∷ line.Ins 1 60 (114 ∷ 101 ∷ 99 ∷ 111 ∷ 114 ∷ 100 ∷ [])
    ∷ line.Send 1
    ∷ line.Com 0 50 5 1
    ∷ line.Sync 0
    ∷ line.Send 0
    ∷ line.Sync 1
    ∷ line.Sync 0
    ∷ line.Flush 0 (109 ∷ 97 ∷ 105 ∷ 110 ∷ [])
    ∷ line.Hand 0 (116 ∷ 104 ∷ 101 ∷ 115 ∷ 105 ∷ 115 ∷ []) 2
    ∷ line.Leave 1
    ∷ line.Ins 0 0 (37 ∷ 32 ∷ 100 ∷ 114 ∷ 97 ∷ 102 ∷ 116 ∷ 10 ∷ [])
    ∷ line.Send 0
    ∷ line.Rejoin 1
    ∷ line.Sync 1
    ∷ []

usual_session_leads : Leads 0 Alone (numbered 1 usual_session_lines) nothing_kept [] (take 38 usual_session)
unfolding makings applied_list sent committed clock acquirings last_acquiring released used outbox client kept cached loading all_history handed closed crossed
usual_session_leads = (
  (take 1 usual_session),
  nothing_kept,
  (((take 0 usual_session), (usual_session_e0 ∷ []), refl, refl, refl), refl),
  (
    (take 2 usual_session),
    nothing_kept,
    (((take 1 usual_session), (usual_session_e1 ∷ []), refl, (true, [], (refl, refl), refl), refl), refl),
    (
      (take 3 usual_session),
      nothing_kept,
      (((take 2 usual_session), (usual_session_e2 ∷ []), refl, (true, [], (refl, refl), refl), refl), refl),
      (
        (take 4 usual_session),
        nothing_kept,
        (((take 3 usual_session), (usual_session_e3 ∷ []), refl, refl, refl), refl),
        (
          (take 5 usual_session),
          nothing_kept,
          (((take 4 usual_session), (usual_session_e4 ∷ []), refl, refl, refl), refl),
          (
            (take 6 usual_session),
            nothing_kept,
            (((take 5 usual_session), (usual_session_e5 ∷ []), refl, refl, refl), refl),
            (
              (take 7 usual_session),
              nothing_kept,
              (((take 6 usual_session), (usual_session_e6 ∷ []), refl, refl, refl), refl),
              (
                (take 8 usual_session),
                nothing_kept,
                (((take 7 usual_session), (usual_session_e7 ∷ []), refl, refl, refl), refl),
                (
                  (take 9 usual_session),
                  nothing_kept,
                  (((take 8 usual_session), (usual_session_e8 ∷ []), refl, refl, refl), refl),
                  (
                    (take 10 usual_session),
                    nothing_kept,
                    (((take 9 usual_session), (usual_session_e9 ∷ []), refl, refl, refl), refl),
                    (
                      (take 18 usual_session),
                      nothing_kept,
                      (((take 10 usual_session), refl, ((take 16 usual_session), Done, inr ((take 13 usual_session), (1, true, (take 11 usual_session), ((take 10 usual_session), (usual_session_e10 ∷ []), refl, (record { free = refl; ticket = 4; rest = 8 ∷ []; first = refl; token_is = refl; loading = []; caches = (refl, refl); made_is = refl }), refl), ((take 12 usual_session), ((take 11 usual_session), (usual_session_e11 ∷ []), refl, inl ((act.Committed 0 1 4 (Applied 0 ((comp.Ins 68 (116 ∷ 104 ∷ 101 ∷ 32 ∷ [])) ∷ []))), (4, (Applied 0 ((comp.Ins 68 (116 ∷ 104 ∷ 101 ∷ 32 ∷ [])) ∷ [])), refl), refl), refl), ((take 12 usual_session), (usual_session_e12 ∷ []), refl, inl ((act.Released 0 1), refl, refl), refl))), inr ((take 16 usual_session), (2, true, (take 14 usual_session), ((take 13 usual_session), (usual_session_e13 ∷ []), refl, (record { free = refl; ticket = 8; rest = []; first = refl; token_is = refl; loading = []; caches = (refl, refl); made_is = refl }), refl), ((take 15 usual_session), ((take 14 usual_session), (usual_session_e14 ∷ []), refl, inl ((act.Committed 0 2 8 (Applied 1 ((comp.Ins 77 (32 ∷ 100 ∷ 97 ∷ 105 ∷ 108 ∷ 121 ∷ [])) ∷ (comp.Del 60 (109 ∷ 101 ∷ 97 ∷ 115 ∷ 117 ∷ 114 ∷ 101 ∷ [])) ∷ (comp.Ins 60 (114 ∷ 101 ∷ 99 ∷ 111 ∷ 114 ∷ 100 ∷ [])) ∷ []))), (8, (Applied 1 ((comp.Ins 77 (32 ∷ 100 ∷ 97 ∷ 105 ∷ 108 ∷ 121 ∷ [])) ∷ (comp.Del 60 (109 ∷ 101 ∷ 97 ∷ 115 ∷ 117 ∷ 114 ∷ 101 ∷ [])) ∷ (comp.Ins 60 (114 ∷ 101 ∷ 99 ∷ 111 ∷ 114 ∷ 100 ∷ [])) ∷ [])), refl), refl), refl), ((take 15 usual_session), (usual_session_e15 ∷ []), refl, inl ((act.Released 0 2), refl, refl), refl))), (refl, refl))), (2, ((take 17 usual_session), ((take 16 usual_session), (usual_session_e16 ∷ []), refl, (_, _, refl, refl), refl), ((take 18 usual_session), ((take 17 usual_session), (usual_session_e17 ∷ []), refl, (_, _, refl, refl), refl), (refl, refl)))))), refl),
                      (
                        (take 19 usual_session),
                        nothing_kept,
                        (((take 18 usual_session), (usual_session_e18 ∷ []), refl, refl, refl), refl),
                        (
                          (take 25 usual_session),
                          nothing_kept,
                          (((take 19 usual_session), refl, ((take 22 usual_session), Done, inr ((take 22 usual_session), (3, true, (take 20 usual_session), ((take 19 usual_session), (usual_session_e19 ∷ []), refl, (record { free = refl; ticket = 18; rest = []; first = refl; token_is = refl; loading = []; caches = (refl, refl); made_is = refl }), refl), ((take 21 usual_session), ((take 20 usual_session), (usual_session_e20 ∷ []), refl, inl ((act.Committed 0 3 18 (Applied 2 ((comp.Com 50 (73 ∷ 110 ∷ 116 ∷ 114 ∷ 111 ∷ []) 1) ∷ []))), (18, (Applied 2 ((comp.Com 50 (73 ∷ 110 ∷ 116 ∷ 114 ∷ 111 ∷ []) 1) ∷ [])), refl), refl), refl), ((take 21 usual_session), (usual_session_e21 ∷ []), refl, inl ((act.Released 0 3), refl, refl), refl))), (refl, refl)), (3, ((take 23 usual_session), ((take 22 usual_session), (usual_session_e22 ∷ []), refl, (_, _, refl, refl), refl), ((take 24 usual_session), ((take 23 usual_session), (usual_session_e23 ∷ []), refl, (_, _, refl, refl), refl), ((take 25 usual_session), ((take 24 usual_session), (usual_session_e24 ∷ []), refl, (_, _, refl, refl), refl), (refl, refl))))))), refl),
                          (
                            (take 26 usual_session),
                            nothing_kept,
                            (((take 25 usual_session), refl, ((take 25 usual_session), Done, (refl, refl), (1, ((take 26 usual_session), ((take 25 usual_session), (usual_session_e25 ∷ []), refl, (_, _, refl, refl), refl), (refl, refl))))), refl),
                            (
                              (take 29 usual_session),
                              nothing_kept,
                              (((take 26 usual_session), refl, ((take 27 usual_session), refl, inl ((act.Flushed 0 4 3), inl (3, refl), ((take 28 usual_session), (usual_session_e28 ∷ []), refl, inl ((act.Released 0 4), refl, refl), refl)))), refl),
                              (
                                (take 30 usual_session),
                                nothing_kept,
                                (((take 29 usual_session), (usual_session_e29 ∷ []), refl, refl, refl), refl),
                                (
                                  (take 31 usual_session),
                                  nothing_kept,
                                  (((take 30 usual_session), (usual_session_e30 ∷ []), refl, refl, refl), refl),
                                  (
                                    (take 32 usual_session),
                                    nothing_kept,
                                    (((take 31 usual_session), (usual_session_e31 ∷ []), refl, refl, refl), refl),
                                    (
                                      (take 33 usual_session),
                                      nothing_kept,
                                      (((take 32 usual_session), (usual_session_e32 ∷ []), refl, refl, refl), refl),
                                      (
                                        (take 34 usual_session),
                                        nothing_kept,
                                        (((take 33 usual_session), (usual_session_e33 ∷ []), refl, refl, refl), refl),
                                        (
                                          (take 38 usual_session),
                                          nothing_kept,
                                          (((take 34 usual_session), refl, ((take 37 usual_session), Done, inr ((take 37 usual_session), (5, true, (take 35 usual_session), ((take 34 usual_session), (usual_session_e34 ∷ []), refl, (record { free = refl; ticket = 32; rest = []; first = refl; token_is = refl; loading = []; caches = (refl, refl); made_is = refl }), refl), ((take 36 usual_session), ((take 35 usual_session), (usual_session_e35 ∷ []), refl, inl ((act.Committed 0 5 32 (Applied 3 ((comp.Ins 0 (37 ∷ 32 ∷ 100 ∷ 114 ∷ 97 ∷ 102 ∷ 116 ∷ 10 ∷ [])) ∷ []))), (32, (Applied 3 ((comp.Ins 0 (37 ∷ 32 ∷ 100 ∷ 114 ∷ 97 ∷ 102 ∷ 116 ∷ 10 ∷ [])) ∷ [])), refl), refl), refl), ((take 36 usual_session), (usual_session_e36 ∷ []), refl, inl ((act.Released 0 5), refl, refl), refl))), (refl, refl)), (1, ((take 38 usual_session), ((take 37 usual_session), (usual_session_e37 ∷ []), refl, (_, _, refl, refl), refl), (refl, refl))))), refl),
                                          refl,
                                        ),
                                      ),
                                    ),
                                  ),
                                ),
                              ),
                            ),
                          ),
                        ),
                      ),
                    ),
                  ),
                ),
              ),
            ),
          ),
        ),
      ),
    ),
  ),
)

usual_session_ends : Ends 2 ((take 38 usual_session) ++ entry_by 0 None (act.Closed 0) ∷ []) usual_session
unfolding makings applied_list sent committed clock acquirings last_acquiring released used outbox client kept cached loading all_history handed closed crossed
usual_session_ends = ((take 41 usual_session), inr (refl, ((take 41 usual_session), ((take 40 usual_session), ((take 40 usual_session), refl, (0, (refl, refl), refl)), ((take 41 usual_session), ((take 40 usual_session), refl, ((take 41 usual_session), (1, ((take 41 usual_session), ((take 40 usual_session), (usual_session_e40 ∷ []), refl, (_, _, refl, refl), refl), (refl, refl))), refl)), ((take 41 usual_session), (0, (refl, refl)), refl))), inl (refl, refl))), ((take 41 usual_session), refl, ((take 42 usual_session), refl, inl ((act.Flushed 0 6 4), inl (4, refl), ((take 43 usual_session), (usual_session_e43 ∷ []), refl, inl ((act.Released 0 6), refl, refl), refl)))))

usual_session_follows : Follows usual_session_lines 2 usual_session
usual_session_follows = record { done = (take 38 usual_session); leads = usual_session_leads; ends = usual_session_ends }
