-- What one does alone is also done among others: the same turns, where others may write between them.
use Rattle.std.proofs.Common.{◌≡◌, ◌⊎◌, ℕ, zero, suc, List, [], ◌∷◌, ◌++◌, length, Bool, true, false, inl, inr}
use Rattle.std.specs.Prelude.{Option, Some, None, map}
use Rattle.journal_entries.specs.declared.act.Act.{Act}
use Rattle.journal_entries.specs.declared.act.Entry.{Entry}
use Rattle.journal_entries.specs.declared.why.Why.{Why}
use Rattle.journal_rules.specs.Client.{client}
use Rattle.journal_rules.specs.Documents.{number_of, waiting}
use Rattle.journal_rules.specs.Locks.{next_token}
use Rattle.session_lines.specs.declared.line.Line.{Line}
use Rattle.session_lines.specs.declared.line.Line.TheVariants.{Join, Sync, Drain, Hold, Finish, Flush}
use Rattle.turn_rules.specs.Clients.{is_present}
use Rattle.turn_rules.specs.Draining.{IsTakenOver, TakesUp, Under, IsCommit, IsRelease, Stop, Releases, Settles, DrainsOne, Drains}
use Rattle.turn_rules.specs.Flushing.{IsPut, FlushesFrom}
use Rattle.run_rules.specs.Keeping.{Preparation, Preparations}
use Rattle.run_rules.specs.Lines.{Joins, Finishes, GetsOne, GetsSoMany, DrainsSoMany, DrainsNamed, SyncsIf, late_acts, FlushesUnless, FlushesNamed, HoldsIf, HoldsUnless, HoldsNamed, Holds, not_holdable, Does, Leads}
use Rattle.turn_rules.specs.Locking.{acquired, unavailable}
use Rattle.run_rules.specs.Plain.{plain_acts}
use Rattle.turn_rules.specs.Turns.{Turn, entry_by}

module _ (Next Wide : List Entry → List Entry → Type 0) (wider : (left look : List Entry) → Next left look → Wide left look) where
  turn_wider : (Makes : List Entry → List Entry → Type 0) (left last : List Entry) → Turn Next Makes left last → Turn Wide Makes left last
  turn_wider Makes left last t = (t.0, t.1, wider left t.0 t.2, t.3, t.4)

  module _ (by : Act → Entry) where
    releases_wider : (doc token : ℕ) (left last : List Entry) → Releases by Next doc token left last → Releases by Wide doc token left last
    releases_wider doc token left last r = turn_wider (Under by doc token (IsRelease doc token)) left last r

    settles_wider : (ready : Bool) (doc token : ℕ) (left last : List Entry) → Settles by Next ready doc token left last → Settles by Wide ready doc token left last
    settles_wider true doc token left last s = (s.0, turn_wider (Under by doc token (IsCommit doc token)) left s.0 s.1, releases_wider doc token s.0 last s.2)
    settles_wider false doc token left last s = releases_wider doc token left last s

    pub drains_one_wider : (doc : ℕ) (left last : List Entry) → DrainsOne by Next doc left last → DrainsOne by Wide doc left last
    drains_one_wider doc left last d = (d.0, d.1, d.2, turn_wider (TakesUp by doc d.0 d.1) left d.2 d.3, settles_wider d.1 doc d.0 d.2 last d.4)

    drains_wider : (doc most : ℕ) (left last : List Entry) (stop : Stop) → Drains by Next doc most left last stop → Drains by Wide doc most left last stop
    drains_wider doc zero left last stop d = d
    drains_wider doc (suc most) left last stop (inl x) = inl (wider left last x.0, x.1)
    drains_wider doc (suc most) left last stop (inr x) = inr (x.0, drains_one_wider doc left x.0 x.1, drains_wider doc most x.0 last stop x.2)

    gets_so_many_wider : (n c : ℕ) (left last : List Entry) → GetsSoMany by Next n c left last → GetsSoMany by Wide n c left last
    gets_so_many_wider zero c left last g = (wider left last g.0, g.1)
    gets_so_many_wider (suc n) c left last g = (g.0, turn_wider (GetsOne by c) left g.0 g.1, gets_so_many_wider n c g.0 last g.2)

    put_wider : (late : List Entry → List Act) (doc token : ℕ) (look last : List Entry)
        → ((act : Act) × IsPut doc token act × Releases by Next doc token (look ++ by act ∷ []) last) ⊎ (IsTakenOver doc token look × (last ≡ look ++ map by (late look)))
        → ((act : Act) × IsPut doc token act × Releases by Wide doc token (look ++ by act ∷ []) last) ⊎ (IsTakenOver doc token look × (last ≡ look ++ map by (late look)))
    put_wider late doc token look last (inl x) = inl (x.0, x.1, releases_wider doc token (look ++ by x.0 ∷ []) last x.2)
    put_wider late doc token look last (inr x) = inr x

    pub flushes_wider : (late : List Entry → List Act) (doc : ℕ) (look last : List Entry) → FlushesFrom by Next late doc look last → FlushesFrom by Wide late doc look last
    flushes_wider late doc look last p = (p.0, wider (look ++ by (acquired doc look) ∷ []) p.0 p.1, put_wider late doc (next_token look) p.0 last p.2)

    module _ (session : ℕ) where
      drain_wider : (doc n : ℕ) (first last : List Entry) → DrainsSoMany by Next session doc n first last → DrainsSoMany by Wide session doc n first last
      drain_wider doc zero first last d = d
      drain_wider doc (suc n) first last d = (d.0, d.1, drains_wider doc (suc n) first d.0 d.1 d.2, d.3)

      drain_named_wider : (doc : Option ℕ) (first last : List Entry) → DrainsNamed by Next session doc first last → DrainsNamed by Wide session doc first last
      drain_named_wider None first last d = d
      drain_named_wider (Some doc) first last d = drain_wider doc (length (waiting doc first)) first last d

      sync_wider : (here : Bool) (doc : ℕ) (first last : List Entry) → SyncsIf by Next session here doc first last → SyncsIf by Wide session here doc first last
      sync_wider false doc first last s = s
      sync_wider true doc first last s =
          (s.0, s.1, drains_wider doc (length (waiting doc first)) first s.0 s.1 s.2, (s.3.0, gets_so_many_wider s.3.0 session s.0 last s.3.1))

      flush_wider : (doc : ℕ) (why : Option Why) (look last : List Entry) → FlushesUnless by Next session doc why look last → FlushesUnless by Wide session doc why look last
      flush_wider doc (Some why) look last f = f
      flush_wider doc None look last f = flushes_wider (late_acts session doc) doc look last f

      flush_named_wider : (doc : Option ℕ) (look last : List Entry) → FlushesNamed by Next session doc look last → FlushesNamed by Wide session doc look last
      flush_named_wider None look last f = f
      flush_named_wider (Some doc) look last f = flush_wider doc (unavailable doc look) look last f

      hold_if_wider : (ready : Bool) (doc token : ℕ) (kept : Preparations) (mid last : List Entry) (after : Preparations) → HoldsIf by Next session ready doc token kept mid last after → HoldsIf by Wide session ready doc token kept mid last after
      hold_if_wider true doc token kept mid last after h = h
      hold_if_wider false doc token kept mid last after h = (releases_wider doc token mid last h.0, h.1)

      hold_unless_wider : (doc : ℕ) (why : Option Why) (kept : Preparations) (look last : List Entry) (after : Preparations) → HoldsUnless by Next session doc why kept look last after → HoldsUnless by Wide session doc why kept look last after
      hold_unless_wider doc (Some why) kept look last after h = h
      hold_unless_wider doc None kept look last after h = (h.0, h.1, h.2, h.3, hold_if_wider h.1 doc h.0 kept (look ++ h.2) last after h.4)

      hold_named_wider : (doc : Option ℕ) (kept : Preparations) (look last : List Entry) (after : Preparations) → HoldsNamed by Next session doc kept look last after → HoldsNamed by Wide session doc kept look last after
      hold_named_wider None kept look last after h = h
      hold_named_wider (Some doc) kept look last after h = hold_unless_wider doc (not_holdable doc look) kept look last after h

      hold_wider : (p : Option Preparation) (name : List ℕ) (kept : Preparations) (look last : List Entry) (after : Preparations) → Holds by Next session p name kept look last after → Holds by Wide session p name kept look last after
      hold_wider (Some p) name kept look last after h = h
      hold_wider None name kept look last after h = hold_named_wider (number_of name look) kept look last after h

  module _ (seat : ℕ) where
    abbrev of_line : ℕ → Act → Entry
    of_line k = entry_by seat (Some k)

    pub does_wider : (k : ℕ) (line : Line) (kept : Preparations) (left last : List Entry) (after : Preparations) → Does seat Next k line kept left last after → Does seat Wide k line kept left last after
    does_wider k (Join session doc user track) kept left last after d = (turn_wider (λ look made. Joins (of_line k) session (number_of doc look) user track look made) left last d.0, d.1)
    does_wider k (Sync session) kept left last after d =
        ((d.0.0, wider left d.0.0 d.0.1, sync_wider (of_line k) session (is_present (client session d.0.0).state) (client session d.0.0).doc d.0.0 last d.0.2), d.1)
    does_wider k (Drain session doc) kept left last after d = ((d.0.0, wider left d.0.0 d.0.1, drain_named_wider (of_line k) session (number_of doc d.0.0) d.0.0 last d.0.2), d.1)
    does_wider k (Flush session doc) kept left last after d = ((d.0.0, wider left d.0.0 d.0.1, flush_named_wider (of_line k) session (number_of doc d.0.0) d.0.0 last d.0.2), d.1)
    does_wider k (Hold session doc) kept left last after d = (d.0, wider left d.0 d.1, hold_wider (of_line k) session (kept session) doc kept d.0 last after d.2)
    does_wider k (Finish session) kept left last after d = (turn_wider (Finishes (of_line k) session (kept session)) left last d.0, d.1)
    does_wider k line kept left last after d = (turn_wider (λ look made. made ≡ map (of_line k) (plain_acts look line)) left last d.0, d.1)

    pub leads_wider : (lines : List (ℕ × Line)) (kept : Preparations) (left last : List Entry) → Leads seat Next lines kept left last → Leads seat Wide lines kept left last
    leads_wider [] kept left last l = l
    leads_wider (line ∷ lines) kept left last l = (l.0, l.1, does_wider line.0 line.1 kept left l.0 l.1 l.2, leads_wider lines l.1 l.0 last l.3)
