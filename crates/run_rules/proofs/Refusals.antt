-- Journals that don't follow: a drain of one too many, a finish under another token, a line declined for another reason.
use Rattle.std.proofs.Common.{◌≡◌, ℕ, ◌+◌, ◌≤◌, List, [], ◌∷◌, ◌++◌, length, Bool, true, false, true≢false, sym, ap, ◌∙◌, subst, inl, inr, take, drop, arith, length-append}
use Rattle.std.specs.Prelude.{Some, None, map}
use Rattle.ot_op.specs.declared.comp.Comp.TheVariants as comp
use Rattle.journal_entries.specs.declared.update.Outcome.TheVariants.{Applied}
use Rattle.journal_entries.specs.declared.why.Why.TheVariants as why
use Rattle.journal_entries.specs.declared.act.Act.{Act}
use Rattle.journal_entries.specs.declared.act.Act.TheVariants as act
use Rattle.journal_entries.specs.declared.act.Entry.{Entry}
use Rattle.journal_rules.specs.Documents.{makings, number_of, sent, committed}
use Rattle.journal_rules.specs.Locks.{clock, acquirings, last_acquiring, released}
use Rattle.journal_rules.specs.Keeping.{cached}
use Rattle.session_lines.specs.declared.line.Line.TheVariants as line
use Rattle.turn_rules.specs.Draining.{TakesUp, Stop, Done, StopsAt, Under, IsCommit, IsRelease, Settles, Drains}
use Rattle.run_rules.specs.Keeping.{Preparations, nothing_kept, keeping}
use Rattle.run_rules.specs.Lines.{Does, DrainsNamed, Finishes, Holds, HoldsIf, stop_acts}
use Rattle.turn_rules.specs.Turns.{Alone, entry_by}
use Rattle.run_rules.proofs.Alone.{alone_turn, one_under}
use Rattle.run_rules.proofs.Rows.{takeover}

abbrev pub name_a : List ℕ
name_a = 97 ∷ []

abbrev pub applied_x : Act
applied_x = act.Committed 0 1 1 (Applied 0 (comp.Ins 1 (88 ∷ []) ∷ []))

-- what a list of entries begins with
abbrev is_acquired : Act → Bool
is_acquired (act.Acquired doc token until) = true
is_acquired _ = false

abbrev begins_acquired : List Entry → Bool
begins_acquired [] = false
begins_acquired (e ∷ es) = is_acquired e.act

abbrev token_of : Act → ℕ
token_of (act.Committed doc token ticket outcome) = token
token_of _ = 0

abbrev first_token : List Entry → ℕ
first_token [] = 0
first_token (e ∷ es) = token_of e.act

-- one update waits for a document
abbrev pub two : List Entry
two = take 2 takeover

-- a hold that is declined though an update waits
abbrev pub by_3 : Act → Entry
by_3 = entry_by 0 (Some 3)

abbrev pub declined_empty : List Entry
declined_empty = by_3 (act.Declined 1 why.Empty) ∷ []

module _ (after : Preparations) where
  not_so : (ready : Bool) (token : ℕ) (made : List Entry) → TakesUp by_3 0 token ready two made → HoldsIf by_3 Alone 1 ready 0 token nothing_kept (two ++ made) (two ++ declined_empty) after → ⊥
  not_so true token made t h =
      let e : declined_empty ≡ made = ap (drop 2) h.0 in
      true≢false (sym (ap begins_acquired (e ∙ t.made_is)))
  not_so false token made t h =
      let r = alone_turn (Under by_3 0 token (IsRelease 0 token)) (two ++ made) (two ++ declined_empty) h.0 in
      let e : declined_empty ≡ made ++ r.0 = ap (drop 2) r.2 in
      true≢false (sym (ap begins_acquired (e ∙ ap (λ (m : List Entry). m ++ r.0) t.made_is)))

  wrong_why_at : Holds by_3 Alone 1 None name_a nothing_kept two (two ++ declined_empty) after → ⊥
  unfolding makings sent committed clock acquirings last_acquiring released cached
  wrong_why_at h = not_so h.1 h.0 h.2 h.3 h.4

  pub wrong_why : Does 0 Alone 3 (line.Hold 1 name_a) nothing_kept two (two ++ declined_empty) after → ⊥
  wrong_why h = wrong_why_at (subst (λ (look : List Entry). Holds by_3 Alone 1 None name_a nothing_kept look (two ++ declined_empty) after) h.1 h.2)

-- a finish under the token of another's lock
abbrev pub by_8 : Act → Entry
by_8 = entry_by 0 (Some 8)

abbrev pub both_kept : Preparations
both_kept = keeping 3 (Some (record { doc = 0; token = 2 })) (keeping 1 (Some (record { doc = 0; token = 1 })) nothing_kept)

abbrev pub finished_under_1 : List Entry
finished_under_1 = by_8 applied_x ∷ by_8 (act.Released 0 1) ∷ []

module _ (after : Preparations) where
  wrong_token_at : (made : List Entry) → Finishes by_8 3 (both_kept 3) (take 7 takeover) made → (take 7 takeover ++ finished_under_1) ≡ take 7 takeover ++ made → ⊥
  unfolding makings sent committed clock acquirings last_acquiring released
  wrong_token_at made f last_is =
      let e : finished_under_1 ≡ by_8 (act.Committed 0 2 f.0 f.1) ∷ by_8 (act.Released 0 2) ∷ [] = ap (drop 7) last_is ∙ f.3 in
      let one_is_two : 1 ≡ 2 = ap first_token e in
      omega (arith, one_is_two)

  pub wrong_token : Does 0 Alone 8 (line.Finish 3) both_kept (take 7 takeover) (take 7 takeover ++ finished_under_1) after → ⊥
  wrong_token h =
      let t = alone_turn (Finishes by_8 3 (both_kept 3)) (take 7 takeover) (take 7 takeover ++ finished_under_1) h.0 in
      wrong_token_at t.0 t.1 t.2

-- a drain that drains one update more than waited
abbrev pub drained_twice : List Entry
drained_twice =
    by_3 (act.Acquired 0 1 30000) ∷ by_3 applied_x ∷ by_3 (act.Released 0 1)
    ∷ by_3 (act.Acquired 0 2 30000) ∷ by_3 (act.Committed 0 2 1 (Applied 0 (comp.Ins 1 (88 ∷ []) ∷ []))) ∷ by_3 (act.Released 0 2) ∷ []

-- one drained update leaves at most three entries more, where the document is cached
few_more : (token : ℕ) (mid last : List Entry) → Settles by_3 Alone true 0 token mid last → length last ≤ length mid + 2
few_more token mid last s =
    let c = alone_turn (Under by_3 0 token (IsCommit 0 token)) mid s.0 s.1 in
    let r = alone_turn (Under by_3 0 token (IsRelease 0 token)) s.0 last s.2 in
    omega (
      arith,
      one_under by_3 0 token (IsCommit 0 token) mid c.0 c.1,
      one_under by_3 0 token (IsRelease 0 token) s.0 r.0 r.1,
      ap length c.2,
      ap length r.2,
      length-append mid c.0,
      length-append s.0 r.0,
    )

fewer : (token : ℕ) (ready : Bool) (made mid last : List Entry) → TakesUp by_3 0 token ready two made → mid ≡ two ++ made → Settles by_3 Alone ready 0 token mid last → length last ≤ 5
unfolding makings sent committed clock acquirings last_acquiring released cached
fewer token true made mid last t mid_is s =
    let none : t.loading ≡ [] = t.caches.1 in
    let e : length made ≡ 1 = ap length (t.made_is ∙ ap (λ (l : List Act). by_3 (act.Acquired 0 1 30000) ∷ map by_3 (l ++ [])) none) in
    omega (arith, few_more token mid last s, ap length mid_is, length-append two made, e)
fewer token false made mid last t mid_is s = absurd (true≢false (sym t.caches.0))

module _ (after : Preparations) where
  one_only : (mid : List Entry) (stop : Stop) → Drains by_3 Alone 0 1 two mid stop → (two ++ drained_twice) ≡ mid ++ map by_3 (stop_acts 1 stop) → ⊥
  unfolding makings sent committed clock acquirings last_acquiring released
  one_only mid stop (inl x) e = let none : StopsAt 0 two stop = subst (λ (j : List Entry). StopsAt 0 j stop) x.0 x.1 in absurd (cc)
  one_only mid stop (inr x) e =
      let one = x.1 in
      let t = alone_turn (TakesUp by_3 0 one.0 one.1) two one.2 one.3 in
      let less : length x.0 ≤ 5 = fewer one.0 one.1 t.0 one.2 x.0 t.1 t.2 one.4 in
      let end : (two ++ drained_twice) ≡ x.0 ++ map by_3 (stop_acts 1 Done) = e ∙ ap (λ (s : Stop). mid ++ map by_3 (stop_acts 1 s)) x.2.0 ∙ ap (λ (m : List Entry). m ++ []) x.2.1 in
      omega (arith, less, ap length end, length-append x.0 [])

  one_too_many_at : DrainsNamed by_3 Alone 1 (Some 0) two (two ++ drained_twice) → ⊥
  unfolding makings sent committed
  one_too_many_at h = one_only h.0 h.1 h.2 h.3

  pub one_too_many : Does 0 Alone 3 (line.Drain 1 name_a) nothing_kept two (two ++ drained_twice) after → ⊥
  unfolding makings
  one_too_many h =
      one_too_many_at (subst (λ (look : List Entry). DrainsNamed by_3 Alone 1 (number_of name_a look) look (two ++ drained_twice)) h.0.1 h.0.2)
