-- The end of a run hands nothing out.
use Rattle.std.proofs.Common.{◌≡◌, ◌⊎◌, ℕ, zero, suc, ◌+◌, List, [], ◌∷◌, ◌++◌, length, Bool, true, false, refl, ap, ap₂, ◌∙◌, inl, inr, append-nil}
use Rattle.std.specs.Prelude.{None}
use Rattle.expiring_lock.specs.declared.lock.TheConstants.{LOCK_LIFE}
use Rattle.journal_entries.specs.declared.act.Act.{Act}
use Rattle.journal_entries.specs.declared.act.Act.TheVariants.{Ticked, Closed}
use Rattle.journal_entries.specs.declared.act.Entry.{Entry}
use Rattle.journal_rules.specs.Client.{client}
use Rattle.journal_rules.specs.Documents.{makings}
use Rattle.journal_rules.specs.Legal.{closed}
use Rattle.journal_rules.specs.Locks.{next_token}
use Rattle.turn_rules.specs.Clients.{is_joined}
use Rattle.turn_rules.specs.Draining.{Drains, IsRelease, IsTakenOver, Releases, Stop, Under}
use Rattle.turn_rules.specs.Flushing.{FlushesFrom, IsPut}
use Rattle.turn_rules.specs.Locking.{acquired}
use Rattle.turn_rules.specs.Turns.{Alone, entry_by}
use Rattle.run_rules.specs.Ending.{CatchesUp, CatchesUpIf, DrainsDry, Ends, FlushesAtEnd, FlushesIf, InOrder, IsRound, Rounds, at_end}
use Rattle.run_rules.specs.Lines.{GetsSoMany}
use Rattle.run_rules.specs.Plain.{needs_flush}
use Rattle.project_histories.specs.Handing.{items_of}
use Rattle.script_driver.specs.Handing.{items_handed_by}
use Rattle.script_driver.proofs.Apart.{one_drained}
use Rattle.run_end.proofs.Catching.{quiet_sent}
use Rattle.script_driver.proofs.Handing.{HandsNone, apart_hands_none, one_hands_none, quiet_hands_none}

module _ (is_own : Entry → Bool) where
  in_order_hands_none : (Step : ℕ → List Entry → List Entry → Type 0) → ((n : ℕ) (left last : List Entry) → Step n left last → HandsNone is_own left last) → (n : ℕ) (left last : List Entry) → InOrder Step n left last → HandsNone is_own left last
  in_order_hands_none Step each zero left last o = ap (items_handed_by is_own) o
  in_order_hands_none Step each (suc n) left last o = each n o.0 last o.2 ∙ in_order_hands_none Step each n left o.0 o.1

  drains_hands_none : (doc most : ℕ) (left last : List Entry) (stop : Stop) → Drains at_end Alone doc most left last stop → HandsNone is_own left last
  drains_hands_none doc zero left last stop d = ap (items_handed_by is_own) d.1
  drains_hands_none doc (suc most) left last stop (inl d) = ap (items_handed_by is_own) d.0
  drains_hands_none doc (suc most) left last stop (inr d) = drains_hands_none doc most d.0 last stop d.2 ∙ apart_hands_none is_own (next_token left) left d.0 (one_drained 0 None doc left d.0 d.1)

  gets_hands_none : (n c : ℕ) (left last : List Entry) → GetsSoMany at_end Alone n c left last → HandsNone is_own left last
  gets_hands_none zero c left last g = ap (items_handed_by is_own) g.0
  gets_hands_none (suc n) c left last g =
      let t = g.1 in
      gets_hands_none n c g.0 last g.2 ∙ ap (items_handed_by is_own) (t.4 ∙ ap₂ (λ (j made : List Entry). j ++ made) t.2 t.3.3) ∙ one_hands_none is_own left _ refl

  catches_hands_none : (c : ℕ) (left last : List Entry) → CatchesUp c left last → HandsNone is_own left last
  catches_hands_none c left last = by (is_joined (client c left).state)
    where
      by : (joined : Bool) → CatchesUpIf joined c left last → HandsNone is_own left last
      by false h = ap (items_handed_by is_own) h
      by true h = quiet_hands_none is_own c h.0 last (quiet_sent c h.0 last h.2) ∙ gets_hands_none h.1.0 c left h.0 h.1.1

  round_hands_none : (sessions : ℕ) (left last : List Entry) → IsRound sessions left last → HandsNone is_own left last
  round_hands_none sessions left last r =
      in_order_hands_none CatchesUp catches_hands_none sessions r.0 last r.2
      ∙ in_order_hands_none DrainsDry (λ doc a b d. drains_hands_none doc d.0 a b _ d.1) (length (makings left)) left r.0 r.1

  rounds_hands_none : (sessions most : ℕ) (left last : List Entry) → Rounds sessions most left last → HandsNone is_own left last
  rounds_hands_none sessions zero left last r = ap (items_handed_by is_own) r
  rounds_hands_none sessions (suc most) left last (inl r) = ap (items_handed_by is_own) r.1
  rounds_hands_none sessions (suc most) left last (inr r) = rounds_hands_none sessions most r.1.0 last r.1.2 ∙ round_hands_none sessions left r.1.0 r.1.1

  release_hands_none : (doc token : ℕ) (left last : List Entry) → Releases at_end Alone doc token left last → HandsNone is_own left last
  release_hands_none doc token left last t = by t.3
    where
      by : Under at_end doc token (IsRelease doc token) t.0 t.1 → HandsNone is_own left last
      by (inl u) = ap (items_handed_by is_own) (t.4 ∙ ap₂ (λ (j made : List Entry). j ++ made) t.2 u.2) ∙ one_hands_none is_own left (at_end u.0) (ap (items_of left) u.1)
      by (inr u) = ap (items_handed_by is_own) (t.4 ∙ ap₂ (λ (j made : List Entry). j ++ made) t.2 u.1 ∙ append-nil left)

  put_act : (j : List Entry) (doc token : ℕ) (put : Act) → IsPut doc token put → items_of j put ≡ []
  put_act j doc token put (inl x) = ap (items_of j) x.1
  put_act j doc token put (inr x) = ap (items_of j) x.2

  flush_hands_none : (doc : ℕ) (left last : List Entry) → FlushesFrom at_end Alone (λ look. []) doc left last → HandsNone is_own left last
  flush_hands_none doc left last p = by p.2
    where
      begun : HandsNone is_own left p.0
      begun = ap (items_handed_by is_own) p.1 ∙ one_hands_none is_own left (at_end (acquired doc left)) refl

      by : ((put : Act) × IsPut doc (next_token left) put × Releases at_end Alone doc (next_token left) (p.0 ++ at_end put ∷ []) last) ⊎ (IsTakenOver doc (next_token left) p.0 × (last ≡ p.0 ++ [])) → HandsNone is_own left last
      by (inl d) = release_hands_none doc (next_token left) (p.0 ++ at_end d.0 ∷ []) last d.2 ∙ one_hands_none is_own p.0 (at_end d.0) (put_act p.0 doc (next_token left) d.0 d.1) ∙ begun
      by (inr d) = ap (items_handed_by is_own) (d.1 ∙ append-nil p.0) ∙ begun

  flush_at_end_hands_none : (doc : ℕ) (left last : List Entry) → FlushesAtEnd doc left last → HandsNone is_own left last
  flush_at_end_hands_none doc left last = by (needs_flush doc left)
    where
      by : (needed : Bool) → FlushesIf needed doc left last → HandsNone is_own left last
      by false f = ap (items_handed_by is_own) f
      by true f = flush_hands_none doc left last f

  -- the driver closes, and the run ends
  pub ends_hand_none : (sessions : ℕ) (left last : List Entry) → Ends sessions (left ++ entry_by 0 None (Closed 0) ∷ []) last → HandsNone is_own left last
  ends_hand_none sessions left last e =
      let closed = left ++ entry_by 0 None (Closed 0) ∷ [] in
      in_order_hands_none FlushesAtEnd flush_at_end_hands_none (length (makings e.0)) e.0 last e.2
      ∙ rounds_hands_none sessions 3 (closed ++ at_end (Ticked LOCK_LIFE) ∷ []) e.0 e.1
      ∙ one_hands_none is_own closed (at_end (Ticked LOCK_LIFE)) refl
      ∙ one_hands_none is_own left (entry_by 0 None (Closed 0)) refl
