-- A flusher that held no lock holds none at its end.
use Rattle.std.proofs.Common.{◌≡◌, ℕ, zero, suc, List, [], ◌∷◌, ◌++◌, true, not, refl, sym, subst, inl, inr}
use Rattle.std.specs.Prelude.{None}
use Rattle.std.specs.List.{list_all}
use Rattle.journal_entries.specs.declared.act.Act.{Act}
use Rattle.journal_entries.specs.declared.act.Entry.{Entry}
use Rattle.journal_rules.specs.Locks.{next_token}
use Rattle.turn_rules.specs.Flushing.{IsPut, Puts}
use Rattle.turn_rules.specs.Locking.{acquired}
use Rattle.turn_rules.specs.Turns.{Among, entry_by}
use Rattle.run_rules.specs.Threads.{FlushesOn, is_by}
use Rattle.seat_turns.specs.Seats.{HoldsNoLock, is_acquiring}
use Rattle.seat_turns.specs.declared.ending.WorkerEnd.{WorkerEnd}
use Rattle.seat_turns.specs.declared.ending.WorkerEnd.TheVariants.{Closed, Memory}
use Rattle.seat_turns.proofs.Holding.{HoldsBut, but_acquired, but_on, none_among, none_released, none_releases, quiet_among, quiet_made}
use Rattle.flusher.specs.Flushing.{FlushesBy, FlushesShort, FlushesSome, LetsGo}
use Rattle.flusher.proofs.Ends.{PutsAt}

module _ (seat : ℕ) where
  put_not : (d doc token : ℕ) (act : Act) → IsPut doc token act → list_all (λ x. not (is_acquiring d x)) (act ∷ []) ≡ true
  put_not d doc token act (inl x) = subst (λ (a : Act). list_all (λ x. not (is_acquiring d x)) (a ∷ []) ≡ true) (sym x.1) refl
  put_not d doc token act (inr x) = subst (λ (a : Act). list_all (λ x. not (is_acquiring d x)) (a ∷ []) ≡ true) (sym x.2) refl

  none_put : (doc token : ℕ) (at last : List Entry) → HoldsBut seat doc token at → PutsAt (Among (is_by seat)) seat doc token at last → HoldsNoLock seat last
  none_put doc token at last but (inl p) =
      let put = at ++ entry_by seat None p.0 ∷ [] in
      none_releases seat doc token put last (but_on seat doc token at put (λ d. quiet_made seat d (p.0 ∷ []) at (entry_by seat None p.0 ∷ []) refl (put_not d doc token p.0 p.1)) but) p.2
  none_put doc token at last but (inr p) = subst (λ (j : List Entry). HoldsNoLock seat j) (sym p.1) (none_released seat doc token at [] but (inr (p.0, refl)))

  none_puts : (doc token : ℕ) (left last : List Entry) → HoldsBut seat doc token left → Puts (entry_by seat None) (Among (is_by seat)) (λ late. []) doc token left last → HoldsNoLock seat last
  none_puts doc token left last but p = none_put doc token p.0 last (but_on seat doc token left p.0 (λ d. quiet_among seat d left p.0 p.1) but) p.2

  none_flushes : (left last : List Entry) → FlushesSome seat left last → HoldsNoLock seat left → HoldsNoLock seat last
  none_flushes left last f none = go f.0 left f.1 none
    where
      go : (n : ℕ) (left : List Entry) → FlushesOn seat n left last → HoldsNoLock seat left → HoldsNoLock seat last
      go zero left on none = none_among seat left last on none
      go (suc n) left on none =
          let first = on.1 ++ entry_by seat None (acquired on.0 on.1) ∷ [] in
          go n on.2 on.6 (none_puts on.0 (next_token on.1) first on.2 (but_acquired seat on.0 on.1 (none_among seat left on.1 on.3 none)) on.5)

  none_let_go : (left last : List Entry) → LetsGo seat left last → HoldsNoLock seat left → HoldsNoLock seat last
  none_let_go left last l none =
      none_releases seat l.0 (next_token l.1) (l.1 ++ entry_by seat None (acquired l.0 l.1) ∷ []) last (but_acquired seat l.0 l.1 (none_among seat left l.1 l.2 none)) l.4

  none_short : (left last : List Entry) → FlushesShort seat left last → HoldsNoLock seat left → HoldsNoLock seat last
  none_short left last (inl f) none = none_flushes left last f none
  none_short left last (inr f) none = none_let_go f.0 last f.2 (none_flushes left f.0 f.1 none)

  pub none_by : (end : WorkerEnd) (left last : List Entry) → FlushesBy end seat left last → HoldsNoLock seat left → HoldsNoLock seat last
  none_by Closed left last f none = none_flushes left last f none
  none_by Memory left last f none = none_short left last f none
