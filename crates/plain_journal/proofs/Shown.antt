-- What a why says, where some document is as it says.
use Rattle.std.proofs.Common.{◌≡◌, ◌⊎◌, inl, inr, ℕ, List, Bool, sym, subst}
use Rattle.std.specs.Prelude.{◌↔◌, IsTrue, IfOk, Option, Result, Ok, Err}
use Rattle.expiring_lock.specs.declared.refusal.Busy.{Busy}
use Rattle.expiring_lock.specs.declared.refusal.Stale.{Stale}
use Rattle.expiring_lock.specs.declared.refusal.Stale.TheVariants.{Other, Ended}
use Rattle.journal_entries.specs.declared.why.Why.{Why}
use Rattle.journal_entries.specs.declared.why.Why.TheVariants as why
use Rattle.journal_entries.specs.declared.act.Entry.{Entry}
use Rattle.journal_rules.specs.Legal.{IsLegal}
use Rattle.journal_rules.specs.Whys.{IsWhy}
use Rattle.journal_rules.proofs.Fencing.{acquired_made}
use Rattle.plain_journal.specs.Whys.{IsShownBySome}

abbrev Tells : List Entry → ℕ → ℕ → Why → Type 0
Tells j seat c w = IsShownBySome j w ↔ IsWhy j seat c w

module _ (j : List Entry) (legal : IsLegal j) (seat c : ℕ) where
  busy_tells : (busy : Busy) → Tells j seat c (why.Busy busy)
  busy_tells busy = (
    λ some. record { doc = some.0; acquiring = some.2.acquiring; held = some.2.held; unexpired = some.2.unexpired; token_is = some.2.token_is; until_is = some.2.until_is },
    λ with. (with.doc, acquired_made with.doc j legal with.acquiring with.held.last, record { acquiring = with.acquiring; held = with.held; unexpired = with.unexpired; token_is = with.token_is; until_is = with.until_is }),
  )

  uncached_tells : Tells j seat c why.Uncached
  uncached_tells = (λ some. some, λ some. some)

  stale_tells : (stale : Stale) → Tells j seat c (why.Stale stale)
  stale_tells (Other token) = (λ some. some, λ some. some)
  stale_tells Ended = (λ some. some, λ some. some)

  unflushed_tells : (was : Option ℕ) (have : ℕ) → Tells j seat c (why.Unflushed was have)
  unflushed_tells was have = (
    λ some. record { doc = some.0; made = some.1; kept_is = some.2.kept_is; have_is = some.2.have_is; behind = some.2.behind },
    λ with. (with.doc, with.made, record { kept_is = with.kept_is; have_is = with.have_is; behind = with.behind }),
  )

  waiting_tells : (count : ℕ) → Tells j seat c (why.Waiting count)
  waiting_tells count = (
    λ some. record { doc = some.0; made = some.1; count_is = some.2.count_is; some = some.2.some },
    λ with. (with.doc, with.made, record { count_is = with.count_is; some = with.some }),
  )

  through : {E : Type 0} (r : Result Bool E) (w : Why) → Tells j seat c w → IfOk r (λ b. IsTrue b ↔ IsShownBySome j w) → IfOk r (λ b. IsTrue b ↔ IsWhy j seat c w)
  through (Ok b) w tells is = (λ t. tells.0 (is.0 t), λ h. is.1 (tells.1 h))
  through (Err e) w tells is = tt

  pub told_locked : {E : Type 0} (r : Result Bool E) (w : Why) → ((busy : Busy) × (w ≡ why.Busy busy)) ⊎ ((w ≡ why.Uncached) ⊎ ((stale : Stale) × (w ≡ why.Stale stale))) → IfOk r (λ b. IsTrue b ↔ IsShownBySome j w) → IfOk r (λ b. IsTrue b ↔ IsWhy j seat c w)
  told_locked r w (inl h) = through r w (subst (Tells j seat c) (sym h.1) (busy_tells h.0))
  told_locked r w (inr (inl h)) = through r w (subst (Tells j seat c) (sym h) uncached_tells)
  told_locked r w (inr (inr h)) = through r w (subst (Tells j seat c) (sym h.1) (stale_tells h.0))

  pub told_behind : {E : Type 0} (r : Result Bool E) (w : Why) → ((was : Option ℕ) × (have : ℕ) × (w ≡ why.Unflushed was have)) ⊎ ((count : ℕ) × (w ≡ why.Waiting count)) → IfOk r (λ b. IsTrue b ↔ IsShownBySome j w) → IfOk r (λ b. IsTrue b ↔ IsWhy j seat c w)
  told_behind r w (inl h) = through r w (subst (Tells j seat c) (sym h.2) (unflushed_tells h.0 h.1))
  told_behind r w (inr h) = through r w (subst (Tells j seat c) (sym h.1) (waiting_tells h.0))
