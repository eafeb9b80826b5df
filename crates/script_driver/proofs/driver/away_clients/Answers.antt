use Rattle.std.proofs.Common.{◌≡◌, ◌⊎◌, inl, inr, ◌+◌, ◌∙◌, ℕ, List, [], ◌∷◌, ◌++◌, length, refl, sym, ap, subst, arith, length-append}
use Rattle.std.specs.Prelude.{slice_get, Some}
use Rattle.journal_rules.specs.Client.{away}
use Rattle.journal_rules.proofs.Legality.{last_or}
use Rattle.share_client.specs.Clients.{Numbered}
use Rattle.script_driver.proofs.driver.away_clients.Goals as goal

pub loop-number-init : goal.loop-number-init
loop-number-init c = (ap length c.new-clients.ensures.items, λ k x at. (let e = subst (λ (l : List Numbered). slice_get l k ≡ Some x) c.new-clients.ensures.items at in absurd (cc)))

pub loop-number-preserved : goal.loop-number-preserved
loop-number-preserved c =
    let was = c.loop-number.invariant in
    let items = c.in_ok-push.ensures.items in
    let n = ap length items in
    let l = length-append c.loop-number.clients.items (c.new.result ∷ []) in
    let w = was.0 in
    (omega (arith, n, l, w), λ k x at. by k x (last_or c.loop-number.clients.items c.new.result k x (subst (λ (xs : List Numbered). slice_get xs k ≡ Some x) items at)))
  where
    by : (k : ℕ) (x : Numbered) → (slice_get c.loop-number.clients.items k ≡ Some x) ⊎ ((k ≡ length c.loop-number.clients.items) × (x ≡ c.new.result)) → x ≡ record { client = k; now = away }
    by k x (inl at) = c.loop-number.invariant.1 k x at
    by k x (inr t) = t.1 ∙ c.new.ensures ∙ ap (λ n. record { client = n; now = away }) (sym (t.0 ∙ c.loop-number.invariant.0))

pub returns-clause-many : goal.returns-clause-many
returns-clause-many c =
    let was = c.loop-number.invariant.0 in
    let full = c.loop-number-test.false in
    let low = c.loop-number.auto.number-end in
    omega (arith, was, full, low)
