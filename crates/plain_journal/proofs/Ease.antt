-- A client of a legal journal is at ease, and its version low.
use Rattle.std.proofs.Common.{◌≡◌, ℕ, ◌+◌, ◌≤◌, List, length, true, sym, ap, ◌∙◌, subst, arith}
use Rattle.journal_entries.specs.declared.act.Entry.{Entry}
use Rattle.journal_rules.specs.Client as rules
use Rattle.journal_rules.specs.Legal.{IsLegal, highest_base}
use Rattle.journal_sizes.specs.Sizes.{IsAtEase}
use Rattle.journal_sizes.proofs.Clients as sizes
use Rattle.journal_sizes.proofs.Counts as counts
use Rattle.plain_journal.specs.declared.clients.Client.{Client}
use Rattle.plain_journal.specs.Answers.{client_as}

module _ (c : ℕ) (j : List Entry) (legal : IsLegal j) (s : Client) (is : client_as s ≡ rules.client c j) where
  pub at_ease : IsAtEase (client_as s)
  at_ease = subst IsAtEase (sym is) (sizes.at_ease c j legal)

  pub version_within : rules.is_alive s.state ≡ true → s.version ≤ highest_base + length j
  version_within lives =
      let low = counts.version_within c j legal (ap (λ (t : rules.Client). rules.is_alive t.state) (sym is) ∙ lives) in
      let same : s.version ≡ (rules.client c j).version = ap (λ (t : rules.Client). t.version) is in
      omega (arith, same, low)
