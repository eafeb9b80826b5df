-- An update whose operation applies to the text of its own version is never a mismatch.
use Rattle.std.specs.Prelude.{◌≡◌, ◌≢◌, ℕ, ◌≤◌, List, Some}
use Rattle.ot_op.specs.Apply.{applied_all}
use Rattle.journal_entries.specs.declared.update.Update.{Update}
use Rattle.journal_entries.specs.declared.update.Outcome.TheVariants.{Refused}
use Rattle.journal_entries.specs.declared.update.Cause.TheVariants.{Mismatch}
use Rattle.journal_entries.specs.declared.act.Entry.{Entry}
use Rattle.journal_rules.specs.Documents.{base, version, text_at}
use Rattle.journal_rules.specs.Deciding.{decided}

-- the update is for a version of the document, and its operation applies to the text there
pub record AppliesAtItsVersion (j : List Entry) (d : ℕ) (u : Update) : Type 0 where
  pub low : base d j ≤ u.v
  pub high : u.v ≤ version d j
  pub here : List ℕ
  pub to : List ℕ
  pub here_is : text_at d u.v j ≡ Some here
  pub applies : applied_all here u.op ≡ Some to

abbrev pub IsNoMismatch : List Entry → ℕ → Update → Type 0
IsNoMismatch j d u = decided j d u ≢ Refused Mismatch
