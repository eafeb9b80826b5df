-- What some of the whys say of one document.
use Rattle.std.specs.Prelude.{◌≡◌, ◌≢◌, ◌⊎◌, ℕ, ◌<◌, true, false, List, [], length, Option, None, IsSomeAnd}
use Rattle.expiring_lock.specs.declared.refusal.Busy.{Busy}
use Rattle.expiring_lock.specs.declared.refusal.Stale.{Stale}
use Rattle.expiring_lock.specs.declared.refusal.Stale.TheVariants.{Other, Ended}
use Rattle.journal_entries.specs.declared.why.Why.{Why}
use Rattle.journal_entries.specs.declared.why.Why.TheVariants as why
use Rattle.journal_entries.specs.declared.act.Entry.{Entry}
use Rattle.journal_rules.specs.Documents.{IsMade, version, waiting, is_in}
use Rattle.journal_rules.specs.Locks.{Acquiring, HeldBy, is_expired, last_token, released}
use Rattle.journal_rules.specs.Keeping.{kept, cached}

pub record IsBusyOn (before : List Entry) (d : ℕ) (busy : Busy) : Type 0 where
  pub acquiring : Acquiring
  pub held : HeldBy d acquiring before
  pub unexpired : is_expired d before ≡ false
  pub token_is : acquiring.token ≡ busy.token
  pub until_is : acquiring.until ≡ busy.until

abbrev pub IsStaleOn : List Entry → ℕ → Stale → Type 0
IsStaleOn before d (Other token) = last_token d before ≡ token
IsStaleOn before d Ended = is_in (last_token d before) (released before) ≡ true

pub record IsUnflushedOn (before : List Entry) (d : ℕ) (was : Option ℕ) (have : ℕ) : Type 0 where
  pub kept_is : kept d before ≡ was
  pub have_is : version d before ≡ have
  pub behind : (was ≡ None) ⊎ IsSomeAnd was (λ v. v < have)

pub record IsAwaitedOn (before : List Entry) (d count : ℕ) : Type 0 where
  pub count_is : length (waiting d before) ≡ count
  pub some : count ≢ 0

abbrev pub IsShown : List Entry → ℕ → Why → Type 0
IsShown before d why.Empty = waiting d before ≡ []
IsShown before d (why.Busy busy) = IsBusyOn before d busy
IsShown before d why.Uncached = cached d before ≡ false
IsShown before d (why.Stale stale) = IsStaleOn before d stale
IsShown before d (why.Unflushed was have) = IsUnflushedOn before d was have
IsShown before d (why.Waiting count) = IsAwaitedOn before d count
IsShown before d _ = ⊥

abbrev pub IsShownBySome : List Entry → Why → Type 0
IsShownBySome before why = (d : ℕ) × IsMade d before × IsShown before d why
