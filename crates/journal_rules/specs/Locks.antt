-- The clock, the tokens and the locks.
use Rattle.std.specs.Prelude.{◌≡◌, ℕ, ◌+◌, ◌==◌, nat_le, Bool, false, not, List, [], ◌∷◌, length, Option, Some, None, if◌then◌else◌}
use Rattle.journal_entries.specs.declared.act.Act.{Act}
use Rattle.journal_entries.specs.declared.act.Act.TheVariants.{Ticked, Acquired, Released, Committed}
use Rattle.journal_entries.specs.declared.act.Entry.{Entry}
use Rattle.journal_rules.specs.Folds.{gathered, folded}
use Rattle.journal_rules.specs.Documents.{is_in}

-- the clock, in milliseconds: the sum of the ticks
abbrev pub ticked : Act → ℕ → ℕ
ticked (Ticked ms) now = now + ms
ticked _ now = now

unfoldable pub clock : List Entry → ℕ
clock journal = folded (λ before e now. ticked e.act now) 0 journal

-- a document's lock was acquired, by a seat, under a token, and expires at a moment
pub record Acquiring : Type 0 where
  pub seat : ℕ
  pub doc : ℕ
  pub token : ℕ
  pub until : ℕ

abbrev pub acquiring_of : ℕ → Act → List Acquiring
acquiring_of seat (Acquired doc token until) = record { seat = seat; doc = doc; token = token; until = until } ∷ []
acquiring_of seat _ = []

unfoldable pub acquirings : List Entry → List Acquiring
acquirings journal = gathered (λ before e. acquiring_of e.seat e.act) journal

-- the token of an acquiring is the count of them up to it and with it
abbrev pub next_token : List Entry → ℕ
next_token journal = length (acquirings journal) + 1

-- the last acquiring of a document
abbrev pub acquired_by : ℕ → ℕ → Act → Option Acquiring → Option Acquiring
acquired_by d seat (Acquired doc token until) now = if doc == d then Some (record { seat = seat; doc = doc; token = token; until = until }) else now
acquired_by d seat _ now = now

unfoldable pub last_acquiring : ℕ → List Entry → Option Acquiring
last_acquiring d journal = folded (λ before e now. acquired_by d e.seat e.act now) None journal

abbrev pub token_in : Option Acquiring → ℕ
token_in (Some a) = a.token
token_in None = 0

-- the last token of a document, 0 before the first
abbrev pub last_token : ℕ → List Entry → ℕ
last_token d journal = token_in (last_acquiring d journal)

-- the tokens that were released, and those under which an update was committed
abbrev pub released_by : Act → List ℕ
released_by (Released doc token) = token ∷ []
released_by _ = []

unfoldable pub released : List Entry → List ℕ
released journal = gathered (λ before e. released_by e.act) journal

abbrev pub used_by : Act → List ℕ
used_by (Committed doc token ticket outcome) = token ∷ []
used_by _ = []

unfoldable pub used : List Entry → List ℕ
used journal = gathered (λ before e. used_by e.act) journal

-- a document is held by its last acquiring, whose token was not released
pub record HeldBy (d : ℕ) (a : Acquiring) (journal : List Entry) : Type 0 where
  pub last : last_acquiring d journal ≡ Some a
  pub standing : is_in a.token (released journal) ≡ false

abbrev pub is_held_in : Option Acquiring → List ℕ → Bool
is_held_in (Some a) tokens = not (is_in a.token tokens)
is_held_in None tokens = false

abbrev pub is_held : ℕ → List Entry → Bool
is_held d journal = is_held_in (last_acquiring d journal) (released journal)

-- and expired where the clock has come to the end of the last acquiring
abbrev pub is_expired_in : Option Acquiring → ℕ → Bool
is_expired_in (Some a) now = nat_le a.until now
is_expired_in None now = false

abbrev pub is_expired : ℕ → List Entry → Bool
is_expired d journal = is_expired_in (last_acquiring d journal) (clock journal)

-- a seat holds a document under a token, expired or not
pub record Holds (seat d token : ℕ) (journal : List Entry) : Type 0 where
  pub acquiring : Acquiring
  pub held : HeldBy d acquiring journal
  pub token_is : acquiring.token ≡ token
  pub seat_is : acquiring.seat ≡ seat
