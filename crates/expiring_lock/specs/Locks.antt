-- A lock that is given under rising tokens, and expires.
use Rattle.std.specs.Prelude.{ℕ, ◌≡◌, ◌<◌, Bool, IsTrue, IsFalse}

-- What a lock is. Of a lock that was never taken all is 0, and it isn't held.
pub record LockState : Type 0 where
  -- the last token given
  pub last : ℕ
  -- the moment at which that token expires, in milliseconds
  pub until : ℕ
  -- the seat that it was given to
  pub seat : ℕ
  -- it hasn't been let go
  pub held : Bool

-- the last token is held, and expires later than `now`
abbrev pub IsUnexpired : LockState → ℕ → Type 0
IsUnexpired lock now = IsTrue lock.held × (now < lock.until)

-- the token is the last one given, and is held; it may have expired
abbrev pub IsCurrent : LockState → ℕ → Type 0
IsCurrent lock token = (token ≡ lock.last) × IsTrue lock.held

-- the token is the last one given, and was let go; or it is 0, and none was given
abbrev pub IsEnded : LockState → ℕ → Type 0
IsEnded lock token = (token ≡ lock.last) × IsFalse lock.held
