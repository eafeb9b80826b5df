-- The operations that were applied to a document last.
use Rattle.std.specs.Prelude.{◌≡◌, ℕ, ◌+◌, ◌-◌, ◌≤◌, Bool, List, [], ◌∷◌, ◌++◌, length, drop, min, nat_le, ◌&&◌, Option, Some, None, Vec, if◌then◌else◌}
use Rattle.std.specs.Option.{option_map}
use Rattle.std.specs.declared.alloc.Global.{Global}
use Rattle.journal_entries.specs.declared.limits.TheConstants.{MAX_AGE}
pub use Rattle.journal_rules.specs.Fence.{last_of}
use Rattle.dup_check.specs.declared.past.Past.{Past}

-- a document's first version, its present one, and the operations that were applied last
pub record Recent : Type 0 where
  pub base : ℕ
  pub version : ℕ
  pub last : List Past

-- how many are kept
abbrev pub most : ℕ
most = MAX_AGE

abbrev pub recent : List Past → List Past
recent all = last_of most all

abbrev pub empty_at : ℕ → Recent
empty_at base = record { base = base; version = base; last = [] }

abbrev pub pushed : Recent → Past → Recent
pushed w past = record { base = w.base; version = w.version + 1; last = recent (w.last ++ past ∷ []) }

-- whether a window has each operation from version v on
abbrev pub reaches : ℕ → ℕ → ℕ → Bool
reaches base version v = nat_le base v && (nat_le v version && nat_le version (v + most))

-- the operations from version v on, where the window has them
abbrev pub since_in : Recent → ℕ → Option (List Past)
since_in w v = if reaches w.base w.version v then Some (last_of (w.version - v) w.last) else None

abbrev pub past_items : Option (Vec Past Global) → Option (List Past)
past_items found = option_map (λ v. v.items) found

-- what holds of a window: it has the operations since its base, or the last 100 of them
pub record IsWindow (base version : ℕ) (last : List Past) (capacity : ℕ) : Type 0 where
  pub rising : base ≤ version
  pub whole : length last ≡ min most (version - base)
  pub capacity_is : capacity ≡ most
