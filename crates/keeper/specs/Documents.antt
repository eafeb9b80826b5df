-- Documents by name.
use Rattle.std.specs.Prelude.{ℕ, ◌≡◌, ◌≢◌, List, Option, Some}
use Rattle.std.specs.Map.{lookup}
use Rattle.std.specs.Str.{bytes_eq}
use Rattle.ranges_tracker.specs.Kept.{Kept}

-- the document under a name
abbrev pub document_of : List ℕ → List (List ℕ × Kept) → Option Kept
document_of name documents = lookup (bytes_eq name) documents

-- the name has this document now, and each other name what it had
pub record Sets (name : List ℕ) (doc : Kept) (before now : List (List ℕ × Kept)) : Type 0 where
  pub set : document_of name now ≡ Some doc
  pub others : (other : List ℕ) → other ≢ name → document_of other now ≡ document_of other before
