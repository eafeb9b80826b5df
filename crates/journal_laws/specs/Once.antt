-- Each update of a client is applied once, at the version that its answer names.
use Rattle.std.specs.Prelude.{◌≡◌, ℕ, ◌≤◌, true, List, ◌∷◌, ◌++◌, slice_get, Some}
use Rattle.journal_entries.specs.declared.update.Update.{Update}
use Rattle.journal_entries.specs.declared.act.Entry.{Entry}
use Rattle.journal_rules.specs.Documents.{Item, applied_list, update_at, is_in}
use Rattle.journal_rules.specs.Client.{Client}
use Rattle.journal_laws.specs.ClientLaw.{items_from}

-- the item is of an update of this client with this number
abbrev pub IsCopy : ℕ → ℕ → Item → Type 0
IsCopy c n x = (x.update.client ≡ Some c) × (x.update.number ≡ n)

-- no two items, of one document or of two, are of one client with one number
abbrev pub AreOnce : List Entry → Type 0
AreOnce j = (c n d d' i i' : ℕ) (x x' : Item) → slice_get (applied_list d j) i ≡ Some x → slice_get (applied_list d' j) i' ≡ Some x' → IsCopy c n x → IsCopy c n x' → (d ≡ d') × (i ≡ i')

-- a duplicate of a client's update names the version of the item of that number
pub record NamesItem (j : List Entry) (d v c : ℕ) (u : Update) : Type 0 where
  pub before : List Item
  pub item : Item
  pub after : List Item
  pub stands : applied_list d j ≡ before ++ item ∷ after
  pub v_is : item.v ≡ v
  pub copy : IsCopy c u.number item

-- the operation in flight: each update that was sent with its number is for a version that the client had, under one of the flight's sources; and each item ahead of the client under one of these sources is a copy of it
pub record IsFlightKnown (c : ℕ) (j : List Entry) (s : Client) : Type 0 where
  pub copies : (t : ℕ) (u : Update) → update_at j t ≡ Some u → u.client ≡ Some c → u.number ≡ s.number → (u.v ≤ s.version) × (is_in u.source s.sources ≡ true)
  pub items : (before : List Item) (x : Item) (rest : List Item) → items_from s.doc s.version j ≡ before ++ x ∷ rest → is_in x.update.source s.sources ≡ true → IsCopy c s.number x
