-- Values whose texts and keys are UTF-8, as those that code makes are.
use Rattle.std.specs.Prelude.{ℕ, ◌&&◌, ◌||◌, List, Bool, true, nat_lt}
use Rattle.std.specs.List.{list_all}
use Rattle.std.specs.Str.{is_utf8}
use Rattle.serde_json.specs.Data.{Data, null, boolean, number, string, array, object, Items, no_items, item, Members, no_members, member}

-- ASCII, which is told by computing alone, or any other UTF-8
abbrev pub is_text : List ℕ → Bool
is_text s = list_all (λ x. nat_lt x 128) s || is_utf8 s

abbrev mutual
  pub has_texts : Data → Bool
  has_texts null = true
  has_texts (boolean b) = true
  has_texts (number n) = true
  has_texts (string s) = is_text s
  has_texts (array ds) = items_have_texts ds
  has_texts (object ms) = members_have_texts ms

  pub items_have_texts : Items → Bool
  items_have_texts no_items = true
  items_have_texts (item d ds) = has_texts d && items_have_texts ds

  pub members_have_texts : Members → Bool
  members_have_texts no_members = true
  members_have_texts (member k d ms) = is_text k && (has_texts d && members_have_texts ms)
