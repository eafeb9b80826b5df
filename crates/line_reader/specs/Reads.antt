-- What is read of tokens: a value and the tokens behind it.
use Rattle.std.specs.Prelude.{◌≡◌, ℕ, List, Some}
use Rattle.json.specs.Token as token
use Rattle.json.specs.Json as json
use Rattle.serde_json.specs.Data.{Data, Items, Members}
use Rattle.serde_json.specs.Read.{of_items, of_json, of_members}

-- a value, which may nest so deep
abbrev pub Reads : ℕ → List token.Token → Data → List token.Token → Type 0
Reads depth ts d rest = (j : json.Json) × (json.value depth ts ≡ Some (j, rest)) × (of_json j ≡ Some d)

-- a key and its value
abbrev pub ReadsMember : ℕ → List token.Token → List ℕ → Data → List token.Token → Type 0
ReadsMember depth ts k d rest = (behind : List token.Token) × (json.read_key ts ≡ Some (Some k, behind)) × Reads depth behind d rest

-- the members that are left of an object, put behind those before
abbrev pub ReadsMembers : ℕ → ℕ → List token.Token → Members → Members → List token.Token → Type 0
ReadsMembers depth n ts before ms rest = (js : json.Members) × (json.members (json.value depth) n ts ≡ Some (js, rest)) × (of_members js before ≡ Some ms)

-- the elements that are left of an array that is a member of a line
abbrev pub ReadsItems : ℕ → List token.Token → Items → List token.Token → Type 0
ReadsItems n ts ds rest = (js : json.Items) × (json.items (json.value 125) n ts ≡ Some (js, rest)) × (of_items js ≡ Some ds)
