-- Members and elements that are written one by one, the members in byte order of their keys.
use Rattle.std.specs.Prelude.{◌≡◌, List, [], ◌∷◌, ◌++◌}
use Rattle.json.specs.Token.{Token}
use Rattle.json.specs.Tree.{items_tokens, members_tokens}
use Rattle.json.specs.Written.{Written}
use Rattle.serde_json.specs.Data.{Data, Items, item, Members}
use Rattle.serde_json.specs.Written.{items_outline, members_outline}

-- the tokens of elements, with the bracket that closes their array
abbrev pub elements_closed : Items → List Token
elements_closed ds = items_tokens (items_outline ds)

-- the tokens of members, with the brace that closes their object
abbrev pub members_closed : Members → List Token
members_closed ms = members_tokens (members_outline ms)

-- members more, before those that are still to come
pub record Puts (old new : Written) (before : Members → Members) : Type 0 where
  pub same : new.before ≡ old.before
  pub members : (more : Members) → new.tokens ++ members_closed more ≡ old.tokens ++ members_closed (before more)

-- elements more, before those that are still to come
pub record PutsElements (old new : Written) (before : Items → Items) : Type 0 where
  pub same : new.before ≡ old.before
  pub elements : (more : Items) → new.tokens ++ elements_closed more ≡ old.tokens ++ elements_closed (before more)

-- elements before those that are still to come
abbrev pub elements_before : List Data → Items → Items
elements_before [] more = more
elements_before (d ∷ ds) more = item d (elements_before ds more)
