-- What a buffer before a sink has passed on.
use Rattle.std.specs.Prelude.{ℕ, ◌≡◌, List, ◌++◌, Option}
use Rattle.std.specs.Io.KnownBytes.{Appends}

-- since `start` the sink has been given the whole text, but for what is still held
pub record Delivered (start now : Option (List ℕ)) (held text : List ℕ) : Type 0 where
  pub given : List ℕ
  pub appended : Appends start now given
  pub all : given ++ held ≡ text

-- since `start` the sink has been given a prefix of the text, and what is held comes next
pub record DeliveredPrefix (start now : Option (List ℕ)) (held text : List ℕ) : Type 0 where
  pub prefix : List ℕ
  pub lost : List ℕ
  pub parts : prefix ++ lost ≡ text
  pub delivered : Delivered start now held prefix
