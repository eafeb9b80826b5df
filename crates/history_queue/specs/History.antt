-- What contracts see of a queue of history.
use Rattle.std.specs.Prelude.{ℕ, List}
use Rattle.history_queue.specs.declared.item.Item.{Item}

-- the items that were not handed out, the first to be applied in front, and how many more there is room for
pub record History : Type 0 where
  pub items : List Item
  pub spare : ℕ
