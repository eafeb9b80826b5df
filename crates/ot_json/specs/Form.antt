-- The component that a JSON value is: an object with exactly the keys `i` and `p`, `d` and `p`, or `c`, `p` and `t`.
use Rattle.std.specs.Prelude.{ℕ, ◌==◌, List, codes, Option, None, option_map, option_and_then, if◌then◌else◌}
use Rattle.std.specs.Option.{option_or}
use Rattle.json_lines.specs.Reading.{key_count, text_at, whole_at}
use Rattle.serde_json.specs.Data.{Data}
use Rattle.ot_op.specs.declared.limits.TheConstants.{MAX_PLACE}
use Rattle.ot_json.specs.declared.component.Component.{Component}
use Rattle.ot_json.specs.declared.component.Component.TheVariants.{Insert, Delete, Comment}

-- the bytes of its text, its place, and the thread of a comment
pub data Written : Type 0 where
  insert : List ℕ → ℕ → Written
  delete : List ℕ → ℕ → Written
  comment : List ℕ → ℕ → ℕ → Written

abbrev pub max_thread : ℕ
max_thread = 4294967295

abbrev pub place_at : Data → Option ℕ
place_at d = whole_at MAX_PLACE (codes "p") d

abbrev pub thread_at : Data → Option ℕ
thread_at d = whole_at max_thread (codes "t") d

abbrev pub insert_of : Data → Option Written
insert_of d = option_and_then (λ s. option_map (λ p. insert s p) (place_at d)) (text_at (codes "i") d)

abbrev pub delete_of : Data → Option Written
delete_of d = option_and_then (λ s. option_map (λ p. delete s p) (place_at d)) (text_at (codes "d") d)

abbrev pub comment_of : Data → Option Written
comment_of d = option_and_then (λ s. option_and_then (λ p. option_map (λ t. comment s p t) (thread_at d)) (place_at d)) (text_at (codes "c") d)

-- none where the value is out of form
abbrev pub written_of : Data → Option Written
written_of d =
    if key_count d == 2 then option_or (insert_of d) (delete_of d)
    else (if key_count d == 3 then comment_of d else None)

-- what the code keeps of a component, as data
abbrev pub written_data : Component → Written
written_data (Insert text place) = insert text.now place
written_data (Delete text place) = delete text.now place
written_data (Comment text place thread) = comment text.now place thread
