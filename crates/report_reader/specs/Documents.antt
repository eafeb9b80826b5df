-- A document at the end, by the fields of its line.
use Rattle.std.specs.Prelude.{ℕ, List, [], ◌∷◌, Option, Some, None, option_map, codes, if◌then◌else◌}
use Rattle.std.specs.Str.{bytes_eq}
use Rattle.serde_json.specs.Data.{Data}
use Rattle.json_lines.specs.Reading.{number_at, text_at, within}
use Rattle.ranges_tracker.specs.declared.change.ChangeKind.{ChangeKind}
use Rattle.ranges_tracker.specs.declared.change.ChangeKind.TheVariants.{Inserted, Deleted}
use Rattle.ranges_tracker.specs.declared.change.Change.{Change}
use Rattle.ranges_tracker.specs.declared.comment.Comment.{Comment}
use Rattle.report_text.specs.declared.document_end.DocEnd.{DocEnd}
use Rattle.report_reader.specs.Fields.{and_then, each_at, max_u32, name_at, number_of, number_or_null_at, u32_at, units_at}

abbrev pub change_kind : List ℕ → Option ChangeKind
change_kind name =
    if bytes_eq name (codes "ins") then Some Inserted
    else (if bytes_eq name (codes "del") then Some Deleted
    else None)

-- the two numbers of an id
abbrev pub id_of : List ℕ → Option (ℕ × ℕ)
id_of (version ∷ k ∷ []) = option_map (λ small. (version, small)) (within max_u32 k)
id_of numbers = None

-- a tracked change
abbrev pub change_of : Data → Option Change
change_of d =
    and_then (and_then (each_at number_of (codes "id") d) id_of) (λ id. and_then (u32_at (codes "at") d) (λ at. and_then (and_then (text_at (codes "kind") d) change_kind) (λ kind.
    and_then (units_at (codes "text") d) (λ text. and_then (name_at (codes "user") d) (λ user.
    option_map (λ ms. record { version = id.0; k = id.1; at = at; kind = kind; text = text; user = user; ms = ms }) (number_at (codes "ms") d))))))

-- a comment
abbrev pub comment_of : Data → Option Comment
comment_of d =
    and_then (u32_at (codes "t") d) (λ thread. and_then (u32_at (codes "at") d) (λ at.
    option_map (λ text. record { thread = thread; at = at; text = text }) (units_at (codes "text") d)))

abbrev pub document_of : Data → Option DocEnd
document_of d =
    and_then (u32_at (codes "b") d) (λ b. and_then (u32_at (codes "doc") d) (λ doc. and_then (number_or_null_at (codes "kept") d) (λ kept.
    and_then (name_at (codes "name") d) (λ name. and_then (each_at change_of (codes "changes") d) (λ changes. and_then (each_at comment_of (codes "comments") d) (λ comments.
    and_then (units_at (codes "text") d) (λ text.
    option_map (λ v. record { b = b; doc = doc; kept = kept; name = name; ranges = (changes, comments); text = text; v = v }) (number_at (codes "v") d))))))))
