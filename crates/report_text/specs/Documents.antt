-- The line that is written of a document at the end.
use Rattle.std.specs.Prelude.{ℕ, List, [], ◌∷◌, map, codes}
use Rattle.serde_json.specs.Data.{Data, array, object, Members, no_members}
use Rattle.serde_json.specs.View.{items_of}
use Rattle.json_lines.specs.Object.{with_member, with_number, with_text, with_units}
use Rattle.ranges_tracker.specs.declared.change.ChangeKind.{ChangeKind}
use Rattle.ranges_tracker.specs.declared.change.ChangeKind.TheVariants.{Inserted, Deleted}
use Rattle.ranges_tracker.specs.declared.change.Change.{Change}
use Rattle.ranges_tracker.specs.declared.comment.Comment.{Comment}
use Rattle.report_text.specs.declared.document_end.DocEnd.{DocEnd}
use Rattle.report_text.specs.Values.{with_numbers, with_optional}

abbrev pub kind_name : ChangeKind → List ℕ
kind_name Inserted = codes "ins"
kind_name Deleted = codes "del"

-- a tracked change
abbrev pub change_members : Change → Members
change_members c =
    with_text (codes "user") c.user (with_units (codes "text") c.text (with_number (codes "ms") c.ms (with_text (codes "kind") (kind_name c.kind)
    (with_numbers (codes "id") (c.version ∷ c.k ∷ []) (with_number (codes "at") c.at no_members)))))

abbrev pub changes_data : List Change → Data
changes_data changes = array (items_of (map (λ c. object (change_members c)) changes))

-- a comment
abbrev pub comment_members : Comment → Members
comment_members c = with_units (codes "text") c.text (with_number (codes "t") c.thread (with_number (codes "at") c.at no_members))

abbrev pub comments_data : List Comment → Data
comments_data comments = array (items_of (map (λ c. object (comment_members c)) comments))

-- the members of a document's line
abbrev pub document_members : DocEnd → Members
document_members end =
    with_number (codes "v") end.v (with_units (codes "text") end.text (with_text (codes "name") end.name (with_optional (codes "kept") end.kept
    (with_text (codes "e") (codes "doc") (with_number (codes "doc") end.doc (with_member (codes "comments") (comments_data end.ranges.1)
    (with_member (codes "changes") (changes_data end.ranges.0) (with_number (codes "b") end.b no_members))))))))
