-- The data that the fields of a line stand for.
use Rattle.std.specs.Prelude.{◌≡◌, codes, length, map, List, [], ◌∷◌}
use Rattle.serde_json.specs.Data.{Data, Members, array, boolean, member, no_members, number, object, put, string, unsigned}
use Rattle.serde_json.specs.Events.{members_len}
use Rattle.serde_json.specs.View.{items_of}
use Rattle.line_reader.specs.declared.edit.Edit.{Edit}
use Rattle.line_reader.specs.declared.edit.Edit.TheVariants.{Insert, Delete}
use Rattle.line_reader.specs.declared.field.Content.{Content}
use Rattle.line_reader.specs.declared.field.Content.TheVariants.{Scalar as OneScalar, Edits}
use Rattle.line_reader.specs.declared.field.Field.{Field}
use Rattle.line_reader.specs.declared.scalar.Scalar.{Scalar}
use Rattle.line_reader.specs.declared.scalar.Scalar.TheVariants.{Text, Number, Flag}

abbrev pub scalar_data : Scalar → Data
scalar_data (Text s) = string s.now
scalar_data (Number n) = number (unsigned n)
scalar_data (Flag b) = boolean b

abbrev pub edit_members : Edit → Members
edit_members (Insert s p) = member (codes "i") (string s.now) (member (codes "p") (number (unsigned p)) no_members)
edit_members (Delete s p) = member (codes "d") (string s.now) (member (codes "p") (number (unsigned p)) no_members)

abbrev pub edit_data : Edit → Data
edit_data e = object (edit_members e)

abbrev pub content_data : Content → Data
content_data (OneScalar s) = scalar_data s
content_data (Edits es) = array (items_of (map edit_data es.items))

-- the members of fields, of which the last of a key counts
abbrev pub all_put : List Field → Members → Members
all_put [] ms = ms
all_put (f ∷ fs) ms = all_put fs (put f.key.now (content_data f.value) ms)

-- no key stands twice
abbrev pub AreDifferent : List Field → Type 0
AreDifferent fs = members_len (all_put fs no_members) ≡ length fs
