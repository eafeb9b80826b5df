-- What is written of a well-formed value reads as that value.
use Rattle.std.specs.Prelude.{◌≡◌, ◌≤◌, true, Some}
use Rattle.serde_json.specs.Data.{Data, depth}
use Rattle.serde_json.specs.Read.{read, max_depth}
use Rattle.serde_json.specs.Written.{compact_text}
use Rattle.json_lines.specs.Formed.{is_formed}
use Rattle.json_lines.specs.Lines.{value_of}
use Rattle.json_lines.specs.Utf8.{has_texts}

abbrev pub ReadsBack : Type 0
ReadsBack = (d : Data) → is_formed d ≡ true → depth d ≤ max_depth → read (compact_text d) ≡ Some d

-- and so do its bytes, where its texts are UTF-8
abbrev pub BytesReadBack : Type 0
BytesReadBack = (d : Data) → is_formed d ≡ true → has_texts d ≡ true → depth d ≤ max_depth → value_of (compact_text d) ≡ Some d
