-- What a line's bytes are worth.
use Rattle.std.proofs.Common.{◌≡◌, ◌≤◌, ℕ, List, Bool, true, false, Option, Some, None, cond, refl, ap, ◌∙◌}
use Rattle.std.specs.Str.{IsUtf8, is_utf8}
use Rattle.std.proofs.lemmas.Str.{IsUtf8-from_is_utf8, is_utf8-from_IsUtf8}
use Rattle.serde_json.specs.Data.{Data, depth}
use Rattle.serde_json.specs.Read.{read, max_depth}
use Rattle.serde_json.specs.Written.{compact_text}
use Rattle.json_lines.specs.Lines.{value_of}

pub value_of_text : (bytes : List ℕ) (d : Data) → IsUtf8 bytes → read bytes ≡ Some d → value_of bytes ≡ Some d
value_of_text bytes d text e = ap (λ b. cond b (read bytes) None) (is_utf8-from_IsUtf8 bytes text) ∙ e

none_where : (b : Bool) (r : Option Data) → (b ≡ true → r ≡ None) → cond b r None ≡ None
none_where true r h = h refl
none_where false r h = refl

pub value_of_none : (bytes : List ℕ) → (IsUtf8 bytes → read bytes ≡ None) → value_of bytes ≡ None
value_of_none bytes h = none_where (is_utf8 bytes) (read bytes) (λ e. h (IsUtf8-from_is_utf8 bytes e))

-- the text that was written of data, which is this data
pub text_reads : (bytes : List ℕ) (written d : Data) → bytes ≡ compact_text written → written ≡ d → IsUtf8 bytes
    → (depth written ≤ max_depth → read bytes ≡ Some written) → depth d ≤ max_depth → value_of (compact_text d) ≡ Some d
text_reads bytes written d text same utf8 reads shallow =
    let fits : depth written ≤ max_depth = rw same shallow in
    let all : value_of bytes ≡ Some written = value_of_text bytes written utf8 (reads fits) in
    rw (← same, ← text) all
