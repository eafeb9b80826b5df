-- A command line of one word.
use Rattle.std.proofs.Common.{◌≡◌, ℕ, ◌<◌, ◌≤◌, ◌↔◌, List, [], ◌∷◌, length, get_or, Bool, true, String, string_bytes, map, sym, ap, ◌∙◌, arith}
use Rattle.std.specs.declared.alloc.Global.{Global}
use Rattle.std.specs.Str.{bytes_eq}
use Rattle.std.proofs.lemmas.Slice.Eq.{bytes_eq-Decides}

pub one_word : (ws : List (String Global)) (w : String Global) (text s : List ℕ) (b : Bool) → 1 ≤ length ws → length ws < 2
    → w ≡ get_or ws 0 w → s ≡ string_bytes w → b ≡ bytes_eq s text → (b ≡ true) ↔ (map string_bytes ws ≡ text ∷ [])
one_word [] w text s b low high i t e = absurd (omega arith)
one_word (x ∷ []) w text s b low high i t e =
    let same : string_bytes x ≡ s = ap string_bytes (sym i) ∙ sym t in (
      (λ h. ap (λ l. l ∷ []) (same ∙ (bytes_eq-Decides s text).0 (sym e ∙ h))),
      (λ k. let there : s ≡ text = cc in e ∙ (bytes_eq-Decides s text).1 there),
    )
one_word (x ∷ y ∷ ws) w text s b low high i t e = absurd (omega arith)
