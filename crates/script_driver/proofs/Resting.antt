-- What a call leaves of a book beside its journal.
use Rattle.std.proofs.Common.{◌≡◌, ℕ, List, [], ◌∷◌, sym, ap, ◌∙◌}
use Rattle.std.specs.Prelude.{Bool, Option, Result, Ok, Err, OnOk, OnErr}
use Rattle.journal_entries.specs.declared.act.Act.{Act}
use Rattle.book.specs.Going.{GoesOn, with_journal}
use Rattle.book.specs.Shown.{Shown, adds}
use Rattle.book.proofs.Going.{goes_adding}

pub rest_same : (old new : Shown) → new ≡ old → new ≡ with_journal old new.journal
rest_same old new is = is ∙ ap (λ (b : Shown). with_journal old b.journal) (sym is)

pub rest_adding : (old new : Shown) (seat : ℕ) (line : Option ℕ) (act : Act) → new ≡ adds old seat line (act ∷ []) → new ≡ with_journal old new.journal
rest_adding old new seat line act is = is ∙ ap (λ (b : Shown). with_journal old b.journal) (sym is)

-- a call that makes one entry, or leaves all as it was
pub rest_either : {T E : Type 0} (A B : Type 0) (r : Result T E) (old new : Shown) (seat : ℕ) (line : Option ℕ) (act : Act) → OnOk r (A × (new ≡ adds old seat line (act ∷ []))) → OnErr r ((new ≡ old) × B) → new ≡ with_journal old new.journal
rest_either A B (Ok x) old new seat line act done kept = rest_adding old new seat line act done.1
rest_either A B (Err e) old new seat line act done kept = rest_same old new kept.0

pub goes_one : {tells : Bool} (old new : Shown) (seat : ℕ) (line : Option ℕ) (act : Act) → new ≡ adds old seat line (act ∷ []) → GoesOn tells old new
goes_one old new seat line act is = goes_adding old new seat line (act ∷ []) is
