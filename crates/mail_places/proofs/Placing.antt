-- The places after one entry more.
use Rattle.std.proofs.Common.{◌≡◌, ℕ, List, [], ◌∷◌, ◌++◌, refl, ◌∙◌}
use Rattle.std.specs.Prelude.{Option, None}
use Rattle.journal_entries.specs.declared.act.Act.{Act}
use Rattle.journal_entries.specs.declared.act.Act.TheVariants.{Joined as JoinedAct, Committed, Got, Left as LeftAct}
use Rattle.journal_entries.specs.declared.act.Entry.{Entry}
use Rattle.journal_rules.proofs.Pushing.{folded-push}
use Rattle.mail_places.specs.Places.{Placed, placed_by, placed, LeavesPlaces}

pub placed-push : (c : ℕ) (j : List Entry) (e : Entry) → placed c (j ++ e ∷ []) ≡ placed_by c j e.act (placed c j)
unfolding placed
placed-push c j e = folded-push (λ before e now. placed_by c before e.act now) None j e

pub placed-none : (c : ℕ) → placed c [] ≡ None
unfolding placed
placed-none c = refl

-- an act that changes no client's places
left_alone : (c : ℕ) (j : List Entry) (a : Act) (now : Option Placed) → LeavesPlaces a → placed_by c j a now ≡ now
left_alone c j (JoinedAct client doc user track since source v) now leaves = absurd leaves
left_alone c j (LeftAct client) now leaves = absurd leaves
left_alone c j (Committed doc token ticket outcome) now leaves = absurd leaves
left_alone c j (Got client brief) now leaves = absurd leaves
left_alone c j _ now leaves = refl

pub placed-same : (c : ℕ) (j : List Entry) (e : Entry) → LeavesPlaces e.act → placed c (j ++ e ∷ []) ≡ placed c j
placed-same c j e leaves = placed-push c j e ∙ left_alone c j e.act (placed c j) leaves
