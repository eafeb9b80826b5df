-- Which lines can be done, and what reading promises of them.
use Rattle.std.specs.Prelude.{◌≡◌, ◌≢◌, ℕ, ◌-◌, ◌^◌, ◌<◌, ◌≤◌, Bool, true, false, List, [], ◌∷◌, ◌++◌, length, IfOk, ⊤}
use Rattle.std.specs.List.{list_any}
use Rattle.journal_rules.specs.Documents.{Making, is_named}
use Rattle.journal_rules.specs.Deciding.{longest}
use Rattle.journal_rules.specs.Legal.{highest_base}
use Rattle.ot_op.specs.Operation.{IsWithinLimits}
use Rattle.session_lines.specs.Standing.{AreBySessions}
use Rattle.session_lines.specs.declared.line.Line.{Line}
use Rattle.session_lines.specs.declared.line.Line.TheVariants.{Doc, Tick, Raw, Join, Rejoin, Leave, Send, Resend, Recv, Ins, Del, Com, Sync, Drain, Flush, Hold, Finish, Hand}

-- the commands that are built so far
abbrev pub is_built : Line → Bool
is_built (Doc doc project text v) = true
is_built (Tick session ms) = true
is_built (Raw session doc user source dup track v op) = true
is_built (Join session doc user track) = true
is_built (Rejoin session) = true
is_built (Leave session) = true
is_built (Send session) = true
is_built (Resend session) = true
is_built (Recv session) = true
is_built (Ins session p text) = true
is_built (Del session p n) = true
is_built (Com session p n t) = true
is_built (Sync session) = true
is_built (Drain session doc) = true
is_built (Flush session doc) = true
is_built (Hold session doc) = true
is_built (Finish session) = true
is_built (Hand session project n) = true
is_built _ = false

-- what reading promises of a line behind documents that were made so
abbrev pub IsFit : List Making → Line → Type 0
IsFit ms (Doc doc project text v) = (list_any (λ m. is_named doc m) ms ≡ false) × (length ms < 1000) × (length text ≤ longest) × (v ≤ highest_base)
IsFit ms (Raw session doc user source dup track v op) = (source ≤ 999999) × IfOk op IsWithinLimits
IsFit ms (Ins session p text) = text ≢ []
IsFit ms (Del session p n) = 0 < n
IsFit ms _ = ⊤

abbrev pub makings_by : List Making → Line → List Making
makings_by ms (Doc doc project text v) = ms ++ record { name = doc; project = project; first = text; base = v } ∷ []
makings_by ms _ = ms

abbrev pub AreFit : List Making → List Line → Type 0
AreFit ms [] = ⊤
AreFit ms (l ∷ ls) = IsFit ms l × AreFit (makings_by ms l) ls

abbrev pub AreBuilt : List Line → Type 0
AreBuilt [] = ⊤
AreBuilt (l ∷ ls) = (is_built l ≡ true) × AreBuilt ls

-- lines that reading promises and that are built, of so many sessions, and not too many
pub record CanBeDriven (sessions : ℕ) (lines : List Line) : Type 0 where
  pub fit : AreFit [] lines
  pub built : AreBuilt lines
  pub numbered : AreBySessions sessions lines
  pub few : length lines < 2 ^ 32 - 1
