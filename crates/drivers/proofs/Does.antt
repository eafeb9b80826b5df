-- A line that the driver does in one turn is done among others; and what it makes is its own.
use Rattle.std.proofs.Common.{◌≡◌, ℕ, ◌%◌, List, [], ◌∷◌, Bool, true, false, refl, sym, ap, ◌∙◌, subst, arith, append-nil, eq-eqb}
use Rattle.std.specs.Prelude.{Some, None, if◌then◌else◌}
use Rattle.std.proofs.lemmas.List.Elements.{All-nil}
use Rattle.std.proofs.lemmas.Nat.{mod_below}
use Rattle.journal_entries.specs.declared.act.Entry.{Entry}
use Rattle.journal_rules.specs.Documents.{Making}
use Rattle.session_lines.specs.declared.line.Line.{Line}
use Rattle.session_lines.specs.declared.line.Line.TheVariants.{Doc, Join, Sync, Drain, Flush, Hold, Finish}
use Rattle.session_lines.specs.Script.{session_of}
use Rattle.turn_rules.specs.Turns.{Alone, Among}
use Rattle.run_rules.specs.Keeping.{Preparations}
use Rattle.run_rules.specs.Lines.{Does}
use Rattle.run_rules.specs.Threads.{is_driven_by, with_workers}
use Rattle.run_rules.proofs.Growing.{among_on, among_same, any, does_grow}
use Rattle.run_rules.proofs.Widening.{does_wider}
use Rattle.script_driver.specs.Fitting.{IsFit}
use Rattle.script_driver.proofs.Failing.{GrowsBy, grows_by_acts, grows_on}
use Rattle.drivers.specs.Driving.{driven}

-- ---- others came before it
module _ (own : Entry → Bool) (seat k : ℕ) (kept : Preparations) (left look last : List Entry) (after : Preparations) (among : Among own left look) where
  pub does_after : (line : Line) → Does seat (Among own) k line kept look last after → Does seat (Among own) k line kept left last after
  does_after (Join session doc user track) d = ((d.0.0, d.0.1, among_on own left look d.0.0 among d.0.2, d.0.3, d.0.4), d.1)
  does_after (Sync session) d = ((d.0.0, among_on own left look d.0.0 among d.0.1, d.0.2), d.1)
  does_after (Drain session doc) d = ((d.0.0, among_on own left look d.0.0 among d.0.1, d.0.2), d.1)
  does_after (Flush session doc) d = ((d.0.0, among_on own left look d.0.0 among d.0.1, d.0.2), d.1)
  does_after (Hold session doc) d = (d.0, among_on own left look d.0 among d.1, d.2)
  does_after (Finish session) d = ((d.0.0, d.0.1, among_on own left look d.0.0 among d.0.2, d.0.3, d.0.4), d.1)
  does_after line d = ((d.0.0, d.0.1, among_on own left look d.0.0 among d.0.2, d.0.3, d.0.4), d.1)

  pub does_widely : (line : Line) → Does seat Alone k line kept look last after → Does seat (Among own) k line kept left last after
  does_widely line d = does_after line (does_wider Alone (Among own) (λ a b e. subst (λ (j : List Entry). Among own a j) (sym e) (among_same own a)) seat k line kept look last after d)

-- ---- its entries are its own
pub does_own : (seat k : ℕ) (line : Line) (kept : Preparations) (look last : List Entry) (after : Preparations) → Does seat Alone k line kept look last after → GrowsBy seat look last
does_own seat k line =
    does_grow any (λ act e. refl) (GrowsBy seat) (λ j. ([], sym (append-nil j), All-nil (λ (e : Entry). e.seat ≡ seat))) (grows_on seat) Alone
    (λ a b e. ([], e ∙ sym (append-nil a), All-nil (λ (x : Entry). x.seat ≡ seat)))
    seat k (λ acts may j. grows_by_acts seat (Some k) acts j) line (λ s is doc user track since source v. refl)

-- ---- which lines it does
session_driven : (s : ℕ) → is_driven_by (with_workers 0) 0 (Some s) ≡ true
session_driven s = eq-eqb (s % 1) 0 (let low = mod_below s 1 (omega arith) in omega (arith, low))

module _ (k : ℕ) (line : Line) (rest : List (ℕ × Line)) where
  driven_if : (b : Bool) → is_driven_by (with_workers 0) 0 (session_of line) ≡ b → driven ((k, line) ∷ rest) ≡ (if b then (k, line) ∷ driven rest else driven rest)
  driven_if b is = ap (λ (c : Bool). if c then (k, line) ∷ driven rest else driven rest) is

  pub driven_session : (s : ℕ) → session_of line ≡ Some s → driven ((k, line) ∷ rest) ≡ (k, line) ∷ driven rest
  driven_session s is = driven_if true (ap (is_driven_by (with_workers 0) 0) is ∙ session_driven s)

  pub driven_none : session_of line ≡ None → driven ((k, line) ∷ rest) ≡ driven rest
  driven_none is = driven_if false (ap (is_driven_by (with_workers 0) 0) is)

-- a line of a session fits, whatever documents were made
pub fit_anywhere : (ms ns : List Making) (line : Line) (s : ℕ) → session_of line ≡ Some s → IsFit ms line → IsFit ns line
fit_anywhere ms ns (Doc doc project text v) s is fit = absurd (cc)
fit_anywhere ms ns _ s is fit = fit
