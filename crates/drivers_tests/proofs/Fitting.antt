-- A script of one document that was read fits.
use Rattle.std.proofs.Common.{◌≡◌, ◌∷◌, List, [], true, refl, arith}
use Rattle.std.specs.Prelude.{is_some}
use Rattle.std.specs.List.{list_all}
use Rattle.std.proofs.lemmas.Bool.{and_parts}
use Rattle.journal_rules.specs.Documents.{Making}
use Rattle.session_lines.specs.Script.{makes_document, session_of}
use Rattle.session_lines.specs.Standing.{AreStanding, IsWithin}
use Rattle.session_lines.specs.declared.line.Line.{Line}
use Rattle.session_lines.specs.declared.line.Line.TheVariants.{Doc, Raw, Ins, Del}
use Rattle.script_driver.specs.Fitting.{AreBuilt, AreFit, IsFit, is_built, makings_by}
use Rattle.drivers_tests.specs.Scripts.{IsOfOneDocument, is_of_a_session}

fit_first : (l : Line) → IsWithin l → IsFit [] l
fit_first (Doc doc project text v) within = (refl, omega arith, within.0, within.1)
fit_first (Raw session doc user source dup track v op) within = within
fit_first (Ins session p text) within = within
fit_first (Del session p n) within = within
fit_first _ within = tt

fit_later : (ms : List Making) (l : Line) → IsWithin l → is_of_a_session l ≡ true → IsFit ms l
fit_later ms (Doc doc project text v) within of = absurd (cc)
fit_later ms (Raw session doc user source dup track v op) within of = within
fit_later ms (Ins session p text) within of = within
fit_later ms (Del session p n) within of = within
fit_later ms _ within of = tt

fit_rest : (ms : List Making) (earlier ls : List Line) → AreStanding earlier ls → list_all is_of_a_session ls ≡ true → AreFit ms ls
fit_rest ms earlier [] standing all = tt
fit_rest ms earlier (l ∷ ls) standing all =
    let both = and_parts (is_of_a_session l) (list_all is_of_a_session ls) all in
    (fit_later ms l standing.0 both.0, fit_rest (makings_by ms l) _ ls standing.2 both.1)

pub one_fits : (ls : List Line) → AreStanding [] ls → IsOfOneDocument ls → AreFit [] ls
one_fits [] standing one = tt
one_fits (l ∷ ls) standing one = (fit_first l standing.0, fit_rest (makings_by [] l) _ ls standing.2 one.1)

built_rest : (ls : List Line) → list_all is_of_a_session ls ≡ true → AreBuilt ls
built_rest [] all = tt
built_rest (l ∷ ls) all =
    let both = and_parts (is_of_a_session l) (list_all is_of_a_session ls) all in
    ((and_parts (is_some (session_of l)) (is_built l) both.0).1, built_rest ls both.1)

pub one_built : (ls : List Line) → IsOfOneDocument ls → AreBuilt ls
one_built [] one = tt
one_built (l ∷ ls) one = (one.0, built_rest ls one.1)

pub made_built : (l : Line) → makes_document l ≡ true → is_built l ≡ true
made_built (Doc doc project text v) is = refl
made_built _ is = absurd (cc)
