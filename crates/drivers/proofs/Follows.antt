-- Lines that were driven among others make a course of which the driver's start is the beginning.
use Rattle.std.proofs.Common.{◌≡◌, ℕ, List, [], ◌∷◌, ◌++◌, true, length, refl, sym, ap, ◌∙◌, subst, arith}
use Rattle.std.specs.Prelude.{slice_get, Some, None}
use Rattle.journal_entries.specs.declared.act.Entry.{Entry}
use Rattle.journal_rules.proofs.Legality.{seam}
use Rattle.seat_turns.specs.Closings.{IsEachClosed, is_closing_in}
use Rattle.seat_turns.proofs.Watching.{closed_where, one_closed}
use Rattle.session_lines.specs.Script.{session_of}
use Rattle.session_lines.specs.declared.line.Line.{Line}
use Rattle.turn_rules.specs.Turns.{Among, is_by}
use Rattle.run_rules.specs.Keeping.{Preparations, nothing_kept}
use Rattle.run_rules.specs.Lines.{Does, Leads, numbered}
use Rattle.run_rules.specs.Threads.{DriverFollows, closing, with_workers}
use Rattle.run_rules.proofs.Growing.{among_on, among_same}
use Rattle.drivers.specs.Driving.{Drives, driven}
use Rattle.drivers.proofs.Does.{does_after, driven_none, driven_session}

-- ---- one line more
module _ (k : ℕ) (line : Line) (rest : List (ℕ × Line)) (kept : Preparations) (left last : List Entry) where
  pub drives_session : (s : ℕ) → session_of line ≡ Some s → (after : Preparations) (mid : List Entry) → Does 1 (Among (is_by 1)) k line kept left mid after → Drives rest after mid last → Drives ((k, line) ∷ rest) kept left last
  drives_session s is after mid does drives = subst (λ (ls : List (ℕ × Line)). Leads 1 (Among (is_by 1)) ls kept left last) (sym (driven_session k line rest s is)) (mid, after, does, drives)

  pub drives_none : session_of line ≡ None → Drives rest kept left last → Drives ((k, line) ∷ rest) kept left last
  drives_none is drives = subst (λ (ls : List (ℕ × Line)). Leads 1 (Among (is_by 1)) ls kept left last) (sym (driven_none k line rest is)) drives

-- ---- the whole
-- lines that lead from a journal lead so from one behind which others came; where there are none, what is left is others'
abbrev Reaches : List (ℕ × Line) → List Entry → List Entry → Type 0
Reaches ls start look = (done : List Entry) × Leads 1 (Among (is_by 1)) ls nothing_kept start done × Among (is_by 1) done look

reaches : (ls : List (ℕ × Line)) (start seen last look : List Entry) → Among (is_by 1) start seen → Leads 1 (Among (is_by 1)) ls nothing_kept seen last → Among (is_by 1) last look → Reaches ls start look
reaches [] start seen last look among l more = (start, refl, among_on (is_by 1) start last look (subst (λ (j : List Entry). Among (is_by 1) start j) (sym l) among) more)
reaches (x ∷ xs) start seen last look among l more =
    (last, (l.0, l.1, does_after (is_by 1) 1 x.0 nothing_kept start seen l.0 l.1 among x.1 l.2, l.3), more)

pub drive_follows : (lines : List Line) (start seen last look journal : List Entry) → Among (is_by 1) start seen → Drives (numbered 1 lines) nothing_kept seen last → Among (is_by 1) last look → journal ≡ look ++ closing 0 ∷ []
    → (workers : ℕ) → DriverFollows (with_workers workers) lines start journal 0
drive_follows lines start seen last look journal among drives more is workers =
    let r = reaches (driven (numbered 1 lines)) start seen last look among drives more in
    record {
      done = r.0;
      leads = r.1;
      look = look;
      next = r.2;
      more = subst (λ (j : List Entry). Among (is_by 1) (look ++ closing 0 ∷ []) j) (sym is) (among_same (is_by 1) (look ++ closing 0 ∷ []));
    }

-- ---- the end
pub each_closed : (look journal : List Entry) → journal ≡ look ++ closing 0 ∷ [] → IsEachClosed 1 journal
each_closed look journal is = one_closed 0 journal (λ d low. absurd (omega (arith, low))) (closed_where 0 journal (length look) at)
  where
    at : true ≡ is_closing_in 0 (slice_get journal (length look))
    at = sym (ap (is_closing_in 0) (ap (λ (j : List Entry). slice_get j (length look)) is ∙ seam look (closing 0) []))
