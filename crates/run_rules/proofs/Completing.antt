-- A run that ended is complete.
use Rattle.std.proofs.Common.{◌≡◌, ◌↔◌, ℕ, List, [], ◌∷◌, ◌++◌, length, false, sym, subst}
use Rattle.std.specs.Prelude.{None}
use Rattle.expiring_lock.specs.declared.lock.TheConstants.{LOCK_LIFE}
use Rattle.journal_entries.specs.declared.act.Act.TheVariants.{Ticked, Closed}
use Rattle.journal_entries.specs.declared.act.Entry.{Entry}
use Rattle.journal_rules.specs.Documents.{makings}
use Rattle.journal_rules.specs.Legal.{IsLegal}
use Rattle.journal_rules.proofs.Legality.{legal_front}
use Rattle.session_lines.specs.declared.line.Line.{Line}
use Rattle.ending_rules.specs.Rounds.{AreClients}
use Rattle.ending_rules.specs.Ended.{HasEnded}
use Rattle.ending_rules.proofs.Upkeep.{stays_ended}
use Rattle.session_lines.specs.Standing.{AreBySessions}
use Rattle.run_rules.specs.Completing.{AreKept, has_flush_failed_at_end}
use Rattle.run_rules.specs.Ending.{at_end, Ends}
use Rattle.run_rules.specs.Follows.{Follows}
use Rattle.run_rules.specs.Threads.{Crew, FollowsTogether}
use Rattle.turn_rules.specs.Turns.{entry_by}
use Rattle.run_rules.proofs.Bridge.{suffice}
use Rattle.run_rules.proofs.Flushed.{upkeep_only, flushed}
use Rattle.run_rules.proofs.Quiet.{follows_quiet, together_quiet}
use Rattle.run_rules.proofs.Joining.{of_lines, of_together}

ended : (sessions : ℕ) (left last : List Entry) → IsLegal last → AreClients sessions (left ++ at_end (Ticked LOCK_LIFE) ∷ []) → Ends sessions left last → HasEnded last
ended sessions left last legal beyond x =
    let u = upkeep_only (length (makings x.0)) x.0 last x.2 in
    let at : IsLegal (x.0 ++ u.0) = subst IsLegal u.1 legal in
    subst HasEnded (sym u.1) (stays_ended x.0 u.0 at u.2 (suffice sessions (left ++ at_end (Ticked LOCK_LIFE) ∷ []) x.0 (legal_front x.0 u.0 at) beyond x.1))

pub follows_ended : (lines : List Line) (sessions : ℕ) (journal : List Entry) → IsLegal journal → AreBySessions sessions lines → Follows lines sessions journal → HasEnded journal
follows_ended lines sessions journal legal by f = ended sessions (f.done ++ entry_by 0 None (Closed 0) ∷ []) journal legal (of_lines sessions lines f.done by f.leads) f.ends

pub together_ended : (crew : Crew) (lines : List Line) (sessions : ℕ) (journal : List Entry) → IsLegal journal → AreBySessions sessions lines → FollowsTogether crew lines sessions journal → HasEnded journal
together_ended crew lines sessions journal legal by f = ended sessions (f.start ++ f.between) journal legal (of_together sessions crew lines by journal f) f.ends

pub follows_kept : (lines : List Line) (sessions : ℕ) (journal : List Entry) → IsLegal journal → Follows lines sessions journal → (has_flush_failed_at_end journal ≡ false) ↔ AreKept journal
follows_kept lines sessions journal legal f = ((λ none. flushed f.ends.0 journal legal none f.ends.2), follows_quiet lines sessions journal f)

pub together_kept : (crew : Crew) (lines : List Line) (sessions : ℕ) (journal : List Entry) → IsLegal journal → FollowsTogether crew lines sessions journal → (has_flush_failed_at_end journal ≡ false) ↔ AreKept journal
together_kept crew lines sessions journal legal f = ((λ none. flushed f.ends.0 journal legal none f.ends.2), together_quiet crew lines sessions journal f)
