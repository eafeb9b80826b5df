-- What was taken up stays so while others write, or another acquired its lock since.
use Rattle.std.proofs.Common.{◌≡◌, ℕ, zero, suc, List, [], ◌∷◌, ◌++◌, true, true≢false, not, sym, ap, ◌∙◌, subst, arith, All}
use Rattle.std.specs.Prelude.{Some, ◌==◌}
use Rattle.std.specs.List.{list_all}
use Rattle.std.proofs.lemmas.Bool.{eq-eqb, not-true, and_parts}
use Rattle.dup_check.specs.declared.snapshot.Snapshot.{Snapshot}
use Rattle.expiring_lock.specs.declared.refusal.Stale.{Stale}
use Rattle.journal_entries.specs.declared.act.Entry.{Entry}
use Rattle.journal_rules.specs.Documents.{is_in}
use Rattle.journal_rules.specs.Legal.{IsLegal}
use Rattle.journal_rules.specs.Locks.{released}
use Rattle.journal_rules.proofs.Legality.{legal_front}
use Rattle.turn_rules.specs.Draining.{IsTakenOver}
use Rattle.turn_rules.specs.Locking.{staleness}
use Rattle.turn_rules.specs.Turns.{Among}
use Rattle.run_rules.specs.Threads.{is_by}
use Rattle.book.specs.Looking.{IsNoCommit, IsOf}
use Rattle.book.proofs.Acquirings.{IsKnown}
use Rattle.book.proofs.Fenced.{stays}
use Rattle.seat_turns.proofs.Standing.{known_since, overtaken, unreleased_behind}
use Rattle.workers.specs.Taking.{IsTakenUp}

-- others commit nothing of a look
no_commits : (look : Snapshot) (more : List Entry) → list_all (λ e. not (is_by look.seat e)) more ≡ true → All (IsNoCommit look) more
no_commits look [] others k d h = absurd (omega arith)
no_commits look (e ∷ es) others zero d h = λ same. absurd (true≢false (sym (eq-eqb e.seat look.seat same) ∙ not-true (e.seat == look.seat) (and_parts (not (is_by look.seat e)) (list_all (λ e. not (is_by look.seat e)) es) others).0))
no_commits look (e ∷ es) others (suc k) d h = no_commits look es (and_parts (not (is_by look.seat e)) (list_all (λ e. not (is_by look.seat e)) es) others).1 k d (omega arith)

known_here : (look : Snapshot) (j : List Entry) (of : IsOf look j) → IsLegal j → IsKnown of.looks.acquiring j
known_here look j of legal = known_since look.doc of.looks.acquiring of.early of.more j of.journal_is legal of.looks.last

-- what was taken up stays so, whatever others make
pub taken_among : (seat : ℕ) (look : Snapshot) (seen journal : List Entry) → IsLegal journal → Among (is_by seat) seen journal → IsTakenUp seat look seen → IsTakenUp seat look journal
taken_among seat look seen journal legal among up =
    let on : IsLegal (seen ++ among.0) = subst IsLegal among.1 legal in
    let others : list_all (λ e. not (is_by look.seat e)) among.0 ≡ true = subst (λ (s : ℕ). list_all (λ e. not (is_by s e)) among.0 ≡ true) (sym up.seat_is) among.2 in
    let known = known_here look seen up.of (legal_front seen among.0 on) in
    record {
      of = subst (λ (j : List Entry). IsOf look j) (sym among.1) (stays look seen among.0 up.of on (no_commits look among.0 others));
      seat_is = up.seat_is;
      unreleased = ap (λ j. is_in look.token (released j)) among.1
          ∙ unreleased_behind seat look.token up.of.looks.acquiring up.of.looks.token_is (up.of.looks.seat_is ∙ up.seat_is) among.0 seen on known among.2 up.unreleased;
    }

pub taken_over : (seat : ℕ) (look : Snapshot) (j : List Entry) (s : Stale) → IsLegal j → IsTakenUp seat look j → staleness look.doc look.token j ≡ Some s → IsTakenOver look.doc look.token j
taken_over seat look j s legal up stale = overtaken look.doc look.token up.of.looks.acquiring j s (known_here look j up.of legal) up.of.looks.token_is up.unreleased stale
