use Rattle.std.proofs.Common.{◌≡◌, ◌∙◌, ◌∷◌, ◌++◌, [], refl, ap}
use Rattle.journal_entries.specs.declared.act.Act.TheVariants.{Committed}
use Rattle.journal_entries.specs.declared.update.Cause.TheVariants.{Memory as NoMemory}
use Rattle.journal_entries.specs.declared.update.Outcome.TheVariants.{Refused}
use Rattle.turn_rules.specs.Turns.{entry_by}
use Rattle.book.specs.Shown.{Shown}
use Rattle.book.proofs.Taken.{still_holds, still_stale}
use Rattle.dispatcher.proofs.dispatch.commit.Goals as goal

pub returns-in-Ok-clause-held : goal.returns-in-Ok-clause-held
returns-in-Ok-clause-held g c =
    let by = c.args.by in let look = c.args.look in
    let is : c.refuse.new.self.journal ≡ c.args.book.now.journal ++ entry_by by.seat by.line (Committed look.doc look.token look.ticket (Refused NoMemory)) ∷ [] =
    ap (λ (b : Shown). b.journal) c.in-Ok.ensures.ok.1 ∙ ap (λ (b : Shown). b.journal ++ entry_by by.seat by.line (Committed look.doc look.token look.ticket (Refused NoMemory)) ∷ []) (c.if-not-commit_decision.ensures.kept refl) in
    still_holds by.seat by.line (Committed look.doc look.token look.ticket (Refused NoMemory)) look.doc look.token c.args.book.now.journal c.refuse.new.self.journal is (λ o. refl) refl by.seat c.requires.may.holds

pub returns-in-Ok-clause-fresh : goal.returns-in-Ok-clause-fresh
returns-in-Ok-clause-fresh g c =
    let by = c.args.by in let look = c.args.look in
    let is : c.refuse.new.self.journal ≡ c.args.book.now.journal ++ entry_by by.seat by.line (Committed look.doc look.token look.ticket (Refused NoMemory)) ∷ [] =
    ap (λ (b : Shown). b.journal) c.in-Ok.ensures.ok.1 ∙ ap (λ (b : Shown). b.journal ++ entry_by by.seat by.line (Committed look.doc look.token look.ticket (Refused NoMemory)) ∷ []) (c.if-not-commit_decision.ensures.kept refl) in
    still_stale by.seat by.line (Committed look.doc look.token look.ticket (Refused NoMemory)) look.doc look.token c.args.book.now.journal c.refuse.new.self.journal is (λ o. refl) refl ∙ c.requires.fresh

pub returns-else-not-commit_decision-clause-held : goal.returns-else-not-commit_decision-clause-held
returns-else-not-commit_decision-clause-held g c =
    let by = c.args.by in let look = c.args.look in
    let made = c.if-not-commit_decision.ensures.committed refl in
    still_holds by.seat by.line (Committed look.doc look.token look.ticket made.0) look.doc look.token c.args.book.now.journal c.commit_decision.new.book.journal (ap (λ (b : Shown). b.journal) made.1) (λ o. refl) refl by.seat c.requires.may.holds

pub returns-else-not-commit_decision-clause-fresh : goal.returns-else-not-commit_decision-clause-fresh
returns-else-not-commit_decision-clause-fresh g c =
    let by = c.args.by in let look = c.args.look in
    let made = c.if-not-commit_decision.ensures.committed refl in
    still_stale by.seat by.line (Committed look.doc look.token look.ticket made.0) look.doc look.token c.args.book.now.journal c.commit_decision.new.book.journal (ap (λ (b : Shown). b.journal) made.1) (λ o. refl) refl ∙ c.requires.fresh
