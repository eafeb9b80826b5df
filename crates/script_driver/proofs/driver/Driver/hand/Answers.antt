use Rattle.std.proofs.Common.{◌≡◌, ◌∙◌, ◌∷◌, ◌++◌, ℕ, List, [], true, false, refl, sym, ap, ap₂, subst}
use Rattle.std.specs.Prelude.{min, take, map, length}
use Rattle.std.proofs.lemmas.Result.{on_ok_weaker}
use Rattle.history_queue.specs.declared.item.Item.{Item}
use Rattle.journal_entries.specs.declared.act.Act.{Act}
use Rattle.journal_entries.specs.declared.act.Act.TheVariants.{Declined}
use Rattle.journal_entries.specs.declared.why.Why.TheVariants.{NoProject}
use Rattle.journal_rules.specs.Legal.{is_project}
use Rattle.book.specs.Calls.{MayNotHand}
use Rattle.book.specs.Shown.{Shown, adds}
use Rattle.book.specs.declared.faults.HandFault.{HandFault}
use Rattle.run_rules.specs.Plain.{hand_act}
use Rattle.script_driver.proofs.Handing.{hand_known, hand_unknown, hands}
use Rattle.script_driver.proofs.Lines.{appended_ok, declined, handed_more}
use Rattle.script_driver.proofs.Failing.{added_own, failed_always, failed_behind, same_own}
use Rattle.script_driver.proofs.driver.Driver.hand.Goals as goal

pub returns-in-Ok-clause-hands : goal.returns-in-Ok-clause-hands
returns-in-Ok-clause-hands g c =
    let old = c.args.self.now.book in let j = old.journal in let p = c.args.project.now in let n = c.args.n in
    on_ok_weaker c.append.result
    (λ items. c.in-Ok.ensures.ok.1 ∙ ap₂ (λ (s : ℕ) (a : Act). adds old s c.args.by.line (a ∷ [])) c.requires.seat (sym (hand_known c.args.session n p j c.in-Ok.ensures.ok.0)))
    (appended_ok c.append.result c.append.new.self.items c.args.self.now.handed.items c.in-Ok.items.items c.append.ensures.items)

pub returns-in-Ok-clause-driver : goal.returns-in-Ok-clause-driver
returns-in-Ok-clause-driver g c =
    let driver = c.args.self.now in let j = driver.book.journal in let p = c.args.project.now in let n = c.args.n in
    let is = c.in-Ok.ensures.ok.1 ∙ ap (λ (s : ℕ). adds driver.book s c.args.by.line (hands c.args.session n p j ∷ [])) c.requires.seat in
    on_ok_weaker c.append.result
    (λ items. handed_more driver c.hand_history.new.self c.args.by.line c.args.session n p c.append.new.self c.in-Ok.ensures.ok.0 (items ∙ ap (λ (xs : List Item). driver.handed.items ++ xs) c.in-Ok.ensures.items) c.requires.driver is)
    (appended_ok c.append.result c.append.new.self.items c.args.self.now.handed.items c.in-Ok.items.items c.append.ensures.items)

pub returns-in-Err-NoProject-clause-hands : goal.returns-in-Err-NoProject-clause-hands
returns-in-Err-NoProject-clause-hands g c =
    let old = c.args.self.now.book in let j = old.journal in let p = c.args.project.now in
    let unknown : is_project p j ≡ false = subst (MayNotHand j p) c.in-Err-NoProject.field-0-is c.in-Err-NoProject.ensures.refused in
    on_ok_weaker c.decline.result
    (λ is. is ∙ ap₂ (λ (b : Shown) (s : ℕ). adds b s c.args.by.line (Declined c.args.session NoProject ∷ [])) c.in-Err-NoProject.ensures.kept c.requires.seat
    ∙ ap (λ (a : Act). adds old c.args.self.now.seat c.args.by.line (a ∷ [])) (sym (hand_unknown c.args.session c.args.n p j unknown)))
    c.decline.ensures.ok

pub returns-in-Err-NoProject-clause-driver : goal.returns-in-Err-NoProject-clause-driver
returns-in-Err-NoProject-clause-driver g c =
    on_ok_weaker c.decline.result
    (λ is. declined c.args.self.now c.decline.new.self c.args.by.line c.args.session NoProject c.requires.driver
    (is ∙ ap₂ (λ (b : Shown) (s : ℕ). adds b s c.args.by.line (Declined c.args.session NoProject ∷ [])) c.in-Err-NoProject.ensures.kept c.requires.seat))
    c.decline.ensures.ok

pub returns-in-Ok-clause-failed : goal.returns-in-Ok-clause-failed
returns-in-Ok-clause-failed g c =
    let driver = c.args.self.now in let j = driver.book.journal in let p = c.args.project.now in let n = c.args.n in
    failed_always driver.seat c.append.result driver.book c.hand_history.new.self
    (added_own driver.seat driver.book c.hand_history.new.self c.args.by.line (hands c.args.session n p j) refl (c.in-Ok.ensures.ok.1 ∙ ap (λ (s : ℕ). adds driver.book s c.args.by.line (hands c.args.session n p j ∷ [])) c.requires.seat))

pub returns-in-Err-NoProject-clause-failed : goal.returns-in-Err-NoProject-clause-failed
returns-in-Err-NoProject-clause-failed g c =
    failed_behind c.args.self.now.seat c.decline.result c.args.self.now.book c.hand_history.new.self c.decline.new.self
    (same_own c.args.self.now.seat c.args.self.now.book c.hand_history.new.self c.in-Err-NoProject.ensures.kept) c.decline.ensures.kept

pub returns-in-Err-Memory-clause-failed : goal.returns-in-Err-Memory-clause-failed
returns-in-Err-Memory-clause-failed g c = same_own c.args.self.now.seat c.args.self.now.book c.hand_history.new.self c.in-Err-Memory.ensures.kept
