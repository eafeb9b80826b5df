use Rattle.std.proofs.Common.{◌≡◌, ℕ, ◌<◌, ◌↔◌, List, [], ◌∷◌, ◌++◌, length, Some, None, refl, sym, ap, ◌∙◌, subst, arith}
use Rattle.std.specs.Prelude.{Option, IsNone, option_to_list}
use Rattle.ot_op.specs.declared.comp.Comp.{Comp}
use Rattle.dup_check.specs.declared.snapshot.Decision.{Decision}
use Rattle.dup_check.specs.Window.{pushed}
use Rattle.book.specs.Looking.{TakesDecision, op_of}
use Rattle.book.proofs.document.Document.settle.Goals as goal

first_waits : (o : Option ℕ) (items rest : List ℕ) → 0 < length items → IsNone o ↔ (items ≡ []) → items ≡ option_to_list o ++ rest → (ticket : ℕ) × (items ≡ ticket ∷ rest)
first_waits None items rest some empty is = let none = ap length (empty.0 refl) in absurd (omega (arith, some, none))
first_waits (Some ticket) items rest some empty is = (ticket, is)

pub returns-in-Apply-clause-settled : goal.returns-in-Apply-clause-settled
returns-in-Apply-clause-settled c =
    let look = c.args.prepared.look in
    let first = first_waits c.pop-ticket.result _ _ c.requires.waits c.pop-ticket.ensures.empty c.pop-ticket.ensures.items in
    let takes : TakesDecision c.args.self.now look c.args.prepared.decision (record { text = c.in-Apply.text; ranges = c.in-Apply.ranges; window = c.push.new.self; waiting = c.pop-ticket.new.self; lock = c.args.self.now.lock; kept = c.args.self.now.kept }) =
    subst (λ (d : Decision). TakesDecision c.args.self.now look d (record { text = c.in-Apply.text; ranges = c.in-Apply.ranges; window = c.push.new.self; waiting = c.pop-ticket.new.self; lock = c.args.self.now.lock; kept = c.args.self.now.kept })) (sym c.in-Apply.is) (record {
      text_is = refl;
      ranges_are = refl;
      window_is = c.push.ensures ∙ ap (λ (o : List Comp). pushed c.args.self.now.window (record { source = look.update.source; op = o })) (c.requires.copied ∙ ap op_of c.in-Apply.is);
    }) in
    record { takes = takes; kept_is = refl; lock_is = refl; ticket = first.0; waiting_is = first.1 }
