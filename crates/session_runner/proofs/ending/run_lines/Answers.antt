use Rattle.std.proofs.Common.{◌∙◌, [], ◌∷◌, ◌++◌, length, None, subst, sym, true}
use Rattle.journal_entries.specs.declared.act.Act.TheVariants.{Closed}
use Rattle.run_rules.specs.Ending.{Ends}
use Rattle.run_rules.specs.Follows.{Follows}
use Rattle.run_rules.proofs.Completing.{follows_ended}
use Rattle.turn_rules.specs.Turns.{entry_by}
use Rattle.book.proofs.Going.{goes_further}
use Rattle.run_end.proofs.Handing.{ends_hand_none}
use Rattle.session_runner.proofs.ending.run_lines.Goals as goal

pub end_run-requires-clause-drivers : goal.end_run-requires-clause-drivers
end_run-requires-clause-drivers g c = c.in_ok-book.ensures.goes_on.drivers_are

pub returns : goal.returns
returns g c =
    let many = c.in_ok-book.ensures.many in
    let j = c.in_ok-book.field-0.book.journal in
    let last = c.end_run.new.book.journal in
    let follows : Follows c.args.lines.items c.args.sessions last =
    record { done = j; leads = c.in_ok-book.ensures.leads; ends = subst (λ n. Ends n (j ++ entry_by 0 None (Closed 0) ∷ []) last) many c.in-Ok.ensures.ends } in
    record {
      legal = c.legal.ensures;
      follows = follows;
      ended = follows_ended c.args.lines.items c.args.sessions last c.legal.ensures c.requires.numbered follows;
      clients = c.in-Ok.ensures.clients;
      many = c.in-Ok.ensures.sessions ∙ many;
      handed = c.in_ok-book.ensures.handed ∙ sym (ends_hand_none (λ e. true) (length c.in_ok-book.field-0.clients.items) j last c.in-Ok.ensures.ends);
      goes_on = goes_further _ c.in_ok-book.field-0.book c.end_run.new.book c.in_ok-book.ensures.goes_on c.in-Ok.ensures.goes_on;
    }
