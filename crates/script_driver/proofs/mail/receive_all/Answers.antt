use Rattle.std.proofs.Common.{ℕ, ◌∙◌, true≢false, sym, ap, subst, refl}
use Rattle.std.specs.Prelude.{is_some, slice_get}
use Rattle.journal_rules.specs.Mail.{mail}
use Rattle.turn_rules.specs.Owning.{MayWriteFor}
use Rattle.turn_rules.specs.Turns.{Alone, entry_by}
use Rattle.turn_rules.proofs.Owning.{may_write_later}
use Rattle.run_rules.specs.Lines.{Gets}
use Rattle.book.specs.Going.{with_journal}
use Rattle.book.specs.Shown.{Shown}
use Rattle.book.proofs.Lists.{none_of}
use Rattle.script_driver.proofs.Failing.{own_on, same_own}
use Rattle.script_driver.proofs.Getting.{gets_rest, gets_first, gets_none, gets_own, gets_quietly, less_mail}
use Rattle.script_driver.proofs.Quiet.{quiet_none, quiet_on}
use Rattle.script_driver.proofs.mail.receive_all.Goals as goal

pub getting-init : goal.getting-init
getting-init g c = record {
  goes = λ last rest. rest;
  client = record { client_is = refl; stands = c.requires.client };
  owner = c.requires.owner;
  quiet = quiet_none c.args.client.now.client c.args.book.now.journal c.args.book.now.journal refl;
  rest = refl;
  own = same_own c.args.by.seat c.args.book.now c.args.book.now refl;
}

pub getting-smaller : goal.getting-smaller
getting-smaller g c =
    let was = c.getting.invariant in let got = c.in_ok-receive.ensures in
    less_mail c.args.by.seat c.args.by.line c.args.client.now c.getting.client c.getting.book c.receive.new.self c.in_ok-receive.field-0 was.client.client_is (sym c.is_some.ensures ∙ c.if-is_some.true) got.first got.got

pub getting-preserved : goal.getting-preserved
getting-preserved g c =
    let was = c.getting.invariant in let got = c.in_ok-receive.ensures in
    let some = sym c.is_some.ensures ∙ c.if-is_some.true in
    let more = gets_quietly c.args.by.seat c.args.by.line c.args.client.now c.getting.client c.getting.book c.receive.new.self c.in_ok-receive.field-0 was.client.client_is some got.first got.got in
    let rest = gets_rest c.args.by.seat c.args.by.line c.args.client.now c.getting.client c.getting.book c.receive.new.self c.in_ok-receive.field-0 was.client.client_is some got.first got.got in
    record {
      goes = λ last tail. was.goes last (gets_first c.args.by.seat c.args.by.line c.args.client.now c.getting.client c.getting.book c.receive.new.self c.in_ok-receive.field-0 was.client.client_is some got.first got.got last tail);
      client = record { client_is = got.client.client_is ∙ was.client.client_is; stands = got.client.stands };
      owner = may_write_later c.getting.book.drivers c.receive.new.self.drivers c.getting.book.journal c.receive.new.self.journal more.more c.args.by.seat c.receive.new.client.client (ap (λ (b : Shown). b.drivers) rest) more.last_is
          (subst (λ n. MayWriteFor c.getting.book.drivers c.getting.book.journal c.args.by.seat n) (sym got.client.client_is) was.owner);
      quiet = quiet_on c.args.client.now.client c.args.book.now.journal c.getting.book.journal c.receive.new.self.journal was.quiet more;
      rest = rest ∙ ap (λ b. with_journal b c.receive.new.self.journal) was.rest;
      own = own_on c.args.by.seat c.args.book.now c.getting.book c.receive.new.self was.own
          (gets_own c.args.by.seat c.args.by.line c.args.client.now c.getting.client c.getting.book c.receive.new.self c.in_ok-receive.field-0 was.client.client_is some got.first got.got);
    }

pub returns-clause-gets : goal.returns-clause-gets
returns-clause-gets g c =
    let was = c.getting.invariant in let got = c.in_ok-receive.ensures in
    let none = sym c.is_some.ensures ∙ c.if-is_some.false in
    let same = ap (λ (b : Shown). b.journal) (got.none (none_of c.in_ok-receive.field-0 (λ m at. true≢false (sym (ap is_some at) ∙ none)))).0 in
    was.goes c.receive.new.self.journal (gets_none c.args.by.seat c.args.by.line c.args.client.now.client c.getting.book.journal c.receive.new.self.journal c.in_ok-receive.field-0 none
    (got.first ∙ ap (λ n. slice_get (mail n c.getting.book.journal) 0) was.client.client_is) same)
