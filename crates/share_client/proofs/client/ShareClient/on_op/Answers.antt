use Rattle.std.proofs.Common.{◌≡◌, false, sym, ◌∙◌, subst}
use Rattle.std.specs.Prelude.{◌&&◌, Option, option_map}
use Rattle.journal_rules.specs.Client as rules
use Rattle.journal_rules.specs.Documents.{is_in}
use Rattle.share_client.specs.Bounds.{IsBoundedIfAlive}
use Rattle.share_client.specs.Clients.{Numbered}
use Rattle.share_client.specs.Shifts.{shift_of}
use Rattle.share_client.proofs.Bounds.{bounded_shifted}
use Rattle.share_client.proofs.client.ShareClient.on_op.Goals as goal

pub shift_to-requires-clause-bounded : goal.shift_to-requires-clause-bounded
shift_to-requires-clause-bounded c =
    let s = c.args.self.now.now in
    let op = c.args.op.now in
    let bound : IsBoundedIfAlive s = subst (λ (x : Numbered). IsBoundedIfAlive x.now) c.self.view_is c.self.invariant.bounded in
    let shift_is : option_map shift_of c.in_ok-shift.shift ≡ rules.shifted s.flight s.pending s.text op = subst (λ (x : Numbered). option_map shift_of c.in_ok-shift.shift ≡ rules.shifted x.now.flight x.now.pending x.now.text op) c.self.view_is c.in_ok-shift.ensures in
    let other : (rules.has_flight s.flight && is_in c.args.source s.sources) ≡ false = sym c.is_own.ensures ∙ c.if-is_own.false in
    subst (λ (o : Option rules.Shift). IsBoundedIfAlive (rules.shifted_to s o)) (sym shift_is) (bounded_shifted s op c.args.source bound c.requires.alive other)
