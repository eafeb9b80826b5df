use Rattle.std.proofs.Common.{rules, ◌≡◌, ◌≤◌, List, length, sym, ap, ◌∙◌, subst, arith}
use Rattle.std.specs.Prelude.{is_some, unwrap_or, true}
use Rattle.ot_op.specs.declared.comp.Comp.{Comp}
use Rattle.ot_op.specs.declared.limits.TheConstants.{MAX_COMPONENTS, MAX_OPERATION_UNITS}
use Rattle.ot_op.specs.Apply.{applied}
use Rattle.ot_op.specs.Compose.{appended}
use Rattle.ot_op.specs.Operation.{is_void, total_units}
use Rattle.journal_rules.specs.declared.state.ClientState.TheVariants.{Joined}
use Rattle.journal_rules.specs.Client.{is_alive}
use Rattle.share_client.specs.Bounds.{IsBoundedIfAlive}
use Rattle.share_client.specs.Clients.{Numbered}
use Rattle.share_client.specs.Edits.{edit_comp, edit_end}
use Rattle.share_client.proofs.Bounds.{bounded_edited}
use Rattle.share_client.proofs.Edits.{edit_applies, edit_solid, small_enough}
use Rattle.share_client.proofs.client.ShareClient.edit.Goals as goal

pub invariant_of-self-2 : goal.invariant_of-self-2
invariant_of-self-2 c =
    let s = c.args.self.now.now in
    let v = c.self.view_is in
    let comp = c.in-Ok.comp in
    let edit = c.args.edit.now in
    let bound : IsBoundedIfAlive s = subst (λ (x : Numbered). IsBoundedIfAlive x.now) v c.self.invariant.bounded in
    let comp_is : comp ≡ edit_comp s.text edit = c.in-Ok.ensures ∙ ap (λ (x : Numbered). edit_comp x.now.text edit) v in
    let joined : c.self.inside.state ≡ Joined = search (rules, c.ne.ensures, c.if-ne.false) in
    let alive : is_alive s.state ≡ true = ap (λ (x : Numbered). is_alive x.now.state) (sym v) ∙ ap is_alive joined in
    let long : c.len-len.result ≡ length s.text = c.len-len.ensures ∙ ap (λ (x : Numbered). length x.now.text) v in
    let within : edit_end edit ≤ length s.text = omega (arith, long, c.end.ensures, c.if-len-end.false) in
    let pending_is : c.in-Ok-with_comp.pending ≡ appended s.pending comp = c.in-Ok-with_comp.ensures ∙ ap (λ (x : Numbered). appended x.now.pending comp) v in
    let small = small_enough c.in-Ok-with_comp.pending c.in_ok-check_size.ensures.fits in
    record {
      user_is = c.self.invariant.user_is;
      bounded = bounded_edited s _ comp bound alive
          (ap is_void comp_is ∙ edit_solid s.text edit c.requires.edit within)
          (ap (λ (x : Comp). is_some (applied s.text x)) comp_is ∙ edit_applies s.text edit within)
          (subst (λ (p : List Comp). length p ≤ MAX_COMPONENTS) pending_is small.0)
          (subst (λ (p : List Comp). total_units p ≤ MAX_OPERATION_UNITS) pending_is small.1)
          (ap (λ (x : Numbered). x.now.flight) v)
          pending_is
          (c.in-Ok-apply.ensures.ok ∙ ap (λ (x : Numbered). unwrap_or (applied x.now.text comp) x.now.text) v);
    }
