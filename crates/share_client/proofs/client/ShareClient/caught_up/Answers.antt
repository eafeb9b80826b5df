use Rattle.std.proofs.Common.{◌≡◌, ◌+◌, ◌∷◌, ◌∙◌, drop, sym, ap, arith}
use Rattle.std.proofs.lemmas.List.{drop_more}
use Rattle.journal_entries.specs.declared.message.Msg.TheVariants.{Op}
use Rattle.journal_laws.proofs.ClientsOn.{delivered_alive}
use Rattle.journal_sizes.proofs.Delivering.{goes_on}
use Rattle.share_client.specs.declared.returning.Missed.{Missed}
use Rattle.share_client.specs.Returning.{with_all}
use Rattle.share_client.proofs.client.ShareClient.caught_up.Goals as goal

pub loop-missed-preserved : goal.loop-missed-preserved
loop-missed-preserved c =
    let s = c.loop-missed.next.now in
    let k = c.loop-missed.missed-index in
    let m = c.missed-item.result in
    let past = c.args.past.now in
    let turn : drop k past ≡ m ∷ drop (k + 1) past = drop_more past k m c.loop-missed-test.true ∙ ap (λ (x : Missed). x ∷ drop (k + 1) past) (sym c.missed-item.is) in
    let on = goes_on s m.op m.source c.loop-missed.invariant.ease in
    rw c.in_ok-on_missed.ensures (record {
      client_is = c.loop-missed.invariant.client_is;
      same = sym (ap (with_all s) turn) ∙ c.loop-missed.invariant.same;
      ease = λ lives. (on lives).sized;
      low = λ lives. let n = (on lives).next in let low = c.loop-missed.invariant.low (delivered_alive s (Op s.version m.op m.source) lives) in omega (arith, n, low);
    })
