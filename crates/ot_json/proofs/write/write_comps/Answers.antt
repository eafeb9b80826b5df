use Rattle.std.proofs.lemmas.List.Elements.{All-more}
use Rattle.ot_json.specs.Grammar.{IsComponent}
use Rattle.ot_json.proofs.Back.{written_more}
use Rattle.ot_json.proofs.write.write_comps.Goals as goal

pub loop-comp-preserved : goal.loop-comp-preserved
loop-comp-preserved c = record {
  written = written_more _ _ _ c.args.comps.now c.loop-comp.comp-index c.comp-item.result c.loop-comp-test.true c.comp-item.is c.in_ok-push.ensures.items c.in_ok-write_comp.ensures.value c.loop-comp.invariant.written;
  typed = All-more IsComponent c.args.comps.now c.loop-comp.comp-index c.comp-item.result c.loop-comp-test.true c.loop-comp.invariant.typed (rw (← c.comp-item.is) c.write_comp.ensures.typed);
}
