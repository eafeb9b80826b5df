use Rattle.std.proofs.Common.{sym, arith}
use Rattle.std.proofs.lemmas.Option.{slice_get_within}
use Rattle.dup_check.proofs.Windows.{copied_more, copied_all}
use Rattle.dup_check.proofs.window.copied_from.Goals as goal

pub loop-past-preserved : goal.loop-past-preserved
loop-past-preserved c = record {
  whole = copied_more c.loop-past.made.items _ _ _ c.loop-past.at c.in-Some.past.now c.in_ok-copy.field-0 c.loop-past.invariant.whole c.in-Some.ensures c.in_ok-copy.ensures c.in_ok-push.ensures.items;
  within = omega (arith, slice_get_within c.args.kept.now.items c.loop-past.at c.in-Some.past.now (sym c.in-Some.ensures));
}

pub returns : goal.returns
returns c = copied_all _ _ _ c.loop-past.at c.loop-past.invariant.whole c.in_default.ensures
