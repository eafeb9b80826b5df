use Rattle.std.proofs.Common.{arith, ◌≤◌, ◌<◌, ◌+◌, ◌≡◌, ◌∙◌, length, ap}
use Rattle.ot_units.specs.Text.{IsText, put_at}
use Rattle.ot_units.proofs.Texts.{put_keeps}
use Rattle.ot_text.specs.Lists.{joined}
use Rattle.ot_text.proofs.Edits.{put_length}
use Rattle.ot_text.proofs.Splices.{few_below}
use Rattle.ot_text.proofs.open_text.OpenText.insert.Goals as goal

pub put_units-requires-clause-few : goal.put_units-requires-clause-few
put_units-requires-clause-few c = few_below c.self.inside.blocks.items c.self.inside.len _ c.self.invariant.kept (omega (arith, c.self.ranges))

pub invariant_of-self-2 : goal.invariant_of-self-2
invariant_of-self-2 c =
    let is = c.in_ok-put_units.ensures.puts in
    let old = c.self.invariant.kept in
    let inside : c.args.at ≤ length (joined (joined c.self.inside.blocks.items)) = rw (← c.self.view_is) at c.requires.in_text in
    let l = put_length (joined (joined c.self.inside.blocks.items)) c.args.at c.args.other.now inside in
    record {
      kept = record {
        blocks = c.in_ok-put_units.ensures.blocks;
        text = rw is (put_keeps _ _ _ old.text c.requires.units);
        counted = omega (arith, ap length is, l, old.counted);
      };
      cut = tt;
    }
