use Rattle.std.proofs.Common.{arith, ◌≤◌, ◌≡◌, ◌∙◌, length}
use Rattle.ot_text.specs.Lists.{joined}
use Rattle.ot_text.proofs.Joining.{patch_joined}
use Rattle.ot_text.proofs.Splices.{patch_chunks}
use Rattle.ot_text.proofs.edit.fill_hole.Goals as goal

pub returns-clause-patch : goal.returns-clause-patch
returns-clause-patch c =
    record {
      ordered = omega (arith, c.in_ok-hole-2.ensures.from, c.in_ok-hole-2.ensures.to, c.in_ok-hole.ensures.from, c.in_ok-hole.ensures.to, c.requires.ordered);
      inside = omega (arith, c.in_ok-hole-2.ensures.to, c.in_ok-hole.ensures.to);
      chunks = patch_chunks (joined c.args.blocks.now) c.in_ok-new.new.items c.in_ok-hole-2.hole.from c.in_ok-hole-2.hole.to c.in_ok-hole-2.hole.units.items c.requires.chunks c.in_ok-new.ensures.chunks c.in_ok-new.ensures.joined c.in_ok-hole-2.ensures.joins c.in_ok-new.ensures.ends;
    }

pub returns-clause-joined : goal.returns-clause-joined
returns-clause-joined c =
    patch_joined (joined c.args.blocks.now) c.in_ok-new.new.items c.in_ok-hole-2.hole.from c.in_ok-hole-2.hole.to c.in_ok-hole-2.hole.units.items c.in_ok-new.ensures.joined ∙ c.in_ok-hole-2.ensures.same ∙ c.in_ok-hole.ensures.same
