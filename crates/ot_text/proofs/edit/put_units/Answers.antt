use Rattle.std.proofs.Common.{arith, ◌≡◌, ◌<◌, ◌≤◌, ◌∙◌, List, ℕ, length, ap}
use Rattle.ot_units.specs.Text.{put_at}
use Rattle.ot_text.specs.Lists.{joined}
use Rattle.ot_text.specs.Chunks.{AreBlocks}
use Rattle.ot_text.proofs.edit.put_units.Goals as goal

pub returns-clause-puts : goal.returns-clause-puts
returns-clause-puts c =
    let none = rw c.if-branch.false at c.in_ok-put_alone.ensures.done in
    let items = rw c.in_ok-from.ensures.same at c.replace.ensures in
    ap (λ (x : List (List (List ℕ))). joined (joined x)) items ∙ c.in_ok-from.ensures.puts ∙ ap (λ (x : List (List (List ℕ))). put_at (joined (joined x)) c.args.at c.args.other.now) none

pub returns-clause-blocks : goal.returns-clause-blocks
returns-clause-blocks c =
    let items = rw c.in_ok-from.ensures.same at c.replace.ensures in
    rw items c.in_ok-from.ensures.patch.blocks
