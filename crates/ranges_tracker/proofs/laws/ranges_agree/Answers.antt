use Rattle.ranges_tracker.proofs.Formed.{agree_form}
use Rattle.ranges_tracker.proofs.Rebuilt.{form_agree}
use Rattle.ranges_tracker.proofs.laws.ranges_agree.Goals as goal

pub returns : goal.returns
returns c ranges text = (agree_form ranges text, form_agree ranges text)
