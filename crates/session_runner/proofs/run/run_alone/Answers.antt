use Rattle.session_runner.specs.Passing.{passed_keeper}
use Rattle.session_runner.proofs.Completing.{answers, can_be_told, completes, cut_short, done, falls_not, memory_wanting, other_words, over, unasked, unflushed}
use Rattle.session_runner.proofs.run.run_alone.Goals as goal

pub returns-clause-complete : goal.returns-clause-complete
returns-clause-complete g c = completes _ _ _ _ _ c.prepare-ending.result c.prepare-ending.ensures.explains (over _ _ _ _ _ c.prepare-ending.result c.prepare-ending.ensures.keeper c.into_keeper.ensures) c.tell-status.ensures

pub returns-clause-answers : goal.returns-clause-answers
returns-clause-answers g c = answers _ _ _ _ _ c.prepare-ending.result c.prepare-ending.ensures.explains (over _ _ _ _ _ c.prepare-ending.result c.prepare-ending.ensures.keeper c.into_keeper.ensures) c.tell-status.ensures

pub returns-clause-written : goal.returns-clause-written
returns-clause-written g c = cut_short _ _ _ _ _ c.prepare-ending.result c.prepare-ending.ensures.explains (over _ _ _ _ _ c.prepare-ending.result c.prepare-ending.ensures.keeper c.into_keeper.ensures) c.tell-status.ensures

pub returns-clause-memory : goal.returns-clause-memory
returns-clause-memory g c = memory_wanting _ _ _ _ _ c.prepare-ending.result c.prepare-ending.ensures.explains (over _ _ _ _ _ c.prepare-ending.result c.prepare-ending.ensures.keeper c.into_keeper.ensures) c.tell-status.ensures

pub returns-clause-other_words : goal.returns-clause-other_words
returns-clause-other_words g c = other_words _ _ _ (passed_keeper g.K.Keeper.tells g.K.Keeper.documents g.K.Keeper.count c.args.keeper c.into_keeper.result) _ c.prepare-ending.result c.prepare-ending.ensures.explains c.tell-status.ensures

pub returns-clause-done : goal.returns-clause-done
returns-clause-done g c = done _ _ _ _ _ c.prepare-ending.result c.prepare-ending.ensures.explains (over _ _ _ _ _ c.prepare-ending.result c.prepare-ending.ensures.keeper c.into_keeper.ensures) c.tell-status.ensures

pub returns-clause-unflushed : goal.returns-clause-unflushed
returns-clause-unflushed g c = unflushed _ _ _ _ _ c.prepare-ending.result c.prepare-ending.ensures.explains (over _ _ _ _ _ c.prepare-ending.result c.prepare-ending.ensures.keeper c.into_keeper.ensures) c.tell-status.ensures

pub returns-clause-later : goal.returns-clause-later
returns-clause-later g c = falls_not _ _ _ _ _ _ c.prepare-ending.result _ c.tell-status.ensures c.prepare-ending.ensures.keeper c.into_keeper.ensures

pub returns-clause-unasked : goal.returns-clause-unasked
returns-clause-unasked g c = unasked _ _ _ _ _ _ c.prepare-ending.result _ c.tell-status.ensures c.prepare-ending.ensures.keeper c.into_keeper.ensures

pub tell-status-requires : goal.tell-status-requires
tell-status-requires g c = can_be_told _ _ c.prepare-ending.result c.prepare-ending.ensures.explains
