use Rattle.abs_laws.proofs.Ways.{goes_held, goes_left, goes_straight, goes_taken, test_met}
use Rattle.abs_laws.proofs.outcomes.ways_fit.Goals as goal

pub returns-clause-met : goal.returns-clause-met
returns-clause-met c = test_met

pub returns-clause-straight : goal.returns-clause-straight
returns-clause-straight c = goes_straight

pub returns-clause-left : goal.returns-clause-left
returns-clause-left c = goes_left

pub returns-clause-held : goal.returns-clause-held
returns-clause-held c = goes_held

pub returns-clause-taken : goal.returns-clause-taken
returns-clause-taken c = goes_taken
