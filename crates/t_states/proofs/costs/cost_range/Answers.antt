use Rattle.t_states.proofs.CostLemmas.{cost_least, cost_greatest}
use Rattle.t_states.proofs.costs.cost_range.Goals as goal

pub returns-clause-least : goal.returns-clause-least
returns-clause-least c = cost_least

pub returns-clause-greatest : goal.returns-clause-greatest
returns-clause-greatest c = cost_greatest
