use Rattle.abs_laws.proofs.Settled.{settled_follows}
use Rattle.abs_laws.proofs.outcomes.settled_effects_follow.Goals as goal

pub returns : goal.returns
returns c = settled_follows
