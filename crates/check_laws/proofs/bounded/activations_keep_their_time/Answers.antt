use Rattle.check_laws.proofs.BoundedLemmas.{keeps_times}
use Rattle.check_laws.proofs.bounded.activations_keep_their_time.Goals as goal

pub returns : goal.returns
returns c = keeps_times
