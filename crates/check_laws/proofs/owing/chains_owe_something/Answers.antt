use Rattle.check_laws.proofs.OwingLemmas.{owes}
use Rattle.check_laws.proofs.owing.chains_owe_something.Goals as goal

pub returns : goal.returns
returns c = λ rom cert lowest under c s acc u timed numbers p. owes rom cert acc lowest under u timed c s numbers p
