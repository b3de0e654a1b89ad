use Rattle.check_laws.proofs.PayLemmas.{exit_paid}
use Rattle.check_laws.proofs.paying.exits_are_paid.Goals as goal

pub returns : goal.returns
returns c = λ row cost cells entry m i h pays. exit_paid row cells entry m i h cost pays
