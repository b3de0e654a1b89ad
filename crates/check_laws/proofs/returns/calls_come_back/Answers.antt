use Rattle.check_laws.proofs.ReturnLemmas.{call_comes_back, return_came}
use Rattle.check_laws.proofs.returns.calls_come_back.Goals as goal

pub returns-clause-came : goal.returns-clause-came
returns-clause-came c = return_came

pub returns-clause-lands : goal.returns-clause-lands
returns-clause-lands c = call_comes_back
