use Rattle.abs_state.proofs.ChangeLemmas.{pair_put}
use Rattle.abs_state.proofs.state.AbsState.put_pair.Goals as goal

pub returns-clause-holds : goal.returns-clause-holds
returns-clause-holds c cells entry m word h k =
    rw c.set.ensures (rw c.fact_behind-self.ensures (pair_put c.args.of c.args.pair word c.args.self.now cells entry m k h))
