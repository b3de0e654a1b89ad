use Rattle.abs_state.proofs.ChangeLemmas.{held_of}
use Rattle.abs_state.proofs.state.AbsState.pair.Goals as goal

pub returns-clause-holds : goal.returns-clause-holds
returns-clause-holds c cells entry m h = rw c.pair.ensures (held_of c.args.self.now.pairs entry m.regs h.pairs c.args.of)
