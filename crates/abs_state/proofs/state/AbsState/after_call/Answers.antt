use Rattle.abs_state.proofs.ChangeLemmas.{call_returned}
use Rattle.abs_state.proofs.state.AbsState.after_call.Goals as goal

pub returns-clause-holds : goal.returns-clause-holds
returns-clause-holds c cells entry caller m h k =
    rw c.returned.ensures (rw c.copied.ensures (call_returned c.args.self.now c.args.exit.now cells entry caller m h k))
