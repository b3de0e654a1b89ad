use Rattle.std.proofs.Common.{arith}
use Rattle.abs_state.proofs.ChangeLemmas.{byte_put}
use Rattle.abs_state.proofs.state.AbsState.put_byte.Goals as goal

pub returns-clause-holds : goal.returns-clause-holds
returns-clause-holds c cells entry m byte i h w =
    rw c.set_byte.ensures (rw c.fact_without-self.ensures
    (byte_put c.args.register c.args.range byte c.args.self.now cells entry m (omega (arith, c.well_formed)) i w h))
