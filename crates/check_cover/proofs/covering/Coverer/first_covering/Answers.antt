use Rattle.std.proofs.Common.{arith}
use Rattle.check_cover.proofs.covering.Coverer.first_covering.Goals as goal

pub returns : goal.returns
returns c k from below = let end = c.loop-id-test.false in c.loop-id.invariant k from (omega arith)
