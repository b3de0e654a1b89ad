use Rattle.std.proofs.Common.{refl, arith}
use Rattle.check_claims.specs.Claims.{IsClaimedPart}
use Rattle.check_claims.proofs.Lists.{also_of_next}
use Rattle.check_claims.proofs.source.StepSource.tells_parts.Goals as goal

pub loop-part-preserved : goal.loop-part-preserved
loop-part-preserved c = λ after.
    also_of_next (IsClaimedPart c.args.self.now after) c.args.parts.now c.loop-part.part-index c.part-item.result
    (c.loop-part.invariant after) c.loop-part-test.true c.part-item.is (c.if-not-tells_part.ensures refl after)

pub returns : goal.returns
returns c = λ e after k d within. c.loop-part.invariant after k d (omega (arith, within, c.loop-part-test.false))
