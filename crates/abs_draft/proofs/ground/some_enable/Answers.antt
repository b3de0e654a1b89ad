use Rattle.std.proofs.Common.{arith}
use Rattle.abs_draft.proofs.GroundLemmas.{enable_told}
use Rattle.abs_draft.proofs.ground.some_enable.Goals as goal

pub returns : goal.returns
returns c = enable_told c.args.map.now c.args.range c.some_enable.result (omega (arith, c.well_formed)) c.some_enable.ensures
