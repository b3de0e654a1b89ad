use Rattle.std.proofs.Common.{◌∙◌, sym}
use Rattle.abs_state.specs.Variables.{range_of}
use Rattle.flag_parts.proofs.CarryLemmas.{first_here, none_here}
use Rattle.flag_parts.proofs.carry.first_told.Goals as goal

pub returns-in-Some : goal.returns-in-Some
returns-in-Some c =
    sym (c.loop-part.invariant ∙ first_here (range_of c.args.state.now) c.args.parts.now c.loop-part.part-index c.part-item.result c.in-Some.carry c.loop-part-test.true c.part-item.is (sym c.in-Some.ensures))

pub loop-part-preserved : goal.loop-part-preserved
loop-part-preserved c =
    c.loop-part.invariant ∙ none_here (range_of c.args.state.now) c.args.parts.now c.loop-part.part-index c.part-item.result c.loop-part-test.true c.part-item.is (sym c.in_default.ensures)
