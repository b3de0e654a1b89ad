-- The loop over the terms.
use Rattle.std.proofs.Common.{rules}
use Rattle.flag_conditions.proofs.OtherSides.{next_linear}
use Rattle.flag_conditions.proofs.other_side.with_negated.Goals as goal

pub unwrap-result-requires : goal.unwrap-result-requires
unwrap-result-requires c =
    let next = next_linear c.args.constant.constant c.args.linear.now c.terms-term-items.result.now c.loop-term.term-index c.term-item.result c.loop-term.result c.loop-term.invariant.is c.loop-term.invariant.linear c.terms-term-items.ensures.value c.terms-term-items.ensures.linear c.loop-term-test.true c.term-item.is in
    search rules
