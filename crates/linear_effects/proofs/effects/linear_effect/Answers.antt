use Rattle.linear_effects.proofs.Slight.{arithmetic_told}
use Rattle.linear_effects.proofs.effects.linear_effect.Goals as goal

pub returns-in-Arithmetic-clause-slight : goal.returns-in-Arithmetic-clause-slight
returns-in-Arithmetic-clause-slight c =
    arithmetic_told c.becoming.result c.arithmetic_effect.result c.in-Arithmetic.kind c.operand_term.result c.args.carry c.args.pairs.now.af.high c.operand_range.result c.arithmetic_effect.ensures c.becoming.ensures
