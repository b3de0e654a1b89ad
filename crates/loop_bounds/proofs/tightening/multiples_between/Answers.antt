use Rattle.std.proofs.Common.{rules}
use Rattle.loop_bounds.proofs.TightenLemmas.{between_multiples}
use Rattle.loop_bounds.proofs.tightening.multiples_between.Goals as goal

pub returns : goal.returns
returns c = between_multiples c.args.from c.args.to c.args.factor c.args.range _ _ c.new.result (search rules) (search rules) (search rules) c.new.ensures
