use Rattle.std.proofs.Common.{[], pos, arith}
use Rattle.std.proofs.lemmas.List.{ext_get_or}
use Rattle.loop_bounds.specs.Linear.{padding}
use Rattle.loop_bounds.specs.declared.linear.Term.{Term}
use Rattle.check_cover.proofs.claims.are_same_terms.Goals as goal

pub returns : goal.returns
returns c = λ e. ext_get_or padding c.args.terms.now c.args.other.now (omega arith) (λ k within. c.loop-at.invariant k padding (omega (arith, within, c.loop-at-test.false)))
