use Rattle.std.proofs.Common.{[], pos, arith}
use Rattle.std.proofs.lemmas.List.{ext_get_or}
use Rattle.loop_bounds.specs.Linear.{LinearView}
use Rattle.check_cover.proofs.claims.are_same_facts.Goals as goal

pub returns : goal.returns
returns c = λ e. ext_get_or (record { constant = pos 0; terms = [] }) c.args.facts.now c.args.other.now (omega arith) (λ k within. c.loop-at.invariant k (record { constant = pos 0; terms = [] }) (omega (arith, within, c.loop-at-test.false)))
