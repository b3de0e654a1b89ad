use Rattle.std.proofs.Common.{◌≡◌, subst, pos, Some}
use Rattle.loop_bounds.specs.declared.variable.Variable.{Variable}
use Rattle.linear_sums.specs.Bytes.{EachByte}
use Rattle.linear_sums.specs.Canon.{canon}
use Rattle.linear_sums.proofs.MultipleLemmas.{IsZeroByBytes, all_more, zero_from_seen}
use Rattle.linear_sums.proofs.sum.Sum.variable_there.Goals as goal

pub loop-term-preserved : goal.loop-term-preserved
loop-term-preserved g c =
    let box = g.R.Ranges.range_of c.args.ranges.now in
    all_more (IsZeroByBytes box c.args.self.now) c.terms-term-items.result.now c.loop-term.term-index c.term-item.result c.loop-term.invariant c.loop-term-test.true c.term-item.is
    (subst (λ (w : Variable). EachByte (λ v. canon c.args.self.now box (Some v) ≡ pos 0) w) c.variable.ensures c.in_default.ensures)

pub returns : goal.returns
returns g c =
    zero_from_seen (g.R.Ranges.range_of c.args.ranges.now) c.args.self.now c.terms-term-items.result.now c.loop-term.term-index c.loop-term.invariant c.terms-term-items.ensures.value c.loop-term-test.false
