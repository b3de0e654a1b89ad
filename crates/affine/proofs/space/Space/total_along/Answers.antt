use Rattle.std.proofs.Common.{◌≡◌, ℕ, ◌+◌, ◌^◌, take, ◌*ℤ◌, ap, ◌∙◌, rules, arith}
use Rattle.loop_bounds.specs.declared.variable.Variable.{Variable}
use Rattle.loop_bounds.specs.Linear.{total}
use Rattle.loop_bounds.specs.Variable.{rank_of}
use Rattle.affine.specs.Space.{coefficient_at}
use Rattle.affine.proofs.Sums.{sum_next, total_next}
use Rattle.affine.proofs.space.Space.total_along.Goals as goal

pub loop-term-preserved : goal.loop-term-preserved
loop-term-preserved c =
    let n = c.loop-term.term-index in
    let t = c.term-item.result in
    let terms = c.args.terms.now in
    let x = λ (v : Variable). coefficient_at c.args.self.now (rank_of v) c.args.index in
    let product = c.multiple-sum.result in
    let rank = c.from-rank.result in
    let is : rank ≡ rank_of t.variable = search rules in
    let value : product ≡ t.coefficient *ℤ coefficient_at c.args.self.now rank c.args.index = search rules in
    let next = value ∙ ap (λ (r : ℕ). t.coefficient *ℤ coefficient_at c.args.self.now r c.args.index) is in
    sum_next _ product (2 ^ 51) n c.loop-term.invariant.1 c.multiple-sum.ensures.size (omega (arith, c.requires.few)) (total x (take (n + 1) terms)) (total_next x terms n t _ product c.loop-term-test.true c.term-item.is c.loop-term.invariant.0 next)
