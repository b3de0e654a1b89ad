use Rattle.std.proofs.Common.{sym, subst, rules, IsTrue, Some, FitsSigned}
use Rattle.std.specs.Int.{w128}
use Rattle.std.proofs.lemmas.Int.{to_z-of_z}
use Rattle.loop_bounds.specs.declared.variable.Variable.{Variable}
use Rattle.linear_sums.specs.Bytes.{EachByte}
use Rattle.linear_sums.specs.Canon.{AgreeAt}
use Rattle.linear_sums.proofs.MultipleLemmas.{AgreeByBytes, fails_at, all_more, all_seen}
use Rattle.linear_sums.proofs.multiples.agree_at_terms.Goals as goal

pub returns-then-not-agree_at_bytes : goal.returns-then-not-agree_at_bytes
returns-then-not-agree_at_bytes g c =
    let box = g.R.Ranges.range_of c.args.ranges.now in
    let f1 : FitsSigned w128 c.args.a_factor = search rules in
    let f2 : FitsSigned w128 c.args.b_factor = search rules in
    let test = simp to_z-of_z at c.agree_at_bytes.ensures in
    fails_at (AgreeByBytes box c.args.a_factor c.args.a.now c.args.b_factor c.args.b.now) c.args.terms.now c.loop-term.term-index c.term-item.result c.agree_at_bytes.result c.loop-term-test.true c.term-item.is (search rules)
    (λ p. test.1 (subst (λ (w : Variable). EachByte (λ v. AgreeAt box c.args.a_factor c.args.a.now c.args.b_factor c.args.b.now (Some v)) w) (sym c.variable.ensures) p))

pub loop-term-preserved : goal.loop-term-preserved
loop-term-preserved g c =
    let box = g.R.Ranges.range_of c.args.ranges.now in
    let f1 : FitsSigned w128 c.args.a_factor = search rules in
    let f2 : FitsSigned w128 c.args.b_factor = search rules in
    let test = simp to_z-of_z at c.agree_at_bytes.ensures in
    let there : IsTrue c.agree_at_bytes.result = search rules in
    simp to_z-of_z (all_more (AgreeByBytes box c.args.a_factor c.args.a.now c.args.b_factor c.args.b.now) c.args.terms.now c.loop-term.term-index c.term-item.result (simp to_z-of_z at c.loop-term.invariant) c.loop-term-test.true c.term-item.is
    (subst (λ (w : Variable). EachByte (λ v. AgreeAt box c.args.a_factor c.args.a.now c.args.b_factor c.args.b.now (Some v)) w) c.variable.ensures (test.0 there)))

pub returns : goal.returns
returns g c =
    let box = g.R.Ranges.range_of c.args.ranges.now in
    let f1 : FitsSigned w128 c.args.a_factor = search rules in
    let f2 : FitsSigned w128 c.args.b_factor = search rules in
    all_seen (AgreeByBytes box c.args.a_factor c.args.a.now c.args.b_factor c.args.b.now) c.args.terms.now c.loop-term.term-index (simp to_z-of_z at c.loop-term.invariant) c.loop-term-test.false
