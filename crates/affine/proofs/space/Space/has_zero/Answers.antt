use Rattle.std.proofs.Common.{◌≡◌, ℕ, List, pos, ◌+ℤ◌, All, IsTrue, subst, sym, ap, ◌∙◌, below_more, rules, arith}
use Rattle.std.proofs.lemmas.Int.{ints}
use Rattle.loop_bounds.specs.declared.linear.Term.{Term}
use Rattle.loop_bounds.specs.declared.variable.Variable.{Variable}
use Rattle.loop_bounds.specs.Linear.{total, value}
use Rattle.loop_bounds.specs.Variable.{rank_of}
use Rattle.affine.specs.Space.{KnowsAt, coordinate_at, coefficient_at}
use Rattle.affine.proofs.EqualityLemmas.{zero_on}
use Rattle.affine.proofs.space.Space.has_zero.Goals as goal

pub loop-index-preserved : goal.loop-index-preserved
loop-index-preserved c =
    let s = c.args.self.now in
    let x = λ (v : Variable). coefficient_at s (rank_of v) c.loop-index.index in
    let zero : c.total_along.result ≡ pos 0 = search rules in
    let here = ap (total x) (sym c.terms-in-loop-index.ensures.value) ∙ sym c.total_along.ensures ∙ zero in
    below_more (λ (i : ℕ). total (λ v. coefficient_at s (rank_of v) i) c.args.linear.now.terms ≡ pos 0) c.loop-index.index c.loop-index.invariant here

pub returns : goal.returns
returns c = λ _.
    let s = c.args.self.now in
    let l = c.args.linear.now in
    let yes : IsTrue c.knows_all.result = search rules in
    let known = subst (λ (ts : List Term). All (λ t. KnowsAt s (rank_of t.variable)) ts) c.terms.ensures.value (c.knows_all.ensures.0 yes) in
    let x = λ (v : Variable). coordinate_at s (rank_of v) in
    let total_is : c.total_at_point.result ≡ total (λ v. coordinate_at s (rank_of v)) l.terms = c.total_at_point.ensures.value ∙ ap (total x) c.terms-2.ensures.value in
    let constant_is : c.from.result ≡ l.constant = search rules in
    let sum : c.from.result +ℤ c.total_at_point.result ≡ pos 0 = search rules in
    let at_point : value (λ v. coordinate_at s (rank_of v)) l ≡ pos 0 = omega (arith, ints, total_is, constant_is, sum) in
    zero_on s l known at_point (λ i h. c.loop-index.invariant i (omega (arith, h, c.loop-index-test.false)))
