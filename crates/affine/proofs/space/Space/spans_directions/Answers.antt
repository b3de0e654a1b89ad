use Rattle.std.proofs.Common.{ℕ, IsTrue, below_more, rules, arith}
use Rattle.loop_bounds.specs.Variable.{rank_of}
use Rattle.affine.specs.Space.{coefficient_at, IsSpanned}
use Rattle.tracked_variables.specs.Vector.{entry_at}
use Rattle.affine.proofs.SpanLemmas.{spanned_same}
use Rattle.affine.proofs.space.Space.spans_directions.Goals as goal

pub loop-index-preserved : goal.loop-index-preserved
loop-index-preserved c =
    let s = c.args.self.now in
    let other = c.args.other.now in
    let yes : IsTrue c.spans.result = search rules in
    let here = spanned_same s (λ v. entry_at c.direction.result (rank_of v)) (λ v. coefficient_at other (rank_of v) c.loop-index.index) (λ v k. c.direction.ensures (rank_of v) k.0) (c.spans.ensures yes) in
    below_more (λ (i : ℕ). IsSpanned s (λ v. coefficient_at other (rank_of v) i)) c.loop-index.index c.loop-index.invariant here

pub returns : goal.returns
returns c = λ _ i h. c.loop-index.invariant i (omega (arith, h, c.loop-index-test.false))
