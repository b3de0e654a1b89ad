use Rattle.std.proofs.Common.{◌≢◌, ◌*ℤ◌, FitsSigned, pos, slice_index_or, sym, ap, ◌∙◌, rules, arith}
use Rattle.std.specs.Int.{w32}
use Rattle.std.proofs.lemmas.Int.{to_z-of_z}
use Rattle.loop_bounds.specs.Variable.{rank_of}
use Rattle.tracked_variables.specs.Vector.{entry_at}
use Rattle.affine.proofs.SpanLemmas.{spanned_by}
use Rattle.affine.proofs.space.Space.spans.Goals as goal

pub returns : goal.returns
returns c = λ _.
    let scale = c.in-Some.scale in
    let vector = c.args.vector.now in
    let not_zero : scale ≢ pos 0 = search rules in
    let fits : FitsSigned w32 scale = search rules in
    spanned_by c.args.self.now (λ v. entry_at vector (rank_of v)) scale (λ i. slice_index_or c.in-Some-factors.factors i (pos 0)) not_zero
    (λ v k. ap (λ z. z *ℤ entry_at vector (rank_of v)) (sym (to_z-of_z w32 scale fits)) ∙ c.loop-rank.invariant (rank_of v) (omega (arith, k.0, c.loop-rank-test.false)) k)
