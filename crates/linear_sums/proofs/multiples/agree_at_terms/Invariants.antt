use Rattle.std.proofs.Common.{take, Some, All}
use Rattle.linear_sums.specs.Bytes.{EachByte}
use Rattle.linear_sums.specs.Canon.{AgreeAt}
use Rattle.linear_sums.proofs.multiples.agree_at_terms.Given as goal

abbrev pub invariant-loop-term : goal.invariant-loop-term
invariant-loop-term g l =
    All (λ t. EachByte (λ v. AgreeAt (g.R.Ranges.range_of l.ranges) l.fn.a_factor l.a l.fn.b_factor l.b (Some v)) t.variable) (take l.term-index l.terms)
