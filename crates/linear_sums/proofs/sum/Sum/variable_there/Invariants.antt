use Rattle.std.proofs.Common.{◌≡◌, take, Some, All, pos}
use Rattle.linear_sums.specs.Bytes.{EachByte}
use Rattle.linear_sums.specs.Canon.{canon}
use Rattle.linear_sums.proofs.sum.Sum.variable_there.Given as goal

abbrev pub invariant-loop-term : goal.invariant-loop-term
invariant-loop-term g l =
    All (λ t. EachByte (λ v. canon l.self (g.R.Ranges.range_of l.ranges) (Some v) ≡ pos 0) t.variable) (take l.term-index l.term-items)
