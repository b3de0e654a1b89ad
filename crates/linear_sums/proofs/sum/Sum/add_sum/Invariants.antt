use Rattle.std.proofs.Common.{◌≡◌, take}
use Rattle.linear_sums.specs.Sum.{sign}
use Rattle.linear_sums.proofs.SumLemmas.{with_more}
use Rattle.linear_sums.proofs.sum.Sum.add_sum.Given as goal

abbrev pub invariant-loop-term : goal.invariant-loop-term
invariant-loop-term l = l.self ≡ with_more l.initial.self (sign l.negated) (take l.term-index l.term-items)
