use Rattle.std.proofs.Common.{◌≡◌, ◌+◌, ◌*◌, drop}
use Rattle.linear_sums.specs.Rewriting.{rewritten, plus_each_after}
use Rattle.linear_sums.specs.Sum.{IsMadeOf}
use Rattle.linear_sums.proofs.rewriting.rewritten.Given as goal

abbrev pub invariant-loop-term : goal.invariant-loop-term
invariant-loop-term l = record {
  exact : rewritten l.effect l.linear_change l.linear ≡ plus_each_after l.effect l.linear_change (drop l.term-index l.term-items) l.sum;
  room : IsMadeOf (1 + 4 * l.term-index) l.sum;
}
