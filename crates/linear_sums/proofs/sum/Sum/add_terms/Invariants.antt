use Rattle.std.proofs.Common.{◌≡◌, ℕ, ◌+◌, take}
use Rattle.linear_sums.specs.Sum.{IsMadeOf}
use Rattle.linear_sums.proofs.SumLemmas.{with_more}
use Rattle.linear_sums.proofs.sum.Sum.add_terms.Given as goal

abbrev pub invariant-loop-term : goal.invariant-loop-term
invariant-loop-term l = record {
  exact : l.self ≡ with_more l.initial.self l.fn.factor (take l.term-index l.terms);
  room : (count : ℕ) → IsMadeOf count l.initial.self → IsMadeOf (count + l.term-index) l.self;
}
