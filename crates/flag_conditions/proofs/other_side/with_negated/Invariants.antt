-- The loop over the terms.
use Rattle.std.proofs.Common.{◌≡◌, take}
use Rattle.loop_bounds.specs.Linear.{IsLinear}
use Rattle.flag_conditions.specs.OtherSide.{with_negated}
use Rattle.flag_conditions.proofs.other_side.with_negated.Given as goal

abbrev pub invariant-loop-term : goal.invariant-loop-term
invariant-loop-term l = record {
  is : l.result ≡ with_negated l.initial.result.constant (take l.term-index l.term-items);
  linear : IsLinear l.result;
}
