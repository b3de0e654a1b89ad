use Rattle.std.proofs.Common.{◌≡◌, take}
use Rattle.flag_parts.specs.Excluding.{free_terms}
use Rattle.flag_parts.proofs.excluding.free_terms.Given as goal

abbrev pub invariant-loop-term : goal.invariant-loop-term
invariant-loop-term g l = l.free ≡ free_terms (g.R.Ranges.range_of l.ranges) (take l.term-index l.terms)
