use Rattle.std.proofs.Common.{◌≡◌}
use Rattle.plan_search.proofs.search.bound.Given as goal

-- what is judged last is judged for this ROM
abbrev pub invariant-loop : goal.invariant-loop
invariant-loop g l = l.judged ≡ l.bytes
