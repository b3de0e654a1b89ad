use Rattle.std.proofs.Common.{◌≡◌}
use Rattle.plan_search.proofs.search.lessen.Given as goal

-- what is judged last is judged for this ROM
abbrev pub invariant-loop-place : goal.invariant-loop-place
invariant-loop-place l = l.judged ≡ l.bytes
