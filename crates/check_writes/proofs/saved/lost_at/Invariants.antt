use Rattle.std.proofs.Common.{ℕ, ◌<◌, get_or}
use Rattle.abs_step.specs.declared.next.Next.{Next}
use Rattle.check_writes.specs.Saved.{GivesAllBack}
use Rattle.check_writes.proofs.saved.lost_at.Given as goal

-- the successors so far give each pair back
abbrev pub invariant-loop-next : goal.invariant-loop-next
invariant-loop-next l = (k : ℕ) (d : Next) → k < l.next-index → GivesAllBack (get_or l.nexts k d)
