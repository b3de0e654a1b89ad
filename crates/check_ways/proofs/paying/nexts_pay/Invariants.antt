use Rattle.std.proofs.Common.{ℕ, ◌<◌, get_or}
use Rattle.abs_step.specs.declared.next.Next.{Next}
use Rattle.check_ways.specs.Parts.{NextPays}
use Rattle.check_ways.proofs.paying.nexts_pay.Given as goal

-- the row pays for each of the successors so far
abbrev pub invariant-loop-next : goal.invariant-loop-next
invariant-loop-next l = (k : ℕ) (next : Next) → k < l.next-index → NextPays l.subject (get_or l.nexts k next)
