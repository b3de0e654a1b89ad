use Rattle.std.proofs.Common.{◌≡◌, ℕ, ◌<◌, get_or}
use Rattle.abs_step.specs.declared.next.Next.{Next}
use Rattle.check_ways.specs.Parts.{NextGoesOn}
use Rattle.check_ways.proofs.going.nexts_go_on.Given as goal

-- the row goes on by each of the ways so far
abbrev pub invariant-loop-next : goal.invariant-loop-next
invariant-loop-next l =
    (l.coverer ≡ l.fn.coverer) × ((k : ℕ) (next : Next) → k < l.next-index → NextGoesOn l.fn.coverer l.subject (get_or l.nexts k next))
