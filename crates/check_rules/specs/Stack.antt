-- What one successor of a row needs of the depth and of its callee's rank (docs/CHECKER.md, "The table of reasons").
use Rattle.std.specs.Prelude.{◌+◌, ◌<◌, ◌≤◌, Option, None, IfSome}
use Rattle.abs_step.specs.declared.next.Next.{Next}
use Rattle.abs_step.specs.declared.next.NextKind.{NextKind}
use Rattle.abs_step.specs.declared.next.NextKind.TheVariants.{Jump, Call, Exit}
use Rattle.check_cover.specs.Program.{callee_at}
use Rattle.check_cover.specs.declared.program.Callee.{Callee}
use Rattle.check_rules.specs.Table.{bytes_in}
use Rattle.check_ways.specs.Ways.{SubjectView}

-- only a call has a callee
abbrev pub called_by : NextKind → Option Callee → Option Callee
called_by Jump callee = None
called_by Call callee = callee
called_by Exit callee = None

-- the procedure that a successor calls, if it is a call of one
abbrev pub callee_of : SubjectView → Next → Option Callee
callee_of s next = called_by next.kind (callee_at s.cert next.address)

-- the depth of the row's procedure has room for a successor, and for the callee if it is a call
pub record NextFitsDepth (s : SubjectView) (next : Next) : Type 0 where
  pub way : bytes_in s next.state ≤ s.proc.depth
  pub call : IfSome (callee_of s next) (λ callee. bytes_in s next.state + callee.proc.depth ≤ s.proc.depth)

-- the callee's rank is below the caller's, if the successor is a call
abbrev pub RankFalls : SubjectView → Next → Type 0
RankFalls s next = IfSome (callee_of s next) (λ callee. callee.proc.rank < s.proc.rank)
