-- The first pair that the NMI routine does not give back (docs/CHECKER.md, "The table of reasons").
use Rattle.std.specs.Prelude.{◌≡◌, List, Option, Some, None}
use Rattle.abs_step.specs.declared.next.Next.{Next}
use Rattle.cert_lines.specs.declared.proc.ProcKind.{ProcKind}
use Rattle.cert_lines.specs.declared.proc.ProcKind.TheVariants.{Nmi}
use Rattle.check_writes.specs.Saved.{LosesAmong}
use Rattle.intervals.specs.declared.reg_pair.RegPair.{RegPair}

-- the same for the successors of a procedure's row; only the NMI routine has to give the pairs back
abbrev pub LosesBy : ProcKind → List Next → Option RegPair → Type 0
LosesBy kind nexts None = kind ≡ Nmi → LosesAmong nexts None
LosesBy kind nexts (Some pair) = (kind ≡ Nmi) × LosesAmong nexts (Some pair)
