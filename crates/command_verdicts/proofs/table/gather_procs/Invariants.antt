use Rattle.std.proofs.Common.{◌++◌, take}
use Rattle.std.specs.List.{flat_map}
use Rattle.command_verdicts.specs.Gathered.{Gathered}
use Rattle.command_verdicts.specs.Verdict.{proc_text}
use Rattle.command_verdicts.proofs.table.gather_procs.Given as goal

-- the lines of the procedures before this one were gathered
abbrev pub invariant-loop-proc : goal.invariant-loop-proc
invariant-loop-proc g l =
    Gathered (g.W.Sink.state l.fn.out) (l.fn.gathered ++ flat_map proc_text (take l.proc-index l.procs)) (g.W.Sink.state l.out) l.gathered
