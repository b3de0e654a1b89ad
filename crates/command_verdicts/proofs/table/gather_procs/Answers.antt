use Rattle.std.proofs.Common.{arith, get_or, subst, None, ◌++◌}
use Rattle.std.specs.List.{flat_map}
use Rattle.std.proofs.lemmas.List.{take_all}
use Rattle.std.proofs.lemmas.Option.{slice_get-get_or}
use Rattle.std.proofs.lemmas.Result.{err_from_is_err_and}
use Rattle.cert_lines.specs.declared.proc.Proc.{Proc}
use Rattle.cert_lines.specs.declared.proc.ProcKind.TheVariants.{Main}
use Rattle.command_verdicts.specs.Gathered.{Gathered}
use Rattle.command_verdicts.specs.Verdict.{proc_text}
use Rattle.command_verdicts.proofs.GatheringLemmas.{fails_at_more, gathered_more, gathered_nothing}
use Rattle.command_verdicts.proofs.table.gather_procs.Goals as goal

-- what a read after the end of a list of procedures gives
abbrev behind : Proc
behind = record { kind = Main; entry = 0; rank = 0; depth = 0; time = None }

pub loop-proc-init : goal.loop-proc-init
loop-proc-init g c = gathered_nothing (g.W.Sink.state c.args.out.now) c.args.gathered.now

pub returns-in_err-gather : goal.returns-in_err-gather
returns-in_err-gather g c =
    let p = err_from_is_err_and c.from_residual.result c.from_residual.ensures.1 in
    let procs = c.args.procs.now in
    let index = c.loop-proc.proc-index in
    rw p.1
    (fails_at_more proc_text procs index (get_or procs index behind) _ _ _ _ _ _ (slice_get-get_or procs index behind (omega arith))
    c.proc_line.ensures c.loop-proc.invariant c.in_err-gather.ensures)

pub loop-proc-preserved : goal.loop-proc-preserved
loop-proc-preserved g c =
    let procs = c.args.procs.now in
    let index = c.loop-proc.proc-index in
    gathered_more proc_text procs index (get_or procs index behind) _ _ _ _ _ _ _ (slice_get-get_or procs index behind (omega arith))
    c.proc_line.ensures c.loop-proc.invariant c.in_ok-gather.ensures

pub returns : goal.returns
returns g c =
    let procs = c.args.procs.now in
    subst (λ xs. Gathered (g.W.Sink.state c.args.out.now) (c.args.gathered.now ++ flat_map proc_text xs) (g.W.Sink.state c.loop-proc.out) c.loop-proc.gathered)
    (take_all c.loop-proc.proc-index procs (omega arith)) c.loop-proc.invariant
