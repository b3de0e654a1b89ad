use Rattle.std.proofs.Common.{inl, inr}
use Rattle.runner.specs.Certified.{hardware_on}
use Rattle.commands.proofs.RunLemmas.{bad_line_fails, bad_line_written, part_read, write_fails}
use Rattle.commands.proofs.running.play_on.Goals as goal

pub returns-in_err-put-in-Err-Line-clause-part : goal.returns-in_err-put-in-Err-Line-clause-part
returns-in_err-put-in-Err-Line-clause-part g c = λ _. inr (inr (inr (
    bad_line_fails (hardware_on c.args.accepted.now) c.args.steps c.in-Err-Line.line _ _ _ _ _ _ c.play.result c.play.ensures (cc) (cc) c.in_err-put-in-Err-Line.ensures
    )))

pub returns-in_ok-put-in-Err-Line-clause-bad : goal.returns-in_ok-put-in-Err-Line-clause-bad
returns-in_ok-put-in-Err-Line-clause-bad g c = λ _.
    bad_line_written (hardware_on c.args.accepted.now) c.args.steps c.in-Err-Line.line _ _ _ _ _ _ c.play.result c.play.ensures (cc) (cc) c.in_ok-put-in-Err-Line.ensures

pub returns-in-Err-Read-clause-part : goal.returns-in-Err-Read-clause-part
returns-in-Err-Read-clause-part g c = λ _. inl (part_read (hardware_on c.args.accepted.now) c.args.steps _ _ _ _ c.play.result c.play.ensures (cc))

pub returns-in-Err-Read-clause-last : goal.returns-in-Err-Read-clause-last
returns-in-Err-Read-clause-last g c = inr (part_read (hardware_on c.args.accepted.now) c.args.steps _ _ _ _ c.play.result c.play.ensures (cc))

pub returns-in-Err-Write-clause-device : goal.returns-in-Err-Write-clause-device
returns-in-Err-Write-clause-device g c = λ _.
    let (ended, failed, quiet) = write_fails (hardware_on c.args.accepted.now) c.args.steps _ _ _ _ c.play.result c.play.ensures (cc) in
    inr failed

pub returns-in-Err-Write-clause-part : goal.returns-in-Err-Write-clause-part
returns-in-Err-Write-clause-part g c = λ _.
    let (ended, failed, quiet) = write_fails (hardware_on c.args.accepted.now) c.args.steps _ _ _ _ c.play.result c.play.ensures (cc) in
    elim ended [
      | inl part ↦ inr (inl part)
      | inr plays ↦ inr (inr (inl plays))
    ]

pub returns-in-Err-Write-clause-last : goal.returns-in-Err-Write-clause-last
returns-in-Err-Write-clause-last g c =
    let (ended, failed, quiet) = write_fails (hardware_on c.args.accepted.now) c.args.steps _ _ _ _ c.play.result c.play.ensures (cc) in
    inl quiet
