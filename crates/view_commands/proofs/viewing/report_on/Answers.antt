use Rattle.view_commands.proofs.viewing.report_on.Goals as goal

pub returns-in-Err-clause-device : goal.returns-in-Err-clause-device
returns-in-Err-clause-device g c = λ e. c.in-Err.ensures.device (cc (c.status.ensures.device e))
