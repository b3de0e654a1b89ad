use Rattle.std.proofs.Common.{Ok, Err, subst}
use Rattle.board_fetch.specs.Decoded.{StandsAt}
use Rattle.cert_lines.specs.declared.row.Row.{Row}
use Rattle.check_tables.proofs.ExitLemmas.{left_at, none_at}
use Rattle.check_tables.proofs.exits.exit_of.Goals as goal

pub returns-in-Ok-clause-state : goal.returns-in-Ok-clause-state
returns-in-Ok-clause-state c =
    left_at c.args.rom.now c.args.row.now c.in-Ok.instr c.state_left.result (c.if-not-is_at_end.ensures {u = tt})
    (subst (λ (r : Row). StandsAt c.args.rom.now r.address (Ok c.in-Ok.instr)) c.row.view_is (c.in-Ok.ensures {u = tt}).stands) c.state_left.ensures

pub returns-in-Err-clause-state : goal.returns-in-Err-clause-state
returns-in-Err-clause-state c =
    none_at c.args.rom.now c.args.row.now c.in-Err.field-0
    (subst (λ (r : Row). StandsAt c.args.rom.now r.address (Err c.in-Err.field-0)) c.row.view_is (c.in-Err.ensures {u = tt}).fault)
