use Rattle.std.proofs.Common.{◌≡◌, [], Ok, Err, subst}
use Rattle.board_fetch.specs.Decoded.{StandsAt}
use Rattle.cert_lines.specs.declared.row.Row.{Row}
use Rattle.check_ways.proofs.ExitLemmas.{leaves_if, stays_if}
use Rattle.check_ways.proofs.exits.may_leave.Goals as goal

pub returns-in-Ok : goal.returns-in-Ok
returns-in-Ok c =
    leaves_if c.args.rom.now c.args.row.now c.in-Ok.instr c.may_return.result
    (subst (λ (r : Row). r.state.shape ≡ []) c.row.view_is (c.is_empty.ensures.0 c.if-not-is_empty.false))
    (subst (λ (r : Row). StandsAt c.args.rom.now r.address (Ok c.in-Ok.instr)) c.row.view_is (c.in-Ok.ensures {u = tt}).stands)
    c.may_return.ensures

pub returns-in-Err : goal.returns-in-Err
returns-in-Err c =
    stays_if c.args.rom.now c.args.row.now c.in-Err.field-0
    (subst (λ (r : Row). StandsAt c.args.rom.now r.address (Err c.in-Err.field-0)) c.row.view_is (c.in-Err.ensures {u = tt}).fault)
