use Rattle.std.proofs.Common.{◌≡◌, subst, Ok, Err}
use Rattle.std.specs.Prelude.{Result}
use Rattle.z80_decode.specs.declared.instr.Instr.{Instr}
use Rattle.z80_decode.specs.declared.fault.DecodeFault.{DecodeFault}
use Rattle.abs_draft.specs.Ground.{GroundView, ground_of}
use Rattle.abs_step.specs.Successors.{writes_of}
use Rattle.abs_step.proofs.Answered.{of_all}
use Rattle.abs_step.proofs.stepping.data_writes.Goals as goal

pub returns-in-Ok : goal.returns-in-Ok
returns-in-Ok c =
    of_all c.args.rom.now c.args.address (Ok c.in-Ok.instr)
    (λ (d : Result Instr DecodeFault). c.row_step.result.writes.items ≡ writes_of (ground_of c.args.rom.now c.args.map.now c.args.cells.now) c.args.address c.args.state.now d)
    c.in-Ok.ensures.stands
    (subst (λ (g : GroundView). c.row_step.result.writes.items ≡ writes_of g c.args.address c.args.state.now (Ok c.in-Ok.instr)) c.of-ground.ensures c.row_step.ensures.writes)

pub returns-in-Err : goal.returns-in-Err
returns-in-Err c =
    of_all c.args.rom.now c.args.address (Err c.in-Err.field-0)
    (λ (d : Result Instr DecodeFault). c.new.result.items ≡ writes_of (ground_of c.args.rom.now c.args.map.now c.args.cells.now) c.args.address c.args.state.now d)
    c.in-Err.ensures.fault c.new.ensures.items
