use Rattle.std.proofs.Common.{◌≡◌, refl, subst, Ok, Err}
use Rattle.std.specs.Prelude.{Result}
use Rattle.z80_decode.specs.declared.instr.Instr.{Instr}
use Rattle.z80_decode.specs.declared.fault.DecodeFault.{DecodeFault}
use Rattle.abs_draft.specs.Ground.{GroundView, ground_of}
use Rattle.abs_step.specs.Successors.{answer_of}
use Rattle.abs_step.specs.declared.reason.Reason.TheVariants.{Decode}
use Rattle.abs_step.proofs.Answered.{KeepsIf, WritesIf, both_ok, if_ok, if_err, of_all}
use Rattle.abs_step.proofs.Keeps.{keeps, writes_as_known}
use Rattle.abs_step.proofs.stepping.successors.Goals as goal

pub returns-in-Ok-clause-ok : goal.returns-in-Ok-clause-ok
returns-in-Ok-clause-ok c =
    if_ok c.row_step.result.answer _ _ c.row_step.ensures.ok
    (λ nexts e. of_all c.args.rom.now c.args.address (Ok c.in-Ok.instr)
    (λ (d : Result Instr DecodeFault). answer_of (ground_of c.args.rom.now c.args.map.now c.args.cells.now) c.args.address c.args.main c.args.inline c.args.state.now d ≡ Ok nexts.items)
    c.in-Ok.ensures.stands
    (subst (λ (g : GroundView). answer_of g c.args.address c.args.main c.args.inline c.args.state.now (Ok c.in-Ok.instr) ≡ Ok nexts.items) c.of-ground.ensures e))

pub returns-in-Ok-clause-err : goal.returns-in-Ok-clause-err
returns-in-Ok-clause-err c =
    if_err c.row_step.result.answer _ _ c.row_step.ensures.err
    (λ reason e. of_all c.args.rom.now c.args.address (Ok c.in-Ok.instr)
    (λ (d : Result Instr DecodeFault). answer_of (ground_of c.args.rom.now c.args.map.now c.args.cells.now) c.args.address c.args.main c.args.inline c.args.state.now d ≡ Err reason)
    c.in-Ok.ensures.stands
    (subst (λ (g : GroundView). answer_of g c.args.address c.args.main c.args.inline c.args.state.now (Ok c.in-Ok.instr) ≡ Err reason) c.of-ground.ensures e))

pub returns-in-Err-clause-err : goal.returns-in-Err-clause-err
returns-in-Err-clause-err c =
    of_all c.args.rom.now c.args.address (Err c.in-Err.fault)
    (λ (d : Result Instr DecodeFault). answer_of (ground_of c.args.rom.now c.args.map.now c.args.cells.now) c.args.address c.args.main c.args.inline c.args.state.now d ≡ Err (Decode c.in-Err.fault))
    c.in-Err.ensures.fault refl

pub returns-in-Ok-clause-keeps : goal.returns-in-Ok-clause-keeps
returns-in-Ok-clause-keeps c =
    both_ok c.row_step.result.answer _ _ _ c.row_step.ensures.fits c.row_step.ensures.ok
    (λ nexts fits e instr stands. of_all c.args.rom.now c.args.address (Ok c.in-Ok.instr)
    (λ (d : Result Instr DecodeFault). KeepsIf (ground_of c.args.rom.now c.args.map.now c.args.cells.now) c.args.address c.args.main c.args.state.now nexts.items d)
    c.in-Ok.ensures.stands
    (keeps (ground_of c.args.rom.now c.args.map.now c.args.cells.now) c.args.address c.args.main c.args.inline c.args.state.now c.in-Ok.instr nexts.items fits c.in-Ok.ensures.stands
    (subst (λ (g : GroundView). answer_of g c.args.address c.args.main c.args.inline c.args.state.now (Ok c.in-Ok.instr) ≡ Ok nexts.items) c.of-ground.ensures e))
    (Ok instr) stands)

pub returns-in-Ok-clause-writes : goal.returns-in-Ok-clause-writes
returns-in-Ok-clause-writes c =
    if_ok c.row_step.result.answer _ _ c.row_step.ensures.ok
    (λ nexts e instr stands. of_all c.args.rom.now c.args.address (Ok c.in-Ok.instr)
    (λ (d : Result Instr DecodeFault). WritesIf (ground_of c.args.rom.now c.args.map.now c.args.cells.now) c.args.address c.args.state.now d)
    c.in-Ok.ensures.stands
    (writes_as_known (ground_of c.args.rom.now c.args.map.now c.args.cells.now) c.args.address c.args.main c.args.inline c.args.state.now c.in-Ok.instr nexts.items c.in-Ok.ensures.stands
    (subst (λ (g : GroundView). answer_of g c.args.address c.args.main c.args.inline c.args.state.now (Ok c.in-Ok.instr) ≡ Ok nexts.items) c.of-ground.ensures e))
    (Ok instr) stands)
