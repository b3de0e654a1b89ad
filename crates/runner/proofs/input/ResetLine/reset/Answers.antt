use Rattle.std.proofs.Common.{ap, replicate}
use Rattle.board_step.specs.declared.board.Reset.{Reset}
use Rattle.z80_alu.specs.declared.regs.Regs.{Regs}
use Rattle.runner.proofs.input.ResetLine.reset.Goals as goal

pub returns : goal.returns
returns c =
    let with_regs : Regs → Reset = λ regs. record { work = replicate 1024 c.args.self.fill; video = replicate 1024 c.args.self.fill; object = replicate 256 c.args.self.fill; regs = regs; phase = c.args.self.phase } in
    ap with_regs c.filled_regs.ensures
