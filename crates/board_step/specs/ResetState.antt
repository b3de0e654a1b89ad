-- Helper: the state that the code's reset leaves (docs/BOARD.md, "Reset").
use Rattle.std.specs.Prelude.{false}
use Rattle.board_step.specs.State.{BoardView}
use Rattle.board_step.specs.declared.board.Reset.{Reset}
use Rattle.z80_alu.specs.declared.regs.Regs.{Regs}

-- a reset clears PC, I, R, IFF1 and IFF2 and keeps the other registers
abbrev pub reset_regs : Regs → Regs
reset_regs regs = record regs { pc = 0; i = 0; r = 0; iff1 = false; iff2 = false }

abbrev pub reset_state : Reset → BoardView
reset_state reset = record {
  regs = reset_regs reset.regs;
  work = reset.work;
  video = reset.video;
  object = reset.object;
  phase = reset.phase;
  enable = false;
  line = false;
  latched = false;
  halted = false;
}
