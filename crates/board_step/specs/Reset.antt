-- Trusted: the states that a reset may leave (docs/BOARD.md, "Reset").
use Rattle.std.specs.Prelude.{◌≡◌, false}
use Rattle.board_step.specs.State.{BoardView, IsState}

-- A state right after a reset. All that is not given here is any number in range.
pub record IsReset (s : BoardView) : Type 0 where
  pub in_range : IsState s
  pub pc : s.regs.pc ≡ 0
  pub i : s.regs.i ≡ 0
  pub r : s.regs.r ≡ 0
  pub iff1 : s.regs.iff1 ≡ false
  pub iff2 : s.regs.iff2 ≡ false
  pub enable : s.enable ≡ false
  pub line : s.line ≡ false
  pub latched : s.latched ≡ false
  pub halted : s.halted ≡ false
