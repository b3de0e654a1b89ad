use Rattle.std.proofs.Common.{refl, arith}
use Rattle.board_step.proofs.board.Board.reset.Goals as goal

pub returns-clause-reset : goal.returns-clause-reset
returns-clause-reset c = rw c.of.ensures (record {
  in_range = record {
    regs = record {
      main = c.regs_are_in_range.ensures.main;
      alternate = c.regs_are_in_range.ensures.alternate;
      ix = c.regs_are_in_range.ensures.ix;
      iy = c.regs_are_in_range.ensures.iy;
      sp = c.regs_are_in_range.ensures.sp;
      pc = omega arith;
      i = omega arith;
      r = omega arith;
    };
    work = record { size = cc; each = c.bytes_are_in_range.ensures };
    video = record { size = cc; each = c.bytes_are_in_range-2.ensures };
    object = record { size = cc; each = c.bytes_are_in_range-3.ensures };
    phase = c.requires;
  };
  pc = refl;
  i = refl;
  r = refl;
  iff1 = refl;
  iff2 = refl;
  enable = refl;
  line = refl;
  latched = refl;
  halted = refl;
})
