use Rattle.std.proofs.Common.{◌≡◌, drop}
use Rattle.board_step.specs.Memory.{stacked_all}
use Rattle.board_step.proofs.board.Board.stack_all.Given as goal

-- the accesses left, applied to the board so far, give what all accesses make of the first board
abbrev pub invariant-loop-access : goal.invariant-loop-access
invariant-loop-access l = stacked_all l.map (drop l.access-index l.accesses) l.self ≡ stacked_all l.map l.accesses l.fn.self
