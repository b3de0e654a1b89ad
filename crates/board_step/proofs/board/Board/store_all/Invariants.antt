use Rattle.std.proofs.Common.{◌≡◌, drop}
use Rattle.board_step.specs.Memory.{stored_all}
use Rattle.board_step.proofs.board.Board.store_all.Given as goal

-- the writes left, applied to the board so far, give what all writes make of the first board
abbrev pub invariant-loop-write : goal.invariant-loop-write
invariant-loop-write l = stored_all l.map (drop l.write-index l.writes) l.self ≡ stored_all l.map l.writes l.fn.self
