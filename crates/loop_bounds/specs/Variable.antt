-- The variables of linears and their order (docs/CHECKER.md, "Linear bounds, effects and tightening").
use Rattle.std.specs.Prelude.{ℕ, ◌+◌, ◌*◌}
use Rattle.loop_bounds.specs.declared.variable.Variable.{Variable}
use Rattle.loop_bounds.specs.declared.variable.Variable.TheVariants.{A, B, C, D, E, H, L, Bc, De, Hl, Ix, Iy, Slot}
use Rattle.loop_bounds.specs.declared.variable.Part.{Part}
use Rattle.loop_bounds.specs.declared.variable.Part.TheVariants.{Word, High, Low}

-- the rank of a part within its slot, from 0
abbrev pub part_rank : Part → ℕ
part_rank Word = 0
part_rank High = 1
part_rank Low = 2

-- The rank in the order A B C D E H L BC DE HL IX IY s0 s0h s0l s1 s1h .. s63l, from 0.
abbrev pub rank_of : Variable → ℕ
rank_of A = 0
rank_of B = 1
rank_of C = 2
rank_of D = 3
rank_of E = 4
rank_of H = 5
rank_of L = 6
rank_of Bc = 7
rank_of De = 8
rank_of Hl = 9
rank_of Ix = 10
rank_of Iy = 11
rank_of (Slot number part) = 12 + 3 * number + part_rank part
