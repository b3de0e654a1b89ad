-- The bytes of kept cells on a board.
use Rattle.std.specs.Prelude.{ℕ, List, map, slice_index}
use Rattle.address_map.specs.Class.{cell_index}
use Rattle.address_map.specs.declared.cell.RamKind.TheVariants.{Work}
use Rattle.board_step.specs.State.{BoardView}
use Rattle.abs_state.specs.declared.cell.KeptCell.{KeptCell}

-- The byte of each cell, in the order of the cells. The cell of an address of work RAM is the address modulo 400h.
abbrev pub bytes_of_cells : List KeptCell → BoardView → List ℕ
bytes_of_cells cells s = map (λ (cell : KeptCell). slice_index s.work (cell_index Work cell.at)) cells
