-- Kept cells (docs/CHECKER.md, "What a row knows").
use Rattle.std.specs.Prelude.{ℕ, List, take}
use Rattle.std.specs.List.{AllZip}
use Rattle.intervals.specs.Domain.{Entry}
use Rattle.intervals.specs.Range.{Within, Covers, hull}
use Rattle.abs_state.specs.declared.cell.KeptCell.{KeptCell}

-- the byte lies in the cell's range, whatever the pairs were at the entry
abbrev pub HoldsCell : KeptCell → Entry → ℕ → Type 0
HoldsCell cell entry byte = Within cell.range byte

abbrev pub CoversCell : KeptCell → KeptCell → Type 0
CoversCell a b = Covers a.range b.range

abbrev pub hull_of_cells : KeptCell → KeptCell → KeptCell
hull_of_cells a b = record a { range = hull a.range b.range }

-- each of the first `armed` cells holds a byte of its range
abbrev pub HoldsCells : ℕ → List KeptCell → List ℕ → Type 0
HoldsCells armed cells bytes = AllZip (λ (cell : KeptCell) byte. Within cell.range byte) (take armed cells) (take armed bytes)
