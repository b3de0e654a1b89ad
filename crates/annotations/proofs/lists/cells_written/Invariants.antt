use Rattle.std.proofs.Common.{take}
use Rattle.annotations.specs.Said.{SayEach}
use Rattle.toml.specs.View.{items_view}
use Rattle.annotations.proofs.lists.cells_written.Given as goal

-- the tables so far give the cells so far
abbrev pub invariant-loop-item : goal.invariant-loop-item
invariant-loop-item l = SayEach (items_view (take l.item-index l.items)) l.cells.items
