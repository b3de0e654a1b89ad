use Rattle.std.proofs.Common.{List, ◌+◌, take, subst, sym}
use Rattle.abs_state.specs.declared.cell.KeptCell.{KeptCell}
use Rattle.annotations.proofs.CellLemmas.{say_each-more}
use Rattle.annotations.specs.Said.{SayEach}
use Rattle.toml.specs.View.{items_view}
use Rattle.annotations.proofs.lists.cells_written.Goals as goal

pub loop-item-preserved : goal.loop-item-preserved
loop-item-preserved c =
    subst (λ (cells : List KeptCell). SayEach (items_view (take (c.loop-item.item-index + 1) c.args.items.now)) cells)
    (sym c.in_ok-keep.ensures)
    (say_each-more c.args.items.now c.loop-item.item-index c.item-item.result c.loop-item.cells.items c.in_ok-cell.field-0 c.loop-item-test.true c.item-item.is c.loop-item.invariant c.in_ok-cell.ensures)
