use Rattle.std.proofs.Common.{rules}
use Rattle.annotations.proofs.CellLemmas.{rising_from}
use Rattle.toml.specs.View.{items_view}
use Rattle.annotations.proofs.lists.cells.Goals as goal

pub returns : goal.returns
returns c = record {
  items = items_view c.in_ok-items.field-0.now;
  written = c.in_ok-cells.cells.items;
  array = c.in_ok-items.ensures;
  each = c.in_ok-cells.ensures;
  same = c.sort_unstable_by_key.ensures.permutation;
  rising = rising_from c.deref.result.now c.sort_unstable_by_key.new.self.items c.is_sorted_by.result c.is_sorted_by.ensures.cases (λ a r q k. search rules) c.deref.ensures.value c.in_ok-each_once.ensures;
}
