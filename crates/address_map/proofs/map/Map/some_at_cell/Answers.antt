use Rattle.std.proofs.Common.{arith}
use Rattle.address_map.proofs.RangeLemmas.{at_cell}
use Rattle.address_map.proofs.map.Map.some_at_cell.Goals as goal

pub returns : goal.returns
returns c =
    rw (c.any_cell.ensures, c.from.ensures, c.from-2.ensures, c.zones.ensures)
    (at_cell c.args.self.now c.args.range c.args.index c.is_map.ensures (omega arith) (omega arith))
