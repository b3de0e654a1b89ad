use Rattle.std.proofs.Common.{arith}
use Rattle.address_map.proofs.RangeLemmas.{in_region}
use Rattle.address_map.proofs.map.Map.some_in_region.Goals as goal

pub returns : goal.returns
returns c =
    rw (c.any_cell.ensures, c.from.ensures, c.from-2.ensures, c.zones.ensures)
    (in_region c.args.self.now c.args.range c.args.region c.is_map.ensures (omega arith) (omega arith))
