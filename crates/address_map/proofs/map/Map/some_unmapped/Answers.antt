use Rattle.std.proofs.Common.{arith}
use Rattle.address_map.proofs.RangeLemmas.{some_unmapped as law}
use Rattle.address_map.proofs.map.Map.some_unmapped.Goals as goal

pub returns : goal.returns
returns c =
    rw (c.any_unmapped.ensures, c.zones.ensures) (law c.args.self.now c.args.range c.is_map.ensures (omega arith))
