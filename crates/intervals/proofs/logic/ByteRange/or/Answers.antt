use Rattle.std.proofs.Common.{◌≤◌, arith, rules}
use Rattle.intervals.specs.Range.{RangeView}
use Rattle.intervals.proofs.Bytes.{or_within}
use Rattle.intervals.proofs.logic.ByteRange.or.Goals as goal

pub returns-in_default-clause-contains : goal.returns-in_default-clause-contains
returns-in_default-clause-contains c =
    let r : RangeView = record { low = c.max.result; high = c.ones_from.result } in
    let first : c.args.self.high ≤ 255 = search rules in
    let second : c.args.other.high ≤ 255 = search rules in
    λ x y in_self in_other. or_within c.args.self c.args.other r (search rules) x y (omega arith) (omega arith) in_self in_other
