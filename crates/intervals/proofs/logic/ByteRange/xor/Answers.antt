use Rattle.std.proofs.Common.{◌≤◌, arith, rules}
use Rattle.intervals.specs.Range.{RangeView}
use Rattle.intervals.proofs.Bytes.{xor_within}
use Rattle.intervals.proofs.logic.ByteRange.xor.Goals as goal

pub returns-in_default-clause-contains : goal.returns-in_default-clause-contains
returns-in_default-clause-contains c =
    let r : RangeView = c.at_most.result in
    let first : c.args.self.high ≤ 255 = search rules in
    let second : c.args.other.high ≤ 255 = search rules in
    λ x y in_self in_other. xor_within c.args.self c.args.other r (search rules) x y (omega arith) (omega arith) in_self in_other
