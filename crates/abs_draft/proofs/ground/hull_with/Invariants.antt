use Rattle.std.proofs.Common.{◌≡◌, drop}
use Rattle.abs_draft.specs.Ground.{least_of, greatest_of}
use Rattle.abs_draft.proofs.ground.hull_with.Given as goal

abbrev pub invariant-loop-byte : goal.invariant-loop-byte
invariant-loop-byte l =
    (least_of l.wide.low (drop l.byte-index l.bytes) ≡ least_of l.fn.range.low l.bytes) × (greatest_of l.wide.high (drop l.byte-index l.bytes) ≡ greatest_of l.fn.range.high l.bytes)
