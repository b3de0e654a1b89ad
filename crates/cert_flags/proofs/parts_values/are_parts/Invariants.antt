use Rattle.std.proofs.Common.{All, take}
use Rattle.cert_flags.specs.Parts.{IsFlagPart, IsShortPart}
use Rattle.cert_flags.proofs.parts_values.are_parts.Given as goal

abbrev pub invariant-loop-part : goal.invariant-loop-part
invariant-loop-part l = All (IsFlagPart 64) (take l.part-index l.part-items) × All IsShortPart (take l.part-index l.part-items)
