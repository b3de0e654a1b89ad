use Rattle.std.proofs.Common.{◌-◌, ◌^◌, vec_len}
use Rattle.texts.specs.Device.{Gives}
use Rattle.command_parts.proofs.reading.read_all.Given as goal

-- no read has failed yet, and the bytes are those that the source has given
abbrev pub invariant-loop-count : goal.invariant-loop-count
invariant-loop-count g l = record {
  given : Gives (g.B.Source.state l.fn.file) l.bytes.items (g.B.Source.state l.file);
}

abbrev pub decreases-loop-count : goal.decreases-loop-count
decreases-loop-count g l = 2 ^ 64 - vec_len l.bytes
