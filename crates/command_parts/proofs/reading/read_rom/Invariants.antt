use Rattle.std.proofs.Common.{◌≤◌, ◌-◌, vec_len}
use Rattle.texts.specs.Device.{Gives}
use Rattle.command_parts.specs.Reading.{ROM_READ_LEN}
use Rattle.command_parts.proofs.reading.read_rom.Given as goal

-- no read has failed yet, and the bytes are those that the source has given
abbrev pub invariant-loop-chunk : goal.invariant-loop-chunk
invariant-loop-chunk g l = record {
  given : Gives (g.R.Source.state l.fn.rom) l.bytes.items (g.R.Source.state l.rom);
  within : vec_len l.bytes ≤ ROM_READ_LEN;
}

abbrev pub decreases-loop-chunk : goal.decreases-loop-chunk
decreases-loop-chunk g l = ROM_READ_LEN - vec_len l.bytes
