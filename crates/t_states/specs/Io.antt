-- Trusted: the instructions of the I/O group.
use Rattle.std.specs.Prelude.{Bool, true, false}
use Rattle.z80_decode.specs.declared.instr.Instr.{Instr}
use Rattle.z80_decode.specs.declared.instr.Instr.TheVariants.{InputImmediate, InputRegister, OutputImmediate, OutputRegister, BlockInput, BlockOutput}

-- the instruction reads or writes a port (UM0080, "Input and Output Group")
abbrev pub is_io : Instr → Bool
is_io (InputImmediate n) = true
is_io (InputRegister r) = true
is_io (OutputImmediate n) = true
is_io (OutputRegister r) = true
is_io (BlockInput kind) = true
is_io (BlockOutput kind) = true
is_io _ = false
