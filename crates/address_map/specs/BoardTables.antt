-- Helper: the address maps of the boards (docs/BOARD.md, "Addresses"), as tables.
use Rattle.std.specs.Prelude.{ℕ, ◌%◌, if◌then◌else◌, nat_lt}
use Rattle.address_map.specs.Zone.{upper_latch}
use Rattle.address_map.specs.declared.cell.RamKind.TheVariants.{Work, Video, Object}
use Rattle.address_map.specs.declared.map.Class.{Class}
use Rattle.address_map.specs.declared.map.Input.TheVariants as inputs
use Rattle.address_map.specs.declared.map.ReadClass.TheVariants as reads
use Rattle.address_map.specs.declared.map.WriteClass.TheVariants as writes

abbrev pub open_class : Class
open_class = record { read = reads.Open; write = writes.Unmapped }

-- the class of an address on the Galaxian board, for a ROM of this length
abbrev pub galaxian_class : ℕ → ℕ → Class
galaxian_class rom_len address =
    if nat_lt address rom_len then record { read = reads.Rom; write = writes.Rom }
    else if nat_lt address 0x4000 then open_class
    else if nat_lt address 0x4800 then record { read = reads.Ram Work; write = writes.Ram Work }
    else if nat_lt address 0x5000 then open_class
    else if nat_lt address 0x5800 then record { read = reads.Ram Video; write = writes.Ram Video }
    else if nat_lt address 0x6000 then record { read = reads.Ram Object; write = writes.Ram Object }
    else if nat_lt address 0x6800 then record { read = reads.Input inputs.In0; write = writes.Latch (address % 8) }
    else if nat_lt address 0x7000 then record { read = reads.Input inputs.In1; write = writes.Latch (address % 8) }
    else if nat_lt address 0x7800 then record { read = reads.Input inputs.In2; write = upper_latch (address % 8) }
    else if nat_lt address 0x8000 then record { read = reads.Open; write = writes.Pitch }
    else open_class

-- the class of an address on the raised board, for a ROM of this length
abbrev pub raised_class : ℕ → ℕ → Class
raised_class rom_len address =
    if nat_lt address rom_len then record { read = reads.Rom; write = writes.Rom }
    else if nat_lt address 0x4000 then open_class
    else if nat_lt address 0x8000 then open_class
    else if nat_lt address 0x8800 then record { read = reads.Ram Work; write = writes.Ram Work }
    else if nat_lt address 0x9000 then open_class
    else if nat_lt address 0x9800 then record { read = reads.Ram Video; write = writes.Ram Video }
    else if nat_lt address 0xA000 then record { read = reads.Ram Object; write = writes.Ram Object }
    else if nat_lt address 0xA800 then record { read = reads.Input inputs.In0; write = writes.Latch (address % 8) }
    else if nat_lt address 0xB000 then record { read = reads.Input inputs.In1; write = writes.Latch (address % 8) }
    else if nat_lt address 0xB800 then record { read = reads.Input inputs.In2; write = upper_latch (address % 8) }
    else if nat_lt address 0xC000 then record { read = reads.Open; write = writes.Pitch }
    else open_class
