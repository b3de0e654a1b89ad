-- Helper: the decoder's step for a window of four bytes. These definitions and those of the pages follow the code; what
-- `decode` promises depends on `spelling` only.
use Rattle.std.specs.Prelude.{ℕ, ◌+◌, ◌*◌, ◌%◌, List, Option, None, if◌then◌else◌, ◌==◌, slice_index_or}
use Rattle.z80_decode.specs.declared.operands.Index.{Index}
use Rattle.z80_decode.specs.declared.operands.Index.TheVariants as indexes
use Rattle.z80_decode.specs.declared.operands.Memory.TheVariants as memories
use Rattle.z80_decode.specs.declared.operands.Place.TheVariants as places
use Rattle.z80_decode.specs.declared.instr.Instr.{Instr}
use Rattle.z80_decode.specs.Codes.{place_coded}
use Rattle.z80_decode.specs.UnprefixedPage.{unprefixed}
use Rattle.z80_decode.specs.CbPage.{behind_cb}
use Rattle.z80_decode.specs.EdPage.{behind_ed}
use Rattle.z80_decode.specs.IndexPage.{behind_index}

-- the low byte of a word comes first
abbrev pub word_from : ℕ → ℕ → ℕ
word_from low high = low + 256 * high

-- after DD or FD: an opcode, or CB, d and an opcode whose operand is memory
abbrev pub indexed : Index → ℕ → ℕ → ℕ → Option Instr
indexed index second third fourth =
    if second == 0xCB then (if fourth % 8 == 6 then behind_cb fourth (places.Memory (memories.At index third)) else None) else
    behind_index index second third fourth (word_from third fourth)

abbrev pub decoded : ℕ → ℕ → ℕ → ℕ → Option Instr
decoded first second third fourth =
    if first == 0xCB then behind_cb second (place_coded (second % 8)) else (
    if first == 0xDD then indexed indexes.Ix second third fourth else (
    if first == 0xED then behind_ed second (word_from third fourth) else (
    if first == 0xFD then indexed indexes.Iy second third fourth else
    unprefixed first second (word_from second third))))

-- The byte at a place. Past the end it is 46h, which completes each proper beginning of a spelling.
abbrev pub byte_at : List ℕ → ℕ → ℕ
byte_at bytes place = slice_index_or bytes place 0x46

abbrev pub first_instr : List ℕ → Option Instr
first_instr bytes = decoded (byte_at bytes 0) (byte_at bytes 1) (byte_at bytes 2) (byte_at bytes 3)
