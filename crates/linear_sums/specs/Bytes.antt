-- The byte form of the variables (docs/CHECKER.md, "Canon").
use Rattle.std.specs.Prelude.{◌≡◌, Option, Some, None, ℤ, pos, ◌+ℤ◌, ◌*ℤ◌}
use Rattle.loop_bounds.specs.Effect.{Valuation, whole}
use Rattle.loop_bounds.specs.declared.variable.Part.TheVariants.{Word, High, Low}
use Rattle.loop_bounds.specs.declared.variable.Variable.{Variable}
use Rattle.loop_bounds.specs.declared.variable.Variable.TheVariants.{A, B, C, D, E, H, L, Bc, De, Hl, Ix, Iy, Slot}
use Rattle.linear_sums.specs.declared.bytes.WordBytes.{WordBytes}

-- the bytes of a word; none for a byte, IX and IY
abbrev pub bytes_of : Variable → Option WordBytes
bytes_of A = None
bytes_of B = None
bytes_of C = None
bytes_of D = None
bytes_of E = None
bytes_of H = None
bytes_of L = None
bytes_of Bc = Some (record { high = B; low = C })
bytes_of De = Some (record { high = D; low = E })
bytes_of Hl = Some (record { high = H; low = L })
bytes_of Ix = None
bytes_of Iy = None
bytes_of (Slot number Word) = Some (record { high = Slot number High; low = Slot number Low })
bytes_of (Slot number High) = None
bytes_of (Slot number Low) = None

-- 256 times the high byte plus the low byte, or the variable itself
abbrev pub value_by_bytes : (Variable → ℤ) → Variable → Option WordBytes → ℤ
value_by_bytes y v None = y v
value_by_bytes y v (Some word) = pos 256 *ℤ y word.high +ℤ y word.low

-- the values of all variables, from those of bytes, IX and IY
abbrev pub byte_form : (Variable → ℤ) → Variable → ℤ
byte_form y v = value_by_bytes y v (bytes_of v)

-- each word has the value of its bytes
abbrev pub AgreesWithBytes : Valuation → Type 0
AgreesWithBytes x = (v : Variable) → whole x v ≡ byte_form (whole x) v

-- the fact holds of both bytes, or of the variable itself
abbrev pub HoldsByBytes : (Variable → Type 0) → Variable → Option WordBytes → Type 0
HoldsByBytes P v None = P v
HoldsByBytes P v (Some word) = P word.high × P word.low

-- the fact holds of the variable's bytes, or of the variable if it has none
abbrev pub EachByte : (Variable → Type 0) → Variable → Type 0
EachByte P v = HoldsByBytes P v (bytes_of v)
