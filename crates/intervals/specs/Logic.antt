-- Logic, shifts and rotates of byte ranges (docs/CHECKER.md, "The window rule and the table of results").
use Rattle.std.specs.Prelude.{ℕ, ◌+◌, ◌-◌, ◌*◌, ◌/◌, ◌%◌, ◌^◌, ◌==◌, ◌&&◌, Bool, min, max, nat_le, if◌then◌else◌, [], ◌∷◌, find, unwrap_or, bit_and, bit_or, bit_xor}
use Rattle.intervals.specs.Range.{RangeView, single, full}

-- the range has one value
abbrev pub is_single : RangeView → Bool
is_single a = a.low == a.high

-- The least of 0, 1, 3, 7 .. 255 that is not below n.
abbrev pub ones_from : ℕ → ℕ
ones_from n = unwrap_or (find (λ ones. nat_le n ones) (0 ∷ 1 ∷ 3 ∷ 7 ∷ 15 ∷ 31 ∷ 63 ∷ 127 ∷ [])) 255

-- AND
abbrev pub conjunction : RangeView → RangeView → RangeView
conjunction a b =
    if is_single a && is_single b then single (bit_and a.low b.low)
    else record { low = 0; high = min a.high b.high }

-- OR
abbrev pub disjunction : RangeView → RangeView → RangeView
disjunction a b =
    if is_single a && is_single b then single (bit_or a.low b.low)
    else record { low = max a.low b.low; high = ones_from (max a.high b.high) }

-- XOR
abbrev pub exclusive_disjunction : RangeView → RangeView → RangeView
exclusive_disjunction a b =
    if is_single a && is_single b then single (bit_xor a.low b.low)
    else record { low = 0; high = ones_from (max a.high b.high) }

-- CPL
abbrev pub complement : RangeView → RangeView
complement a = record { low = 255 - a.high; high = 255 - a.low }

-- SRL
abbrev pub halves : RangeView → RangeView
halves a = record { low = a.low / 2; high = a.high / 2 }

-- SLA: exact up to 127, else full
abbrev pub doubles : RangeView → RangeView
doubles a = if nat_le a.high 127 then record { low = 2 * a.low; high = 2 * a.high } else full 256

-- an operation that is exact on one value, and full otherwise
abbrev pub of_single : (ℕ → ℕ) → RangeView → RangeView
of_single f a = if is_single a then single (f a.low) else full 256

-- RLC: bit 7 moves to bit 0
abbrev pub rotation_left : ℕ → ℕ
rotation_left x = 2 * x % 256 + x / 128

-- RRC: bit 0 moves to bit 7
abbrev pub rotation_right : ℕ → ℕ
rotation_right x = x / 2 + 128 * (x % 2)

-- SET b; b counts modulo 8
abbrev pub with_bit_set : ℕ → ℕ → ℕ
with_bit_set b x = bit_or x (2 ^ (b % 8))

-- RES b; b counts modulo 8
abbrev pub with_bit_reset : ℕ → ℕ → ℕ
with_bit_reset b x = bit_and x (255 - 2 ^ (b % 8))
