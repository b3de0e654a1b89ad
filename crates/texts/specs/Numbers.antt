-- The spelling of numbers in texts, and what a reader of a field answers.
use Rattle.std.specs.Prelude.{ℕ, ◌+◌, ◌/◌, ◌%◌, ◌<◌, ◌≤◌, ◌≡◌, ◌≢◌, nat_lt, if◌then◌else◌, Bool, true, false, List, [], ◌∷◌, length, slice_index, codes, Option, Some, None}

-- what a reader answers for a text: a value in range with this text, or None if no value in range has it
abbrev pub Reads : {X T : Type 0} → (X → T) → (X → Type 0) → T → Option X → Type 0
Reads text InRange seen (Some x) = InRange x × (seen ≡ text x)
Reads {X} text InRange seen None = (x : X) → InRange x → seen ≢ text x

-- every value is in range
abbrev pub Always : {X : Type 0} → X → Type 0
Always x = Unit {0}

-- an 8-bit number
abbrev pub IsByte : ℕ → Type 0
IsByte n = n ≤ 255

-- a 16-bit number
abbrev pub IsWord : ℕ → Type 0
IsWord n = n ≤ 65535

-- the field is not empty, has no sign, and no leading zero
pub record BeginsDecimal (field : List ℕ) : Type 0 where
  pub some : 0 < length field
  pub no_sign : slice_index field 0 ≢ 43
  pub no_leading_zero : slice_index field 0 ≡ 48 → length field ≡ 1

-- an upper-case hexadecimal digit
abbrev pub hex_digit : ℕ → ℕ
hex_digit n = if nat_lt n 10 then 48 + n else 55 + n

-- a byte as two hexadecimal digits
unfoldable pub hex2 : ℕ → List ℕ
hex2 n = hex_digit (n / 16) ∷ hex_digit (n % 16) ∷ []

-- a word as four hexadecimal digits
unfoldable pub hex4 : ℕ → List ℕ
hex4 n = hex_digit (n / 4096) ∷ hex_digit (n / 256 % 16) ∷ hex_digit (n / 16 % 16) ∷ hex_digit (n % 16) ∷ []

-- a flag as one digit
abbrev pub flag_digit : Bool → List ℕ
flag_digit false = codes "0"
flag_digit true = codes "1"
