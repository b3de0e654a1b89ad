-- The spelling of numbers: lengths, and that no two numbers have the same.
use Rattle.std.proofs.Common.{◌≡◌, ◌≤◌, ◌<◌, ◌+◌, ◌^◌, ◌/◌, ◌%◌, ℕ, [], ◌∷◌, length, refl, arith, length-append}
use Rattle.std.specs.Fmt.{decimal}
use Rattle.std.proofs.lemmas.Bool.Decides.{nat_tests}
use Rattle.std.proofs.lemmas.Fmt.{decimal_by_steps_wide, length-decimal-le, length-decimal-le_wide}
use Rattle.texts.specs.Numbers.{IsByte, IsWord, hex_digit, hex2, hex4}

pub length_hex2 : (n : ℕ) → length (hex2 n) ≡ 2
unfolding hex2
length_hex2 n = refl

pub length_hex4 : (n : ℕ) → length (hex4 n) ≡ 4
unfolding hex4
length_hex4 n = refl

-- a word's decimal has at most five digits
pub length_decimal_word : (n : ℕ) → n ≤ 65535 → length (decimal n) ≤ 5
length_decimal_word n small = length-decimal-le 5 n (omega arith) (omega (arith, small)) (omega (arith, small))

pub length_decimal_32 : (n : ℕ) → n < 2 ^ 32 → length (decimal n) ≤ 10
length_decimal_32 n small = length-decimal-le 10 n (omega arith) (omega (arith, small)) (omega (arith, small))

pub length_decimal_128 : (n : ℕ) → n < 2 ^ 128 → length (decimal n) ≤ 39
length_decimal_128 n small = length-decimal-le_wide 39 n (omega arith) (omega (arith, small)) (omega (arith, small))

-- no more digits than the power of ten above it says
pub length_decimal_below : (digits n : ℕ) → 0 < digits → n < 10 ^ digits → n < 2 ^ 128 → length (decimal n) ≤ digits
length_decimal_below digits n some below small = length-decimal-le_wide digits n some below (omega (arith, small))

-- at least one digit
pub decimal_some : (n : ℕ) → n < 2 ^ 128 → 0 < length (decimal n)
decimal_some n small =
    decimal_by_steps_wide (λ m digits. 0 < length digits) (λ m low. omega arith) (λ m digits high some. omega (arith, length-append digits ((48 + m % 10) ∷ []))) n (omega (arith, small))

hex_digit_injective : (m n : ℕ) → m < 16 → n < 16 → hex_digit m ≡ hex_digit n → m ≡ n
hex_digit_injective m n low_m low_n same = grind (arith, nat_tests)

quotient_of_byte : (n : ℕ) → n ≤ 255 → n / 16 < 16
quotient_of_byte n small = omega arith

byte_from_digits : (m n : ℕ) → m / 16 ≡ n / 16 → m % 16 ≡ n % 16 → m ≡ n
byte_from_digits m n a b = omega arith

-- two bytes with the same digits are equal
pub hex2_injective : (m n : ℕ) → IsByte m → IsByte n → hex2 m ≡ hex2 n → m ≡ n
unfolding hex2
hex2_injective m n small_m small_n same =
    let a : hex_digit (m / 16) ≡ hex_digit (n / 16) = cc in
    let b : hex_digit (m % 16) ≡ hex_digit (n % 16) = cc in
    byte_from_digits m n
    (hex_digit_injective _ _ (quotient_of_byte m small_m) (quotient_of_byte n small_n) a)
    (hex_digit_injective _ _ (omega arith) (omega arith) b)

quotient_of_word : (n : ℕ) → n ≤ 65535 → n / 4096 < 16
quotient_of_word n small = omega arith

word_from_digits : (m n : ℕ) → m / 4096 ≡ n / 4096 → m / 256 % 16 ≡ n / 256 % 16 → m / 16 % 16 ≡ n / 16 % 16 → m % 16 ≡ n % 16 → m ≡ n
word_from_digits m n a b c d = omega arith

-- two words with the same digits are equal
pub hex4_injective : (m n : ℕ) → IsWord m → IsWord n → hex4 m ≡ hex4 n → m ≡ n
unfolding hex4
hex4_injective m n small_m small_n same =
    let a : hex_digit (m / 4096) ≡ hex_digit (n / 4096) = cc in
    let b : hex_digit (m / 256 % 16) ≡ hex_digit (n / 256 % 16) = cc in
    let c : hex_digit (m / 16 % 16) ≡ hex_digit (n / 16 % 16) = cc in
    let d : hex_digit (m % 16) ≡ hex_digit (n % 16) = cc in
    word_from_digits m n
    (hex_digit_injective _ _ (quotient_of_word m small_m) (quotient_of_word n small_n) a)
    (hex_digit_injective _ _ (omega arith) (omega arith) b)
    (hex_digit_injective _ _ (omega arith) (omega arith) c)
    (hex_digit_injective _ _ (omega arith) (omega arith) d)
