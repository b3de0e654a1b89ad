-- Bounds on the logic of bytes, and the two rotations as sums.
use Rattle.std.proofs.Common.{◌≡◌, ℕ, ◌+◌, ◌*◌, ◌/◌, ◌%◌, ◌^◌, ◌<◌, ◌≤◌, max, Bool, true, false, cond, leb, List, [], ◌∷◌, Some, refl, ◌∙◌, ap, arith, bit_or, bit_xor, find, unwrap_or}
use Rattle.std.specs.Int.{w8, rotate_left, rotate_right}
use Rattle.std.proofs.lemmas.Nat.{or_lt, xor_lt, or_shifted, or_comm, le_or_l, le_or_r, pow_below}
use Rattle.std.proofs.lemmas.Bool.Decides.{nat_tests}
use Rattle.intervals.specs.Range.{RangeView, Within}
use Rattle.intervals.specs.Logic.{ones_from, rotation_left, rotation_right, with_bit_set}

-- one less than a power of two
abbrev IsOnes : ℕ → Type 0
IsOnes m = (k : ℕ) × (m + 1 ≡ 2 ^ k)

abbrev AllOnes : List ℕ → Type 0
AllOnes [] = Unit {0}
AllOnes (x ∷ xs) = IsOnes x × AllOnes xs

found_ones : (p : ℕ → Bool) (xs : List ℕ) → AllOnes xs → IsOnes (unwrap_or (find p xs) 255)
found_ones p [] h = (8, refl)
found_ones p (x ∷ xs) h =
    elim (p x) as (λ t. IsOnes (unwrap_or (cond t (Some x) (find p xs)) 255)) [ true ↦ h.0 | false ↦ found_ones p xs h.1 ]

ones_from-is : (n : ℕ) → IsOnes (ones_from n)
ones_from-is n =
    found_ones (λ ones. leb n ones) (0 ∷ 1 ∷ 3 ∷ 7 ∷ 15 ∷ 31 ∷ 63 ∷ 127 ∷ [])
    ((0, refl), ((1, refl), ((2, refl), ((3, refl), ((4, refl), ((5, refl), ((6, refl), ((7, refl), tt))))))))

-- a byte that is at most n is at most `ones_from n`
ones_from-above : (n a : ℕ) → a ≤ n → a ≤ 255 → a ≤ ones_from n
ones_from-above n a h p = grind (arith, nat_tests)

below_ones : (m k x : ℕ) → m + 1 ≡ 2 ^ k → x < 2 ^ k → x ≤ m
below_ones m k x e h = omega arith

or_below : (n a b : ℕ) → a ≤ n → b ≤ n → a ≤ 255 → b ≤ 255 → bit_or a b ≤ ones_from n
or_below n a b p q a_low b_low =
    let ones = ones_from-is n in
    let a_under = ones_from-above n a p a_low in
    let b_under = ones_from-above n b q b_low in
    let first : a < 2 ^ ones.0 = omega (arith, ones.1) in
    let second : b < 2 ^ ones.0 = omega (arith, ones.1) in
    below_ones _ _ _ ones.1 (or_lt ones.0 a b first second)

xor_below : (n a b : ℕ) → a ≤ n → b ≤ n → a ≤ 255 → b ≤ 255 → bit_xor a b ≤ ones_from n
xor_below n a b p q a_low b_low =
    let ones = ones_from-is n in
    let a_under = ones_from-above n a p a_low in
    let b_under = ones_from-above n b q b_low in
    let first : a < 2 ^ ones.0 = omega (arith, ones.1) in
    let second : b < 2 ^ ones.0 = omega (arith, ones.1) in
    below_ones _ _ _ ones.1 (xor_lt ones.0 a b first second)

pub or_within : (a b r : RangeView) → r ≡ record { low = max a.low b.low; high = ones_from (max a.high b.high) } → (x y : ℕ) → x ≤ 255 → y ≤ 255 → Within a x → Within b y → Within r (bit_or x y)
or_within a b r e x y x_low y_low in_a in_b =
    let over_x = le_or_l x y in
    let over_y = le_or_r x y in
    let below = or_below (max a.high b.high) x y (omega arith) (omega arith) x_low y_low in
    rw e (omega arith, below)

pub xor_within : (a b r : RangeView) → r ≡ record { low = 0; high = ones_from (max a.high b.high) } → (x y : ℕ) → x ≤ 255 → y ≤ 255 → Within a x → Within b y → Within r (bit_xor x y)
xor_within a b r e x y x_low y_low in_a in_b =
    let below = xor_below (max a.high b.high) x y (omega arith) (omega arith) x_low y_low in
    rw e (omega arith, below)

pub rotate_left_byte : (n : ℕ) → n < 256 → rotate_left w8 n 1 ≡ rotation_left n
rotate_left_byte n h =
    let doubled : n * 2 % 256 ≡ n % 128 * 2 ^ 1 = omega arith in
    let carried : n / 128 < 2 ^ 1 = omega arith in
    ap (λ m. bit_or m (n / 128)) doubled ∙ or_shifted (n % 128) 1 (n / 128) carried ∙ omega arith

pub rotate_right_byte : (n : ℕ) → n < 256 → rotate_right w8 n 1 ≡ rotation_right n
rotate_right_byte n h =
    let raised : n * 128 % 256 ≡ n % 2 * 2 ^ 7 = omega arith in
    let halved : n / 2 < 2 ^ 7 = omega arith in
    ap (λ m. bit_or (n / 2) m) raised ∙ or_comm (n / 2) (n % 2 * 2 ^ 7) ∙ or_shifted (n % 2) 7 (n / 2) halved ∙ omega arith

pub with_bit_set_below : (b x : ℕ) → x ≤ 255 → with_bit_set b x ≤ 255
with_bit_set_below b x h =
    let mask : 2 ^ (b % 8) < 2 ^ 8 = pow_below (b % 8) 8 (omega arith) in
    omega (arith, or_lt 8 x (2 ^ (b % 8)) (omega arith) mask)
