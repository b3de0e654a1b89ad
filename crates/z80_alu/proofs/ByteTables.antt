-- Facts about a byte, computed at each of its 256 values.
use Rattle.std.proofs.Common.{◌≡◌, ℕ, ◌+◌, ◌-◌, ◌*◌, ◌/◌, ◌%◌, ◌^◌, ◌<◌, Bool, true, false, not, eqb, bit_and, bit_or, refl, ap, ◌∙◌, arith}
use Rattle.std.specs.Int.{from_bool}
use Rattle.std.proofs.lemmas.Nat.{or_shifted, and_mask}
use Rattle.std.proofs.lemmas.Nat.Bits.{and_high_mask}
use Rattle.std.proofs.lemmas.Bool.{agree_below, agree_below_at, eqb-true}
use Rattle.z80_alu.specs.declared.shift.Shift.TheVariants.{Rlc, Rrc, Rl, Rr, Sla, Sra}
use Rattle.z80_alu.specs.Shift.{shifted}
use Rattle.z80_alu.specs.Bits.{bit_set, bit_reset}

-- two functions agree at each number below n
unfoldable pub agrees : (ℕ → ℕ) → (ℕ → ℕ) → ℕ → Bool
agrees f g n = agree_below (λ k. eqb (f k) (g k)) (λ _. true) n

pub agrees_at : (f g : ℕ → ℕ) (n k : ℕ) → agrees f g n ≡ true → k < n → f k ≡ g k
unfolding agrees
agrees_at f g n k h below = eqb-true (f k) (g k) (agree_below_at (λ j. eqb (f j) (g j)) (λ _. true) n k h below)

-- ---- the shifts, as the code assembles them

pub shifted-Rlc : (v : ℕ) (c : Bool) → v < 256 → bit_or (v * 2 % 256) (from_bool (not (eqb (bit_and v 128) 0))) ≡ shifted Rlc v c
unfolding agrees shifted
shifted-Rlc v c h = agrees_at (λ n. bit_or (n * 2 % 256) (from_bool (not (eqb (bit_and n 128) 0)))) (λ n. shifted Rlc n false) 256 v refl h

pub shifted-Rrc : (v : ℕ) (c : Bool) → v < 256 → bit_or (v / 2) (from_bool (not (eqb (bit_and v 1) 0)) * 128 % 256) ≡ shifted Rrc v c
unfolding agrees shifted
shifted-Rrc v c h = agrees_at (λ n. bit_or (n / 2) (from_bool (not (eqb (bit_and n 1) 0)) * 128 % 256)) (λ n. shifted Rrc n false) 256 v refl h

pub shifted-Rl : (v : ℕ) (c : Bool) → v < 256 → bit_or (v * 2 % 256) (from_bool c) ≡ shifted Rl v c
unfolding agrees shifted
shifted-Rl v true h = agrees_at (λ n. bit_or (n * 2 % 256) 1) (λ n. shifted Rl n true) 256 v refl h
shifted-Rl v false h = agrees_at (λ n. bit_or (n * 2 % 256) 0) (λ n. shifted Rl n false) 256 v refl h

pub shifted-Rr : (v : ℕ) (c : Bool) → v < 256 → bit_or (v / 2) (from_bool c * 128 % 256) ≡ shifted Rr v c
unfolding agrees shifted
shifted-Rr v true h = agrees_at (λ n. bit_or (n / 2) 128) (λ n. shifted Rr n true) 256 v refl h
shifted-Rr v false h = agrees_at (λ n. bit_or (n / 2) 0) (λ n. shifted Rr n false) 256 v refl h

pub shifted-Sla : (v : ℕ) (c : Bool) → v * 2 % 256 ≡ shifted Sla v c
unfolding shifted
shifted-Sla v c = omega arith

pub shifted-Sra : (v : ℕ) (c : Bool) → v < 256 → bit_or (v / 2) (from_bool (not (eqb (bit_and v 128) 0)) * 128 % 256) ≡ shifted Sra v c
unfolding agrees shifted
shifted-Sra v c h = agrees_at (λ n. bit_or (n / 2) (from_bool (not (eqb (bit_and n 128) 0)) * 128 % 256)) (λ n. shifted Sra n false) 256 v refl h

-- ---- a bit set, and a bit reset

set_matches : ℕ → Bool
set_matches k = agrees (λ n. bit_or n (1 * 2 ^ k % 256)) (λ n. bit_set k n) 256

pub bit_or-power : (v k : ℕ) → v < 256 → k < 8 → bit_or v (1 * 2 ^ k % 256) ≡ bit_set k v
unfolding agrees bit_set set_matches
bit_or-power v k h below = agrees_at (λ n. bit_or n (1 * 2 ^ k % 256)) (λ n. bit_set k n) 256 v (agree_below_at set_matches (λ _. true) 8 k refl below) h

reset_matches : ℕ → Bool
reset_matches k = agrees (λ n. bit_and n (255 - 1 * 2 ^ k % 256)) (λ n. bit_reset k n) 256

pub bit_and-other_powers : (v k : ℕ) → v < 256 → k < 8 → bit_and v (255 - 1 * 2 ^ k % 256) ≡ bit_reset k v
unfolding agrees bit_reset reset_matches
bit_and-other_powers v k h below = agrees_at (λ n. bit_and n (255 - 1 * 2 ^ k % 256)) (λ n. bit_reset k n) 256 v (agree_below_at reset_matches (λ _. true) 8 k refl below) h

-- ---- two digits

high_digit : (n : ℕ) → n < 256 → bit_and n 240 ≡ n / 16 * 16
high_digit n h = and_high_mask 8 4 (omega arith) n h

joined : (high low : ℕ) → low < 16 → bit_or (high * 16) low ≡ 16 * high + low
joined high low h = or_shifted high 4 low h ∙ omega arith

pub high_and_high : (a b : ℕ) → a < 256 → b < 256 → bit_or (bit_and a 240) (b / 16) ≡ 16 * (a / 16) + b / 16
high_and_high a b h k = ap (λ n. bit_or n (b / 16)) (high_digit a h) ∙ joined (a / 16) (b / 16) (omega arith)

pub high_and_low : (a b : ℕ) → a < 256 → bit_or (bit_and a 240) (bit_and b 15) ≡ 16 * (a / 16) + b % 16
high_and_low a b h = (λ i. bit_or (high_digit a h i) (and_mask b 4 i)) ∙ joined (a / 16) (b % 16) (omega arith)

up : (n : ℕ) → n * 16 % 256 ≡ n % 16 * 16
up n = omega arith

pub low_and_low : (a b : ℕ) → bit_or (b * 16 % 256) (bit_and a 15) ≡ 16 * (b % 16) + a % 16
low_and_low a b = (λ i. bit_or (up b i) (and_mask a 4 i)) ∙ joined (b % 16) (a % 16) (omega arith)

pub low_and_high : (a b : ℕ) → b < 256 → bit_or (a * 16 % 256) (b / 16) ≡ 16 * (a % 16) + b / 16
low_and_high a b h = ap (λ n. bit_or n (b / 16)) (up a) ∙ joined (a % 16) (b / 16) (omega arith)
