-- The lengths of a row's fields.
use Rattle.std.proofs.Common.{◌<◌, ◌≤◌, ℕ, suc, length, unsigned_abs, ℤ, pos, negsuc, arith}
use Rattle.std.specs.Fmt.{decimal, signed_decimal}
use Rattle.std.proofs.lemmas.Fmt.{length-decimal-le}

pub two_digits : (n : ℕ) → n < 64 → length (decimal n) ≤ 2
two_digits n small = length-decimal-le 2 n (omega arith) (omega (arith, small)) (omega (arith, small))

pub seven_digits : (n : ℕ) → n ≤ 1000000 → length (decimal n) ≤ 7
seven_digits n small = length-decimal-le 7 n (omega arith) (omega (arith, small)) (omega (arith, small))

pub constant_digits : (z : ℤ) → unsigned_abs z ≤ 1000000000 → length (signed_decimal z) ≤ 11
constant_digits (pos n) small = omega (arith, length-decimal-le 10 n (omega arith) (omega (arith, small)) (omega (arith, small)))
constant_digits (negsuc n) small = omega (arith, length-decimal-le 10 (suc n) (omega arith) (omega (arith, small)) (omega (arith, small)))
