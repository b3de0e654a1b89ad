-- One mask within another.
use Rattle.std.proofs.Common.{◌≡◌, ℕ, ◌<◌, ◌^◌, bit_and, sym, ap, ◌∙◌, arith}
use Rattle.std.specs.Int.{bit_at, bit_not, w64}
use Rattle.std.proofs.lemmas.Nat.Bits.{bit_at_and, bit_at_not, bit_at-zero, bit_at-lt}

pub bit_within : (m n r : ℕ) → n < 2 ^ 64 → r < 48 → bit_and m (bit_not w64 n) ≡ 0 → bit_at m r ≡ 1 → bit_at n r ≡ 1
bit_within m n r fits low none one =
    let both = sym (bit_at_and m (bit_not w64 n) r) ∙ ap (λ k. bit_at k r) none ∙ bit_at-zero r in
    let other = bit_at_not w64 n r fits (omega arith) in
    let small = bit_at-lt n r in
    omega (arith, both, other, small, one)
