-- A sum over two boxes is never negative exactly if its two least values together are not.
use Rattle.std.proofs.Common.{◌≡◌, ℤ, pos, ◌+ℤ◌, ◌≤ℤ◌, true, arith, IsTrue}
use Rattle.std.specs.Prelude.{int_le}
use Rattle.std.proofs.lemmas.Int.{ints}
use Rattle.loop_bounds.specs.declared.rewritten.Rewritten.{Rewritten}
use Rattle.loop_bounds.specs.Effect.{Valuation, whole}
use Rattle.loop_bounds.specs.Linear.{LinearView, value}
use Rattle.loop_bounds.specs.Ranges.{Box, LiesIn}
use Rattle.loop_bounds.specs.Rewritten.{value_of_both}

le_true : (z : ℤ) → pos 0 ≤ℤ z → int_le (pos 0) z ≡ true
le_true z h = grind (arith, ints)

le_from_true : (z : ℤ) → int_le (pos 0) z ≡ true → pos 0 ≤ℤ z
le_from_true z h = grind (arith, ints)

abbrev IsBound : Box → LinearView → ℤ → Type 0
IsBound box s least = (x : Valuation) → LiesIn box x → least ≤ℤ value (whole x) s

abbrev IsReached : Box → LinearView → ℤ → Type 0
IsReached box s least = (x : Valuation) × LiesIn box x × (value (whole x) s ≡ least)

abbrev IsNeverNegative : Box → Box → Rewritten → Type 0
IsNeverNegative source target r = (before free : Valuation) → LiesIn source before → LiesIn target free → pos 0 ≤ℤ value_of_both before free r

pub never_negative : (r : Rewritten) (source target : Box) (a b z : ℤ) → z ≡ a +ℤ b → IsBound source r.known a → IsReached source r.known a → IsBound target r.unknown b → IsReached target r.unknown b → (IsTrue (int_le (pos 0) z) → IsNeverNegative source target r) × (IsNeverNegative source target r → IsTrue (int_le (pos 0) z))
never_negative r source target a b z e bound_a reached_a bound_b reached_b = (
  λ t before free p q.
      let low = le_from_true z t in
      let first = bound_a before p in
      let second = bound_b free q in
      omega (arith, ints, e, low, first, second),
  λ all.
      let least = all reached_a.0 reached_b.0 reached_a.1 reached_b.1 in
      le_true z (omega (arith, ints, e, least, reached_a.2, reached_b.2)),
)
