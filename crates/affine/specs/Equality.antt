-- Linear equalities on a space.
use Rattle.std.specs.Prelude.{◌≡◌, ℤ, pos}
use Rattle.loop_bounds.specs.declared.variable.Variable.{Variable}
use Rattle.loop_bounds.specs.Linear.{LinearView, value}
use Rattle.affine.specs.declared.space.Space.{Space}
use Rattle.affine.specs.Space.{LiesOn}

-- the linear is 0 at all values that lie on the space
abbrev pub IsZeroOn : Space → LinearView → Type 0
IsZeroOn s linear = (x : Variable → ℤ) → LiesOn s x → value x linear ≡ pos 0
