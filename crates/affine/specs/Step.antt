-- What a step leaves of a space (docs/CHECKER.md, "Linear bounds, effects and tightening").
use Rattle.std.specs.Prelude.{◌≡◌, ℕ, ℤ, pos, negsuc, ◌+ℤ◌}
use Rattle.loop_bounds.specs.declared.effect.Change.{Change}
use Rattle.loop_bounds.specs.declared.effect.Change.TheVariants.{Old, Raised, Lowered, Constant, Unknown}
use Rattle.loop_bounds.specs.declared.effect.Effect.{Effect}
use Rattle.loop_bounds.specs.declared.variable.Variable.{Variable}
use Rattle.loop_bounds.specs.Variable.{rank_of}
use Rattle.loop_bounds.specs.Effect.{Valuation, changed, change_of}
use Rattle.affine.specs.declared.space.Space.{Space}
use Rattle.affine.specs.Space.{KnowsAt, coordinate_at, coefficient_at}

-- A step with this effect can lead from the values before to these. The unknown ones are free.
abbrev pub CanLeave : Effect → Valuation → (Variable → ℤ) → Type 0
CanLeave effect before x = (v : Variable) → x v ≡ changed (change_of effect v) before (x v)

-- a variable has the value of another one before, plus a number
pub record IsMoved (old new : Space) (rank source : ℕ) (by : ℤ) : Type 0 where
  pub known : KnowsAt old source
  pub coordinate : coordinate_at new rank ≡ coordinate_at old source +ℤ by
  pub column : (index : ℕ) → coefficient_at new rank index ≡ coefficient_at old source index

-- a variable has a constant value
pub record IsSetTo (new : Space) (rank : ℕ) (value : ℤ) : Type 0 where
  pub coordinate : coordinate_at new rank ≡ value
  pub column : (index : ℕ) → coefficient_at new rank index ≡ pos 0

-- what is known of the variable of a rank is what the change leaves
abbrev pub IsTakenAt : Space → Space → ℕ → Change → Type 0
IsTakenAt old new rank (Old w) = KnowsAt new rank → IsMoved old new rank (rank_of w) (pos 0)
IsTakenAt old new rank (Raised w) = KnowsAt new rank → IsMoved old new rank (rank_of w) (pos 1)
IsTakenAt old new rank (Lowered w) = KnowsAt new rank → IsMoved old new rank (rank_of w) (negsuc 0)
IsTakenAt old new rank (Constant k) = KnowsAt new rank → IsSetTo new rank (pos k)
IsTakenAt old new rank Unknown = ¬ KnowsAt new rank
