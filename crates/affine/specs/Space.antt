-- Affine spaces, and the values of the variables that lie on them.
use Rattle.std.specs.Prelude.{◌≡◌, ◌≢◌, ℕ, zero, suc, ◌+◌, ◌-◌, ◌*◌, ◌<◌, [], ℤ, pos, ◌+ℤ◌, ◌-ℤ◌, ◌*ℤ◌, slice_index_or, count_ones}
use Rattle.std.specs.Int.{bit_at}
use Rattle.loop_bounds.specs.declared.variable.Variable.{Variable}
use Rattle.loop_bounds.specs.Variable.{rank_of}
use Rattle.affine.specs.declared.space.Space.{Space}

-- the sum of the first `count` products of a factor and a coefficient
abbrev pub combination : ℕ → (ℕ → ℤ) → (ℕ → ℤ) → ℤ
combination zero factors coefficients = pos 0
combination (suc n) factors coefficients = combination n factors coefficients +ℤ factors n *ℤ coefficients n

-- something is known of the variable of a rank
abbrev pub KnowsAt : Space → ℕ → Type 0
KnowsAt s rank = (rank < 48) × (bit_at s.known rank ≡ 1)

-- the point's value for the variable of a rank
abbrev pub coordinate_at : Space → ℕ → ℤ
coordinate_at s rank = slice_index_or s.point rank (pos 0)

-- the coefficient of a direction at the variable of a rank
abbrev pub coefficient_at : Space → ℕ → ℕ → ℤ
coefficient_at s rank index = slice_index_or (slice_index_or s.columns rank []) index (pos 0)

-- Some multiple of the vector, other than by 0, is a sum of whole multiples of the directions, at the known variables.
pub record IsSpanned (s : Space) (vector : Variable → ℤ) : Type 0 where
  pub scale : ℤ
  pub not_zero : scale ≢ pos 0
  pub factors : ℕ → ℤ
  pub sums : (v : Variable) → KnowsAt s (rank_of v) → scale *ℤ vector v ≡ combination s.count factors (coefficient_at s (rank_of v))

-- The values lie on the space: their distance from the point is spanned by the directions.
abbrev pub LiesOn : Space → (Variable → ℤ) → Type 0
LiesOn s x = IsSpanned s (λ v. x v -ℤ coordinate_at s (rank_of v))

-- the variable has the same value in all values that lie on the space
abbrev pub HasValue : Space → Variable → ℤ → Type 0
HasValue s v k = (x : Variable → ℤ) → LiesOn s x → x v ≡ k

-- the variable has two values
abbrev pub HasTwoValues : Space → Variable → Type 0
HasTwoValues s v = (x y : Variable → ℤ) × LiesOn s x × LiesOn s y × (x v ≢ y v)

-- two spaces say the same of the variable of a rank
pub record IsSameAt (old new : Space) (rank : ℕ) : Type 0 where
  pub known : bit_at new.known rank ≡ bit_at old.known rank
  pub coordinate : coordinate_at new rank ≡ coordinate_at old rank
  pub column : (index : ℕ) → coefficient_at new rank index ≡ coefficient_at old rank index

-- all coefficients of a direction are 0, and nothing else changed
pub record IsEmptied (old new : Space) (index : ℕ) : Type 0 where
  pub known : new.known ≡ old.known
  pub point : new.point ≡ old.point
  pub count : new.count ≡ old.count
  pub emptied : (rank : ℕ) → rank < 48 → coefficient_at new rank index ≡ pos 0
  pub others : (rank i : ℕ) → i ≢ index → coefficient_at new rank i ≡ coefficient_at old rank i

-- nothing changed but that some variables were forgotten
pub record Forgets (old new : Space) : Type 0 where
  pub count : new.count ≡ old.count
  pub rest : (rank : ℕ) → KnowsAt new rank → IsSameAt old new rank

-- a measure of what a space says: nine for each known variable, and one for each direction that is missing
abbrev pub knowledge_of : Space → ℕ
knowledge_of s = 9 * count_ones s.known + (8 - s.count)
