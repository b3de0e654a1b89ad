-- What an NMI routine does not restore (docs/CHECKER.md, "The table of reasons", SavedRegister).
use Rattle.std.specs.Prelude.{ℕ, ◌≡◌, ◌<◌, Some}
use Rattle.abs_state.specs.Pairs.{pair_of}
use Rattle.abs_state.specs.declared.state.AbsState.{AbsState}
use Rattle.intervals.specs.RegPair.{place_of_pair}
use Rattle.intervals.specs.declared.reg_pair.RegPair.{RegPair}

-- the pair is what it was at the activation's entry
abbrev pub IsRestored : AbsState → RegPair → Type 0
IsRestored s pair = (pair_of pair s.pairs).origin ≡ Some pair

-- the first pair that is not restored
pub record IsFirstLost (s : AbsState) (pair : RegPair) : Type 0 where
  pub lost : IsRestored s pair → ⊥
  pub before : (other : RegPair) → place_of_pair other < place_of_pair pair → IsRestored s other
