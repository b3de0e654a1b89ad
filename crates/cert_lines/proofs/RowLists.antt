-- The pairs of a row as a list, and properties of each element of two lists.
use Rattle.std.proofs.Common.{List, [], ◌∷◌, ◌++◌}
use Rattle.std.specs.List.{AllByRecursion}
use Rattle.abs_state.specs.declared.pairs.Pairs.{Pairs}
use Rattle.intervals.specs.declared.pair.Pair.{Pair}

abbrev pub pairs_in : Pairs → List Pair
pairs_in p = p.af ∷ p.bc ∷ p.de ∷ p.hl ∷ p.ix ∷ p.iy ∷ p.alternate_af ∷ p.alternate_bc ∷ p.alternate_de ∷ p.alternate_hl ∷ []

pub every_append : {X : Type 0} (P : X → Type 0) (xs ys : List X) → AllByRecursion P xs → AllByRecursion P ys →
    AllByRecursion P (xs ++ ys)
every_append P [] ys first others = others
every_append P (x ∷ xs) ys first others = (first.0, every_append P xs ys first.1 others)
