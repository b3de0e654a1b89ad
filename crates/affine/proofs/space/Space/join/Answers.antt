use Rattle.std.proofs.Common.{◌<◌, count_ones, arith, inl, inr}
use Rattle.std.proofs.Math.Nat.{eq-zero-or-pos}
use Rattle.std.proofs.lemmas.Nat.{zero_from_ones}
use Rattle.affine.proofs.space.Space.join.Goals as goal

pub returns-else-knowledge-clause-grows : goal.returns-else-knowledge-clause-grows
returns-else-knowledge-clause-grows c =
    let known = c.args.self.now.known in
    let some : 0 < count_ones known =
    elim (eq-zero-or-pos (count_ones known)) [
      | inl none ↦ let zero = zero_from_ones known none in absurd (omega arith)
      | inr above ↦ above
    ] in
    omega (arith, c.full.ensures.least)
