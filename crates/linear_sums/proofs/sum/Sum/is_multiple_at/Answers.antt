use Rattle.std.proofs.Common.{◌≡◌, ◌≢◌, ◌∙◌, sym, subst, rules, IsTrue, pos, ℤ, FitsSigned}
use Rattle.std.specs.Int.{w128}
use Rattle.std.proofs.lemmas.Int.{to_z-of_z}
use Rattle.linear_sums.specs.Canon.{canon, AreProportional}
use Rattle.linear_sums.proofs.MultipleLemmas.{multiple_from, other_there, proportional_from}
use Rattle.linear_sums.proofs.sum.Sum.is_multiple_at.Goals as goal

pub returns-then-is_equal : goal.returns-then-is_equal
returns-then-is_equal g c =
    let box = g.R.Ranges.range_of c.args.ranges.now in
    let f1 : FitsSigned w128 c.canon-there.result = search rules in
    let test = simp to_z-of_z at c.is_equal.ensures in
    let equal : IsTrue c.is_equal.result = search rules in
    let none : canon c.args.other.now box c.args.at.now ≡ pos 0 = sym c.canon-there.ensures.value ∙ test.0 equal in
    (λ f. absurd (search rules), λ h. absurd (other_there box c.args.self.now c.args.other.now c.args.at.now c.requires h none))

pub returns : goal.returns
returns g c =
    let box = g.R.Ranges.range_of c.args.ranges.now in
    let f1 : FitsSigned w128 c.canon-there.result = search rules in
    let f2 : FitsSigned w128 c.canon-here.result = search rules in
    let test = simp to_z-of_z at c.is_equal.ensures in
    let there : canon c.args.other.now box c.args.at.now ≢ pos 0 = λ e. let equal = test.1 (c.canon-there.ensures.value ∙ e) in search rules in
    let proportional = simp to_z-of_z at c.are_proportional.ensures in
    let k = c.canon-there.result in
    let j = c.canon-here.result in
    let to : AreProportional box k c.args.self.now j c.args.other.now → AreProportional box (canon c.args.other.now box c.args.at.now) c.args.self.now (canon c.args.self.now box c.args.at.now) c.args.other.now =
    λ h. subst (λ (z : ℤ). AreProportional box z c.args.self.now (canon c.args.self.now box c.args.at.now) c.args.other.now) c.canon-there.ensures.value (subst (λ (z : ℤ). AreProportional box k c.args.self.now z c.args.other.now) c.canon-here.ensures.value h) in
    let back : AreProportional box (canon c.args.other.now box c.args.at.now) c.args.self.now (canon c.args.self.now box c.args.at.now) c.args.other.now → AreProportional box k c.args.self.now j c.args.other.now =
    λ h. subst (λ (z : ℤ). AreProportional box z c.args.self.now j c.args.other.now) (sym c.canon-there.ensures.value) (subst (λ (z : ℤ). AreProportional box (canon c.args.other.now box c.args.at.now) c.args.self.now z c.args.other.now) (sym c.canon-here.ensures.value) h) in (
      λ t. multiple_from box c.args.self.now c.args.other.now c.args.at.now c.requires there (to (proportional.0 t)),
      λ h. proportional.1 (back (proportional_from box c.args.self.now c.args.other.now c.args.at.now c.requires h)),
    )
