use Rattle.std.proofs.Common.{◌≡◌, ◌+ℤ◌, rules, arith, FitsSigned, to_z, of_z}
use Rattle.std.specs.Int.{w128}
use Rattle.std.proofs.lemmas.Int.{to_z-of_z}
use Rattle.loop_bounds.proofs.FormLemmas.{abs_sum}
use Rattle.loop_bounds.proofs.Signed.{fits_128, sum_kept}
use Rattle.loop_bounds.proofs.NeverNegative.{never_negative}
use Rattle.loop_bounds.proofs.rewritten.Rewritten.is_never_negative.Goals as goal

pub least-requires : goal.least-requires
least-requires g c = record { small = c.requires.constant; light = c.requires.known }

pub least-requires-2 : goal.least-requires-2
least-requires-2 g c = record { small = c.requires.unknown_constant; light = c.requires.unknown }

pub returns : goal.returns
returns g c =
    let first : FitsSigned w128 c.least.result = search rules in
    let second : FitsSigned w128 c.least-2.result = search rules in
    let a = c.least.result in
    let b = c.least-2.result in
    let size = abs_sum a b in
    let sum : to_z w128 (of_z w128 (to_z w128 (of_z w128 a) +ℤ to_z w128 (of_z w128 b))) ≡ a +ℤ b =
    sum_kept (of_z w128 a) a b (to_z-of_z w128 a first) second (fits_128 (a +ℤ b) (omega (arith, c.least.ensures.size, c.least-2.ensures.size))) in
    never_negative c.args.self.now _ _ a b _ sum c.least.ensures.bound c.least.ensures.reached c.least-2.ensures.bound c.least-2.ensures.reached
