use Rattle.std.proofs.Common.{◌↔◌, IsTrue, sym, subst}
use Rattle.abs_state.specs.Variables.{range_of}
use Rattle.linear_sums.specs.Canon.{IsMultipleIn}
use Rattle.linear_sums.specs.Sum.{plus_multiple}
use Rattle.loop_bounds.specs.Linear.{LinearView}
use Rattle.std.specs.Prelude.{pos}
use Rattle.check_claims.specs.Zeros.{no_sum}
use Rattle.check_claims.proofs.Canons.{canon_alone, multiple_of_same}
use Rattle.check_claims.proofs.zeros.is_multiple.Goals as goal

pub returns : goal.returns
returns c =
    let box = range_of c.args.before.now in
    let sum = c.args.sum.now in
    let given = c.args.linear.now in
    let alone : LinearView = plus_multiple no_sum (pos 1) given in
    let told : IsTrue c.is_multiple_of.result ↔ IsMultipleIn box sum alone = subst (λ (s : LinearView). IsTrue c.is_multiple_of.result ↔ IsMultipleIn box sum s) c.sum_of.ensures.exact c.is_multiple_of.ensures.exact in (
      λ t. multiple_of_same box sum alone given (λ at. canon_alone box given at) (told.0 t),
      λ h. told.1 (multiple_of_same box sum given alone (λ at. sym (canon_alone box given at)) h),
    )
