use Rattle.std.proofs.Common.{◌↔◌, ◌∙◌, IsTrue, ap, not, sym, subst}
use Rattle.std.specs.Prelude.{pos}
use Rattle.abs_state.specs.Variables.{range_of}
use Rattle.linear_sums.specs.Canon.{IsZeroIn}
use Rattle.linear_sums.specs.Sum.{plus_multiple, sign}
use Rattle.loop_bounds.specs.Linear.{LinearView}
use Rattle.check_claims.specs.Zeros.{less, no_sum}
use Rattle.check_claims.proofs.Canons.{canon_beside, zero_of_same}
use Rattle.check_claims.proofs.telling.tells_after.Goals as goal

pub returns : goal.returns
returns c =
    let box = range_of c.args.after.now in
    let linear = c.args.linear.now in
    let negated = c.args.negated in
    let told = c.args.told.now in
    let beside : LinearView = less (plus_multiple no_sum (pos 1) linear) negated told in
    let is = c.less.ensures ∙ ap (λ (s : LinearView). less s negated told) c.sum_of.ensures.exact in
    let test : IsTrue c.is_zero.result ↔ IsZeroIn box beside = subst (λ (s : LinearView). IsTrue c.is_zero.result ↔ IsZeroIn box s) is c.is_zero.ensures.exact in (
      λ t. zero_of_same box beside (less linear negated told) (λ at. canon_beside box linear (sign (not negated)) told at) (test.0 t),
      λ h. test.1 (zero_of_same box (less linear negated told) beside (λ at. sym (canon_beside box linear (sign (not negated)) told at)) h),
    )
