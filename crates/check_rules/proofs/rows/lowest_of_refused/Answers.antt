use Rattle.std.proofs.Common.{◌≡◌, true, false, refl, arith}
use Rattle.check_rules.proofs.Steps.{at_once, behind_writes, too_deep}
use Rattle.check_rules.proofs.rows.lowest_of_refused.Goals as goal
use Rattle.check_rules.proofs.rows.lowest_of_refused.Goals.{else-number-gt11-via-then-number-gt11+else-not-row_fits_depth, else-number-gt11-via-else-number-gt11}

never : false ≡ true → ⊥
never e = cc

pub returns-then-number-lt6 : goal.returns-then-number-lt6
returns-then-number-lt6 c =
    at_once c.args.subject.now c.args.refusal c.requires.step (omega (arith, c.number-number.ensures.value, c.if-number-lt6.true))

pub returns-then-not-row_fits_depth : goal.returns-then-not-row_fits_depth
returns-then-not-row_fits_depth c =
    too_deep c.args.subject.now c.args.refusal c.requires.step (omega (arith, c.number-number.ensures.value, c.if-number-gt11.true)) c.in_default.ensures
    (λ fits. never (c.if-not-row_fits_depth.ensures.1 fits))

pub returns : goal.returns
returns c =
    behind_writes c.args.subject.now c.args.refusal c.requires.step (omega (arith, c.number-number.ensures.value, c.if-number-lt6.false)) c.in_default.ensures
    (λ high. elim c.else-number-gt11.branch [
      | else-number-gt11-via-then-number-gt11+else-not-row_fits_depth w ↦ w.if-not-row_fits_depth.ensures.0 refl
      | else-number-gt11-via-else-number-gt11 w ↦ absurd (omega (arith, high, c.number-number.ensures.value, w.if-number-gt11.false))
    ])
