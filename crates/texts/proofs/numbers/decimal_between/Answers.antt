use Rattle.std.proofs.Common.{arith}
use Rattle.texts.proofs.FieldLemmas.{out_of_bounds}
use Rattle.texts.proofs.numbers.decimal_between.Goals as goal
use Rattle.texts.proofs.numbers.decimal_between.Goals.{else-least-number-via-then-least-number+else-number-most, else-least-number-via-else-least-number}

pub returns-else-least-number : goal.returns-else-least-number
returns-else-least-number c =
    out_of_bounds c.args.field.now c.args.least c.args.most c.in_ok-number.number c.in_ok-number.ensures.0 c.ranges.most.fits c.in_ok-number.ensures.1
    (λ within. elim c.else-least-number.branch [
      | else-least-number-via-then-least-number+else-number-most w ↦ omega (arith, within.1, w.if-number-most.false)
      | else-least-number-via-else-least-number w ↦ omega (arith, within.0, w.if-least-number.false)
    ])
