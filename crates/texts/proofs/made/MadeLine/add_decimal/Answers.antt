use Rattle.std.proofs.Common.{◌∙◌, ap, length, List, ℕ, arith}
use Rattle.texts.proofs.NumberLemmas.{length_decimal_below}
use Rattle.texts.proofs.made.MadeLine.add_decimal.Goals as goal

pub returns-clause-digits : goal.returns-clause-digits
returns-clause-digits c n some below =
    let text = ap (λ (digits : List ℕ). length digits) (c.as_bytes.ensures.value ∙ c.format.ensures.text) in
    omega (arith, c.add.ensures.grown, text, length_decimal_below n c.args.number some below c.ranges.number.fits)
