use Rattle.std.proofs.Common.{◌++◌, ◌∷◌, arith, ap, ◌∙◌}
use Rattle.texts.specs.Numbers.{hex4}
use Rattle.cert_fields.proofs.CutLemmas.{cut_front, cut_behind, cut_somewhere}
use Rattle.cert_fields.proofs.HexLemmas.{hex4_lacks, dash_is_none}
use Rattle.cert_fields.proofs.RangeLemmas.{reads_range, one_word_range}
use Rattle.cert_fields.proofs.pair.word_range_field.Goals as goal

pub returns-in_err-low : goal.returns-in_err-low
returns-in_err-low c =
    rw c.from_residual.ensures (λ r range is.
    cut_somewhere 45 _ (hex4 r.low) (hex4 r.high) (hex4_lacks 45 r.low dash_is_none) is c.in_err-low.ensures.parts)

pub returns-in_err-hex4_field : goal.returns-in_err-hex4_field
returns-in_err-hex4_field c =
    rw c.from_residual-in_err-hex4_field.ensures (λ r range is.
    c.in_err-hex4_field.ensures r.low (omega (arith, range.order, range.within))
    (cut_front 45 _ (hex4 r.low) (hex4 r.high) (hex4_lacks 45 r.low dash_is_none) is _ _ c.in_ok-low.ensures.parts))

pub returns-in_err-hex4_field-2 : goal.returns-in_err-hex4_field-2
returns-in_err-hex4_field-2 c =
    rw c.from_residual-in_err-hex4_field-2.ensures (λ r range is.
    c.in_err-hex4_field-2.ensures r.high range.within
    (cut_behind 45 _ (hex4 r.low) (hex4 r.high) (hex4_lacks 45 r.low dash_is_none) is _ _ _ c.in_ok-low.ensures.cut c.in_ok-low.ensures.parts))

pub returns : goal.returns
returns c =
    let low = c.in_ok-hex4_field.field-0 in
    let high = c.in_ok-hex4_field-2.field-0 in
    let is = c.in_ok-low.ensures.cut ∙ ap (λ x. x ++ 45 ∷ c.in_ok-low.high.now) c.in_ok-hex4_field.ensures.1 ∙ ap (λ y. hex4 low ++ 45 ∷ y) c.in_ok-hex4_field-2.ensures.1 in
    rw c.new.ensures (reads_range hex4 _ c.args.field.now low high c.in_ok-hex4_field.ensures.0 c.in_ok-hex4_field-2.ensures.0 is (one_word_range c.args.field.now low high is))
