use Rattle.std.proofs.Common.{◌++◌, ◌∷◌, ap, ◌∙◌}
use Rattle.cert_fields.specs.Pair.{range_text, ranges_text}
use Rattle.texts.specs.Numbers.{hex2, hex4}
use Rattle.cert_fields.proofs.RangeLemmas.{colon_somewhere, word_first, second_colon, high_next, low_last}
use Rattle.cert_fields.proofs.pair.ranges_field.Goals as goal

pub returns-in_err-word-clause-read : goal.returns-in_err-word-clause-read
returns-in_err-word-clause-read c = rw c.from_residual.ensures (λ p form is. colon_somewhere p _ is c.in_err-word.ensures.parts)

pub returns-in_err-high-clause-read : goal.returns-in_err-high-clause-read
returns-in_err-high-clause-read c =
    rw c.from_residual-in_err-high.ensures (λ p form is.
    second_colon p _ is _ _ _ c.in_ok-word.ensures.cut c.in_ok-word.ensures.parts c.in_err-high.ensures.parts)

pub returns-in_err-word_range_field-clause-read : goal.returns-in_err-word_range_field-clause-read
returns-in_err-word_range_field-clause-read c =
    rw c.from_residual-in_err-word_range_field.ensures (λ p form is.
    c.in_err-word_range_field.ensures p.word form.word (word_first p _ is _ _ c.in_ok-word.ensures.parts))

pub returns-in_err-byte_range_field-clause-read : goal.returns-in_err-byte_range_field-clause-read
returns-in_err-byte_range_field-clause-read c =
    rw c.from_residual-in_err-byte_range_field.ensures (λ p form is.
    c.in_err-byte_range_field.ensures p.high form.high
    (high_next p _ is _ _ _ c.in_ok-word.ensures.cut c.in_ok-word.ensures.parts _ _ c.in_ok-high.ensures.parts))

pub returns-in_err-byte_range_field-2-clause-read : goal.returns-in_err-byte_range_field-2-clause-read
returns-in_err-byte_range_field-2-clause-read c =
    rw c.from_residual-in_err-byte_range_field-2.ensures (λ p form is.
    c.in_err-byte_range_field-2.ensures p.low form.low
    (low_last p _ is _ _ _ c.in_ok-word.ensures.cut c.in_ok-word.ensures.parts _ _ _ c.in_ok-high.ensures.cut c.in_ok-high.ensures.parts))

pub returns-clause-read : goal.returns-clause-read
unfolding ranges_text
returns-clause-read c = (
  record { word = c.in_ok-word_range_field.ensures.0; high = c.in_ok-byte_range_field.ensures.0; low = c.in_ok-byte_range_field-2.ensures.0 },
  c.in_ok-word.ensures.cut
      ∙ ap (λ x. x ++ 58 ∷ c.in_ok-word.bytes.now) c.in_ok-word_range_field.ensures.1
      ∙ ap (λ y. range_text hex4 c.in_ok-word_range_field.field-0 ++ 58 ∷ y)
      (c.in_ok-high.ensures.cut
      ∙ ap (λ x. x ++ 58 ∷ c.in_ok-high.low.now) c.in_ok-byte_range_field.ensures.1
      ∙ ap (λ y. range_text hex2 c.in_ok-byte_range_field.field-0 ++ 58 ∷ y) c.in_ok-byte_range_field-2.ensures.1),
)
