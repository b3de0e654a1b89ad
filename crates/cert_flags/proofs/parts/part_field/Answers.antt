use Rattle.std.proofs.Common.{◌≡◌, ◌∷◌, rules}
use Rattle.cert_flags.proofs.PartLemmas.{no_letter, no_linear, no_part, part_read}
use Rattle.cert_flags.proofs.parts.part_field.Goals as goal

pub returns-in_err-first : goal.returns-in_err-first
returns-in_err-first c = rw c.from_residual.ensures (λ p form is. no_part c.args.field.now p c.in_err-first.ensures.cases is)

pub returns-in_err-letter : goal.returns-in_err-letter
returns-in_err-letter c =
    let cut : c.args.field.now ≡ c.in_ok-first.first.now ∷ c.in_ok-first.behind.now = search rules in
    rw c.from_residual-in_err-letter.ensures (λ p form is. no_letter _ _ _ cut c.in_err-letter.ensures p is)

pub returns-in_err-read : goal.returns-in_err-read
returns-in_err-read c =
    let cut : c.args.field.now ≡ c.in_ok-first.first.now ∷ c.in_ok-first.behind.now = search rules in
    rw c.from_residual-in_err-read.ensures (λ p form is. no_linear _ _ _ cut c.args.slots c.in_err-read.ensures p form is)

pub returns-in-Fits : goal.returns-in-Fits
returns-in-Fits c =
    let cut : c.args.field.now ≡ c.in_ok-first.first.now ∷ c.in_ok-first.behind.now = search rules in
    let (form, short, is) = rw c.in-Fits.is at c.in_ok-read.ensures in
    (form, short, part_read _ _ _ cut _ c.in_ok-letter.ensures.1 is)

pub returns-in-TooMany : goal.returns-in-TooMany
returns-in-TooMany c =
    let cut : c.args.field.now ≡ c.in_ok-first.first.now ∷ c.in_ok-first.behind.now = search rules in
    let (s, form, long, is) = rw c.in-TooMany.is at c.in_ok-read.ensures in
    (record { letter = c.in_ok-letter.letter; linear = s }, form, long, part_read _ _ _ cut _ c.in_ok-letter.ensures.1 is)
