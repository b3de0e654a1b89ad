use Rattle.std.proofs.Common.{◌++◌, ◌∷◌, ap, ◌∙◌}
use Rattle.cert_fields.specs.Pair.{known_text, pair_text, ranges_text}
use Rattle.cert_fields.proofs.PairLemmas.{before_at, behind_at, reads_without}
use Rattle.cert_fields.proofs.pair.pair_field.Goals as goal

pub returns-in_err-pair-in-Some : goal.returns-in_err-pair-in-Some
returns-in_err-pair-in-Some c =
    rw c.from_residual.ensures (λ p form is.
    c.in_err-pair-in-Some.ensures.read p form (before_at p _ is _ _ _ c.in-Some.ensures.cut c.in-Some.ensures.parts))

pub returns-in_err-origin-in-Some : goal.returns-in_err-origin-in-Some
returns-in_err-origin-in-Some c =
    rw c.from_residual-in_err-origin-in-Some.ensures (λ p form is.
    let (origin, _, name) = behind_at p _ is _ _ _ c.in-Some.ensures.cut c.in-Some.ensures.parts in
    c.in_err-origin-in-Some.ensures origin tt name)

pub returns-in_ok-origin-in-Some : goal.returns-in_ok-origin-in-Some
unfolding known_text pair_text ranges_text
returns-in_ok-origin-in-Some c =
    let form = c.in_ok-pair-in-Some.ensures.read.0 in (
      record { word = form.word; high = form.high; low = form.low },
      c.in-Some.ensures.cut
          ∙ ap (λ x. x ++ 64 ∷ c.in-Some.name.now) c.in_ok-pair-in-Some.ensures.read.1
          ∙ ap (λ y. known_text c.in_ok-pair-in-Some.pair ++ 64 ∷ y) c.in_ok-origin-in-Some.ensures.1,
    )

pub returns-in-None : goal.returns-in-None
returns-in-None c = reads_without _ _ c.in-None.ensures.parts c.known_field-in-None.ensures.read c.known_field-in-None.ensures.origin
