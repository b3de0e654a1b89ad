use Rattle.std.proofs.Common.{◌≡◌, codes, refl, rules, sym, ◌∙◌}
use Rattle.std.proofs.lemmas.Bool.{both_ways}
use Rattle.intervals.specs.Pair.{full_pair}
use Rattle.cert_fields.proofs.PairLemmas.{known_star, known_ranges, no_star, same_full, full_is_pair}
use Rattle.cert_fields.proofs.pair.known_field.Goals as goal

pub returns-then-eq-clause-read : goal.returns-then-eq-clause-read
returns-then-eq-clause-read c =
    let star : c.args.field.now ≡ codes "*" = search rules in
    rw c.full.ensures (full_is_pair, star ∙ sym (known_star full_pair refl))

pub returns-in_err-pair-clause-read : goal.returns-in_err-pair-clause-read
returns-in_err-pair-clause-read c =
    let other : c.args.field.now ≡ codes "*" → ⊥ = search rules in
    rw c.from_residual.ensures (λ p form is. c.in_err-pair.ensures.read p form (no_star p _ other is).1)

pub returns-then-is_all-clause-read : goal.returns-then-is_all-clause-read
returns-then-is_all-clause-read c = λ p form is.
    let other : c.args.field.now ≡ codes "*" → ⊥ = search rules in
    let (part, same) = no_star p _ other is in
    both_ways _ part (same_full p c.in_ok-pair.pair (sym same ∙ c.in_ok-pair.ensures.read.1) ∙ sym c.is_all.ensures ∙ c.if-is_all.true)

pub returns-clause-read : goal.returns-clause-read
returns-clause-read c =
    (c.in_ok-pair.ensures.read.0, c.in_ok-pair.ensures.read.1 ∙ sym (known_ranges _ (sym c.is_all.ensures ∙ c.if-is_all.false)))
