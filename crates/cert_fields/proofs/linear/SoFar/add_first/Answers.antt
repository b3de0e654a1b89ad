use Rattle.std.proofs.Common.{◌≡◌, ◌∷◌, SFits, w32, rules, sym, subst, ◌∙◌}
use Rattle.std.proofs.lemmas.Int.{to_z-of_z}
use Rattle.loop_bounds.specs.Linear.{extended}
use Rattle.cert_fields.specs.Linear.{IsSum}
use Rattle.cert_fields.specs.Terms.{term_of}
use Rattle.cert_fields.proofs.LinearLemmas.{term_first, term_injective, term_some, last_is_term}
use Rattle.cert_fields.proofs.linear.SoFar.add_first.Goals as goal

pub returns-in_err-sign : goal.returns-in_err-sign
returns-in_err-sign c = λ done keeps. rw c.from_residual.ensures (λ t behind sign is form. term_some t _ behind is c.in_err-sign.ensures.cases)

pub returns-in_default : goal.returns-in_default
returns-in_default c = λ done keeps t behind sign is form.
    let cut : c.args.text.now ≡ c.in_ok-sign.sign.now ∷ c.in_ok-sign.behind.now = search rules in
    let term = last_is_term _ done t c.ranges.slots.fits form in
    c.in_default.ensures t term (term_first t behind _ _ _ _ _ term sign is cut c.split_at_sign.ensures)

pub returns-else-add : goal.returns-else-add
returns-else-add c = λ done keeps t behind sign is form.
    let cut : c.args.text.now ≡ c.in_ok-sign.sign.now ∷ c.in_ok-sign.behind.now = search rules in
    let term = last_is_term _ done t c.ranges.slots.fits form in
    let read = term_first t behind _ _ _ _ _ term sign is cut c.split_at_sign.ensures in
    let fits : SFits w32 c.in-Some.coefficient = search rules in
    let same = term_injective t _ term c.in-Some.ensures.0 (sym read ∙ c.in-Some.ensures.1) in
    let other = subst (λ z. IsSum c.args.slots (extended done (term_of (z, c.in-Some.variable))) → ⊥) (to_z-of_z w32 c.in-Some.coefficient fits) (c.if-add.ensures done keeps) in
    other (subst (λ u. IsSum c.args.slots (extended done u)) same form)
