use Rattle.std.proofs.Common.{SFits, w32, rules, SomeIff, refl, subst}
use Rattle.std.proofs.lemmas.Int.{to_z-of_z}
use Rattle.loop_bounds.specs.Linear.{IsLinear, extended}
use Rattle.loop_bounds.specs.declared.linear.Term.{Term}
use Rattle.cert_fields.specs.Terms.{term_of}
use Rattle.cert_fields.proofs.KeptLemmas.{with_term_keeps}
use Rattle.cert_fields.proofs.linear.with_term.Goals as goal

pub returns : goal.returns
returns c = λ slots done keeps form.
    let fits : SFits w32 c.args.coefficient = search rules in
    let linear = c.in_ok-linear.linear in
    let there = rw c.in_ok-linear.was at keeps in
    let Given : Term → Type 0 = λ t. SomeIff c.with_term.result (IsLinear (extended linear t)) (extended linear t) in
    let given = subst (λ v. Given (record { coefficient = c.args.coefficient; variable = v })) c.in_ok-variable.ensures.0
    (subst (λ z. Given (record { coefficient = z; variable = c.in_ok-variable.variable })) (to_z-of_z w32 c.args.coefficient fits) c.with_term.ensures) in
    with_term_keeps slots done linear (term_of (c.args.coefficient, c.args.variable)) _ there.0 there.1 (c.if-not-is_below.ensures.0 refl) given form
