use Rattle.std.proofs.Common.{◌≡◌, unsigned_abs, SFits, w32, rules, arith, sym, ◌∙◌}
use Rattle.std.specs.Fmt.{decimal}
use Rattle.std.proofs.lemmas.Int.{to_z-of_z}
use Rattle.std.proofs.lemmas.Fmt.{decimal_injective}
use Rattle.cert_fields.specs.VariableNames.{variable_name}
use Rattle.cert_fields.proofs.CutLemmas.{cut_front, cut_behind, cut_somewhere}
use Rattle.cert_fields.proofs.TermLemmas.{sign_is, body_is, size_lacks_star, term_reads}
use Rattle.cert_fields.proofs.term.term_field.Goals as goal

pub returns-in_err-digits : goal.returns-in_err-digits
returns-in_err-digits c =
    rw c.from_residual.ensures (λ t form is.
    cut_somewhere 42 _ (decimal (unsigned_abs t.coefficient)) (variable_name t.variable) (size_lacks_star t form) (body_is _ _ t is) c.in_err-digits.ensures.parts)

pub returns-in_err-size : goal.returns-in_err-size
returns-in_err-size c =
    rw c.from_residual-in_err-size.ensures (λ t form is.
    c.in_err-size.ensures (unsigned_abs t.coefficient) (omega (arith, form.coefficient.0), form.coefficient.1)
    (cut_front 42 _ (decimal (unsigned_abs t.coefficient)) (variable_name t.variable) (size_lacks_star t form) (body_is _ _ t is) _ _ c.in_ok-digits.ensures.parts))

pub returns-in_err-coefficient : goal.returns-in_err-coefficient
returns-in_err-coefficient c =
    rw c.from_residual-in_err-coefficient.ensures (λ t form is.
    let front = cut_front 42 _ (decimal (unsigned_abs t.coefficient)) (variable_name t.variable) (size_lacks_star t form) (body_is _ _ t is) _ _ c.in_ok-digits.ensures.parts in
    let high = form.coefficient.1 in
    let within = c.in_ok-size.ensures.0 in
    let size : unsigned_abs t.coefficient ≡ c.in_ok-size.size = decimal_injective _ _ (omega arith) (omega (arith, within.1)) (sym front ∙ c.in_ok-size.ensures.1) in
    c.in_err-coefficient.ensures t.coefficient size (sign_is _ _ t is))

pub returns-in_err-variable : goal.returns-in_err-variable
returns-in_err-variable c =
    rw c.from_residual-in_err-variable.ensures (λ t form is.
    c.in_err-variable.ensures t.variable form.number
    (cut_behind 42 _ (decimal (unsigned_abs t.coefficient)) (variable_name t.variable) (size_lacks_star t form) (body_is _ _ t is) _ _ _ c.in_ok-digits.ensures.cut c.in_ok-digits.ensures.parts))

pub returns : goal.returns
returns c =
    let fits : SFits w32 c.in_ok-coefficient.coefficient = search rules in
    let signed = c.in_ok-coefficient.ensures in
    let within = c.in_ok-size.ensures.0 in
    rw (to_z-of_z w32 c.in_ok-coefficient.coefficient fits)
    (term_reads c.args.sign c.args.body.now c.in_ok-digits.digits.now c.in_ok-digits.name.now c.in_ok-coefficient.coefficient c.in_ok-variable.variable c.in_ok-size.size
    (omega (arith, within.0)) within.1 c.in_ok-variable.ensures.0 signed.0 signed.1 c.in_ok-digits.ensures.cut c.in_ok-size.ensures.1 c.in_ok-variable.ensures.1)
