-- The most bytes of linears.
use Rattle.std.proofs.Common.{◌≡◌, ◌≤◌, ◌*◌, ℕ, List, [], ◌∷◌, length, Option, Some, None, ℤ, pos, negsuc, unsigned_abs, refl, arith, length-append}
use Rattle.std.proofs.lemmas.List.Elements.{recursion_from_All}
use Rattle.std.specs.Fmt.{decimal, signed_decimal}
use Rattle.std.specs.List.{AllByRecursion, flat_map}
use Rattle.loop_bounds.specs.Linear.{LinearView}
use Rattle.loop_bounds.specs.declared.linear.Term.{Term}
use Rattle.loop_bounds.specs.declared.variable.Part.{Part}
use Rattle.loop_bounds.specs.declared.variable.Part.TheVariants as parts
use Rattle.loop_bounds.specs.declared.variable.Variable.{Variable}
use Rattle.loop_bounds.specs.declared.variable.Variable.TheVariants as variables
use Rattle.cert_fields.specs.Linear.{IsBelow, IsCoefficient, IsShort, IsSum, IsPotential, IsShortPotential, sign_of, term_text, linear_text, potential_text}
use Rattle.cert_fields.specs.VariableNames.{part_letter, variable_name}
use Rattle.cert_fields.proofs.LengthLemmas.{two_digits, seven_digits, constant_digits}
use Rattle.cert_fields.proofs.LinearLemmas.{body_of}

length_part : (p : Part) → length (part_letter p) ≤ 1
length_part parts.Word = omega arith
length_part parts.High = omega arith
length_part parts.Low = omega arith

length_variable : (v : Variable) → IsBelow 64 v → length (variable_name v) ≤ 4
length_variable (variables.Slot number part) low = omega (arith, length-append (decimal number) (part_letter part), two_digits number low, length_part part)
length_variable variables.A low = omega arith
length_variable variables.B low = omega arith
length_variable variables.C low = omega arith
length_variable variables.D low = omega arith
length_variable variables.E low = omega arith
length_variable variables.H low = omega arith
length_variable variables.L low = omega arith
length_variable variables.Bc low = omega arith
length_variable variables.De low = omega arith
length_variable variables.Hl low = omega arith
length_variable variables.Ix low = omega arith
length_variable variables.Iy low = omega arith

length_sign : (z : ℤ) → length (sign_of z) ≡ 1
length_sign (pos n) = refl
length_sign (negsuc n) = refl

-- a term is at most `-1000000*s63h`
pub length_term : (t : Term) → IsCoefficient t.coefficient → IsBelow 64 t.variable → length (term_text t) ≤ 13
unfolding term_text
length_term t sized low =
    omega (
      arith,
      length-append (sign_of t.coefficient) (body_of t),
      length_sign t.coefficient,
      length-append (decimal (unsigned_abs t.coefficient)) (42 ∷ variable_name t.variable),
      seven_digits (unsigned_abs t.coefficient) sized.1,
      length_variable t.variable low,
    )

abbrev IsShortTerm : Term → Type 0
IsShortTerm t = length (term_text t) ≤ 13

length_terms : (ts : List Term) → AllByRecursion IsShortTerm ts → length (flat_map term_text ts) ≤ 13 * length ts
length_terms [] short = omega arith
length_terms (t ∷ ts) short = omega (arith, length-append (term_text t) (flat_map term_text ts), short.0, length_terms ts short.1)

pub length_linear : (slots : ℕ) (s : LinearView) → IsSum slots s → IsShort s → length (linear_text s) ≤ 50
unfolding linear_text
length_linear slots s form short =
    let count = short.count in
    let terms = length_terms s.terms (recursion_from_All IsShortTerm s.terms (λ k d l. length_term _ (form.coefficients k d l) (short.numbers k d l))) in
    omega (arith, length-append (signed_decimal s.constant) (flat_map term_text s.terms), constant_digits s.constant form.constant, terms, count)

pub length_potential : (slots : ℕ) (p : Option LinearView) → IsPotential slots p → IsShortPotential p → length (potential_text p) ≤ 50
length_potential slots None form short = omega arith
length_potential slots (Some s) form short = length_linear slots s form short
