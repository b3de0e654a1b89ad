-- The bytes of linears: none is a space, a comma or a lower byte.
use Rattle.std.proofs.Common.{◌≡◌, ◌≤◌, ◌<◌, ◌==◌, ◌^◌, ◌&&◌, ℕ, suc, true, false, not, List, [], ◌∷◌, ◌++◌, codes, ℤ, pos, negsuc, unsigned_abs, refl, arith, leb, leb-true}
use Rattle.std.proofs.lemmas.Bool.{and_parts, not-true}
use Rattle.std.proofs.lemmas.Bool.Decides.{nat_tests}
use Rattle.std.proofs.lemmas.Fmt.{decimal_is_IsNumeral}
use Rattle.std.proofs.lemmas.Str.Parse.{digit_from_value}
use Rattle.std.specs.Fmt.{decimal, signed_decimal}
use Rattle.std.specs.List.{AllByRecursion, flat_map, list_all}
use Rattle.std.specs.Str.Parse.{AllDigits}
use Rattle.loop_bounds.specs.Linear.{LinearView}
use Rattle.loop_bounds.specs.declared.linear.Term.{Term}
use Rattle.loop_bounds.specs.declared.variable.Part.{Part}
use Rattle.loop_bounds.specs.declared.variable.Part.TheVariants as parts
use Rattle.loop_bounds.specs.declared.variable.Variable.{Variable}
use Rattle.loop_bounds.specs.declared.variable.Variable.TheVariants.{A, B, C, D, E, H, L, Bc, De, Hl, Ix, Iy, Slot}
use Rattle.texts.proofs.PlainLemmas.{IsPlain}
use Rattle.cert_fields.specs.Linear.{IsBelow, IsSum, sign_of, term_text, linear_text}
use Rattle.cert_fields.specs.VariableNames.{part_letter, variable_name}
use Rattle.cert_fields.specs.Terms.{IsTerm, IsConstant}
use Rattle.cert_fields.proofs.CutLemmas.{Lacks}
use Rattle.cert_fields.proofs.LinearLemmas.{AreTerms, body_of, sum_terms}

-- above the space, and no comma
abbrev pub IsPartByte : ℕ → Type 0
IsPartByte b = (33 ≤ b) × ((b == 44) ≡ false)

abbrev pub IsPart : List ℕ → Type 0
IsPart text = AllByRecursion IsPartByte text

pub part_is_plain : (text : List ℕ) → IsPart text → IsPlain text
part_is_plain [] part = tt
part_is_plain (b ∷ text) part = (part.0.0, part_is_plain text part.1)

pub part_lacks : (text : List ℕ) → IsPart text → Lacks 44 text
part_lacks [] part = tt
part_lacks (b ∷ text) part = (part.0.1, part_lacks text part.1)

pub part_test : (text : List ℕ) → list_all (λ b. leb 33 b && not (b == 44)) text ≡ true → IsPart text
part_test [] test = tt
part_test (b ∷ text) test =
    let (here, others) = and_parts _ _ test in
    let (low, other) = and_parts _ _ here in
    ((leb-true 33 b low, not-true _ other), part_test text others)

pub part_append : (a b : List ℕ) → IsPart a → IsPart b → IsPart (a ++ b)
part_append [] b h k = k
part_append (x ∷ a) b h k = (h.0, part_append a b h.1 k)

pub no_comma : (b : ℕ) → 48 ≤ b → (b == 44) ≡ false
no_comma b low = grind (arith, nat_tests)

part_digits : (digits : List ℕ) → AllDigits 10 digits → IsPart digits
part_digits [] all = tt
part_digits (b ∷ digits) all =
    let digit = digit_from_value b all.0 in
    ((omega (arith, digit), no_comma b (omega (arith, digit))), part_digits digits all.1)

pub part_decimal : (n : ℕ) → n < 2 ^ 64 → IsPart (decimal n)
part_decimal n small = part_digits (decimal n) (decimal_is_IsNumeral n small).0.1

part_letter_part : (p : Part) → IsPart (part_letter p)
part_letter_part parts.Word = tt
part_letter_part parts.High = part_test (codes "h") refl
part_letter_part parts.Low = part_test (codes "l") refl

pub part_variable : (v : Variable) → IsBelow (2 ^ 64) v → IsPart (variable_name v)
part_variable A small = part_test (codes "A") refl
part_variable B small = part_test (codes "B") refl
part_variable C small = part_test (codes "C") refl
part_variable D small = part_test (codes "D") refl
part_variable E small = part_test (codes "E") refl
part_variable H small = part_test (codes "H") refl
part_variable L small = part_test (codes "L") refl
part_variable Bc small = part_test (codes "BC") refl
part_variable De small = part_test (codes "DE") refl
part_variable Hl small = part_test (codes "HL") refl
part_variable Ix small = part_test (codes "IX") refl
part_variable Iy small = part_test (codes "IY") refl
part_variable (Slot number part) small =
    part_append (codes "s") (decimal number ++ part_letter part) (part_test (codes "s") refl) (part_append (decimal number) (part_letter part) (part_decimal number small) (part_letter_part part))

part_sign : (z : ℤ) → IsPart (sign_of z)
part_sign (pos n) = part_test (codes "+") refl
part_sign (negsuc n) = part_test (codes "-") refl

pub part_term : (t : Term) → IsTerm t → IsPart (term_text t)
unfolding term_text
part_term t form =
    let high = form.coefficient.1 in
    part_append (sign_of t.coefficient) (body_of t) (part_sign t.coefficient)
    (part_append (decimal (unsigned_abs t.coefficient)) (codes "*" ++ variable_name t.variable) (part_decimal _ (omega arith))
    (part_append (codes "*") (variable_name t.variable) (part_test (codes "*") refl) (part_variable t.variable form.number)))

part_terms : (ts : List Term) → AreTerms ts → IsPart (flat_map term_text ts)
part_terms [] form = tt
part_terms (t ∷ ts) form = part_append (term_text t) (flat_map term_text ts) (part_term t form.0) (part_terms ts form.1)

part_constant : (z : ℤ) → IsConstant z → IsPart (signed_decimal z)
part_constant (pos n) small = part_decimal n (omega (arith, small))
part_constant (negsuc n) small = part_append (codes "-") (decimal (suc n)) (part_test (codes "-") refl) (part_decimal (suc n) (omega (arith, small)))

pub part_linear : (slots : ℕ) (s : LinearView) → slots < 2 ^ 64 → IsSum slots s → IsPart (linear_text s)
unfolding linear_text
part_linear slots s small form = part_append (signed_decimal s.constant) (flat_map term_text s.terms) (part_constant s.constant form.constant) (part_terms s.terms (sum_terms slots s small form))
