-- No two values in form have the same text.
use Rattle.std.proofs.Common.{◌≡◌, ◌<◌, ◌^◌, ℕ, suc, List, [], ◌∷◌, ◌++◌, length, codes, Option, Some, None, ℤ, pos, negsuc, refl, sym, ap, ◌∙◌, arith, length-append}
use Rattle.std.proofs.lemmas.Fmt.{decimal_nonempty}
use Rattle.std.proofs.lemmas.List.{append-nil}
use Rattle.std.specs.Fmt.{decimal, signed_decimal}
use Rattle.std.specs.List.{flat_map}
use Rattle.loop_bounds.specs.Linear.{LinearView}
use Rattle.loop_bounds.specs.declared.linear.Term.{Term}
use Rattle.cert_fields.specs.Linear.{IsSum, IsPotential, term_text, linear_text, potential_text}
use Rattle.cert_fields.proofs.ConstantLemmas.{no_minus}
use Rattle.cert_fields.specs.Terms.{IsConstant}
use Rattle.cert_fields.proofs.LinearLemmas.{linear_cut, some_text}

pub linear_text_injective : (slots : ℕ) → slots < 2 ^ 64 → (s t : LinearView) → IsSum slots s → IsSum slots t → linear_text s ≡ linear_text t → s ≡ t
linear_text_injective slots small s t form too e =
    let (more, constant, terms, left) = linear_cut slots t s [] small too form tt (e ∙ sym (append-nil (linear_text t))) in
    let same : s.terms ≡ t.terms = terms ∙ ap (λ ts. t.terms ++ ts) (no_more more left) ∙ append-nil t.terms in
    ap (λ z. let x : LinearView = record { constant = z; terms = s.terms } in x) constant
    ∙ ap (λ ts. let x : LinearView = record { constant = t.constant; terms = ts } in x) same
  where
    no_more : (more : List Term) → [] ≡ flat_map term_text more → more ≡ []
    no_more [] e = refl
    no_more (u ∷ more) e = absurd (some_text u (flat_map term_text more) (sym e))

-- a dash is no linear
dash_constant : (z : ℤ) (terms : List ℕ) → IsConstant z → signed_decimal z ++ terms ≡ codes "-" → ⊥
dash_constant (pos n) terms small e = no_minus n terms [] (omega (arith, small)) e
dash_constant (negsuc n) terms small e =
    omega (arith, ap length e, length-append (decimal (suc n)) terms, decimal_nonempty (suc n) (omega (arith, small)))

pub dash_is_no_linear : (slots : ℕ) (s : LinearView) → IsSum slots s → linear_text s ≡ codes "-" → ⊥
unfolding linear_text
dash_is_no_linear slots s form e = dash_constant s.constant (flat_map term_text s.terms) form.constant e

pub potential_text_injective : (slots : ℕ) → slots < 2 ^ 64 → (p q : Option LinearView) → IsPotential slots p → IsPotential slots q → potential_text p ≡ potential_text q → p ≡ q
potential_text_injective slots small None None form too e = refl
potential_text_injective slots small None (Some t) form too e = absurd (dash_is_no_linear slots t too (sym e))
potential_text_injective slots small (Some s) None form too e = absurd (dash_is_no_linear slots s form e)
potential_text_injective slots small (Some s) (Some t) form too e = ap (λ x. Some x) (linear_text_injective slots small s t form too e)
