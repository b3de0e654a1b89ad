-- What a term's text says of the term.
use Rattle.std.proofs.Common.{◌≡◌, ◌<◌, ◌≤◌, ◌^◌, ℕ, List, [], ◌∷◌, ◌++◌, ℤ, pos, negsuc, unsigned_abs, sym, ap, ◌∙◌, inl, arith}
use Rattle.std.specs.Fmt.{decimal}
use Rattle.loop_bounds.specs.declared.linear.Term.{Term}
use Rattle.cert_fields.specs.Linear.{IsBelow, sign_of, term_text}
use Rattle.cert_fields.specs.VariableNames.{variable_name}
use Rattle.cert_fields.specs.declared.variable.NamedVariable.{NamedVariable}
use Rattle.cert_fields.specs.Terms.{IsTerm, term_of, variable_of}
use Rattle.cert_fields.proofs.CutLemmas.{Lacks}
use Rattle.cert_fields.proofs.DecimalLemmas.{decimal_lacks}

heads : (x y : ℕ) (xs ys : List ℕ) → x ∷ xs ≡ y ∷ ys → x ∷ [] ≡ y ∷ []
heads x y xs ys e = cc

tails : (x y : ℕ) (xs ys : List ℕ) → x ∷ xs ≡ y ∷ ys → xs ≡ ys
tails x y xs ys e = cc

pub sign_first : (sign : ℕ) (body rest : List ℕ) (z : ℤ) → sign ∷ body ≡ sign_of z ++ rest → (sign ∷ [] ≡ sign_of z) × (body ≡ rest)
sign_first sign body rest (pos n) e = (heads _ _ _ _ e, tails _ _ _ _ e)
sign_first sign body rest (negsuc n) e = (heads _ _ _ _ e, tails _ _ _ _ e)

module _ (sign : ℕ) (body : List ℕ) (t : Term) (is : sign ∷ body ≡ term_text t) where
  cut_term : sign ∷ body ≡ sign_of t.coefficient ++ (decimal (unsigned_abs t.coefficient) ++ 42 ∷ variable_name t.variable)
  unfolding term_text
  cut_term = is

  pub sign_is : sign ∷ [] ≡ sign_of t.coefficient
  sign_is = (sign_first sign body _ t.coefficient cut_term).0

  pub body_is : body ≡ decimal (unsigned_abs t.coefficient) ++ 42 ∷ variable_name t.variable
  body_is = (sign_first sign body _ t.coefficient cut_term).1

pub size_lacks_star : (t : Term) → IsTerm t → Lacks 42 (decimal (unsigned_abs t.coefficient))
size_lacks_star t form =
    let high = form.coefficient.1 in
    decimal_lacks 42 (unsigned_abs t.coefficient) (inl (omega arith)) (omega (arith, high))

pub term_from_parts : (sign : ℕ) (body digits name : List ℕ) (t : Term) → sign ∷ [] ≡ sign_of t.coefficient → body ≡ digits ++ 42 ∷ name → digits ≡ decimal (unsigned_abs t.coefficient) → name ≡ variable_name t.variable → sign ∷ body ≡ term_text t
unfolding term_text
term_from_parts sign body digits name t sign_of_it cut size named =
    ap (λ s. s ++ body) sign_of_it
    ∙ ap (λ b. sign_of t.coefficient ++ b) (cut ∙ ap (λ d. d ++ 42 ∷ name) size ∙ ap (λ v. decimal (unsigned_abs t.coefficient) ++ 42 ∷ v) named)

-- a term that was read
pub term_reads : (sign : ℕ) (body digits name : List ℕ) (z : ℤ) (v : NamedVariable) (size : ℕ) → 0 < size → size ≤ 1000000 → IsBelow (2 ^ 64) (variable_of v) → unsigned_abs z ≡ size → sign ∷ [] ≡ sign_of z → body ≡ digits ++ 42 ∷ name → digits ≡ decimal size → name ≡ variable_name (variable_of v) → IsTerm (term_of (z, v)) × (sign ∷ body ≡ term_text (term_of (z, v)))
term_reads sign body digits name z v size positive most below same signed cut sized named = (
  record { coefficient = (omega arith, omega arith); number = below },
  term_from_parts sign body digits name (term_of (z, v)) signed cut (sized ∙ ap decimal (sym same)) named,
)
