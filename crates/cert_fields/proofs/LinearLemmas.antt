-- A linear's text determines its constant and its terms, one after another.
use Rattle.std.proofs.Common.{◌≡◌, ◌⊎◌, ◌<◌, ◌≤◌, ◌^◌, ℕ, true, not, List, [], ◌∷◌, ◌++◌, length, codes, Bor, Some, None, ℤ, pos, negsuc, unsigned_abs, refl, sym, ap, subst, ◌∙◌, inl, inr, arith, append_assoc, length-append}
use Rattle.std.proofs.lemmas.Bool.{and_parts, not-true}
use Rattle.std.proofs.lemmas.Fmt.{decimal_injective}
use Rattle.std.proofs.lemmas.List.{append-nil}
use Rattle.std.proofs.lemmas.List.Elements.{recursion_from_All}
use Rattle.std.proofs.lemmas.List.Concat.{flat_map-append}
use Rattle.std.specs.Fmt.{decimal, signed_decimal}
use Rattle.std.specs.List.{AllByRecursion, flat_map, list_all}
use Rattle.loop_bounds.specs.Linear.{LinearView, extended}
use Rattle.loop_bounds.specs.declared.linear.Term.{Term}
use Rattle.loop_bounds.specs.declared.variable.Part.{Part}
use Rattle.loop_bounds.specs.declared.variable.Part.TheVariants as parts
use Rattle.loop_bounds.specs.declared.variable.Variable.{Variable}
use Rattle.loop_bounds.specs.declared.variable.Variable.TheVariants.{A, B, C, D, E, H, L, Bc, De, Hl, Ix, Iy, Slot}
use Rattle.cert_fields.specs.Linear.{IsBelow, IsCoefficient, IsSum, sign_of, term_text, linear_text}
use Rattle.cert_fields.specs.VariableNames.{part_letter, variable_name}
use Rattle.cert_fields.specs.declared.linear.SoFar.{SoFar}
use Rattle.cert_fields.specs.Terms.{IsTerm, is_sign, HasNoSign, BeginsWithSign, IsCutAtSign, IsKept, ReadsTerm, ReadsConstant}
use Rattle.cert_fields.proofs.ConstantLemmas.{cons_head, cons_tail, constant_cut}
use Rattle.cert_fields.proofs.CutLemmas.{same_front, same_behind}
use Rattle.cert_fields.proofs.DecimalLemmas.{decimal_no_sign}
use Rattle.cert_fields.proofs.KeptLemmas.{at_last, sum_in_front}
use Rattle.cert_fields.proofs.NameLemmas.{variable_name_injective}
use Rattle.cert_fields.proofs.SignLemmas.{sign_cut}
use Rattle.cert_fields.proofs.TermLemmas.{size_lacks_star, sign_first}

no_sign_test : (text : List ℕ) → list_all (λ b. not (is_sign b)) text ≡ true → HasNoSign text
no_sign_test [] test = tt
no_sign_test (b ∷ text) test =
    let parts = and_parts _ _ test in
    (not-true _ parts.0, no_sign_test text parts.1)

no_sign_append : (a b : List ℕ) → HasNoSign a → HasNoSign b → HasNoSign (a ++ b)
no_sign_append [] b h k = k
no_sign_append (x ∷ a) b h k = (h.0, no_sign_append a b h.1 k)

part_no_sign : (p : Part) → HasNoSign (part_letter p)
part_no_sign parts.Word = tt
part_no_sign parts.High = (refl, tt)
part_no_sign parts.Low = (refl, tt)

-- a name has no sign
pub name_no_sign : (v : Variable) → IsBelow (2 ^ 64) v → HasNoSign (variable_name v)
name_no_sign A small = no_sign_test (codes "A") refl
name_no_sign B small = no_sign_test (codes "B") refl
name_no_sign C small = no_sign_test (codes "C") refl
name_no_sign D small = no_sign_test (codes "D") refl
name_no_sign E small = no_sign_test (codes "E") refl
name_no_sign H small = no_sign_test (codes "H") refl
name_no_sign L small = no_sign_test (codes "L") refl
name_no_sign Bc small = no_sign_test (codes "BC") refl
name_no_sign De small = no_sign_test (codes "DE") refl
name_no_sign Hl small = no_sign_test (codes "HL") refl
name_no_sign Ix small = no_sign_test (codes "IX") refl
name_no_sign Iy small = no_sign_test (codes "IY") refl
name_no_sign (Slot number part) small = (refl, no_sign_append (decimal number) (part_letter part) (decimal_no_sign number small) (part_no_sign part))

-- the text after a term's sign
abbrev pub body_of : Term → List ℕ
body_of t = decimal (unsigned_abs t.coefficient) ++ 42 ∷ variable_name t.variable

pub body_no_sign : (t : Term) → IsTerm t → HasNoSign (body_of t)
body_no_sign t form =
    let high = form.coefficient.1 in
    no_sign_append (decimal (unsigned_abs t.coefficient)) (42 ∷ variable_name t.variable) (decimal_no_sign _ (omega arith)) (refl, name_no_sign t.variable form.number)

-- two texts that begin with a coefficient's sign
signs_cut : (y z : ℤ) (a b : List ℕ) → sign_of y ++ a ≡ sign_of z ++ b → (sign_of y ≡ sign_of z) × (a ≡ b)
signs_cut (pos n) (pos m) a b e = (refl, cons_tail _ _ _ _ e)
signs_cut (pos n) (negsuc m) a b e = absurd (omega (arith, cons_head _ _ _ _ e))
signs_cut (negsuc n) (pos m) a b e = absurd (omega (arith, cons_head _ _ _ _ e))
signs_cut (negsuc n) (negsuc m) a b e = (refl, cons_tail _ _ _ _ e)

same_signed : (y z : ℤ) → sign_of y ≡ sign_of z → unsigned_abs y ≡ unsigned_abs z → y ≡ z
same_signed (pos n) (pos m) sign size = ap pos size
same_signed (pos n) (negsuc m) sign size = absurd (omega (arith, cons_head _ _ _ _ sign))
same_signed (negsuc n) (pos m) sign size = absurd (omega (arith, cons_head _ _ _ _ sign))
same_signed (negsuc n) (negsuc m) sign size = ap negsuc (omega (arith, size))

-- two terms with the same sign and the same text after it
same_term : (t u : Term) → IsTerm t → IsTerm u → sign_of t.coefficient ≡ sign_of u.coefficient → body_of t ≡ body_of u → t ≡ u
same_term t u form too sign body =
    let high = form.coefficient.1 in
    let more = too.coefficient.1 in
    let sizes = same_front 42 (decimal (unsigned_abs t.coefficient)) (variable_name t.variable) (decimal (unsigned_abs u.coefficient)) (variable_name u.variable) (size_lacks_star t form) (size_lacks_star u too) body in
    let names = same_behind 42 (decimal (unsigned_abs t.coefficient)) (variable_name t.variable) (decimal (unsigned_abs u.coefficient)) (variable_name u.variable) (size_lacks_star t form) (size_lacks_star u too) body in
    let coefficient = same_signed t.coefficient u.coefficient sign (decimal_injective _ _ (omega (arith, high)) (omega (arith, more)) sizes) in
    let variable = variable_name_injective t.variable u.variable form.number too.number names in
    ap (λ z. let x : Term = record { coefficient = z; variable = t.variable } in x) coefficient
    ∙ ap (λ v. let x : Term = record { coefficient = u.coefficient; variable = v } in x) variable

sign_begins : (z : ℤ) (text : List ℕ) → BeginsWithSign (sign_of z ++ text)
sign_begins (pos n) text = refl
sign_begins (negsuc n) text = refl

-- terms are nothing, or begin with a sign
pub terms_begin : (ts : List Term) → BeginsWithSign (flat_map term_text ts)
unfolding term_text
terms_begin [] = tt
terms_begin (t ∷ ts) = subst BeginsWithSign (sym (append_assoc (sign_of t.coefficient) (body_of t) (flat_map term_text ts))) (sign_begins t.coefficient _)

-- two texts that begin with a term
pub term_cut : (t u : Term) (a b : List ℕ) → IsTerm t → IsTerm u → BeginsWithSign a → BeginsWithSign b → term_text t ++ a ≡ term_text u ++ b → (t ≡ u) × (a ≡ b)
unfolding term_text
term_cut t u a b form too sign other e =
    let (same, behind) = signs_cut t.coefficient u.coefficient (body_of t ++ a) (body_of u ++ b)
    (sym (append_assoc (sign_of t.coefficient) (body_of t) a) ∙ e ∙ append_assoc (sign_of u.coefficient) (body_of u) b) in
    let parts = sign_cut (body_of t) a (body_of u) b (body_no_sign t form) sign (body_no_sign u too) other behind in
    (same_term t u form too same parts.0, parts.1)

abbrev pub AreTerms : List Term → Type 0
AreTerms ts = AllByRecursion IsTerm ts

pub some_text : (t : Term) (a : List ℕ) → term_text t ++ a ≡ [] → ⊥
unfolding term_text
some_text t a e =
    omega (arith, ap length e, length-append (term_text t) a, length-append (sign_of t.coefficient) (body_of t), length-append (decimal (unsigned_abs t.coefficient)) (42 ∷ variable_name t.variable))

some_or_none : (text : List ℕ) → (text ≡ []) ⊎ ((b : ℕ) × (bs : List ℕ) × (text ≡ b ∷ bs))
some_or_none [] = inl refl
some_or_none (b ∷ bs) = inr (b, bs, refl)

terms_then : (ds : List Term) (rest : List ℕ) → BeginsWithSign rest → BeginsWithSign (flat_map term_text ds ++ rest)
terms_then [] rest sign = sign
terms_then (d ∷ ds) rest sign =
    elim (some_or_none (flat_map term_text (d ∷ ds))) [
      | inl none ↦ absurd (some_text d (flat_map term_text ds) none)
      | inr (b, bs, is) ↦ rw is (subst BeginsWithSign is (terms_begin (d ∷ ds)))
    ]

-- terms with which the text begins are its first terms
pub terms_cut : (ds ts : List Term) (rest : List ℕ) → AreTerms ds → AreTerms ts → BeginsWithSign rest → flat_map term_text ts ≡ flat_map term_text ds ++ rest → (more : List Term) × (ts ≡ ds ++ more) × (rest ≡ flat_map term_text more)
terms_cut [] ts rest form too sign e = (ts, refl, sym e)
terms_cut (d ∷ ds) [] rest form too sign e = absurd (some_text d (flat_map term_text ds ++ rest) (sym (e ∙ append_assoc (term_text d) (flat_map term_text ds) rest)))
terms_cut (d ∷ ds) (t ∷ ts) rest form too sign e =
    let (same, behind) = term_cut t d (flat_map term_text ts) (flat_map term_text ds ++ rest) too.0 form.0 (terms_begin ts) (terms_then ds rest sign)
    (e ∙ append_assoc (term_text d) (flat_map term_text ds) rest) in
    let (more, terms, left) = terms_cut ds ts rest form.1 too.1 sign behind in
    (more, cc (same, terms), left)

-- the term with which a text begins is the text before its second sign
pub term_first : (t : Term) (behind text : List ℕ) (sign : ℕ) (rest body after : List ℕ) → IsTerm t → BeginsWithSign behind → text ≡ term_text t ++ behind → text ≡ sign ∷ rest → IsCutAtSign rest body after → sign ∷ body ≡ term_text t
unfolding term_text
term_first t behind text sign rest body after form begins is cut parts =
    let (signed, left) = sign_first sign rest (body_of t ++ behind) t.coefficient (sym cut ∙ is ∙ append_assoc (sign_of t.coefficient) (body_of t) behind) in
    let same = sign_cut body after (body_of t) behind parts.plain parts.sign (body_no_sign t form) begins (sym parts.whole ∙ left) in
    ap (λ s. s ++ body) signed ∙ ap (λ b. sign_of t.coefficient ++ b) same.0

pub term_injective : (t u : Term) → IsTerm t → IsTerm u → term_text t ≡ term_text u → t ≡ u
term_injective t u form too e = (term_cut t u [] [] form too tt tt (append-nil (term_text t) ∙ e ∙ sym (append-nil (term_text u)))).0

pub term_some : (t : Term) (text behind : List ℕ) → text ≡ term_text t ++ behind → length text ≡ 0 → ⊥
term_some t text behind is none = elim (some_or_none text) [
  | inl empty ↦ some_text t behind (sym is ∙ empty)
  | inr (b, bs, more) ↦ absurd (omega (arith, ap length more))
]

pub below_more : (n m : ℕ) (v : Variable) → n ≤ m → IsBelow n v → IsBelow m v
below_more n m (Slot number part) le below = omega arith
below_more n m _ le below = tt

-- the terms of a sum that is in form
pub sum_terms : (slots : ℕ) (s : LinearView) → slots < 2 ^ 64 → IsSum slots s → AreTerms s.terms
sum_terms slots s small form =
    recursion_from_All IsTerm s.terms (λ k d l. record { coefficient = form.coefficients k d l; number = below_more slots (2 ^ 64) _ (omega arith) (form.within_shape k d l) })

pub last_is_term : (slots : ℕ) (done : LinearView) (t : Term) → slots < 2 ^ 64 → IsSum slots (extended done t) → IsTerm t
last_is_term slots done t small form =
    record {
      coefficient = at_last (λ u. IsCoefficient u.coefficient) done.terms t form.coefficients;
      number = below_more slots (2 ^ 64) t.variable (omega arith) (at_last (λ u. IsBelow slots u.variable) done.terms t form.within_shape);
    }

-- if the text of a linear begins with that of another, so do its constant and its terms
pub linear_cut : (slots : ℕ) (done s : LinearView) (rest : List ℕ) → slots < 2 ^ 64 → IsSum slots done → IsSum slots s → BeginsWithSign rest → linear_text s ≡ linear_text done ++ rest → (more : List Term) × (s.constant ≡ done.constant) × (s.terms ≡ done.terms ++ more) × (rest ≡ flat_map term_text more)
unfolding linear_text
linear_cut slots done s rest small form too sign e =
    let (constant, behind) = constant_cut s.constant done.constant (flat_map term_text s.terms) (flat_map term_text done.terms ++ rest) too.constant form.constant (terms_begin s.terms) (terms_then done.terms rest sign)
    (e ∙ append_assoc (signed_decimal done.constant) (flat_map term_text done.terms) rest) in
    let (more, terms, left) = terms_cut done.terms s.terms rest (sum_terms slots done small form) (sum_terms slots s small too) sign behind in
    (more, constant, terms, left)

pub linear_more : (done : LinearView) (t : Term) → linear_text (extended done t) ≡ linear_text done ++ term_text t
unfolding linear_text
linear_more done t =
    ap (λ text. signed_decimal done.constant ++ text) (flat_map-append term_text done.terms (t ∷ []) ∙ ap (λ text. flat_map term_text done.terms ++ text) (append-nil (term_text t)))
    ∙ sym (append_assoc (signed_decimal done.constant) (flat_map term_text done.terms) (term_text t))

-- some terms of a linear were read, and the text continues after them
pub record IsReading (slots : ℕ) (field rest : List ℕ) (kept : SoFar) : Type 0 where
  pub done : LinearView
  pub keeps : IsKept slots done kept
  pub text : field ≡ linear_text done ++ rest
  pub sign : BeginsWithSign rest

pub reading_begins : (slots : ℕ) (field rest : List ℕ) (kept : SoFar) (constant : ℤ) → IsKept slots (record { constant = constant; terms = [] }) kept → field ≡ signed_decimal constant ++ rest → BeginsWithSign rest → IsReading slots field rest kept
unfolding linear_text
reading_begins slots field rest kept constant keeps is sign = record {
  done = record { constant = constant; terms = [] };
  keeps = keeps;
  text = is ∙ ap (λ text. text ++ rest) (sym (append-nil (signed_decimal constant)));
  sign = sign;
}

module _ (slots : ℕ) (field rest : List ℕ) (kept : SoFar) (reading : IsReading slots field rest kept) where
  -- one more term
  pub reading_more : (after : SoFar) (behind : Bor (List ℕ)) → ReadsTerm slots rest reading.done after (Some behind) → IsReading slots field behind.now after
  reading_more after behind (t, is, sign, keeps) = record {
    done = extended reading.done t;
    keeps = keeps;
    text = reading.text ∙ ap (λ text. linear_text reading.done ++ text) is ∙ sym (append_assoc (linear_text reading.done) (term_text t) behind.now) ∙ ap (λ text. text ++ behind.now) (sym (linear_more reading.done t));
    sign = sign;
  }

  pub reading_shorter : (after : SoFar) (behind : Bor (List ℕ)) → ReadsTerm slots rest reading.done after (Some behind) → length behind.now < length rest
  reading_shorter after behind (t, is, sign, keeps) =
      elim (some_or_none (term_text t)) [
        | inl none ↦ absurd (some_text t [] (append-nil (term_text t) ∙ none))
        | inr (b, bs, more) ↦ omega (arith, ap length is, length-append (term_text t) behind.now, ap length more)
      ]

  -- the text continues with no term that can continue the linear
  pub reading_stops : (after : SoFar) → slots < 2 ^ 64 → (rest ≡ [] → ⊥) → ReadsTerm slots rest reading.done after None → (s : LinearView) → IsSum slots s → field ≡ linear_text s → ⊥
  reading_stops after small some stops s form is =
      let (more, constant, terms, left) = linear_cut slots reading.done s rest small reading.keeps.form form reading.sign (sym is ∙ reading.text) in
      stopped more constant terms left
    where
      stopped : (more : List Term) → s.constant ≡ reading.done.constant → s.terms ≡ reading.done.terms ++ more → rest ≡ flat_map term_text more → ⊥
      stopped [] constant terms left = some left
      stopped (t ∷ more) constant terms left =
          stops t (flat_map term_text more) (terms_begin more) left
          (sum_in_front slots (extended reading.done t) s more constant (terms ∙ sym (append_assoc reading.done.terms (t ∷ []) more)) form)

  pub reading_ends : rest ≡ [] → field ≡ linear_text reading.done
  reading_ends none = reading.text ∙ ap (λ text. linear_text reading.done ++ text) none ∙ append-nil (linear_text reading.done)

-- the text of a linear that begins with no constant
pub no_constant : (slots : ℕ) (field : List ℕ) → ReadsConstant field None → (s : LinearView) → IsSum slots s → field ≡ linear_text s → ⊥
unfolding linear_text
no_constant slots field none s form is = none s.constant (flat_map term_text s.terms) form.constant (terms_begin s.terms) is
