-- The parts of a slot's name, and ranks.
use Rattle.std.proofs.Common.{◌≡◌, ◌<◌, ◌^◌, ℕ, List, [], ◌∷◌, ◌++◌, length, refl, sym, ap, subst, ◌∙◌, inr, arith, length-append}
use Rattle.std.proofs.lemmas.List.{append-nil}
use Rattle.std.specs.Fmt.{decimal}
use Rattle.loop_bounds.specs.declared.variable.Part.{Part}
use Rattle.loop_bounds.specs.declared.variable.Part.TheVariants.{Word, High, Low}
use Rattle.cert_fields.specs.VariableNames.{part_letter}
use Rattle.cert_fields.proofs.CutLemmas.{Lacks, lacks_none}
use Rattle.cert_fields.proofs.DecimalLemmas.{decimal_lacks}

-- the last bytes of two equal texts are equal, and so are the texts before them
pub same_last : (a b : List ℕ) (x y : ℕ) → a ++ x ∷ [] ≡ b ++ y ∷ [] → (a ≡ b) × (x ≡ y)
same_last [] [] x y e = (refl, cc)
same_last [] (d ∷ b) x y e = absurd (omega (arith, ap length e, length-append b (y ∷ [])))
same_last (c ∷ a) [] x y e = absurd (omega (arith, ap length e, length-append a (x ∷ [])))
same_last (c ∷ a) (d ∷ b) x y e =
    let head : c ≡ d = cc in
    let rest : a ++ x ∷ [] ≡ b ++ y ∷ [] = cc in
    let parts = same_last a b x y rest in
    (cc (head, parts.0), parts.1)

module _ (n : ℕ) (small : n < 2 ^ 64) where
  no_h : Lacks 104 (decimal n)
  no_h = decimal_lacks 104 n (inr (omega arith)) small

  no_l : Lacks 108 (decimal n)
  no_l = decimal_lacks 108 n (inr (omega arith)) small

  -- a digit is the last byte of a decimal
  not_last : (m : ℕ) (digits : List ℕ) → Lacks m (decimal n) → decimal n ≡ digits ++ m ∷ [] → ⊥
  not_last m digits lacks e = lacks_none m digits [] (subst (λ t. Lacks m t) e lacks)

  pub only_high : (text digits : List ℕ) (part : Part) → text ≡ digits ++ 104 ∷ [] → text ≡ decimal n ++ part_letter part → (digits ≡ decimal n) × (High ≡ part)
  only_high text digits Word cut is = absurd (not_last 104 digits no_h (sym (is ∙ append-nil (decimal n)) ∙ cut))
  only_high text digits High cut is = ((same_last digits (decimal n) 104 104 (sym cut ∙ is)).0, refl)
  only_high text digits Low cut is = absurd (omega (arith, (same_last digits (decimal n) 104 108 (sym cut ∙ is)).1))

  pub only_low : (text digits : List ℕ) (part : Part) → text ≡ digits ++ 108 ∷ [] → text ≡ decimal n ++ part_letter part → (digits ≡ decimal n) × (Low ≡ part)
  only_low text digits Word cut is = absurd (not_last 108 digits no_l (sym (is ∙ append-nil (decimal n)) ∙ cut))
  only_low text digits High cut is = absurd (omega (arith, (same_last digits (decimal n) 108 104 (sym cut ∙ is)).1))
  only_low text digits Low cut is = ((same_last digits (decimal n) 108 108 (sym cut ∙ is)).0, refl)

  pub only_word : (text digits : List ℕ) (last : ℕ) (part : Part) → text ≡ digits ++ last ∷ [] → (last ≡ 104 → ⊥) → (last ≡ 108 → ⊥) → text ≡ decimal n ++ part_letter part → (text ≡ decimal n) × (Word ≡ part)
  only_word text digits last Word cut no_high no_low is = (is ∙ append-nil (decimal n), refl)
  only_word text digits last High cut no_high no_low is = absurd (no_high (same_last digits (decimal n) last 104 (sym cut ∙ is)).1)
  only_word text digits last Low cut no_high no_low is = absurd (no_low (same_last digits (decimal n) last 108 (sym cut ∙ is)).1)

  pub only_empty : (text : List ℕ) (part : Part) → text ≡ [] → text ≡ decimal n ++ part_letter part → (text ≡ decimal n) × (Word ≡ part)
  only_empty text Word none is = (is ∙ append-nil (decimal n), refl)
  only_empty text High none is = absurd (omega (arith, ap length (sym none ∙ is), length-append (decimal n) (104 ∷ [])))
  only_empty text Low none is = absurd (omega (arith, ap length (sym none ∙ is), length-append (decimal n) (108 ∷ [])))
