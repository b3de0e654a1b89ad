-- The text before the first sign of a linear.
use Rattle.std.proofs.Common.{◌≡◌, ◌<◌, ◌≤◌, ◌^◌, ℕ, suc, List, [], ◌∷◌, ◌++◌, length, ℤ, pos, negsuc, sym, ap, ◌∙◌, inl, arith, length-append}
use Rattle.std.specs.Fmt.{decimal, signed_decimal}
use Rattle.std.proofs.lemmas.Bool.{both_ways, eq-eqb}
use Rattle.std.proofs.lemmas.Fmt.{decimal_nonempty, decimal_injective}
use Rattle.cert_fields.specs.Terms.{IsConstant, IsCutAtSign, BeginsWithSign}
use Rattle.cert_fields.proofs.CutLemmas.{Lacks}
use Rattle.cert_fields.proofs.DecimalLemmas.{decimal_lacks, decimal_no_sign}
use Rattle.cert_fields.proofs.SignLemmas.{sign_cut}

pub cons_head : (x y : ℕ) (xs ys : List ℕ) → x ∷ xs ≡ y ∷ ys → x ≡ y
cons_head x y xs ys e = cc

pub cons_tail : (x y : ℕ) (xs ys : List ℕ) → x ∷ xs ≡ y ∷ ys → xs ≡ ys
cons_tail x y xs ys e = cc

-- a text that lacks a byte does not begin with it
pub begins_not : (m : ℕ) (xs ys rest : List ℕ) → Lacks m xs → 0 < length xs → xs ++ ys ≡ m ∷ rest → ⊥
begins_not m [] ys rest lacks some e = absurd (omega arith)
begins_not m (x ∷ xs) ys rest lacks some e = both_ways _ lacks.0 (eq-eqb x m (cons_head _ _ _ _ e))

pub no_minus : (n : ℕ) (ys rest : List ℕ) → n < 2 ^ 64 → decimal n ++ ys ≡ 45 ∷ rest → ⊥
no_minus n ys rest small e = begins_not 45 (decimal n) ys rest (decimal_lacks 45 n (inl (omega arith)) small) (decimal_nonempty n small) e

-- no constant is empty
pub constant_some : (text behind : List ℕ) (z : ℤ) → IsConstant z → text ≡ signed_decimal z ++ behind → length text ≡ 0 → ⊥
constant_some text behind (pos n) small is none =
    omega (arith, ap length is, length-append (decimal n) behind, decimal_nonempty n (omega (arith, small)))
constant_some text behind (negsuc n) small is none = omega (arith, ap length is)

module _ (behind digits terms : List ℕ) (sign : BeginsWithSign behind) where
  -- after a minus comes the size of a negative constant
  pub size_of_negative : (text rest : List ℕ) (z : ℤ) → IsConstant z → text ≡ signed_decimal z ++ behind → text ≡ 45 ∷ rest → IsCutAtSign rest digits terms → (n : ℕ) × ((1 ≤ n) × (n ≤ 1000000000)) × (digits ≡ decimal n)
  size_of_negative text rest (pos n) small is minus cut = absurd (no_minus n behind rest (omega (arith, small)) (sym is ∙ minus))
  size_of_negative text rest (negsuc n) small is minus cut =
      let there : decimal (suc n) ++ behind ≡ digits ++ terms = cons_tail _ _ _ _ (sym is ∙ minus) ∙ cut.whole in
      (suc n, (omega arith, small), sym (sign_cut (decimal (suc n)) behind digits terms (decimal_no_sign (suc n) (omega (arith, small))) sign cut.plain cut.sign there).0)

  -- otherwise the text begins with the size of one that is not negative
  pub size_of_positive : (text rest : List ℕ) (first : ℕ) (z : ℤ) → IsConstant z → text ≡ signed_decimal z ++ behind → text ≡ first ∷ rest → (first ≡ 45 → ⊥) → IsCutAtSign text digits terms → (n : ℕ) × ((0 ≤ n) × (n ≤ 1000000000)) × (digits ≡ decimal n)
  size_of_positive text rest first (pos n) small is begins other cut =
      (n, (omega arith, small), sym (sign_cut (decimal n) behind digits terms (decimal_no_sign n (omega (arith, small))) sign cut.plain cut.sign (sym is ∙ cut.whole)).0)
  size_of_positive text rest first (negsuc n) small is begins other cut = absurd (other (cons_head _ _ _ _ (sym begins ∙ is)))

-- the text determines a constant and the text from the next sign on
pub constant_cut : (y z : ℤ) (a b : List ℕ) → IsConstant y → IsConstant z → BeginsWithSign a → BeginsWithSign b → signed_decimal y ++ a ≡ signed_decimal z ++ b → (y ≡ z) × (a ≡ b)
constant_cut (pos n) (pos m) a b small too sign other e =
    let parts = sign_cut (decimal n) a (decimal m) b (decimal_no_sign n (omega (arith, small))) sign (decimal_no_sign m (omega (arith, too))) other e in
    (ap pos (decimal_injective n m (omega (arith, small)) (omega (arith, too)) parts.0), parts.1)
constant_cut (pos n) (negsuc m) a b small too sign other e = absurd (no_minus n a _ (omega (arith, small)) e)
constant_cut (negsuc n) (pos m) a b small too sign other e = absurd (no_minus m b _ (omega (arith, too)) (sym e))
constant_cut (negsuc n) (negsuc m) a b small too sign other e =
    let parts = sign_cut (decimal (suc n)) a (decimal (suc m)) b (decimal_no_sign (suc n) (omega (arith, small))) sign (decimal_no_sign (suc m) (omega (arith, too))) other (cons_tail _ _ _ _ e) in
    let same = decimal_injective (suc n) (suc m) (omega (arith, small)) (omega (arith, too)) parts.0 in
    (ap negsuc (omega (arith, same)), parts.1)
