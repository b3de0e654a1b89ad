-- Hexadecimal digits, upper case: no two numbers have the same ones, and no mark in a pair's text is one.
use Rattle.std.proofs.Common.{◌≡◌, ◌==◌, ◌/◌, ◌%◌, ℕ, false, List, ◌∷◌, arith}
use Rattle.std.proofs.lemmas.Bool.Decides.{nat_tests}
use Rattle.texts.specs.Numbers.{hex_digit, hex2, hex4}
use Rattle.cert_fields.proofs.CutLemmas.{Lacks}

hex_digit_injective : (m n : ℕ) → hex_digit m ≡ hex_digit n → m ≡ n
hex_digit_injective m n e = grind (arith, nat_tests)

cons_first : (x y : ℕ) (xs ys : List ℕ) → x ∷ xs ≡ y ∷ ys → x ≡ y
cons_first x y xs ys e = cc

cons_others : (x y : ℕ) (xs ys : List ℕ) → x ∷ xs ≡ y ∷ ys → xs ≡ ys
cons_others x y xs ys e = cc

pub hex2_injective : (m n : ℕ) → hex2 m ≡ hex2 n → m ≡ n
unfolding hex2
hex2_injective m n e =
    let high = hex_digit_injective (m / 16) (n / 16) (cons_first _ _ _ _ e) in
    let low = hex_digit_injective (m % 16) (n % 16) (cons_first _ _ _ _ (cons_others _ _ _ _ e)) in
    omega arith

pub hex4_injective : (m n : ℕ) → hex4 m ≡ hex4 n → m ≡ n
unfolding hex4
hex4_injective m n e =
    let others = cons_others _ _ _ _ e in
    let last = cons_others _ _ _ _ others in
    let first = hex_digit_injective (m / 4096) (n / 4096) (cons_first _ _ _ _ e) in
    let second = hex_digit_injective (m / 256 % 16) (n / 256 % 16) (cons_first _ _ _ _ others) in
    let third = hex_digit_injective (m / 16 % 16) (n / 16 % 16) (cons_first _ _ _ _ last) in
    let fourth = hex_digit_injective (m % 16) (n % 16) (cons_first _ _ _ _ (cons_others _ _ _ _ last)) in
    omega arith

no_dash : (n : ℕ) → (hex_digit n == 45) ≡ false
no_dash n = grind (arith, nat_tests)

no_colon : (n : ℕ) → (hex_digit n == 58) ≡ false
no_colon n = grind (arith, nat_tests)

no_at : (n : ℕ) → (hex_digit n == 64) ≡ false
no_at n = grind (arith, nat_tests)

no_comma : (n : ℕ) → (hex_digit n == 44) ≡ false
no_comma n = grind (arith, nat_tests)

-- a mark that is no hexadecimal digit
abbrev pub IsNoDigit : ℕ → Type 0
IsNoDigit m = (n : ℕ) → (hex_digit n == m) ≡ false

pub dash_is_none : IsNoDigit 45
dash_is_none n = no_dash n

pub colon_is_none : IsNoDigit 58
colon_is_none n = no_colon n

pub at_is_none : IsNoDigit 64
at_is_none n = no_at n

pub comma_is_none : IsNoDigit 44
comma_is_none n = no_comma n

pub hex2_lacks : (m n : ℕ) → IsNoDigit m → Lacks m (hex2 n)
unfolding hex2
hex2_lacks m n none = (none _, (none _, tt))

pub hex4_lacks : (m n : ℕ) → IsNoDigit m → Lacks m (hex4 n)
unfolding hex4
hex4_lacks m n none = (none _, (none _, (none _, (none _, tt))))
