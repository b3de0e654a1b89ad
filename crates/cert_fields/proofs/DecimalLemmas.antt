-- Decimals: how they begin, which bytes they lack, and that a field is read as the number with this decimal.
use Rattle.std.proofs.Common.{◌≡◌, ◌<◌, ◌≤◌, ◌==◌, ◌⊎◌, ◌^◌, ℕ, zero, suc, ◌∷◌, [], List, length, get_or, false, Result, Ok, Err, refl, sym, ap, subst, ◌∙◌, inl, inr, arith, lit<}
use Rattle.std.specs.Fmt.{decimal}
use Rattle.std.specs.Str.{IsUtf8}
use Rattle.std.specs.Str.Parse.{ParsesUnsigned, AllDigits, digits_value}
use Rattle.std.specs.Result.{result_ok}
use Rattle.std.proofs.lemmas.Bool.Decides.{nat_tests}
use Rattle.std.proofs.lemmas.Str.{IsUtf8-from_ascii}
use Rattle.std.proofs.lemmas.Str.Parse.{IsNumeralModel, numerals_by_value, tells_digits, parse_plain, digit_from_value}
use Rattle.std.proofs.lemmas.Fmt.{first_decimal, decimal_digit, decimal-digits_value, parse-decimal, IsAscii-decimal, decimal_nonempty, decimal_is_IsNumeral}
use Rattle.texts.specs.Numbers.{BeginsDecimal, Reads}
use Rattle.cert_fields.specs.Terms.{is_sign, HasNoSign}
use Rattle.cert_fields.proofs.CutLemmas.{Lacks}

-- a mark that is no digit
abbrev pub IsNoDecimal : ℕ → Type 0
IsNoDecimal m = (m < 48) ⊎ (57 < m)

digit_is_not : (b m : ℕ) → 48 ≤ b → b ≤ 57 → IsNoDecimal m → (b == m) ≡ false
digit_is_not b m low high other = grind (arith, nat_tests)

digits_lack : (m : ℕ) (digits : List ℕ) → IsNoDecimal m → AllDigits 10 digits → Lacks m digits
digits_lack m [] other all = tt
digits_lack m (b ∷ digits) other all =
    let digit = digit_from_value b all.0 in
    (digit_is_not b m (omega (arith, digit)) (omega (arith, digit)) other, digits_lack m digits other all.1)

pub decimal_lacks : (m n : ℕ) → IsNoDecimal m → n < 2 ^ 64 → Lacks m (decimal n)
decimal_lacks m n other small = digits_lack m (decimal n) other (decimal_is_IsNumeral n small).0.1

digit_is_no_sign : (b : ℕ) → 48 ≤ b → is_sign b ≡ false
digit_is_no_sign b low = grind (arith, nat_tests)

digits_no_sign : (digits : List ℕ) → AllDigits 10 digits → HasNoSign digits
digits_no_sign [] all = tt
digits_no_sign (b ∷ digits) all = (digit_is_no_sign b (omega (arith, digit_from_value b all.0)), digits_no_sign digits all.1)

pub decimal_no_sign : (n : ℕ) → n < 2 ^ 64 → HasNoSign (decimal n)
decimal_no_sign n small = digits_no_sign (decimal n) (decimal_is_IsNumeral n small).0.1

-- the first digit of a number other than 0 is not 0
first_digit : (n : ℕ) → n < 2 ^ 64 → (n ≡ 0) ⊎ (48 < get_or (decimal n) 0 0)
first_digit zero small = inl refl
first_digit (suc n) small = inr (first_decimal (suc n) (omega arith) small)

plain : (n : ℕ) → n < 2 ^ 64 → get_or (decimal n) 0 0 ≡ 43 → ⊥
plain n small e = elim (first_digit n small) [ inl z ↦ absurd (omega (arith, ap (λ ds. get_or ds 0 0) (ap decimal z ∙ decimal_digit 0 (lit< tt)))) | inr above ↦ absurd (omega arith) ]

short : (n : ℕ) → n < 2 ^ 64 → get_or (decimal n) 0 0 ≡ 48 → length (decimal n) ≡ 1
short n small e = elim (first_digit n small) [ inl z ↦ ap length (ap decimal z ∙ decimal_digit 0 (lit< tt)) | inr above ↦ absurd (omega arith) ]

-- each decimal begins as one
pub decimal_begins : (bs : List ℕ) (n : ℕ) → n < 2 ^ 64 → bs ≡ decimal n → BeginsDecimal bs
decimal_begins bs n small e = subst BeginsDecimal (sym e) record { some = decimal_nonempty n small; no_sign = plain n small; no_leading_zero = short n small }

pub decimal_is_text : (bs : List ℕ) (n : ℕ) → n < 2 ^ 64 → bs ≡ decimal n → IsUtf8 bs
decimal_is_text bs n small e = subst IsUtf8 (sym e) (IsUtf8-from_ascii (decimal n) (IsAscii-decimal n small))

err_not_ok : {E : Type 0} (e : E) (n : ℕ) → Err e ≡ Ok n → ⊥
err_not_ok e n same = cc

own : IsNumeralModel (AllDigits 10) (digits_value 10)
own = numerals_by_value _ tells_digits

-- `parse` gives the number with this decimal, if the text begins as one
pub decimal_from_parse : {E : Type 0} (bs : List ℕ) (r : Result ℕ E) → ParsesUnsigned 64 10 bs r → BeginsDecimal bs → Reads decimal (λ n. n < 2 ^ 64) bs (result_ok r)
decimal_from_parse {E} bs (Ok n) h begins =
    let k = parse_plain own {E = E} 64 bs (Ok n) h begins.no_sign in
    let value = k.1 in
    let small : digits_value 10 bs < 2 ^ 64 = k.0.2 in
    (omega arith, sym (ap decimal value ∙ decimal-digits_value own bs k.0.0 k.0.1 begins.no_leading_zero small))
decimal_from_parse bs (Err e) h begins = λ n small same.
    err_not_ok e n (parse-decimal 64 n bs (Err e) small small same h)
