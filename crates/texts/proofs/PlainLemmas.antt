use Rattle.std.proofs.Common.{◌≡◌, ◌≤◌, ◌<◌, ◌==◌, ◌^◌, ℕ, ◌∷◌, [], ◌++◌, List, Bool, true, false, codes, refl, ap, ◌∙◌, arith, leb, leb-true}
use Rattle.std.proofs.lemmas.Bool.{and_parts}
use Rattle.std.proofs.lemmas.Bool.Decides.{nat_tests}
use Rattle.std.specs.List.{AllByRecursion, join_with_byte, list_all}
use Rattle.std.specs.Fmt.{decimal}
use Rattle.std.specs.Str.Parse.{AllDigits}
use Rattle.std.proofs.lemmas.List.Splits.{slice_split_none, slice_split_at}
use Rattle.std.proofs.lemmas.List.Elements.{All-from_recursion}
use Rattle.std.proofs.lemmas.Str.Parse.{digit_from_value}
use Rattle.std.proofs.lemmas.Fmt.{decimal_is_IsNumeral}
use Rattle.texts.specs.Fields.{fields_in}
use Rattle.texts.specs.Numbers.{hex_digit, hex2, hex4, flag_digit}

-- each byte is above the space
abbrev pub IsPlain : List ℕ → Type 0
IsPlain bytes = AllByRecursion (λ b. 33 ≤ b) bytes

pub plain_from_test : (bytes : List ℕ) → list_all (λ b. leb 33 b) bytes ≡ true → IsPlain bytes
plain_from_test [] test = tt
plain_from_test (b ∷ bytes) test =
    let parts = and_parts _ _ test in
    (leb-true 33 b parts.0, plain_from_test bytes parts.1)

plain_digits : (bytes : List ℕ) → AllDigits 10 bytes → IsPlain bytes
plain_digits [] digits = tt
plain_digits (b ∷ bytes) digits = (omega (arith, digit_from_value b digits.0), plain_digits bytes digits.1)

pub plain_decimal : (n : ℕ) → n < 2 ^ 64 → IsPlain (decimal n)
plain_decimal n small = plain_digits (decimal n) (decimal_is_IsNumeral n small).0.1

plain_hex_digit : (n : ℕ) → 33 ≤ hex_digit n
plain_hex_digit n = grind (arith, nat_tests)

pub plain_hex4 : (n : ℕ) → IsPlain (hex4 n)
unfolding hex4
plain_hex4 n = (plain_hex_digit _, (plain_hex_digit _, (plain_hex_digit _, (plain_hex_digit _, tt))))

pub plain_hex2 : (n : ℕ) → IsPlain (hex2 n)
unfolding hex2
plain_hex2 n = (plain_hex_digit _, (plain_hex_digit _, tt))

pub plain_flag : (b : Bool) → IsPlain (flag_digit b)
plain_flag false = plain_from_test (codes "0") refl
plain_flag true = plain_from_test (codes "1") refl

abbrev pub ArePlain : List (List ℕ) → Type 0
ArePlain fields = AllByRecursion IsPlain fields

pub are_plain : (fields : List (List ℕ)) → list_all (λ field. list_all (λ b. leb 33 b) field) fields ≡ true → ArePlain fields
are_plain [] test = tt
are_plain (field ∷ fields) test =
    let parts = and_parts _ _ test in
    (plain_from_test field parts.0, are_plain fields parts.1)

not_mark : (b mark : ℕ) → mark < b → (b == mark) ≡ false
not_mark b mark below = grind (arith, nat_tests)

no_space : (field : List ℕ) → IsPlain field → AllByRecursion (λ b. (b == 32) ≡ false) field
no_space [] plain = tt
no_space (b ∷ field) plain = (not_mark b 32 plain.0, no_space field plain.1)

-- the fields of a joined line are the fields that were joined
fields_in_join : (field : List ℕ) (fields : List (List ℕ)) → ArePlain (field ∷ fields) → fields_in (join_with_byte 32 (field ∷ fields)) ≡ field ∷ fields
fields_in_join field [] plain = slice_split_none (λ b. b == 32) field (All-from_recursion _ field (no_space field plain.0))
fields_in_join field (next ∷ fields) plain =
    slice_split_at (λ b. b == 32) field 32 (join_with_byte 32 (next ∷ fields)) (All-from_recursion _ field (no_space field plain.0)) refl
    ∙ ap (λ rest. field ∷ rest) (fields_in_join next fields plain.1)

no_lf_then : (field rest : List ℕ) → IsPlain field → AllByRecursion (λ b. (b == 10) ≡ false) rest → AllByRecursion (λ b. (b == 10) ≡ false) (field ++ rest)
no_lf_then [] rest plain none = none
no_lf_then (b ∷ field) rest plain none = (not_mark b 10 (omega (arith, plain.0)), no_lf_then field rest plain.1 none)

no_lf : (field : List ℕ) → IsPlain field → AllByRecursion (λ b. (b == 10) ≡ false) field
no_lf [] plain = tt
no_lf (b ∷ field) plain = (not_mark b 10 (omega (arith, plain.0)), no_lf field plain.1)

-- the joined line has no line feed
pub no_lf_in_join : (fields : List (List ℕ)) → ArePlain fields → AllByRecursion (λ b. (b == 10) ≡ false) (join_with_byte 32 fields)
no_lf_in_join [] plain = tt
no_lf_in_join (field ∷ []) plain = no_lf field plain.0
no_lf_in_join (field ∷ next ∷ fields) plain = no_lf_then field _ plain.0 (refl, no_lf_in_join (next ∷ fields) plain.1)

pub fields_in_line : (fields : List (List ℕ)) → ArePlain fields → (field : List ℕ) (more : List (List ℕ)) → fields ≡ field ∷ more → fields_in (join_with_byte 32 fields) ≡ fields
fields_in_line [] plain field more e = cc
fields_in_line (x ∷ xs) plain field more e = fields_in_join x xs plain
