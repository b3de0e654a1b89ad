use Rattle.std.proofs.Common.{replicate, append_assoc, not, ◌↔◌, ◌≡◌, ◌≢◌, ◌<◌, ◌≤◌, ◌==◌, ℕ, zero, suc, ◌+◌, ◌-◌, ◌^◌, ◌∷◌, [], ◌++◌, ◌⊎◌, List, length, get_or, take, drop, Bool, true, false, cond, Option, Some, None, Result, Ok, Err, refl, sym, ap, subst, ◌∙◌, inl, inr, arith, Bor, IsTrue, lit<}
use Rattle.std.specs.List.{slice_split, position}
use Rattle.std.specs.Fmt.{decimal}
use Rattle.std.specs.Str.{IsUtf8}
use Rattle.std.specs.Str.Parse.{ParsesUnsigned, AllDigits, digits_value}
use Rattle.std.specs.Result.{result_ok}
use Rattle.std.specs.Option.{is_some}
use Rattle.std.proofs.lemmas.List.Splits.{length-slice_split, slice_split_first, slice_split_none}
use Rattle.std.proofs.lemmas.List.Sums.{fails_before_first, passes_at_first, split_at_first}
use Rattle.std.proofs.lemmas.List.{append_cancel_left, replicate-append-replicate}
use Rattle.std.proofs.lemmas.Option.{cond_some}
use Rattle.std.proofs.lemmas.Str.{IsUtf8-from_ascii}
use Rattle.std.proofs.lemmas.Str.Parse.{IsNumeralModel, numerals_by_value, tells_digits, parse_plain}
use Rattle.std.proofs.lemmas.Fmt.{decimal_injective, first_decimal, decimal_digit, decimal-digits_value, parse-decimal, IsAscii-decimal, decimal_nonempty}
use Rattle.std.proofs.lemmas.Bool.{ltb-true, ltb-false, eqb-true}
use Rattle.texts.specs.Fields.{fields_left}
use Rattle.texts.specs.Numbers.{BeginsDecimal, Reads}

-- a text has at least one part
pub slice_split_some : (p : ℕ → Bool) (xs : List ℕ) → slice_split p xs ≡ [] → ⊥
slice_split_some p xs e = absurd (omega (arith, length-slice_split p xs, ap length e))

some_not_none : (n : ℕ) → Some n ≡ None → ⊥
some_not_none n e = cc

cond_none : (b : Bool) (n : ℕ) → cond b (Some n) None ≡ None → b ≡ false
cond_none true n e = absurd (some_not_none n e)
cond_none false n e = refl

-- if no byte passes, the text is the only part
pub slice_split_nowhere : (p : ℕ → Bool) (xs : List ℕ) → position p xs ≡ None → slice_split p xs ≡ xs ∷ []
slice_split_nowhere p xs e =
    let past = ltb-false _ _ (cond_none _ _ e) in
    slice_split_none p xs (λ k d l. fails_before_first p xs k d (omega arith))

-- else the first part ends at the first byte that passes
pub slice_split_position : (p : ℕ → Bool) (xs : List ℕ) (i : ℕ) → position p xs ≡ Some i → slice_split p xs ≡ take i xs ∷ slice_split p (drop (i + 1) xs)
slice_split_position p xs i e =
    let found = cond_some _ _ _ e in
    let Parts : ℕ → Type 0 = λ n. slice_split p xs ≡ take n xs ∷ slice_split p (drop (n + 1) xs) in
    subst Parts found.1 (slice_split_first p xs 0 (ltb-true _ _ found.0))

-- that byte is between the parts before and after it
pub cut_position : (m : ℕ) (xs : List ℕ) (i : ℕ) → position (λ b. b == m) xs ≡ Some i → xs ≡ take i xs ++ m ∷ drop (i + 1) xs
cut_position m xs i e =
    let found = cond_some _ _ _ e in
    let inside = ltb-true _ _ found.0 in
    let p : ℕ → Bool = λ b. b == m in
    let Cut : ℕ → ℕ → Type 0 = λ n x. xs ≡ take n xs ++ x ∷ drop (n + 1) xs in
    subst (λ x. Cut i x) (eqb-true _ _ (subst (λ n. p (get_or xs n 0) ≡ true) found.1 (passes_at_first p xs 0 inside)))
    (subst (λ n. Cut n (get_or xs n 0)) found.1 (split_at_first p xs 0 inside))

-- the first digit of a number other than 0 is not 0
first_digit : (n : ℕ) → n < 2 ^ 32 → (n ≡ 0) ⊎ (48 < get_or (decimal n) 0 0)
first_digit zero small = inl refl
first_digit (suc n) small = inr (first_decimal (suc n) (omega arith) (omega arith))

-- a decimal has no sign
decimal_plain : (n : ℕ) → n < 2 ^ 32 → get_or (decimal n) 0 0 ≢ 43
decimal_plain n small e = elim (first_digit n small) [ inl z ↦ absurd (omega (arith, ap (λ ds. get_or ds 0 0) (ap decimal z ∙ decimal_digit 0 (lit< tt)))) | inr above ↦ absurd (omega arith) ]

-- a decimal has no leading zero
decimal_short : (n : ℕ) → n < 2 ^ 32 → get_or (decimal n) 0 0 ≡ 48 → length (decimal n) ≡ 1
decimal_short n small e = elim (first_digit n small) [ inl z ↦ ap length (ap decimal z ∙ decimal_digit 0 (lit< tt)) | inr above ↦ absurd (omega arith) ]

-- each decimal begins as one
pub decimal_begins : (bs : List ℕ) (n : ℕ) → n < 2 ^ 32 → bs ≡ decimal n → BeginsDecimal bs
decimal_begins bs n small e = subst BeginsDecimal (sym e) record { some = decimal_nonempty n (omega arith); no_sign = decimal_plain n small; no_leading_zero = decimal_short n small }

-- each decimal is text
pub decimal_is_text : (bs : List ℕ) (n : ℕ) → n < 2 ^ 32 → bs ≡ decimal n → IsUtf8 bs
decimal_is_text bs n small e = subst IsUtf8 (sym e) (IsUtf8-from_ascii (decimal n) (IsAscii-decimal n (omega arith)))

err_not_ok : {E : Type 0} (e : E) (n : ℕ) → Err e ≡ Ok n → ⊥
err_not_ok e n same = cc

own : IsNumeralModel (AllDigits 10) (digits_value 10)
own = numerals_by_value _ tells_digits

-- `parse` gives the number of a text that begins as a decimal
pub decimal_from_parse : {E : Type 0} (bs : List ℕ) (r : Result ℕ E) → ParsesUnsigned 32 10 bs r → BeginsDecimal bs → Reads decimal (λ n. n < 2 ^ 32) bs (result_ok r)
decimal_from_parse {E} bs (Ok n) h begins =
    let k = parse_plain own {E = E} 32 bs (Ok n) h begins.no_sign in
    let value = k.1 in
    let small : digits_value 10 bs < 2 ^ 32 = k.0.2 in
    (omega arith, sym (ap decimal value ∙ decimal-digits_value own bs k.0.0 k.0.1 begins.no_leading_zero (omega arith)))
decimal_from_parse bs (Err e) h begins = λ n small same.
    err_not_ok e n (parse-decimal 32 n bs (Err e) (omega arith) (omega arith) same h)

-- the only number with this decimal is out of bounds
pub out_of_bounds : (bs : List ℕ) (least most n : ℕ) → n < 2 ^ 32 → most < 2 ^ 32 → bs ≡ decimal n → ((least ≤ n) × (n ≤ most) → ⊥) → Reads decimal (λ m. (least ≤ m) × (m ≤ most)) bs None
out_of_bounds bs least most n small bound is out = λ m within same.
    let one : m ≡ n = decimal_injective m n (omega (arith, within.1)) (omega arith) (sym same ∙ is) in
    out (omega (arith, within.0), omega (arith, within.1))

-- no field is left where no text is left
pub nothing_left : (mark : ℕ) (rest : Option (Bor (List ℕ))) (b : Bool) (fields : List (List ℕ)) → is_some rest ≡ not b → fields_left mark rest ≡ fields → IsTrue b ↔ (fields ≡ [])
nothing_left mark None true fields e view = (λ _. sym view, λ _. refl)
nothing_left mark None false fields e view = cc
nothing_left mark (Some text) true fields e view = cc
nothing_left mark (Some text) false fields e view = (λ t. cc, λ same. absurd (slice_split_some (λ b. b == mark) text.now (view ∙ same)))

-- a different field ends the repetition
pub replicate_stops : (k count : ℕ) (word : List ℕ) (old now : List (List ℕ)) → k < count → old ≡ replicate k word ++ now → ((rest : List (List ℕ)) → now ≢ word ∷ rest) → (rest : List (List ℕ)) → old ≢ replicate count word ++ rest
replicate_stops k count word old now below e other rest all =
    let left = count - (k + 1) in
    let split : count ≡ k + (1 + left) = omega arith in
    let whole : replicate count word ≡ replicate k word ++ replicate (1 + left) word = ap (λ n. replicate n word) split ∙ sym (replicate-append-replicate k (1 + left) word) in
    let next : replicate (1 + left) word ≡ word ∷ replicate left word = sym (replicate-append-replicate 1 left word) in
    other (replicate left word ++ rest)
    (append_cancel_left (replicate k word) now (word ∷ (replicate left word ++ rest))
    (sym e ∙ all ∙ ap (λ words. words ++ rest) (whole ∙ ap (λ words. replicate k word ++ words) next) ∙ append_assoc (replicate k word) (word ∷ replicate left word) rest))
