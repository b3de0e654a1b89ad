-- What is written of a text has no markup.
use Rattle.std.proofs.Common.{arith, ◌≡◌, ◌<◌, ◌≤◌, ◌==◌, ◌&&◌, ◌||◌, ℕ, zero, suc, length, Bool, true, false, cond, nat_lt, not, List, [], ◌∷◌, ◌++◌, slice_index_or, refl, codes}
use Rattle.std.proofs.lemmas.Bool.Decides.{nat_tests}
use Rattle.std.specs.Char.{encode_utf8}
use Rattle.std.specs.List.{All, flat_map}
use Rattle.bstr.specs.Utf8.{lossy_chars}
use Rattle.html.specs.Markup.{IsNoMarkup, html_char, html_text}

-- each byte is no markup
abbrev ArePlain : List ℕ → Type 0
ArePlain [] = Unit {0}
ArePlain (b ∷ bytes) = IsNoMarkup b × ArePlain bytes

plain_append : (xs ys : List ℕ) → ArePlain xs → ArePlain ys → ArePlain (xs ++ ys)
plain_append [] ys first second = second
plain_append (x ∷ xs) ys (is, are) second = (is, plain_append xs ys are second)

plain_at : (xs : List ℕ) → ArePlain xs → (k d : ℕ) → k < length xs → IsNoMarkup (slice_index_or xs k d)
plain_at [] are k d within = omega (arith, within)
plain_at (x ∷ xs) (is, are) zero d within = is
plain_at (x ∷ xs) (is, are) (suc k) d within = plain_at xs are k d (omega (arith, within))

-- the choice of two lists that are plain, the second where the test fails
chosen : (test : Bool) (xs ys : List ℕ) → ArePlain xs → (test ≡ false → ArePlain ys) → ArePlain (cond test xs ys)
chosen true xs ys first second = first
chosen false xs ys first second = second refl

abbrev is_plain : ℕ → Bool
is_plain b = not (b == 60) && (not (b == 62) && (not (b == 34) && (not (b == 39) && (nat_lt 31 b && not (b == 127)))))

abbrev are_plain : List ℕ → Bool
are_plain [] = true
are_plain (b ∷ bytes) = is_plain b && are_plain bytes

plain_byte : (b : ℕ) → is_plain b ≡ true → IsNoMarkup b
plain_byte b is = record {
  no_tag = grind (arith, nat_tests);
  no_end = grind (arith, nat_tests);
  no_quote = grind (arith, nat_tests);
  no_apostrophe = grind (arith, nat_tests);
  no_control = grind (arith, nat_tests);
  no_delete = grind (arith, nat_tests);
}

both : (x y : Bool) → (x && y) ≡ true → (x ≡ true) × (y ≡ true)
both true y is = (refl, is)
both false y is = absurd (cc)

plain_bytes : (bytes : List ℕ) → are_plain bytes ≡ true → ArePlain bytes
plain_bytes [] are = tt
plain_bytes (b ∷ bytes) are =
    let (first, rest) = both (is_plain b) (are_plain bytes) are in
    (plain_byte b first, plain_bytes bytes rest)

-- a byte of a character of several bytes
high : (b : ℕ) → 128 ≤ b → IsNoMarkup b
high b above = record {
  no_tag = λ is. omega (arith, is, above);
  no_end = λ is. omega (arith, is, above);
  no_quote = λ is. omega (arith, is, above);
  no_apostrophe = λ is. omega (arith, is, above);
  no_control = omega (arith, above);
  no_delete = λ is. omega (arith, is, above);
}

-- a character that is no sign of markup and no control character of ASCII, in UTF-8
plain_utf8 : (c : ℕ) → IsNoMarkup c → ArePlain (encode_utf8 c)
unfolding encode_utf8
plain_utf8 c plain =
    chosen (nat_lt c 128) _ _ (plain, tt) (λ a.
    chosen (nat_lt c 2048) _ _ (high _ (omega arith), (high _ (omega arith), tt)) (λ b.
    chosen (nat_lt c 65536) _ _ (high _ (omega arith), (high _ (omega arith), (high _ (omega arith), tt))) (λ d.
    (high _ (omega arith), (high _ (omega arith), (high _ (omega arith), (high _ (omega arith), tt)))))))

left_over : (c : ℕ) → (c == 60) ≡ false → (c == 62) ≡ false → (c == 34) ≡ false → (c == 39) ≡ false → (nat_lt c 32 || (c == 127)) ≡ false →
    IsNoMarkup c
left_over c a b d e f = record {
  no_tag = grind (arith, nat_tests);
  no_end = grind (arith, nat_tests);
  no_quote = grind (arith, nat_tests);
  no_apostrophe = grind (arith, nat_tests);
  no_control = grind (arith, nat_tests);
  no_delete = grind (arith, nat_tests);
}

plain_char : (c : ℕ) → ArePlain (html_char c)
plain_char c =
    chosen (c == 38) (codes "&amp;") _ (plain_bytes (codes "&amp;") refl) (λ z.
    chosen (c == 60) (codes "&lt;") _ (plain_bytes (codes "&lt;") refl) (λ a.
    chosen (c == 62) (codes "&gt;") _ (plain_bytes (codes "&gt;") refl) (λ b.
    chosen (c == 34) (codes "&quot;") _ (plain_bytes (codes "&quot;") refl) (λ d.
    chosen (c == 39) (codes "&#39;") _ (plain_bytes (codes "&#39;") refl) (λ e.
    chosen (nat_lt c 32 || (c == 127)) (codes "?") _ (plain_bytes (codes "?") refl) (λ f.
    plain_utf8 c (left_over c a b d e f)))))))

plain_chars : (cs : List ℕ) → ArePlain (flat_map html_char cs)
plain_chars [] = tt
plain_chars (c ∷ cs) = plain_append (html_char c) (flat_map html_char cs) (plain_char c) (plain_chars cs)

-- no byte that is written of a text is markup
pub text_is_plain : (text : List ℕ) → All IsNoMarkup (html_text text)
text_is_plain text = plain_at (html_text text) (plain_chars (lossy_chars text))
