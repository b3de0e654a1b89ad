-- The lines of a text are found again by splitting it at its line feeds and spaces.
use Rattle.std.proofs.Common.{◌≡◌, ◌≤◌, ◌==◌, ℕ, ◌∷◌, [], ◌++◌, List, length, map, drop, get_or, false, refl, sym, ap, ◌∙◌, arith, append_assoc}
use Rattle.std.specs.List.{AllByRecursion, slice_split, join_with_byte}
use Rattle.std.proofs.lemmas.List.Concat.{flat_map-append}
use Rattle.std.proofs.lemmas.List.Elements.{All-from_recursion}
use Rattle.std.proofs.lemmas.List.Splits.{slice_split_at, join_with_byte-slice_split}
use Rattle.cert_lines.specs.Line.{IsLine, IsShortLine, fields_of, line_text}
use Rattle.cert_lines.specs.Version.{version_digit}
use Rattle.cert_lines.specs.declared.line.Line.{Line}
use Rattle.cert_lines.specs.declared.line.Line.TheVariants as lines
use Rattle.cert_lines.specs.declared.version.Version.{Version}
use Rattle.cert_lines.specs.declared.version.Version.TheVariants.{One, Two, Three}
use Rattle.cert_form.specs.Text.{IsShortText, text_of_lines}
use Rattle.cert_form.proofs.Lists.{same_cons}
use Rattle.texts.specs.Fields.{fields_in}
use Rattle.texts.proofs.PlainLemmas.{ArePlain, fields_in_line, no_lf_in_join}

-- three facts about the texts of single lines: no field has a space or a line feed, no two lines have the same fields,
-- and a line with counts within their limits is not too long
pub record LinesAreTold : Type 0 where
  pub plain : (v : Version) (line : Line) → IsLine v line → ArePlain (fields_of v line)
  pub injective : (v : Version) (a b : Line) → IsLine v a → IsLine v b → fields_of v a ≡ fields_of v b → a ≡ b
  pub short : (v : Version) (line : Line) → IsLine v line → IsShortLine line → IsShortText v line

-- the lines of a text, each as its fields
abbrev pub cut : List ℕ → List (List (List ℕ))
cut bytes = map fields_in (slice_split (λ b. b == 10) bytes)

some_field : (v : Version) (line : Line) → (field : List ℕ) × (more : List (List ℕ)) × (fields_of v line ≡ field ∷ more)
unfolding fields_of
some_field v (lines.Header w) = (_, _, refl)
some_field v (lines.Rom len) = (_, _, refl)
some_field v (lines.Board board) = (_, _, refl)
some_field v (lines.Stack region) = (_, _, refl)
some_field v (lines.Budget budget) = (_, _, refl)
some_field v (lines.Proc proc) = (_, _, refl)
some_field v (lines.Split split) = (_, _, refl)
some_field v (lines.Inline address) = (_, _, refl)
some_field v (lines.Cell cell) = (_, _, refl)
some_field v (lines.Row row) = (_, _, refl)
some_field v lines.End = (_, _, refl)

-- no line feed is in a line
pub no_lf_in_line : LinesAreTold → (v : Version) (line : Line) → IsLine v line →
    AllByRecursion (λ b. (b == 10) ≡ false) (line_text v line)
no_lf_in_line told v line form = no_lf_in_join (fields_of v line) (told.plain v line form)

-- the fields of a line are found again
pub fields_again : LinesAreTold → (v : Version) (line : Line) → IsLine v line →
    fields_in (line_text v line) ≡ fields_of v line
fields_again told v line form =
    let first = some_field v line in
    fields_in_line (fields_of v line) (told.plain v line form) first.0 first.1 first.2

-- the first line is split off
pub split_line : LinesAreTold → (v : Version) (line : Line) (rest : List ℕ) → IsLine v line →
    slice_split (λ b. b == 10) (line_text v line ++ 10 ∷ rest) ≡ line_text v line ∷ slice_split (λ b. b == 10) rest
split_line told v line rest form = slice_split_at (λ b. b == 10) (line_text v line) 10 rest
    (All-from_recursion _ _ (no_lf_in_line told v line form)) refl

cut_line : LinesAreTold → (v : Version) (line : Line) (rest : List ℕ) → IsLine v line →
    cut (line_text v line ++ 10 ∷ rest) ≡ fields_of v line ∷ cut rest
cut_line told v line rest form = ap (map fields_in) (split_line told v line rest form)
    ∙ ap (λ fields. fields ∷ cut rest) (fields_again told v line form)

-- one line and those after it
pub text_first : (v : Version) (line : Line) (ls : List Line) (rest : List ℕ) →
    text_of_lines v (line ∷ ls) ++ rest ≡ line_text v line ++ 10 ∷ (text_of_lines v ls ++ rest)
unfolding text_of_lines
text_first v line ls rest = append_assoc (line_text v line ++ 10 ∷ []) (text_of_lines v ls) rest
    ∙ append_assoc (line_text v line) (10 ∷ []) (text_of_lines v ls ++ rest)

pub text_none : (v : Version) (rest : List ℕ) → text_of_lines v [] ++ rest ≡ rest
unfolding text_of_lines
text_none v rest = refl

pub text_append : (v : Version) (xs ys : List Line) → text_of_lines v (xs ++ ys) ≡ text_of_lines v xs ++ text_of_lines v ys
unfolding text_of_lines
text_append v xs ys = flat_map-append (λ line. line_text v line ++ 10 ∷ []) xs ys

-- lines are found again in their text, whatever follows it
pub cut_text : LinesAreTold → (v : Version) (ls : List Line) (rest : List ℕ) → AllByRecursion (IsLine v) ls →
    cut (text_of_lines v ls ++ rest) ≡ map (fields_of v) ls ++ cut rest
cut_text told v [] rest form = ap cut (text_none v rest)
cut_text told v (line ∷ ls) rest form =
    ap cut (text_first v line ls rest) ∙ cut_line told v line (text_of_lines v ls ++ rest) form.0
    ∙ ap (λ others. fields_of v line ∷ others) (cut_text told v ls rest form.1)

-- lines with the same fields are equal, as far as the shorter list goes
pub lines_begin : LinesAreTold → (v : Version) (more before : List Line) (xs ys : List (List (List ℕ))) →
    AllByRecursion (IsLine v) more → AllByRecursion (IsLine v) before →
    length before ≤ length more → map (fields_of v) more ++ xs ≡ map (fields_of v) before ++ ys →
    (others : List Line) × (more ≡ before ++ others)
lines_begin told v more [] xs ys forms_more forms_before count e = (more, refl)
lines_begin told v [] (q ∷ before) xs ys forms_more forms_before count e = absurd (omega arith)
lines_begin told v (a ∷ more) (q ∷ before) xs ys forms_more forms_before count e =
    let same = told.injective v a q forms_more.0 forms_before.0 (cc) in
    let found = lines_begin told v more before xs ys forms_more.1 forms_before.1 (omega arith) (ap (drop 1) e) in
    (found.0, same_cons a q more (before ++ found.0) same found.1)

digit_injective : (v w : Version) → version_digit v ≡ version_digit w → v ≡ w
digit_injective One One e = refl
digit_injective One Two e = absurd (omega (arith, ap (λ xs. get_or xs 0 0) e))
digit_injective Two One e = absurd (omega (arith, ap (λ xs. get_or xs 0 0) e))
digit_injective Two Two e = refl
digit_injective One Three e = absurd (omega (arith, ap (λ xs. get_or xs 0 0) e))
digit_injective Two Three e = absurd (omega (arith, ap (λ xs. get_or xs 0 0) e))
digit_injective Three One e = absurd (omega (arith, ap (λ xs. get_or xs 0 0) e))
digit_injective Three Two e = absurd (omega (arith, ap (λ xs. get_or xs 0 0) e))
digit_injective Three Three e = refl

header_injective : (v w : Version) (xs ys : List (List (List ℕ))) →
    fields_of v (lines.Header v) ∷ xs ≡ fields_of w (lines.Header w) ∷ ys → v ≡ w
unfolding fields_of
header_injective v w xs ys e =
    let digits : version_digit v ≡ version_digit w = cc in
    digit_injective v w digits

-- two texts with the same first line are of one version
pub versions_agree : LinesAreTold → (v w : Version) (xs ys : List Line) (r s : List ℕ) → AllByRecursion (IsLine v) xs →
    AllByRecursion (IsLine w) ys →
    text_of_lines v (lines.Header v ∷ xs) ++ r ≡ text_of_lines w (lines.Header w ∷ ys) ++ s → v ≡ w
versions_agree told v w xs ys r s forms_xs forms_ys e =
    header_injective v w _ _
    (sym (cut_text told v (lines.Header v ∷ xs) r (tt, forms_xs)) ∙ ap cut e
    ∙ cut_text told w (lines.Header w ∷ ys) s (tt, forms_ys))

-- a header has the same fields in each version
pub header_fields : (v w u : Version) → fields_of v (lines.Header u) ≡ fields_of w (lines.Header u)
unfolding fields_of
header_fields v w u = refl

-- one more line, whose text has the line's fields
pub text_push : (v : Version) (ls : List Line) (line : Line) (text rest : List ℕ) → fields_in text ≡ fields_of v line →
    text_of_lines v (ls ++ line ∷ []) ++ rest ≡ text_of_lines v ls ++ (text ++ 10 ∷ rest)
text_push v ls line text rest same =
    let joined : line_text v line ≡ text = ap (join_with_byte 32) (sym same) ∙ join_with_byte-slice_split 32 text in
    ap (λ bytes. bytes ++ rest) (text_append v ls (line ∷ []))
    ∙ append_assoc (text_of_lines v ls) (text_of_lines v (line ∷ [])) rest
    ∙ ap (λ bytes. text_of_lines v ls ++ bytes)
    (text_first v line [] rest ∙ ap (λ bytes. line_text v line ++ 10 ∷ bytes) (text_none v rest)
    ∙ ap (λ bytes. bytes ++ 10 ∷ rest) joined)
