-- The text of a whole certificate is read as this certificate only, and no two certificates have the same text.
use Rattle.std.proofs.Common.{◌≡◌, ◌≤◌, ◌==◌, ◌⊎◌, ℕ, suc, ◌∷◌, [], ◌++◌, List, length, map, take, drop, refl, sym, ap, subst, ◌∙◌, inl, inr, arith, append-nil, length-append, take-append-drop}
use Rattle.std.specs.List.{AllByRecursion, slice_split}
use Rattle.std.proofs.lemmas.List.{length-map}
use Rattle.std.proofs.lemmas.List.Splits.{length-slice_split}
use Rattle.cert_lines.specs.Line.{IsLine, IsShortLine, fields_of}
use Rattle.cert_lines.specs.declared.line.Line.{Line}
use Rattle.cert_lines.specs.declared.version.Version.{Version}
use Rattle.cert_form.specs.Contents.{CertificateView}
use Rattle.cert_form.specs.Form.{IsCertificate, IsInForm}
use Rattle.cert_form.specs.Text.{BeginsWith, IsReadable, lines_of, text_of, text_of_lines}
use Rattle.cert_form.specs.Reader.{ReaderView, HasRoomFor, lines_before, lines_read}
use Rattle.cert_form.specs.declared.stage.Stage.TheVariants as stages
use Rattle.cert_form.proofs.BadLines.{IsBadText, no_bad_next, no_last_next, no_long_next}
use Rattle.cert_form.proofs.Completes.{whole_in_form}
use Rattle.cert_form.proofs.Cuts.{LinesAreTold, cut, cut_text, lines_begin, text_append, text_none, versions_agree}
use Rattle.cert_form.proofs.GoesOn.{lines_in_form}
use Rattle.cert_form.proofs.Texts.{HasLine, HasLongLine, Stands, next_line, read_in_form, reads_on}
use Rattle.cert_form.proofs.TooMany.{none_in_form, readable_in_form}
use Rattle.cert_form.proofs.Whole.{ends_at, ends_with, same_contents}
use Rattle.texts.specs.Fields.{fields_in}

-- if all lines were read, they make a certificate in form, and the bytes are its text
pub found_whole : (bytes : List ℕ) (p : ReaderView) → Stands bytes p [] → p.stage ≡ stages.Nothing →
    IsInForm p.contents × (bytes ≡ text_of p.contents)
found_whole bytes p stands at = (
  whole_in_form p stands.form at,
  stands.text ∙ append-nil (text_of_lines p.contents.version (lines_read p))
      ∙ ap (λ s. text_of_lines p.contents.version (lines_before s p.contents)) at,
)

length-cut : (bytes : List ℕ) → 1 ≤ length (cut bytes)
length-cut bytes = omega
    (arith, length-map (slice_split (λ b. b == 10) bytes) fields_in, length-slice_split (λ b. b == 10) bytes)

-- the bytes are the whole text of a certificate: either more lines of it are left, or all were read and nothing is left
whole_or_next : LinesAreTold → (bytes : List ℕ) (p : ReaderView) (rest : List ℕ) (c : CertificateView) → Stands bytes p rest →
    IsCertificate c → bytes ≡ text_of c →
    (suc (length (lines_read p)) ≤ length (lines_of c)) ⊎ ((lines_of c ≡ lines_read p) × (rest ≡ []))
whole_or_next told bytes p rest c stands form e =
    let v = p.contents.version in
    let forms = lines_in_form c form in
    let whole : bytes ≡ text_of_lines c.version (lines_of c) ++ [] = e ∙ sym (append-nil (text_of c)) in
    let parts : map (fields_of c.version) (lines_of c) ++ cut [] ≡ map (fields_of v) (lines_read p) ++ cut rest =
    sym (cut_text told c.version (lines_of c) [] forms) ∙ ap cut (sym whole ∙ stands.text)
    ∙ cut_text told v (lines_read p) rest (read_in_form p stands.form) in
    let count : length (lines_read p) ≤ length (lines_of c) = omega (
      arith,
      ap length parts,
      length-append (map (fields_of c.version) (lines_of c)) (cut []),
      length-append (map (fields_of v) (lines_read p)) (cut rest),
      length-map (lines_of c) (fields_of c.version),
      length-map (lines_read p) (fields_of v),
      length-cut rest,
    ) in
    let found = reads_on told bytes p rest c (lines_of c) _ [] stands refl forms whole count in
    by_others (lines_of c) (lines_read p) found.others c.version rest found.lines found.text
  where
    by_others : (ls before others : List Line) (v : Version) (rest : List ℕ) → ls ≡ before ++ others →
        rest ≡ text_of_lines v others ++ [] → (suc (length before) ≤ length ls) ⊎ ((ls ≡ before) × (rest ≡ []))
    by_others ls before [] v rest same text = inr (same ∙ append-nil before, text ∙ text_none v [])
    by_others ls before (line ∷ others) v rest same text = inl
        (omega (arith, ap length same, length-append before (line ∷ others)))

-- a certificate whose text the bytes are begins with its next line, if one is left
abbrev whole_begins : (Form : CertificateView → Type 0) (bytes : List ℕ) (c : CertificateView) (n : ℕ) → Form c → bytes ≡ text_of c →
    n ≤ length (lines_of c) → BeginsWith Form n bytes
whole_begins Form bytes c n form e within = record {
  certificate = c;
  form = form;
  within = within;
  rest = text_of_lines c.version (drop n (lines_of c));
  begins = e ∙ ap (text_of_lines c.version) (sym (take-append-drop n (lines_of c)))
      ∙ text_append c.version (take n (lines_of c)) (drop n (lines_of c));
}

some_rest : (text after : List ℕ) → text ++ 10 ∷ after ≡ [] → ⊥
some_rest text after e = omega (arith, ap length e, length-append text (10 ∷ after))

-- the text of a certificate in form has no bad line before its end
pub only_no_bad_line : LinesAreTold → (bytes : List ℕ) (p : ReaderView) (rest line after : List ℕ) → Stands bytes p rest →
    HasLine rest line after → IsBadText p line →
    (c : CertificateView) → IsInForm c → bytes ≡ text_of c → ⊥
only_no_bad_line told bytes p rest line after stands has bad c form e =
    elim (whole_or_next told bytes p rest c stands form.certificate e) [
      | inl within ↦ no_bad_next told p c rest line after has bad
          (next_line told bytes p rest IsInForm (λ c in_form. in_form.certificate) stands
          (whole_begins IsInForm bytes c _ form e within))
      | inr ended ↦ some_rest line after (sym has.text ∙ ended.1)
    ]

-- no line that is too long
pub only_no_long_line : LinesAreTold → (bytes : List ℕ) (p : ReaderView) (rest : List ℕ) → Stands bytes p rest →
    HasLongLine rest → (c : CertificateView) → IsInForm c → bytes ≡ text_of c → ⊥
only_no_long_line told bytes p rest stands long c form e =
    let readable = readable_in_form told c form in
    elim (whole_or_next told bytes p rest c stands form.certificate e) [
      | inl within ↦ no_long_next p c rest long readable
          (next_line told bytes p rest IsReadable (λ c readable. readable.certificate) stands
          (whole_begins IsReadable bytes c _ readable e within))
      | inr ended ↦ omega (arith, long.long, ap length (sym long.text ∙ ended.1), length-append long.part long.others)
    ]

-- nor one too many
pub only_not_too_many : LinesAreTold → (bytes : List ℕ) (p : ReaderView) (rest text after : List ℕ) (line : Line) →
    Stands bytes p rest → HasLine rest text after → IsLine p.contents.version line →
    fields_in text ≡ fields_of p.contents.version line → (IsShortLine line × HasRoomFor p.contents line → ⊥) →
    (c : CertificateView) → IsInForm c → bytes ≡ text_of c → ⊥
only_not_too_many told bytes p rest text after line stands has is fields many c form e =
    elim (whole_or_next told bytes p rest c stands form.certificate e) [
      | inl within ↦ none_in_form told bytes p rest text after line stands has is fields many
          (whole_begins IsInForm bytes c _ form e within)
      | inr ended ↦ some_rest text after (sym has.text ∙ ended.1)
    ]

-- if no line feed is left, all of it was read and nothing is left
pub only_ended : LinesAreTold → (bytes : List ℕ) (p : ReaderView) (rest : List ℕ) → Stands bytes p rest →
    slice_split (λ b. b == 10) rest ≡ rest ∷ [] → (c : CertificateView) → IsInForm c → bytes ≡ text_of c →
    (p.stage ≡ stages.Nothing) × (rest ≡ []) × (p.contents ≡ c)
only_ended told bytes p rest stands last c form e =
    elim (whole_or_next told bytes p rest c stands form.certificate e) [
      | inl within ↦ absurd
          (no_last_next told p c rest last
          (next_line told bytes p rest IsInForm (λ c in_form. in_form.certificate) stands
          (whole_begins IsInForm bytes c _ form e within)))
      | inr ended ↦ (ends_at p c ended.0, ended.1, ends_with p c ended.0)
    ]

-- two certificates with the same text are equal
pub text_of_injective : LinesAreTold → (c d : CertificateView) → IsCertificate c → IsCertificate d → text_of c ≡ text_of d → c ≡ d
text_of_injective told c d form_c form_d e =
    let v = d.version in
    let forms_c = lines_in_form c form_c in
    let forms_d = lines_in_form d form_d in
    let version : c.version ≡ v = versions_agree told c.version v _ _ [] [] forms_c.1 forms_d.1
    (ap (λ bytes. bytes ++ []) e) in
    let forms_here : AllByRecursion (IsLine v) (lines_of c) = subst
    (λ v. AllByRecursion (IsLine v) (lines_of c)) version forms_c in
    let text_here : text_of_lines v (lines_of c) ≡ text_of d = subst
    (λ v. text_of_lines v (lines_of c) ≡ text_of d) version e in
    let parts : map (fields_of v) (lines_of c) ++ cut [] ≡ map (fields_of v) (lines_of d) ++ cut [] =
    sym (cut_text told v (lines_of c) [] forms_here) ∙ ap (λ bytes. cut (bytes ++ [])) text_here
    ∙ cut_text told v (lines_of d) [] forms_d in
    let count : length (lines_of c) ≡ length (lines_of d) = omega (
      arith,
      ap length parts,
      length-append (map (fields_of v) (lines_of c)) (cut []),
      length-append (map (fields_of v) (lines_of d)) (cut []),
      length-map (lines_of c) (fields_of v),
      length-map (lines_of d) (fields_of v),
    ) in
    let found = lines_begin told v (lines_of c) (lines_of d) (cut []) (cut []) forms_here forms_d
    (omega (arith, count)) parts in
    same_contents c d (no_others (lines_of c) (lines_of d) found.0 found.1 count)
  where
    no_others : (ls before others : List Line) → ls ≡ before ++ others → length ls ≡ length before → ls ≡ before
    no_others ls before [] same count = same ∙ append-nil before
    no_others ls before (line ∷ others) same count = absurd
        (omega (arith, ap length same, length-append before (line ∷ others)))
