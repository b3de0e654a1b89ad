-- The first bad line of a text, and the text of a whole certificate.
use Rattle.std.proofs.Common.{◌≡◌, ◌≤◌, ◌<◌, ◌==◌, ◌-◌, ℕ, suc, ◌∷◌, [], ◌++◌, List, length, take, drop, Bool, true, false, refl, sym, ap, subst, ◌∙◌, arith, take-append-drop}
use Rattle.std.specs.List.{AllByRecursion, onto_first, slice_split}
use Rattle.std.proofs.lemmas.List.{length-take-le}
use Rattle.std.proofs.lemmas.List.Splits.{length-slice_split, slice_split-cons_no, slice_split-cons_yes}
use Rattle.cert_lines.specs.Line.{IsLine, fields_of, line_text}
use Rattle.cert_lines.specs.declared.line.Line.{Line}
use Rattle.cert_form.specs.Contents.{CertificateView}
use Rattle.cert_form.specs.Form.{IsInForm}
use Rattle.cert_form.specs.Text.{BeginsWith, IsFirstBadLine, IsReadable, IsShortText, LINE_LIMIT, lines_of, text_of_lines}
use Rattle.cert_form.specs.Reader.{ReaderView, MayFollow, lines_read}
use Rattle.cert_form.proofs.Completes.{IsCompletion, completes, completion_begins, completion_in_form, completion_within}
use Rattle.cert_form.proofs.Cuts.{LinesAreTold, fields_again, split_line}
use Rattle.cert_form.proofs.Lists.{all_at, all_front}
use Rattle.cert_form.proofs.Order.{ordered}
use Rattle.cert_form.proofs.Texts.{HasLine, HasLongLine, HasNext, Stands, next_line}
use Rattle.texts.specs.Fields.{fields_in}

-- the lines before the next one begin a completion of them
abbrev pub begun_by : (bytes : List ℕ) (p : ReaderView) (rest : List ℕ) → Stands bytes p rest → (c : CertificateView) → IsCompletion p c →
    BeginsWith IsInForm (length (lines_read p)) bytes
begun_by bytes p rest stands c is = record {
  certificate = c;
  form = completion_in_form p c stands.form is;
  within = completion_within p c is;
  rest = rest;
  begins = stands.text ∙ ap (λ v. text_of_lines v (lines_read p) ++ rest) (sym is.version)
      ∙ ap (λ ls. text_of_lines c.version ls ++ rest) (sym (completion_begins p c is));
}

-- so they begin a certificate in form
pub begins_before : (bytes : List ℕ) (p : ReaderView) (rest : List ℕ) → Stands bytes p rest →
    BeginsWith IsInForm (length (lines_read p)) bytes
begins_before bytes p rest stands =
    let whole = completes p (ordered p stands.form) in
    begun_by bytes p rest stands whole.0 whole.1

pub begins_before_next : (bytes : List ℕ) (p : ReaderView) (rest : List ℕ) → Stands bytes p rest →
    BeginsWith IsInForm (suc (length (lines_read p)) - 1) bytes
begins_before_next bytes p rest stands = subst (λ m. BeginsWith IsInForm m bytes) (omega arith)
    (begins_before bytes p rest stands)

first_bad : (bytes : List ℕ) (p : ReaderView) (rest : List ℕ) → Stands bytes p rest →
    (BeginsWith IsReadable (suc (length (lines_read p))) bytes → ⊥) → IsFirstBadLine (suc (length (lines_read p))) bytes
first_bad bytes p rest stands bad = record { before = begins_before_next bytes p rest stands; bad = bad }

-- no line in form that may come next has this text
abbrev pub IsBadText : ReaderView → List ℕ → Type 0
IsBadText p text = (line : Line) → IsLine p.contents.version line → fields_in text ≡ fields_of p.contents.version line →
    MayFollow p line → ⊥

-- nor has another line, if this one may not come next
pub bad_from_line : LinesAreTold → (p : ReaderView) (text : List ℕ) (line : Line) → IsLine p.contents.version line →
    fields_in text ≡ fields_of p.contents.version line →
    (MayFollow p line → ⊥) → IsBadText p text
bad_from_line told p text line form fields bad other other_form other_fields may =
    let same : other ≡ line = told.injective p.contents.version other line other_form form (sym other_fields ∙ fields) in
    bad (subst (MayFollow p) same may)

-- the next line of the bytes is the next line of each certificate with which they begin
pub next_fields : LinesAreTold → (p : ReaderView) (c : CertificateView) (rest line after : List ℕ) → HasLine rest line after →
    (has : HasNext p c rest) → fields_in line ≡ fields_of p.contents.version has.next
next_fields told p c rest line after stands has =
    let parts = sym stands.parts ∙ ap (slice_split (λ b. b == 10)) has.text
    ∙ split_line told c.version has.next has.tail has.is_next.form in
    let same : line ≡ line_text c.version has.next = cc in
    ap fields_in same ∙ fields_again told c.version has.next has.is_next.form ∙ has.is_next.fields

pub no_bad_next : LinesAreTold → (p : ReaderView) (c : CertificateView) (rest line after : List ℕ) → HasLine rest line after →
    IsBadText p line → HasNext p c rest → ⊥
no_bad_next told p c rest line after stands bad has =
    bad has.next has.is_next.form_here (next_fields told p c rest line after stands has) has.is_next.may_follow

pub no_last_next : LinesAreTold → (p : ReaderView) (c : CertificateView) (rest : List ℕ) →
    slice_split (λ b. b == 10) rest ≡ rest ∷ [] → HasNext p c rest → ⊥
no_last_next told p c rest last has =
    let parts = sym last ∙ ap (slice_split (λ b. b == 10)) has.text
    ∙ split_line told c.version has.next has.tail has.is_next.form in
    omega (arith, ap length parts, length-slice_split (λ b. b == 10) has.tail)

lf_within : (xs ys part others : List ℕ) → xs ++ 10 ∷ ys ≡ part ++ others → AllByRecursion (λ b. (b == 10) ≡ false) part →
    length xs < length part → ⊥
lf_within xs ys [] others e none count = omega arith
lf_within [] ys (b ∷ part) others e none count =
    let same : b ≡ 10 = cc in
    let no : (10 == 10) ≡ false = subst (λ x. (x == 10) ≡ false) same none.0 in
    cc
lf_within (x ∷ xs) ys (b ∷ part) others e none count = lf_within xs ys part others (ap (drop 1) e) none.1 (omega arith)

pub no_long_next : (p : ReaderView) (c : CertificateView) (rest : List ℕ) → HasLongLine rest → IsReadable c → HasNext p c rest → ⊥
no_long_next p c rest long readable has =
    let n = suc (length (lines_read p)) in
    let Short : Line → Type 0 = IsShortText c.version in
    let fronts = all_front Short (take n (lines_of c)) (drop n (lines_of c))
    (subst (AllByRecursion Short) (sym (take-append-drop n (lines_of c))) readable.short) in
    let short = all_at Short (lines_read p) has.next [] (subst (AllByRecursion Short) has.goes fronts) in
    lf_within (line_text c.version has.next) has.tail long.part long.others (sym has.text ∙ long.text) long.no_lf
    (omega (arith, short, long.long))

-- a line with this text is the first bad one
pub bad_line : LinesAreTold → (bytes : List ℕ) (p : ReaderView) (rest line after : List ℕ) → Stands bytes p rest →
    HasLine rest line after → IsBadText p line →
    IsFirstBadLine (suc (length (lines_read p))) bytes
bad_line told bytes p rest line after stands has bad =
    first_bad bytes p rest stands
    (λ begins. no_bad_next told p begins.certificate rest line after has bad
    (next_line told bytes p rest IsReadable (λ c readable. readable.certificate) stands begins))

-- so is a line that is missing, or that lacks its line feed
pub missing_line : LinesAreTold → (bytes : List ℕ) (p : ReaderView) (rest : List ℕ) → Stands bytes p rest →
    slice_split (λ b. b == 10) rest ≡ rest ∷ [] → IsFirstBadLine (suc (length (lines_read p))) bytes
missing_line told bytes p rest stands last =
    first_bad bytes p rest stands
    (λ begins. no_last_next told p begins.certificate rest last
    (next_line told bytes p rest IsReadable (λ c readable. readable.certificate) stands begins))

-- and one that is too long
pub long_line : LinesAreTold → (bytes : List ℕ) (p : ReaderView) (rest : List ℕ) → Stands bytes p rest → HasLongLine rest →
    IsFirstBadLine (suc (length (lines_read p))) bytes
long_line told bytes p rest stands long =
    first_bad bytes p rest stands
    (λ begins. no_long_next p begins.certificate rest long begins.form
    (next_line told bytes p rest IsReadable (λ c readable. readable.certificate) stands begins))

none_onto : (x : ℕ) (parts : List (List ℕ)) (line : List ℕ) (others : List (List ℕ)) → (x == 10) ≡ false →
    ((first : List ℕ) (more : List (List ℕ)) → parts ≡ first ∷ more → AllByRecursion (λ b. (b == 10) ≡ false) first) →
    onto_first x parts ≡ line ∷ others →
    AllByRecursion (λ b. (b == 10) ≡ false) line
none_onto x [] line others differs each e =
    let is : x ∷ [] ≡ line = cc in
    subst (AllByRecursion (λ b. (b == 10) ≡ false)) is (differs, tt)
none_onto x (first ∷ more) line others differs each e =
    let is : x ∷ first ≡ line = cc in
    subst (AllByRecursion (λ b. (b == 10) ≡ false)) is (differs, each first more refl)

first_none : (x : ℕ) (rest line : List ℕ) (others : List (List ℕ)) (test : Bool) → (x == 10) ≡ test →
    ((first : List ℕ) (more : List (List ℕ)) → slice_split (λ b. b == 10) rest ≡ first ∷ more →
    AllByRecursion (λ b. (b == 10) ≡ false) first) →
    slice_split (λ b. b == 10) (x ∷ rest) ≡ line ∷ others → AllByRecursion (λ b. (b == 10) ≡ false) line
first_none x rest line others true same each e =
    let parts = sym (slice_split-cons_yes (λ b. b == 10) x rest same) ∙ e in
    let is : [] ≡ line = cc in
    subst (AllByRecursion (λ b. (b == 10) ≡ false)) is tt
first_none x rest line others false differs each e =
    none_onto x (slice_split (λ b. b == 10) rest) line others differs each
    (sym (slice_split-cons_no (λ b. b == 10) x rest differs) ∙ e)

-- the first of the parts between line feeds has none
no_lf_in_first : (rest line : List ℕ) (others : List (List ℕ)) → slice_split (λ b. b == 10) rest ≡ line ∷ others →
    AllByRecursion (λ b. (b == 10) ≡ false) line
no_lf_in_first [] line others e =
    let is : [] ≡ line = cc in
    subst (AllByRecursion (λ b. (b == 10) ≡ false)) is tt
no_lf_in_first (x ∷ rest) line others e = first_none x rest line others (x == 10) refl
    (λ first more same. no_lf_in_first rest first more same) e

-- a next line that is too long
pub long_from_line : (rest line after : List ℕ) → HasLine rest line after → LINE_LIMIT ≤ length line → HasLongLine rest
long_from_line rest line after has long = record {
  part = line;
  others = 10 ∷ after;
  text = has.text;
  long = long;
  no_lf = no_lf_in_first rest line (slice_split (λ b. b == 10) after) has.parts;
}

-- this many bytes without a line feed at the beginning
pub long_from_front : (rest : List ℕ) (n : ℕ) → LINE_LIMIT ≤ n → n ≤ length rest →
    AllByRecursion (λ b. (b == 10) ≡ false) (take n rest) → HasLongLine rest
long_from_front rest n enough within none = record {
  part = take n rest;
  others = drop n rest;
  text = sym (take-append-drop n rest);
  long = omega (arith, length-take-le n rest within);
  no_lf = none;
}
