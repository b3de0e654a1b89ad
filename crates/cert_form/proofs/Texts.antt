-- How much of a text was read, and which of its lines is the first bad one.
use Rattle.std.proofs.Common.{◌≡◌, ◌≤◌, ◌==◌, ℕ, suc, ◌∷◌, [], ◌++◌, List, length, take, drop, false, refl, sym, ap, subst, ◌∙◌, inl, inr, arith, append_assoc, append-nil, length-append}
use Rattle.std.specs.List.{AllByRecursion, slice_split}
use Rattle.std.proofs.lemmas.Bool.{cases_lt}
use Rattle.std.proofs.lemmas.List.{append_cancel_left, length-take-le, take-append-drop}
use Rattle.cert_lines.specs.Line.{IsLine, fields_of, line_text}
use Rattle.cert_lines.specs.declared.line.Line.{Line}
use Rattle.cert_lines.specs.declared.line.Line.TheVariants as lines
use Rattle.cert_lines.specs.declared.version.Version.{Version}
use Rattle.cert_form.specs.Contents.{CertificateView}
use Rattle.cert_form.specs.Form.{IsCertificate}
use Rattle.cert_form.specs.Text.{BeginsWith, LINE_LIMIT, lines_of, text_of_lines}
use Rattle.cert_form.specs.Reader.{ReaderView, IsProgress, stage_rank, lines_before, lines_read}
use Rattle.cert_form.specs.declared.stage.Stage.{Stage}
use Rattle.cert_form.proofs.Completes.{completes}
use Rattle.cert_form.proofs.Cuts.{LinesAreTold, cut, cut_text, header_fields, lines_begin, text_append, text_first, text_none, text_push, versions_agree}
use Rattle.cert_form.proofs.GoesOn.{IsNext, goes_on, header_first, header_stage, lines_in_form}
use Rattle.cert_form.proofs.Lists.{all_front}
use Rattle.cert_form.proofs.Order.{ordered}
use Rattle.texts.specs.Fields.{fields_in}

-- the bytes are the text of the lines that were read, followed by the rest
pub record Stands (bytes : List ℕ) (p : ReaderView) (rest : List ℕ) : Type 0 where
  pub text : bytes ≡ text_of_lines p.contents.version (lines_read p) ++ rest
  pub form : IsProgress p

-- a line at the beginning of the bytes, up to the first line feed
pub record HasLine (rest line after : List ℕ) : Type 0 where
  pub text : rest ≡ line ++ 10 ∷ after
  pub parts : slice_split (λ b. b == 10) rest ≡ line ∷ slice_split (λ b. b == 10) after

-- the bytes begin with more bytes than a line may have
pub record HasLongLine (rest : List ℕ) : Type 0 where
  pub part : List ℕ
  pub others : List ℕ
  pub text : rest ≡ part ++ others
  pub long : LINE_LIMIT ≤ length part
  pub no_lf : AllByRecursion (λ b. (b == 10) ≡ false) part

-- no line was read yet
pub stands_first : (bytes : List ℕ) (p : ReaderView) → lines_read p ≡ [] → IsProgress p → Stands bytes p bytes
stands_first bytes p none form = record {
  text = sym (text_none p.contents.version bytes)
      ∙ ap (λ ls. text_of_lines p.contents.version ls ++ bytes) (sym none);
  form = form;
}

no_lines_at_header : (s : Stage) (p : ReaderView) → stage_rank s ≤ 0 → lines_before s p.contents ≡ []
no_lines_at_header s p early = ap (λ s. lines_before s p.contents) (header_stage s early)

-- one more line was read: the version is as before, or the line is the header
same_texts : (old new : ReaderView) (line : Line) → lines_read new ≡ lines_read old ++ line ∷ [] →
    (fields_of new.contents.version line ≡ fields_of old.contents.version line)
    × (text_of_lines new.contents.version (lines_read old) ≡ text_of_lines old.contents.version (lines_read old))
same_texts old new line e =
    elim (cases_lt 0 (stage_rank new.stage)) [
      | inr never ↦ absurd
          (omega (
            arith,
            ap length e,
            ap length (no_lines_at_header new.stage new never),
            length-append (lines_read old)
                (line ∷ []),
          ))
      | inl begun ↦
          let header = header_first new.stage new.contents begun in
          elim (cases_lt 0 (stage_rank old.stage)) [
            | inl late ↦
                let first = header_first old.stage old.contents late in
                let version : new.contents.version ≡ old.contents.version = header_version _ _ _ _
                (sym header.1 ∙ e ∙ ap (λ ls. ls ++ line ∷ []) first.1) in
                (ap (λ v. fields_of v line) version, ap (λ v. text_of_lines v (lines_read old)) version)
            | inr early ↦
                let none = no_lines_at_header old.stage old early in
                let is : lines.Header new.contents.version ≡ line = header_line _ _ _
                (sym header.1 ∙ e ∙ ap (λ ls. ls ++ line ∷ []) none) in (
                  subst (λ l. fields_of new.contents.version l ≡ fields_of old.contents.version l) is
                      (header_fields new.contents.version old.contents.version new.contents.version),
                  ap (text_of_lines new.contents.version) none ∙ no_text new.contents.version old.contents.version
                      ∙ ap (text_of_lines old.contents.version) (sym none),
                )
          ]
    ]
  where
    header_version : (v w : Version) (xs ys : List Line) → lines.Header v ∷ xs ≡ lines.Header w ∷ ys → v ≡ w
    header_version v w xs ys e = cc

    header_line : (v : Version) (xs : List Line) (line : Line) → lines.Header v ∷ xs ≡ line ∷ [] → lines.Header v ≡ line
    header_line v xs line e = cc

    no_text : (v w : Version) → text_of_lines v [] ≡ text_of_lines w []
    no_text v w = sym (append-nil (text_of_lines v [])) ∙ text_none v [] ∙ sym (text_none w [])
        ∙ append-nil (text_of_lines w [])

-- one more line was read
pub stands_next : (bytes rest text after : List ℕ) (old new : ReaderView) (line : Line) → Stands bytes old rest →
    HasLine rest text after →
    fields_in text ≡ fields_of old.contents.version line → lines_read new ≡ lines_read old ++ line ∷ [] → IsProgress new →
    Stands bytes new after
stands_next bytes rest text after old new line stands next same e form =
    let v = new.contents.version in
    let texts = same_texts old new line e in
    record {
      text =
          stands.text ∙ ap (λ more. text_of_lines old.contents.version (lines_read old) ++ more) next.text
          ∙ ap (λ front. front ++ (text ++ 10 ∷ after)) (sym texts.1)
          ∙ sym (text_push v (lines_read old) line text after (same ∙ sym texts.0))
          ∙ ap (λ ls. text_of_lines v ls ++ after) (sym e);
      form = form;
    }

-- the lines that were read are in form
pub read_in_form : (p : ReaderView) → IsProgress p → AllByRecursion (IsLine p.contents.version) (lines_read p)
read_in_form p h =
    let whole = completes p (ordered p h) in
    let all = subst (AllByRecursion (IsLine whole.0.version)) whole.1.lines (lines_in_form whole.0 whole.1.certificate) in
    subst (λ v. AllByRecursion (IsLine v) (lines_read p)) whole.1.version
    (all_front (IsLine whole.0.version) (lines_read p) whole.1.rest all)

-- the first of these lines are those before, and the text of the others begins the rest
pub record Continues (v : Version) (ls before : List Line) (rest tail : List ℕ) : Type 0 where
  pub others : List Line
  pub lines : ls ≡ before ++ others
  pub text : rest ≡ text_of_lines v others ++ tail

-- two equal texts of one version, each of lines in form and a rest
agree_on : LinesAreTold → (v : Version) (ls before : List Line) (tail rest : List ℕ) → AllByRecursion (IsLine v) ls →
    AllByRecursion (IsLine v) before → length before ≤ length ls →
    text_of_lines v ls ++ tail ≡ text_of_lines v before ++ rest → Continues v ls before rest tail
agree_on told v ls before tail rest forms forms_before count e =
    let found = lines_begin told v ls before (cut tail) (cut rest) forms forms_before count
    (sym (cut_text told v ls tail forms) ∙ ap cut e ∙ cut_text told v before rest forms_before) in
    record {
      others = found.0;
      lines = found.1;
      text = same_rest v ls before found.0 tail rest found.1 e;
    }
  where
    same_rest : (v : Version) (ls before others : List Line) (tail rest : List ℕ) → ls ≡ before ++ others →
        text_of_lines v ls ++ tail ≡ text_of_lines v before ++ rest →
        rest ≡ text_of_lines v others ++ tail
    same_rest v ls before others tail rest same e = append_cancel_left (text_of_lines v before) rest
        (text_of_lines v others ++ tail)
        (sym e ∙ ap (λ front. text_of_lines v front ++ tail) same
        ∙ ap (λ front. front ++ tail) (text_append v before others)
        ∙ append_assoc (text_of_lines v before) (text_of_lines v others) tail)

-- if the bytes are a certificate's text, its lines are those that were read and others
pub reads_on : LinesAreTold →
    (bytes : List ℕ) (p : ReaderView) (rest : List ℕ) (c : CertificateView) (ls more : List Line) (tail : List ℕ) →
    Stands bytes p rest → ls ≡ lines.Header c.version ∷ more →
    AllByRecursion (IsLine c.version) ls → bytes ≡ text_of_lines c.version ls ++ tail → length (lines_read p) ≤ length ls →
    Continues c.version ls (lines_read p) rest tail
reads_on told bytes p rest c ls more tail stands is_first forms begins count =
    elim (cases_lt 0 (stage_rank p.stage)) [
      | inr early ↦
          let none = no_lines_at_header p.stage p early in
          record {
            others = ls;
            lines = ap (λ front. front ++ ls) (sym none);
            text = sym (text_none p.contents.version rest)
                ∙ ap (λ front. text_of_lines p.contents.version front ++ rest) (sym none) ∙ sym stands.text ∙ begins;
          }
      | inl late ↦
          let header = header_first p.stage p.contents late in
          let forms_read = read_in_form p stands.form in
          let Forms : List Line → Type 0 = AllByRecursion (IsLine p.contents.version) in
          let version : c.version ≡ p.contents.version =
          versions_agree told c.version p.contents.version more header.0 tail rest
          (subst (AllByRecursion (IsLine c.version)) is_first forms).1 (subst Forms header.1 forms_read).1
          (ap (λ front. text_of_lines c.version front ++ tail) (sym is_first) ∙ sym begins ∙ stands.text
          ∙ ap (λ front. text_of_lines p.contents.version front ++ rest) header.1) in
          subst (λ v. Continues v ls (lines_read p) rest tail) (sym version)
          (agree_on told p.contents.version ls (lines_read p) tail rest
          (subst (λ v. AllByRecursion (IsLine v) ls) version forms) forms_read count
          (sym (subst (λ v. bytes ≡ text_of_lines v ls ++ tail) version begins) ∙ stands.text))
    ]

-- the next line of a certificate whose first lines begin the bytes: those that were read, and this one
pub record HasNext (p : ReaderView) (c : CertificateView) (rest : List ℕ) : Type 0 where
  pub next : Line
  pub is_next : IsNext p c next
  pub goes : take (suc (length (lines_read p))) (lines_of c) ≡ lines_read p ++ next ∷ []
  pub tail : List ℕ
  pub text : rest ≡ line_text c.version next ++ 10 ∷ tail

one_more : (before others ls : List Line) → ls ≡ before ++ others → length ls ≡ suc (length before) →
    (line : Line) × (others ≡ line ∷ [])
one_more before [] ls e count = absurd (omega (arith, ap length e, length-append before []))
one_more before (line ∷ []) ls e count = (line, refl)
one_more before (line ∷ next ∷ others) ls e count = absurd
    (omega (arith, ap length e, length-append before (line ∷ next ∷ others)))

pub next_line : LinesAreTold → (bytes : List ℕ) (p : ReaderView) (rest : List ℕ) (Form : CertificateView → Type 0) →
    ((c : CertificateView) → Form c → IsCertificate c) → Stands bytes p rest →
    (begins : BeginsWith Form (suc (length (lines_read p))) bytes) → HasNext p begins.certificate rest
next_line told bytes p rest Form are stands begins =
    let n = suc (length (lines_read p)) in
    let c = begins.certificate in
    let form = are c begins.form in
    let front = take n (lines_of c) in
    let count : length front ≡ n = length-take-le n (lines_of c) begins.within in
    let forms = all_front (IsLine c.version) front (drop n (lines_of c))
    (subst (AllByRecursion (IsLine c.version)) (sym (take-append-drop n (lines_of c))) (lines_in_form c form)) in
    let found = reads_on told bytes p rest c front _ begins.rest stands refl forms begins.begins (omega (arith, count)) in
    let one = one_more (lines_read p) found.others front found.lines count in
    let goes = found.lines ∙ ap (λ others. lines_read p ++ others) one.1 in
    record {
      next = one.0;
      is_next = goes_on p c one.0 stands.form form goes;
      goes = goes;
      tail = begins.rest;
      text = found.text ∙ ap (λ others. text_of_lines c.version others ++ begins.rest) one.1
          ∙ text_first c.version one.0 [] begins.rest
          ∙ ap (λ more. line_text c.version one.0 ++ 10 ∷ more) (text_none c.version begins.rest);
    }
