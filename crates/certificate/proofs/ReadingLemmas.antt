-- The answer to a text, and the reason for it at each place where reading ends.
use Rattle.std.proofs.Common.{◌≡◌, ◌≢◌, ◌<◌, ◌==◌, ℕ, suc, Bool, true, false, ◌∷◌, [], List, length, Result, Ok, Err, IfOk, IsOkUnless, refl, sym, ap, subst, ◌∙◌, tests}
use Rattle.std.specs.List.{slice_split}
use Rattle.std.proofs.lemmas.List.{nil_from_length}
use Rattle.cert_form.specs.Contents.{CertificateView}
use Rattle.cert_form.specs.Form.{IsInForm}
use Rattle.cert_form.specs.Text.{HasHead, HasTooMany, IsFirstBadLine, LINE_LIMIT, text_of}
use Rattle.cert_form.specs.Reader.{EndsReading, ReaderView, TakesText, lines_read}
use Rattle.cert_form.specs.declared.fault.CertFault.{CertFault}
use Rattle.cert_form.specs.declared.fault.CertFault.TheVariants as faults
use Rattle.cert_form.proofs.BadLines.{bad_line, long_line, missing_line}
use Rattle.cert_form.proofs.Heads.{has_head}
use Rattle.cert_form.proofs.Texts.{HasLine, HasLongLine, Stands}
use Rattle.cert_form.proofs.Told.{told}
use Rattle.cert_form.proofs.TooMany.{too_many}
use Rattle.cert_form.proofs.WholeTexts.{found_whole, only_ended, only_no_bad_line, only_no_long_line, only_not_too_many, text_of_injective}

-- no certificate in form has this text
abbrev pub IsNoText : List ℕ → Type 0
IsNoText bytes = (c : CertificateView) → IsInForm c → bytes ≡ text_of c → ⊥

-- the answer to a text: the certificate that has it, or why there is none; memory is refused only after the budget
abbrev pub IsAnswer : List ℕ → Result CertificateView CertFault → Type 0
IsAnswer bytes (Ok c) = IsInForm c × (bytes ≡ text_of c)
IsAnswer bytes (Err (faults.Line n)) = IsFirstBadLine n bytes × IsNoText bytes
IsAnswer bytes (Err faults.Limit) = HasTooMany bytes × IsNoText bytes
IsAnswer bytes (Err faults.NoMemory) = HasHead bytes

-- an answer finds a certificate in form that has the text
pub answer_found : (bytes : List ℕ) (r : Result CertificateView CertFault) → IsAnswer bytes r →
    IfOk r (λ c. IsInForm c × (bytes ≡ text_of c))
answer_found bytes (Ok c) is = is
answer_found bytes (Err fault) is = tt

-- it finds the certificate that has the text, where there is one
pub answer_only : (bytes : List ℕ) (r : Result CertificateView CertFault) → IsAnswer bytes r → (c : CertificateView) → IsInForm c →
    bytes ≡ text_of c → IsOkUnless r faults.NoMemory × IfOk r (λ read. read ≡ c)
answer_only bytes (Ok d) is c form text =
    (tt, text_of_injective told d c is.0.certificate form.certificate (sym is.1 ∙ text))
answer_only bytes (Err (faults.Line n)) is c form text = absurd (is.1 c form text)
answer_only bytes (Err faults.Limit) is c form text = absurd (is.1 c form text)
answer_only bytes (Err faults.NoMemory) is c form text = (refl, tt)

-- the fault has the number of the first bad line
pub answer_line : (bytes : List ℕ) (r : Result CertificateView CertFault) → IsAnswer bytes r → (n : ℕ) →
    r ≡ Err (faults.Line n) → IsFirstBadLine n bytes
answer_line bytes r is n e = (subst (IsAnswer bytes) e is).0

-- the fault is the first line that has or is one too many
pub answer_limit : (bytes : List ℕ) (r : Result CertificateView CertFault) → IsAnswer bytes r → r ≡ Err faults.Limit →
    HasTooMany bytes
answer_limit bytes r is e = (subst (IsAnswer bytes) e is).0

-- memory was refused for a list
pub answer_memory : (bytes : List ℕ) (r : Result CertificateView CertFault) → IsAnswer bytes r → r ≡ Err faults.NoMemory →
    HasHead bytes
answer_memory bytes r is e = subst (IsAnswer bytes) e is

-- what the test for an empty rest shows
pub bytes_left : (rest : List ℕ) (empty : Bool) → empty ≡ (length rest == 0) → empty ≡ false → rest ≢ []
bytes_left rest empty is not none = let no = is ∙ ap (λ xs. length xs == 0) none in cc

pub no_bytes_left : (rest : List ℕ) (empty : Bool) → empty ≡ (length rest == 0) → empty ≡ true → rest ≡ []
no_bytes_left rest empty is holds = nil_from_length rest (search (tests, sym is ∙ holds))

-- the next line was refused
pub refused : (T : Type 0) (bytes : List ℕ) (p new : ReaderView) (rest text after : List ℕ) (fault : CertFault) →
    Stands bytes p rest → HasLine rest text after → length text < LINE_LIMIT →
    TakesText {T = T} p text (Err fault) new → IsAnswer bytes (Err fault)
refused T bytes p new rest text after (faults.Line n) stands next short takes = (
  subst (λ m. IsFirstBadLine m bytes) (sym takes.0) (bad_line told bytes p rest text after stands next takes.1),
  only_no_bad_line told bytes p rest text after stands next takes.1,
)
refused T bytes p new rest text after faults.Limit stands next short takes = (
  too_many told bytes p rest text after takes.0 stands next short takes.1 takes.2 takes.3 takes.4,
  only_not_too_many told bytes p rest text after takes.0 stands next takes.1 takes.2 takes.4,
)
refused T bytes p new rest text after faults.NoMemory stands next short takes =
    has_head bytes p rest takes.0 stands takes.3 takes.6

-- the next line is too long
pub too_long : (bytes : List ℕ) (p : ReaderView) (rest : List ℕ) (fault : CertFault) → Stands bytes p rest →
    HasLongLine rest → fault ≡ faults.Line (suc (length (lines_read p))) → IsAnswer bytes (Err fault)
too_long bytes p rest fault stands long is = subst (λ f. IsAnswer bytes (Err f)) (sym is)
    (long_line told bytes p rest stands long, only_no_long_line told bytes p rest stands long)

-- the last line lacks its line feed
pub unended : (bytes : List ℕ) (p : ReaderView) (rest : List ℕ) (fault : CertFault) → Stands bytes p rest →
    slice_split (λ b. b == 10) rest ≡ rest ∷ [] → rest ≢ [] → fault ≡ faults.Line (suc (length (lines_read p))) →
    IsAnswer bytes (Err fault)
unended bytes p rest fault stands last some is = subst (λ f. IsAnswer bytes (Err f)) (sym is)
    (missing_line told bytes p rest stands last, λ c form text. some (only_ended told bytes p rest stands last c form text).1)

-- no line is left: all of them were read, or some are missing
pub ended : (bytes : List ℕ) (p : ReaderView) (rest : List ℕ) (r : Result CertificateView CertFault) → Stands bytes p rest → rest ≡ [] →
    EndsReading p r → IsAnswer bytes r
ended bytes p rest r stands none ends = ended_here r (subst (Stands bytes p) none stands) ends
  where
    ended_here : (r : Result CertificateView CertFault) → Stands bytes p [] → EndsReading p r → IsAnswer bytes r
    ended_here (Ok c) stands ends =
        subst (λ d. IsInForm d × (bytes ≡ text_of d)) (sym ends.1) (found_whole bytes p stands ends.0)
    ended_here (Err fault) stands ends = subst (λ f. IsAnswer bytes (Err f)) (sym ends.0) (
      missing_line told bytes p [] stands refl,
      λ c form text. ends.1 (only_ended told bytes p [] stands refl c form text).0,
    )
