-- The parts of a certificate, and their first fault, by lines.
use Rattle.std.specs.Prelude.{ℕ, ◌-◌, ◌≤◌, ◌≡◌, List, ◌∷◌, ◌++◌, length, take, Result, Ok, Err}
use Rattle.cert_lines.specs.declared.line.Line.{Line}
use Rattle.cert_form.specs.Contents.{CertificateView}
use Rattle.cert_form.specs.Form.{IsCertificate, IsInForm}
use Rattle.cert_form.specs.Reader.{IsProgress, ReaderView, TakesLine, lines_read}
use Rattle.cert_form.specs.Text.{lines_of}
use Rattle.cert_form.specs.declared.fault.CertFault.{CertFault}

-- the first n lines of these parts are those of a certificate of this form
pub record BeginsAs (Form : CertificateView → Type 0) (n : ℕ) (parts : CertificateView) : Type 0 where
  pub certificate : CertificateView
  pub form : Form certificate
  pub within : n ≤ length (lines_of parts)
  pub begins : take n (lines_of certificate) ≡ take n (lines_of parts)

-- line n, counted from 1, is the first bad one: the lines before it begin a certificate in form, and with it they begin
-- none, even if counts above their limits are allowed
pub record IsFirstBadPart (n : ℕ) (parts : CertificateView) : Type 0 where
  pub before : BeginsAs IsInForm (n - 1) parts
  pub within : n ≤ length (lines_of parts)
  pub bad : BeginsAs IsCertificate n parts → ⊥

-- the first line with which the lines begin no certificate in form is bad only because a count is above its limit
pub record HasTooManyParts (parts : CertificateView) : Type 0 where
  pub number : ℕ
  pub before : BeginsAs IsInForm (number - 1) parts
  pub form : BeginsAs IsCertificate number parts
  pub many : BeginsAs IsInForm number parts → ⊥

-- the first of these lines were read, and the next one was refused
pub record StopsAt (old : ReaderView) (lines : List Line) (fault : CertFault) : Type 0 where
  pub before : List Line
  pub line : Line
  pub after : List Line
  pub parts : lines ≡ before ++ line ∷ after
  pub at : ReaderView
  pub read : lines_read at ≡ lines_read old ++ before
  pub form : IsProgress at
  pub refused : TakesLine {T = Unit {0}} at line (Err fault) at

-- all of these lines were read, or those before one that was refused
abbrev pub TakesLines : {T : Type 0} → ReaderView → List Line → Result T CertFault → ReaderView → Type 0
TakesLines old lines (Ok _) new = (lines_read new ≡ lines_read old ++ lines) × IsProgress new
TakesLines old lines (Err fault) new = StopsAt old lines fault
