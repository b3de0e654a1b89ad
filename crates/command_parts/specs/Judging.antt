-- When a certificate's text is accepted for a ROM, and what is printed (docs/PROGRAM.md).
use Rattle.std.specs.Prelude.{ℕ, ◌≡◌, ◌⊎◌, List, Option, take, codes}
use Rattle.board_step.specs.Safe.{Safe}
use Rattle.runner.specs.Certified.{Accepts, IsRefused, certified_profile, nmi_time}
use Rattle.cert_form.specs.Contents.{CertificateView}
use Rattle.cert_form.specs.Form.{IsInForm}
use Rattle.cert_form.specs.Text.{HasTooMany, IsFirstBadLine, text_of}
use Rattle.certificate.specs.Pieces.{OfBytes}
use Rattle.texts.specs.Device.{DeviceState}
use Rattle.command_parts.specs.Reading.{OfFiles, ROM_READ_LEN}
use Rattle.command_verdicts.specs.Verdict.{Refused, accepted_text, bad_line_text, refused_text}

-- the text of a certificate in form
pub record IsCertificateText (certificate : CertificateView) (text : List ℕ) : Type 0 where
  pub in_form : IsInForm certificate
  pub text_is : text ≡ text_of certificate

-- the text of a certificate that is accepted for a ROM; every run of the board on that ROM is safe
pub record IsAccepted (rom text : List ℕ) (certificate : CertificateView) : Type 0 where
  pub in_form : IsInForm certificate
  pub text_is : text ≡ text_of certificate
  pub accepts : Accepts rom certificate
  pub safe : Safe (certified_profile rom certificate) (nmi_time certificate)

-- the line for the first reason that applies to the certificate with this text
pub record PrintsRefused (rom text printed : List ℕ) : Type 0 where
  pub certificate : CertificateView
  pub in_form : IsInForm certificate
  pub text_is : text ≡ text_of certificate
  pub refused : Refused
  pub is_refused : IsRefused rom certificate refused.row refused.address refused.reason
  pub printed_is : printed ≡ refused_text refused

-- the line for the first line with which the text begins no certificate
pub record PrintsBadLine (text printed : List ℕ) : Type 0 where
  pub line : ℕ
  pub bad : IsFirstBadLine line text
  pub printed_is : printed ≡ bad_line_text (codes "bad certificate") line

-- the line for a text that is out of form only because a count is above its limit
pub record PrintsLimit (text printed : List ℕ) : Type 0 where
  pub many : HasTooMany text
  pub printed_is : printed ≡ codes "bad certificate limit\n"

-- what is printed for a text that is no certificate
abbrev pub PrintsUnread : List ℕ → List ℕ → Type 0
PrintsUnread text printed = PrintsBadLine text printed ⊎ PrintsLimit text printed

-- what is printed if the text is no certificate that is accepted for the ROM
abbrev pub PrintsRefusal : List ℕ → List ℕ → List ℕ → Type 0
PrintsRefusal rom text printed = PrintsRefused rom text printed ⊎ PrintsUnread text printed

-- a source had a text that is no certificate, and the line that reports it was written: the sink took it whole
-- (`Takes`), or it failed inside it (`FailsAmid`)
abbrev pub WritesUnread : (DeviceState → List ℕ → DeviceState → Type 0) → Option (List ℕ) → DeviceState → DeviceState → Type 0
WritesUnread Writes text old new = OfBytes text (λ lines. (printed : List ℕ) × Writes old printed new × PrintsUnread lines printed)

-- the line for a refusal was written: the sink took it whole (`Takes`), or it failed inside it (`FailsAmid`)
abbrev pub WritesRefusal : (DeviceState → List ℕ → DeviceState → Type 0) → List ℕ → List ℕ → DeviceState → DeviceState → Type 0
WritesRefusal Writes rom text old new = (printed : List ℕ) × Writes old printed new × PrintsRefusal rom text printed

-- the same for a source, whose bytes may be unknown
abbrev pub WritesRefusalOf : (DeviceState → List ℕ → DeviceState → Type 0) → List ℕ → Option (List ℕ) → DeviceState → DeviceState → Type 0
WritesRefusalOf Writes rom text old new = OfBytes text (λ lines. WritesRefusal Writes rom lines old new)

-- the files hold a ROM and a certificate that is accepted for it, and the property holds of both
abbrev pub OnAccepted : Option (List ℕ) → Option (List ℕ) → (List ℕ → CertificateView → Type 0) → Type 0
OnAccepted rom text Holds = OfFiles rom text (λ bytes lines. (certificate : CertificateView) × IsAccepted bytes lines certificate × Holds bytes certificate)

-- the files hold a ROM and a certificate that is accepted for it
abbrev pub HoldAccepted : Option (List ℕ) → Option (List ℕ) → Type 0
HoldAccepted rom text = OnAccepted rom text (λ _ _. Unit {0})

-- the files hold such a pair, and the certificate's table was written
abbrev pub TellsAccepted : (DeviceState → List ℕ → DeviceState → Type 0) → Option (List ℕ) → Option (List ℕ) → DeviceState → DeviceState → Type 0
TellsAccepted Writes rom text old new = OnAccepted rom text (λ _ certificate. Writes old (accepted_text certificate) new)

-- the files hold no such pair, and the line that reports it was written
abbrev pub TellsRefusal : (DeviceState → List ℕ → DeviceState → Type 0) → Option (List ℕ) → Option (List ℕ) → DeviceState → DeviceState → Type 0
TellsRefusal Writes rom text old new = OfFiles rom text (λ bytes lines. WritesRefusal Writes (take ROM_READ_LEN bytes) lines old new)
