-- What `galcert check --infer` writes, and when (docs/PROGRAM.md).
use Rattle.std.specs.Prelude.{ℕ, List, Option}
use Rattle.cert_form.specs.Contents.{CertificateView}
use Rattle.cert_form.specs.Text.{text_of}
use Rattle.certificate.specs.Pieces.{OfBytes}
use Rattle.texts.specs.Device.{DeviceState, Takes}
use Rattle.command_parts.specs.Judging.{IsAccepted}
use Rattle.command_verdicts.specs.Verdict.{accepted_text}

-- a certificate is accepted for the ROM in the file, and the property holds of it
abbrev pub OnInferred : Option (List ℕ) → (CertificateView → Type 0) → Type 0
OnInferred rom Holds = OfBytes rom (λ bytes. (certificate : CertificateView) × IsAccepted bytes (text_of certificate) certificate × Holds certificate)

-- the text of such a certificate was kept whole in a sink, and its table was written to another one
abbrev pub InfersAndTells : (DeviceState → List ℕ → DeviceState → Type 0) → Option (List ℕ) → DeviceState → DeviceState → DeviceState → DeviceState → Type 0
InfersAndTells Writes rom keep_old keep_new old new =
    OnInferred rom (λ certificate. Takes keep_old (text_of certificate) keep_new × Writes old (accepted_text certificate) new)

-- some certificate is accepted for the ROM
abbrev pub IsAcceptable : Option (List ℕ) → Type 0
IsAcceptable rom = OnInferred rom (λ _. Unit {0})
