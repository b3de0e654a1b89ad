-- When `galcert explain` says that a ROM is accepted (docs/PROGRAM.md).
use Rattle.std.specs.Prelude.{ℕ, List, Option}
use Rattle.cert_form.specs.Contents.{CertificateView}
use Rattle.cert_form.specs.Text.{text_of}
use Rattle.certificate.specs.Pieces.{OfBytes}
use Rattle.command_parts.specs.Judging.{IsAccepted}

-- some certificate is accepted for the ROM
abbrev pub HasAcceptedCertificate : Option (List ℕ) → Type 0
HasAcceptedCertificate rom = OfBytes rom (λ bytes. (certificate : CertificateView) × IsAccepted bytes (text_of certificate) certificate)
