-- From what was accepted to what the ROM's file holds.
use Rattle.std.proofs.Common.{◌≡◌, ℕ, List, Option, arith}
use Rattle.cert_form.specs.Contents.{CertificateView}
use Rattle.cert_form.specs.Text.{text_of}
use Rattle.command_parts.proofs.FileLemmas.{of_whole}
use Rattle.command_parts.specs.Judging.{IsAccepted}
use Rattle.command_parts.specs.Reading.{FirstBytes, ROM_READ_LEN}
use Rattle.explain_commands.specs.Explaining.{HasAcceptedCertificate}

-- a ROM is acceptable if a certificate is accepted for what was read of it
pub is_acceptable : (rom : Option (List ℕ)) (bytes : List ℕ) (certificate : CertificateView) → FirstBytes ROM_READ_LEN rom bytes → IsAccepted bytes (text_of certificate) certificate → HasAcceptedCertificate rom
is_acceptable rom bytes certificate first accepted =
    of_whole rom bytes (λ b. (c : CertificateView) × IsAccepted b (text_of c) c) first (omega (arith, accepted.accepts.fits_rom.fits)) (certificate, accepted)
