-- What `galcert migrate` writes, and when (docs/PROGRAM.md).
use Rattle.std.specs.Prelude.{ℕ, List, Option}
use Rattle.cert_form.specs.Contents.{CertificateView}
use Rattle.cert_lines.specs.declared.version.Version.{Version}
use Rattle.cert_form.specs.Migrated.{migrated_to}
use Rattle.cert_form.specs.Text.{text_of}
use Rattle.certificate.specs.Pieces.{OfBytes}
use Rattle.texts.specs.Device.{DeviceState}
use Rattle.command_parts.specs.Judging.{IsCertificateText}

-- the file holds a certificate, and the text of that certificate migrated to a version was written: the sink took it
-- whole (`Takes`), or it failed inside it (`FailsAmid`)
abbrev pub TellsMigrated : Version → (DeviceState → List ℕ → DeviceState → Type 0) → Option (List ℕ) → DeviceState → DeviceState → Type 0
TellsMigrated version Writes text old new = OfBytes text (λ lines. (certificate : CertificateView) × IsCertificateText certificate lines × Writes old (text_of (migrated_to version certificate)) new)
