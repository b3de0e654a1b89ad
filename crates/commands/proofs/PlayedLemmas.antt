-- From what was played or migrated to what the files hold.
use Rattle.std.proofs.Common.{◌≡◌, ℕ, List, Option, subst}
use Rattle.board_step.specs.Hardware.{Hardware}
use Rattle.runner.specs.Certified.{board_of}
use Rattle.cert_form.specs.Contents.{CertificateView}
use Rattle.cert_lines.specs.declared.version.Version.{Version}
use Rattle.cert_form.specs.Migrated.{migrated_to}
use Rattle.cert_form.specs.Text.{text_of}
use Rattle.certificate.specs.Pieces.{OfBytes}
use Rattle.texts.specs.Device.{DeviceState}
use Rattle.command_parts.proofs.FileLemmas.{of_bytes, on_accepted}
use Rattle.command_parts.specs.Judging.{IsAccepted, IsCertificateText, OnAccepted}
use Rattle.command_parts.specs.Reading.{FirstBytes, ROM_READ_LEN}
use Rattle.commands.specs.Migrating.{TellsMigrated}
use Rattle.commands.specs.Running.{PlaysPart, PlaysTo, PlaysToBadLine, TellsBadInput, TellsPart, TellsRun}

-- what was played on an accepted ROM holds for the files
on_played : {X : Type 0} (rom text : Option (List ℕ)) (state : X → DeviceState) (PlaysFrom : Hardware → DeviceState → Type 0) (bytes own : List ℕ) (certificate : CertificateView) (before same : X) →
    FirstBytes ROM_READ_LEN rom bytes → OfBytes text (λ lines. IsAccepted bytes lines certificate) → own ≡ bytes → before ≡ same → PlaysFrom (board_of own certificate) (state before) →
    OnAccepted rom text (λ b c. PlaysFrom (board_of b c) (state same))
on_played {X} rom text state PlaysFrom bytes own certificate before same first accepted is kept plays =
    on_accepted rom text bytes certificate (λ b c. PlaysFrom (board_of b c) (state same)) first accepted
    (subst (λ (x : X). PlaysFrom (board_of bytes certificate) (state x)) kept (subst (λ (b : List ℕ). PlaysFrom (board_of b certificate) (state before)) is plays))

pub tells_run : {X : Type 0} (Writes : DeviceState → List ℕ → DeviceState → Type 0) (state : X → DeviceState) (steps : ℕ) (rom text input : Option (List ℕ)) (new : DeviceState) (bytes own : List ℕ) (certificate : CertificateView) (before same : X) →
    FirstBytes ROM_READ_LEN rom bytes → OfBytes text (λ lines. IsAccepted bytes lines certificate) → own ≡ bytes → before ≡ same → PlaysTo Writes (board_of own certificate) steps input (state before) new →
    TellsRun Writes steps rom text input (state same) new
tells_run Writes state steps rom text input new = on_played rom text state (λ hardware old. PlaysTo Writes hardware steps input old new)

pub tells_bad_input : {X : Type 0} (Writes : DeviceState → List ℕ → DeviceState → Type 0) (state : X → DeviceState) (steps : ℕ) (rom text input : Option (List ℕ)) (new : DeviceState) (bytes own : List ℕ) (certificate : CertificateView) (before same : X) →
    FirstBytes ROM_READ_LEN rom bytes → OfBytes text (λ lines. IsAccepted bytes lines certificate) → own ≡ bytes → before ≡ same → PlaysToBadLine Writes (board_of own certificate) steps input (state before) new →
    TellsBadInput Writes steps rom text input (state same) new
tells_bad_input Writes state steps rom text input new = on_played rom text state (λ hardware old. PlaysToBadLine Writes hardware steps input old new)

pub tells_part : {X : Type 0} (Writes : DeviceState → List ℕ → DeviceState → Type 0) (state : X → DeviceState) (steps : ℕ) (rom text : Option (List ℕ)) (input_old input_new new : DeviceState) (bytes own : List ℕ) (certificate : CertificateView) (before same : X) →
    FirstBytes ROM_READ_LEN rom bytes → OfBytes text (λ lines. IsAccepted bytes lines certificate) → own ≡ bytes → before ≡ same → PlaysPart Writes (board_of own certificate) steps input_old input_new (state before) new →
    TellsPart Writes steps rom text input_old input_new (state same) new
tells_part Writes state steps rom text input_old input_new new = on_played rom text state (λ hardware old. PlaysPart Writes hardware steps input_old input_new old new)

-- the text of the migrated certificate was written, from an unchanged sink
pub tells_migrated : {X : Type 0} (version : Version) (Writes : DeviceState → List ℕ → DeviceState → Type 0) (state : X → DeviceState) (text : Option (List ℕ)) (new : DeviceState) (read shown : CertificateView) (before same : X) →
    OfBytes text (IsCertificateText read) → shown ≡ migrated_to version read → before ≡ same → Writes (state before) (text_of shown) new → TellsMigrated version Writes text (state same) new
tells_migrated {X} version Writes state text new read shown before same is shows kept writes =
    of_bytes text (IsCertificateText read) _
    (λ lines here. (read, here, subst (λ (x : X). Writes (state x) (text_of (migrated_to version read)) new) kept (subst (λ (c : CertificateView). Writes (state before) (text_of c) new) shows writes))) is
