-- What `galcert run` prints, and when (docs/PROGRAM.md).
use Rattle.std.specs.Prelude.{ℕ, List, ◌++◌, Option, codes}
use Rattle.board_step.specs.Hardware.{Hardware}
use Rattle.runner.specs.Certified.{board_of}
use Rattle.texts.specs.Device.{DeviceState, GivesBytes}
use Rattle.runner.specs.Output.{summary_text}
use Rattle.certificate.specs.Pieces.{OfBytes}
use Rattle.runner.specs.Playing.{BeginsEach, IsBadLine, Played}
use Rattle.runner.specs.declared.machine.Summary.{Summary}
use Rattle.command_parts.specs.Judging.{OnAccepted}
use Rattle.command_verdicts.specs.Verdict.{bad_line_text}

-- at most `steps` events of an input were played, and the lines of the run and its summary were written: the sink took
-- them whole (`Takes`), or it failed inside them (`FailsAmid`)
abbrev pub PlaysTo : (DeviceState → List ℕ → DeviceState → Type 0) → Hardware → ℕ → Option (List ℕ) → DeviceState → DeviceState → Type 0
PlaysTo Writes hardware steps input old new =
    (summary : Summary) × (told : List ℕ) × OfBytes input (Played hardware steps summary told) × Writes old (told ++ summary_text summary) new

-- an input has a bad line that is needed for `steps` events; the lines of the events before it were written, and then
-- the line with its number
abbrev pub PlaysToBadLine : (DeviceState → List ℕ → DeviceState → Type 0) → Hardware → ℕ → Option (List ℕ) → DeviceState → DeviceState → Type 0
PlaysToBadLine Writes hardware steps input old new =
    (line : ℕ) × (told : List ℕ) × OfBytes input (IsBadLine hardware steps line told) × Writes old (told ++ bad_line_text (codes "bad input") line) new

-- an input gave some bytes, and this text is a prefix of the text of each input that begins with them
pub record GavePart (hardware : Hardware) (steps : ℕ) (told : List ℕ) (old new : DeviceState) : Type 0 where
  pub read : List ℕ
  pub given : GivesBytes old.bytes read new.bytes
  pub begins : BeginsEach hardware steps read told

-- a part of an input was played, and such a prefix was written
abbrev pub PlaysPart : (DeviceState → List ℕ → DeviceState → Type 0) → Hardware → ℕ → DeviceState → DeviceState → DeviceState → DeviceState → Type 0
PlaysPart Writes hardware steps input_old input_new old new = (told : List ℕ) × GavePart hardware steps told input_old input_new × Writes old told new

-- the files hold a ROM and a certificate that is accepted for it, and the input was played on that ROM
abbrev pub TellsRun : (DeviceState → List ℕ → DeviceState → Type 0) → ℕ → Option (List ℕ) → Option (List ℕ) → Option (List ℕ) → DeviceState → DeviceState → Type 0
TellsRun Writes steps rom text input old new = OnAccepted rom text (λ bytes certificate. PlaysTo Writes (board_of bytes certificate) steps input old new)

-- the same, but the input has a bad line
abbrev pub TellsBadInput : (DeviceState → List ℕ → DeviceState → Type 0) → ℕ → Option (List ℕ) → Option (List ℕ) → Option (List ℕ) → DeviceState → DeviceState → Type 0
TellsBadInput Writes steps rom text input old new = OnAccepted rom text (λ bytes certificate. PlaysToBadLine Writes (board_of bytes certificate) steps input old new)

-- the same, but only a part of the input was played
abbrev pub TellsPart : (DeviceState → List ℕ → DeviceState → Type 0) → ℕ → Option (List ℕ) → Option (List ℕ) → DeviceState → DeviceState → DeviceState → DeviceState → Type 0
TellsPart Writes steps rom text input_old input_new old new =
    OnAccepted rom text (λ bytes certificate. PlaysPart Writes (board_of bytes certificate) steps input_old input_new old new)
