-- What is kept of a row's flag parts while they are read.
use Rattle.std.specs.Prelude.{◌≡◌, List, Option, Some, None}
use Rattle.flag_letters.specs.declared.part.FlagPart.{FlagPart}
use Rattle.cert_fields.specs.declared.counted.Counted.{Counted}
use Rattle.cert_fields.specs.declared.counted.Counted.TheVariants.{Fits, TooMany}
use Rattle.cert_flags.specs.Parts.{AreFewParts, IsShortPart}

-- the flag parts, if they are within the limits; otherwise nothing
abbrev pub KeepsFewParts : List FlagPart → Option (List FlagPart) → Type 0
KeepsFewParts done (Some parts) = AreFewParts done × (parts ≡ done)
KeepsFewParts done None = AreFewParts done → ⊥

-- a flag part as it was read: itself if it is within the limits, else too many
abbrev pub IsPartCountedAs : FlagPart → Counted FlagPart → Type 0
IsPartCountedAs part (Fits read) = IsShortPart part × (read ≡ part)
IsPartCountedAs part TooMany = IsShortPart part → ⊥
