-- What is kept of a row's facts while they are read.
use Rattle.std.specs.Prelude.{◌≡◌, List, Option, Some, None}
use Rattle.loop_bounds.specs.Linear.{LinearView}
use Rattle.cert_fields.specs.Facts.{AreFewFacts}
use Rattle.cert_fields.specs.Linear.{IsShort}
use Rattle.cert_fields.specs.declared.counted.Counted.{Counted}
use Rattle.cert_fields.specs.declared.counted.Counted.TheVariants.{Fits, TooMany}

-- the facts, if they are within the limits; otherwise nothing
abbrev pub KeepsFew : List LinearView → Option (List LinearView) → Type 0
KeepsFew done (Some facts) = AreFewFacts done × (facts ≡ done)
KeepsFew done None = AreFewFacts done → ⊥

-- a linear as it was read: itself if it is within the limits, else too many
abbrev pub IsCountedAs : LinearView → Counted LinearView → Type 0
IsCountedAs linear (Fits read) = IsShort linear × (read ≡ linear)
IsCountedAs linear TooMany = IsShort linear → ⊥
