-- Lines of an input that a source gave without a failure, and what ends a watched run.
use Rattle.std.proofs.Common.{◌≡◌, ◌⊎◌, ℕ, List, inl, inr, refl}
use Rattle.command_parts.specs.declared.stop.Stop.{Stop}
use Rattle.command_parts.specs.declared.stop.Stop.TheVariants.{Device, OutOfMemory, Refused}
use Rattle.texts.specs.Device.{CountsNoFailure, DeviceState}
use Rattle.texts.specs.Incoming.{GivesLine}
use Rattle.texts.specs.declared.incoming.LineEnd.{LineEnd}
use Rattle.texts.specs.declared.incoming.LineEnd.TheVariants.{Bad, Feed, Nothing}

-- the source did not fail while it gave a line, or its end
pub line_quiet : (longest : ℕ) (old : DeviceState) (text : List ℕ) (end : LineEnd) (new : DeviceState) → GivesLine longest old text end new → CountsNoFailure old new
line_quiet longest old text Feed new line = line.given.quiet
line_quiet longest old text Bad new line = elim line [
  | inl long ↦ long.given.quiet
  | inr unended ↦ unended.given.quiet
]
line_quiet longest old text Nothing new line = line.0.quiet

-- the reasons for an early end
pub stop_cases : (stop : Stop) → (stop ≡ Refused) ⊎ ((stop ≡ Device) ⊎ (stop ≡ OutOfMemory))
stop_cases Refused = inl refl
stop_cases Device = inr (inl refl)
stop_cases OutOfMemory = inr (inr refl)
