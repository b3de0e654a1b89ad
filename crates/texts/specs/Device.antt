-- What a device gives or takes, and when it fails.
use Rattle.std.specs.Prelude.{ℕ, ◌<◌, ◌≡◌, ◌^◌, ◌-◌, ◌⊎◌, List, [], ◌++◌, Option, Some, None, IfSome, Result, Ok, Err}

-- The state of a device: bytes, if it has them in its contract, and the number of failures. For a source they are the
-- bytes still to come, for a sink those written so far.
pub record DeviceState : Type 0 where
  pub bytes : Option (List ℕ)
  pub failures : ℕ

-- the count of failures has grown, or is at its greatest value
abbrev pub HasGrown : ℕ → ℕ → Type 0
HasGrown old new = (old < new) ⊎ (new ≡ 2 ^ 64 - 1)

-- the device failed
abbrev pub HasFailed : DeviceState → DeviceState → Type 0
HasFailed old new = HasGrown old.failures new.failures

-- the device did not fail
abbrev pub CountsNoFailure : DeviceState → DeviceState → Type 0
CountsNoFailure old new = new.failures ≡ old.failures

-- what a source has left after these bytes were read
abbrev pub GivesBytes : Option (List ℕ) → List ℕ → Option (List ℕ) → Type 0
GivesBytes (Some old) bytes new = (left : List ℕ) × (new ≡ Some left) × (old ≡ bytes ++ left)
GivesBytes None bytes new = Unit {0}

-- what a sink has taken after these bytes were written
abbrev pub TakesBytes : Option (List ℕ) → List ℕ → Option (List ℕ) → Type 0
TakesBytes (Some old) bytes new = new ≡ Some (old ++ bytes)
TakesBytes None bytes new = Unit {0}

-- what a sink has taken after it was given a beginning of these bytes
abbrev pub TakesPart : Option (List ℕ) → List ℕ → Option (List ℕ) → Type 0
TakesPart (Some old) bytes new = (part : List ℕ) × (rest : List ℕ) × (new ≡ Some (old ++ part)) × (bytes ≡ part ++ rest)
TakesPart None bytes new = Unit {0}

-- a source gave these bytes and did not fail
pub record Gives (old : DeviceState) (bytes : List ℕ) (new : DeviceState) : Type 0 where
  pub given : GivesBytes old.bytes bytes new.bytes
  pub quiet : CountsNoFailure old new

-- a source has no byte left
abbrev pub IsAtEnd : DeviceState → Type 0
IsAtEnd state = IfSome state.bytes (λ bytes. bytes ≡ [])

-- a sink took these bytes and did not fail
pub record Takes (old : DeviceState) (bytes : List ℕ) (new : DeviceState) : Type 0 where
  pub taken : TakesBytes old.bytes bytes new.bytes
  pub quiet : CountsNoFailure old new

-- a sink failed and took a beginning of these bytes
pub record FailsAmid (old : DeviceState) (bytes : List ℕ) (new : DeviceState) : Type 0 where
  pub part : TakesPart old.bytes bytes new.bytes
  pub failed : HasFailed old new

-- bytes were written to a sink: it took them all, or failed and took a beginning
abbrev pub Puts : {T E : Type 0} → DeviceState → List ℕ → Result T E → DeviceState → Type 0
Puts old bytes (Ok _) new = Takes old bytes new
Puts old bytes (Err _) new = FailsAmid old bytes new
