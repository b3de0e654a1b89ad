-- Helper: lines that are gathered before they are written.
use Rattle.std.specs.Prelude.{ℕ, ◌≡◌, List, ◌++◌, Result, Ok, Err}
use Rattle.texts.specs.Device.{DeviceState, FailsAmid, Takes}

-- the sink took a text up to `left`, which is still gathered
pub record Gathered (old : DeviceState) (text : List ℕ) (new : DeviceState) (left : List ℕ) : Type 0 where
  pub gone : List ℕ
  pub taken : Takes old gone new
  pub all : text ≡ gone ++ left

-- bytes were gathered after others, or the sink failed inside all of them
abbrev pub Gathers : {T E : Type 0} → DeviceState → List ℕ → List ℕ → Result T E → DeviceState → List ℕ → Type 0
Gathers old before bytes (Ok _) new after = Gathered old (before ++ bytes) new after
Gathers old before bytes (Err _) new after = FailsAmid old (before ++ bytes) new
