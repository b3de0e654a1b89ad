-- What is printed if no certificate was made (docs/PROGRAM.md).
use Rattle.std.specs.Prelude.{ℕ, ◌≡◌, ◌⊎◌, List, codes}
use Rattle.texts.specs.Device.{DeviceState}
use Rattle.command_verdicts.specs.Verdict.{Refused, refused_text}
use Rattle.command_verdicts.specs.WriterRefusals.{recursion_text, unbounded_text}

-- the line of a refusal by the rules
pub record PrintsReason (printed : List ℕ) : Type 0 where
  pub refused : Refused
  pub printed_is : printed ≡ refused_text refused

-- the line of procedures that call one another in a cycle
pub record PrintsRecursion (printed : List ℕ) : Type 0 where
  pub entries : List ℕ
  pub printed_is : printed ≡ recursion_text entries

-- the line of a cycle of rows that no counter bounds
pub record PrintsUnbounded (printed : List ℕ) : Type 0 where
  pub address : ℕ
  pub printed_is : printed ≡ unbounded_text address

-- what is printed if no certificate was made
abbrev pub PrintsUnmade : List ℕ → Type 0
PrintsUnmade printed = PrintsReason printed ⊎ (PrintsRecursion printed ⊎ (PrintsUnbounded printed ⊎ (printed ≡ codes "too large\n")))

-- that line was written: the sink took it whole (`Takes`), or it failed inside it (`FailsAmid`)
abbrev pub WritesUnmade : (DeviceState → List ℕ → DeviceState → Type 0) → DeviceState → DeviceState → Type 0
WritesUnmade Writes old new = (printed : List ℕ) × Writes old printed new × PrintsUnmade printed
