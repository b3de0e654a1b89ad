-- Helper: bytes that spell no documented instruction.
use Rattle.std.specs.Prelude.{◌≢◌, ℕ, ◌+◌, List, ◌++◌}
use Rattle.z80_decode.specs.declared.instr.Instr.{Instr}
use Rattle.z80_decode.specs.Spelling.{spelling, IsProperBeginning}

-- the bytes begin with no spelling, and are no proper beginning of one
pub record IsUndocumented (bytes : List ℕ) : Type 0 where
  pub no_spelling : (i : Instr) (rest : List ℕ) → bytes ≢ spelling i ++ rest
  pub no_beginning : ¬ IsProperBeginning bytes
