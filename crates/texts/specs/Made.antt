-- Lines that are assembled before they are written.
use Rattle.std.specs.Prelude.{ℕ}

-- the capacity in bytes
abbrev pub MADE_LEN : ℕ
MADE_LEN = 4096
