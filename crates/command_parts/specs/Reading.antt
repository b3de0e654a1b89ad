-- What is read of a file.
use Rattle.std.specs.Prelude.{ℕ, ◌≤◌, ◌≡◌, List, length, take, Option, IfSome}
use Rattle.texts.specs.Device.{DeviceState, Gives}
use Rattle.certificate.specs.Pieces.{OfBytes}

-- one byte more than a ROM may have; of a longer file no more is read
abbrev pub ROM_READ_LEN : ℕ
ROM_READ_LEN = 16385

-- a source gave at most `most` bytes, without a failure
abbrev pub GivesUpTo : ℕ → DeviceState → DeviceState → Type 0
GivesUpTo most old new = (given : List ℕ) × (length given ≤ most) × Gives old given new

-- the first bytes of a file, at most `most`
pub record FirstBytes (most : ℕ) (file : Option (List ℕ)) (bytes : List ℕ) : Type 0 where
  pub within : length bytes ≤ most
  pub first : IfSome file (λ all. bytes ≡ take most all)

-- the property holds of the bytes of two files, if their sources' bytes are known, else of some bytes
abbrev pub OfFiles : Option (List ℕ) → Option (List ℕ) → (List ℕ → List ℕ → Type 0) → Type 0
OfFiles rom text Holds = OfBytes rom (λ bytes. OfBytes text (λ lines. Holds bytes lines))
