-- Trusted: what the steps of a board are tested against.
use Rattle.std.specs.Prelude.{ℕ, Bool}
use Rattle.address_map.specs.declared.region.Region.{Region}
use Rattle.board_step.specs.Hardware.{Hardware}

-- the ROM with its map, the addresses where instructions may start, and the stack region
pub record ProfileView : Type 0 where
  pub hardware : Hardware
  pub starts : ℕ → Bool
  pub region : Region

abbrev pub profile_of : Hardware → (ℕ → Bool) → Region → ProfileView
profile_of hardware starts region = record { hardware = hardware; starts = starts; region = region }
