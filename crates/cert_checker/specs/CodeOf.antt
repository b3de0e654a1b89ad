-- Helper: the instructions of an accepted ROM.
use Rattle.std.specs.Prelude.{ℕ, ◌≡◌}
use Rattle.address_map.specs.Starts.{is_start}
use Rattle.code_map.specs.Code.{CodeMapView}
use Rattle.check_laws.specs.Profile.{has_row}
use Rattle.cert_checker.specs.Certified.{AcceptedView}

-- the instructions of the ROM; they start at the addresses of the certificate's rows
pub record IsCodeOf (c : AcceptedView) (code : CodeMapView) : Type 0 where
  pub rom : code.rom ≡ c.rom
  pub starts : (address : ℕ) → is_start code.starts address ≡ has_row c.certificate.rows address
