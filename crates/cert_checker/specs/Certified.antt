-- Trusted: an accepted ROM. This file also passes on the definitions of lower crates that higher ones need.
use Rattle.std.specs.Prelude.{ℕ, List}
use Rattle.board_step.specs.Hardware.{Hardware}
use Rattle.board_step.specs.Profile.{ProfileView}
use Rattle.cert_form.specs.Contents.{CertificateView}
pub use Rattle.check_laws.specs.Board.{board_of}
pub use Rattle.cert_form.specs.Contents.{map_of_board}
pub use Rattle.check_laws.specs.Acceptance.{Accepts, IsRefused}
pub use Rattle.check_laws.specs.Profile.{certified_profile, has_row, nmi_time}

-- a ROM and the certificate that was accepted for it
pub record AcceptedView : Type 0 where
  pub rom : List ℕ
  pub certificate : CertificateView

-- the ROM with the address map that its certificate names
abbrev pub hardware_on : AcceptedView → Hardware
hardware_on c = board_of c.rom c.certificate

-- the profile that the ROM's runs are tested against
abbrev pub profile_on : AcceptedView → ProfileView
profile_on c = certified_profile c.rom c.certificate
